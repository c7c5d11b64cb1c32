-- Costs of trees: a node costs what a function makes of the costs of its children, in any type whose order is a test.
--     CostFunction C     such a function, and the order
--     IsLawfulOn P C k   what is asked of it on the nodes of which P holds
--     IsLawful C k       the same on all nodes
--     tree_cost k t      the cost of a tree, from the bottom up
--     limited_size n     how many nodes a tree has, up to a limit
use Rattle.std.specs.Prelude.{◌≡◌, ◌⊎◌, ℕ, suc, ◌+◌, min, max, leb, sum, List, [], ◌∷◌, ◌++◌, length, Contains, Bool, IsTrue}
use Rattle.slotted_theory.specs.Nameless.{DArgs, DTerm, stop, place, sub, scope}
use Rattle.slotted_theory.specs.Shape.{shape}
use Rattle.slotted_theory.proofs.Values.{node}

-- whether one cost is at most another, and the cost of a node from the costs of its children from left to right
pub record CostFunction (C : Type 0) : Type 0 where
  pub is_at_most : C → C → Bool
  pub node_cost : DTerm → List C → C

-- x is at most y
abbrev pub AtMost : {C : Type 0} → CostFunction C → C → C → Type 0
AtMost k x y = IsTrue (k.is_at_most x y)

-- each cost of the first list is at most the one in its place in the second, and there are as many
abbrev pub EachAtMost : {C : Type 0} → CostFunction C → List C → List C → Type 0
EachAtMost k [] [] = Unit {0}
EachAtMost k (x ∷ xs) (y ∷ ys) = AtMost k x y × EachAtMost k xs ys
EachAtMost k _ _ = ⊥

-- how many children there are
abbrev pub child_count : DArgs → ℕ
child_count stop = 0
child_count (place x rest) = child_count rest
child_count (sub op payloads args rest) = suc (child_count rest)
child_count (scope inner rest) = child_count inner + child_count rest

-- the arguments with one and the same child in the place of each
abbrev pub null_children : DArgs → DArgs
null_children stop = stop
null_children (place x rest) = place x (null_children rest)
null_children (sub op payloads args rest) = sub 0 [] stop (null_children rest)
null_children (scope inner rest) = scope (null_children inner) (null_children rest)

-- the node without its children: its operator, payloads, own names and binders, and where its children stand
abbrev pub without_children : DTerm → DTerm
without_children d = node d.op d.payloads (null_children d.args)

-- the two nodes differ in names and children alone
abbrev pub AreAlike : DTerm → DTerm → Type 0
AreAlike d e = shape (without_children d) ≡ shape (without_children e)

-- what is asked of a cost function on the nodes of which P holds, where there are as many costs as children
pub record IsLawfulOn (P : DTerm → Type 0) (C : Type 0) (k : CostFunction C) : Type 0 where
  pub reflexive : (x : C) → AtMost k x x
  pub transitive : (x y z : C) → AtMost k x y → AtMost k y z → AtMost k x z
  -- alike nodes over children of equal costs cost the same
  pub alike : (d e : DTerm) (xs : List C) → P d → P e → AreAlike d e → length xs ≡ child_count d.args → k.node_cost d xs ≡ k.node_cost e xs
  -- dearer children never make a node cheaper
  pub rises : (d : DTerm) (xs ys : List C) → P d → length xs ≡ child_count d.args → EachAtMost k xs ys →
      AtMost k (k.node_cost d xs) (k.node_cost d ys)
  -- a node costs no less than any child
  pub no_less : (d : DTerm) (xs : List C) → P d → length xs ≡ child_count d.args → (x : C) → Contains xs x → AtMost k x (k.node_cost d xs)

-- and on all nodes
abbrev pub IsLawful : (C : Type 0) → CostFunction C → Type 0
IsLawful C k = IsLawfulOn (λ d. Unit {0}) C k

-- of two costs one is at most the other
abbrev pub IsTotal : {C : Type 0} → CostFunction C → Type 0
IsTotal {C} k = (x y : C) → AtMost k x y ⊎ AtMost k y x

-- the costs of the children from left to right
abbrev pub child_costs : {C : Type 0} → CostFunction C → DArgs → List C
child_costs k stop = []
child_costs k (place x rest) = child_costs k rest
child_costs k (sub op payloads args rest) = k.node_cost (node op payloads args) (child_costs k args) ∷ child_costs k rest
child_costs k (scope inner rest) = child_costs k inner ++ child_costs k rest

-- the cost of a tree
abbrev pub tree_cost : {C : Type 0} → CostFunction C → DTerm → C
tree_cost k t = k.node_cost t (child_costs k t.args)

-- the greatest of the costs, or 0
abbrev pub dearest : List ℕ → ℕ
dearest [] = 0
dearest (x ∷ xs) = max x (dearest xs)

-- 1 and the costs of the children, but no more than the limit or the dearest child
abbrev pub limited_size : ℕ → CostFunction ℕ
limited_size limit = record { is_at_most = leb; node_cost = λ d xs. min (suc (sum xs)) (max limit (dearest xs)) }
