-- Counting nodes keeps the laws of costs.
use Rattle.std.proofs.Common.{◌≡◌, ◌<◌, ◌≤◌, ℕ, List, [], ◌∷◌, true, refl, ap, suc, length, arith}
use Rattle.std.specs.Prelude.{IsTrue}
use Rattle.std.proofs.Math.Dec.{leb}
use Rattle.std.specs.Ordering.{nat_cmp, is_le, MatchOrdering}
use Rattle.std.specs.declared.cmp.Ordering.{Ordering}
use Rattle.std.specs.declared.cmp.Ordering.TheVariants.{Less, Equal, Greater}
use Rattle.std.proofs.lemmas.Bool.{le-leb, leb-true}
use Rattle.std.proofs.lemmas.Cmp.{ranked}
use Rattle.std.proofs.lemmas.Map.Keys.{le_from_is_le}
use Rattle.slotted_theory.specs.Nameless.{DArgs, stop, sub}
use Rattle.slotted_theory.proofs.Values.{node}
use Rattle.slotted_nodes.specs.Form.{Form}
use Rattle.slotted_model.specs.Cost.{EachAtMost, child_count, limited_size}
use Rattle.slotted_model.proofs.LeastTerms.Sizes.{size-lawful}
use Rattle.slotted_costs.specs.Costs.{costs_by, bare_node}
use Rattle.slotted_costs.specs.Laws.{NeverFalls, CoversChildren}
use Rattle.slotted_costs.specs.Size.{largest, size_cost}

not-above : (x y : ℕ) (r : Ordering) → MatchOrdering r (x < y) (x ≡ y) (y < x) → x ≤ y → is_le r ≡ true
not-above x y Less m h = refl
not-above x y Equal m h = refl
not-above x y Greater m h = absurd (omega arith)

ordered : (x y : ℕ) → IsTrue (leb x y) → IsTrue (is_le (nat_cmp x y))
ordered x y h = not-above x y (nat_cmp x y) (ranked x y (nat_cmp x y) refl) (leb-true x y h)

each-ordered : (xs ys : List ℕ) → EachAtMost (costs_by nat_cmp size_cost) xs ys → EachAtMost (limited_size largest) xs ys
each-ordered [] [] h = h
each-ordered (x ∷ xs) (y ∷ ys) h = (le-leb x y (le_from_is_le x y h.0), each-ordered xs ys h.1)
each-ordered [] (y ∷ ys) h = h
each-ordered (x ∷ xs) [] h = h

-- a size does not depend on the node: as many children will do
abbrev over : List ℕ → DArgs
over [] = stop
over (x ∷ xs) = sub 0 [] stop (over xs)

count-over : (xs : List ℕ) → length xs ≡ child_count (over xs)
count-over [] = refl
count-over (x ∷ xs) = ap suc (count-over xs)

module _ {L : Type 0} (form : L → Form) where
  pub size_never_falls : NeverFalls form (costs_by nat_cmp size_cost)
  size_never_falls n xs ys fits h =
      let rises = (size-lawful largest).rises (node 0 [] (over xs)) xs ys tt (count-over xs) (each-ordered xs ys h) in
      ordered (size_cost (bare_node (form n)) xs) (size_cost (bare_node (form n)) ys) rises

  pub size_covers_children : CoversChildren form (costs_by nat_cmp size_cost)
  size_covers_children n xs fits x c =
      ordered x (size_cost (bare_node (form n)) xs) ((size-lawful largest).no_less (node 0 [] (over xs)) xs tt (count-over xs) x c)
