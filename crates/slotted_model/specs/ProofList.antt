-- Proofs: the list of proved equations, each with the step by which it was proved.
--     Equation                  two classes, and which of their canonical slots carry one name
--     HoldsFrom E nodes e       all full ids of which e is the equation have equal terms
--     IsReflexive, IsSymmetric, IsTransitive, IsCongruent   the condition of each step over the equations of its parts
--     Proved nodes proofs       what holds of the proof list of each graph
--     asserted nodes proofs     the pairs of canonical terms of the explicit entries
--     Exact nodes found proofs  the proofs of the find entries say just what the entries say
use Rattle.std.specs.Prelude.{◌≡◌, ℕ, ◌<◌, List, [], ◌∷◌, ◌++◌, length, map, filter_map, Option, Some, None, slice_index_or, Contains}
use Rattle.slotted_theory.specs.Nameless.{DArgs, DTerm, stop, place, scope, moved}
use Rattle.slotted_theory.specs.Derives.{Equal}
use Rattle.slotted_theory.specs.FiniteMaps.{filled}
use Rattle.slotted_theory.proofs.Values.{child_before}
use Rattle.slotted_model.specs.Applied.{Applied, as_term}
use Rattle.slotted_model.specs.Classes.{canonical_node, canonical_slots, term_of, IsFull}
use Rattle.slotted_model.specs.Correspondence.{same_names, identity, turned, IsPartialInjection, CanJoin, numbered}
use Rattle.slotted_model.specs.Find.{Entry, entry_at, find_class, find_map}

-- an equation between two classes up to renaming: the pairs of canonical slots that carry one name
pub record Equation : Type 0 where
  pub left : ℕ
  pub right : ℕ
  pub pairs : List (ℕ × ℕ)

-- how an entry was proved: it was asserted, or by one of four steps over earlier entries
pub data Step : Type 0 where
  explicit : Step
  reflexive : Step
  symmetric : (part : ℕ) → Step
  transitive : (first second : ℕ) → Step
  congruent : (parts : List ℕ) → Step

-- an entry of the proof list
pub record ProofEntry : Type 0 where
  pub equation : Equation
  pub step : Step

-- the equation of two applied ids
abbrev pub equation_of : Applied → Applied → Equation
equation_of a b = record { left = a.0; right = b.0; pairs = same_names a.1 b.1 }

-- the equation with its sides exchanged
abbrev pub turned_equation : List DTerm → Equation → Equation
turned_equation nodes e = record { left = e.right; right = e.left; pairs = turned (canonical_slots nodes e.right) e.pairs }

-- the equation is of classes of the graph, and pairs their canonical slots
pub record IsOver (nodes : List DTerm) (e : Equation) : Type 0 where
  pub left : e.left < length nodes
  pub right : e.right < length nodes
  pub pairs : IsPartialInjection (canonical_slots nodes e.left) (canonical_slots nodes e.right) e.pairs

-- all full ids of which this is the equation have equal canonical terms
abbrev pub HoldsFrom : List (DTerm × DTerm) → List DTerm → Equation → Type 0
HoldsFrom E nodes e = (a b : Applied) → IsFull nodes a → IsFull nodes b → equation_of a b ≡ e → Equal E (term_of nodes a) (term_of nodes b)

-- one class, and each slot carries its own name
abbrev pub IsReflexive : List DTerm → Equation → Type 0
IsReflexive nodes e = (e.left ≡ e.right) × (e.pairs ≡ identity (canonical_slots nodes e.left))

-- the part is the equation with its sides exchanged
abbrev pub IsSymmetric : List DTerm → Equation → Equation → Type 0
IsSymmetric nodes e part = part ≡ turned_equation nodes e

-- the parts go from the left side to the right one, and can be joined in the middle
pub record IsTransitive (e first second : Equation) : Type 0 where
  pub left : first.left ≡ e.left
  pub middle : first.right ≡ second.left
  pub right : second.right ≡ e.right
  pub joins : CanJoin e.pairs first.pairs second.pairs

-- the same own names and binders, and full ids as children, of which the parts are the equations in turn
pub data AreCongruent (nodes : List DTerm) : DArgs → DArgs → List Equation → Type 0 where
  no_more : AreCongruent nodes stop stop []
  one_name : {x : ℕ} {d e : DArgs} {parts : List Equation} → AreCongruent nodes d e parts → AreCongruent nodes (place x d) (place x e) parts
  one_child : (a b : Applied) {d e : DArgs} {parts : List Equation} → IsFull nodes a → IsFull nodes b →
      AreCongruent nodes d e parts → AreCongruent nodes (child_before (as_term a) d) (child_before (as_term b) e) (equation_of a b ∷ parts)
  one_binder : {d e r s : DArgs} {inner parts : List Equation} → AreCongruent nodes d e inner → AreCongruent nodes r s parts →
      AreCongruent nodes (scope d r) (scope e s) (inner ++ parts)

-- the canonical node of an id's class with the id's names
abbrev pub node_of : List DTerm → Applied → DTerm
node_of nodes a = moved (filled a.1) (canonical_node nodes a.0)

-- full ids with this equation have canonical nodes with the same operator, payloads, own names and binders, and parts for the children
pub record IsCongruent (nodes : List DTerm) (e : Equation) (parts : List Equation) : Type 0 where
  pub left : Applied
  pub right : Applied
  pub left_full : IsFull nodes left
  pub right_full : IsFull nodes right
  pub equation : equation_of left right ≡ e
  pub operators : (node_of nodes left).op ≡ (node_of nodes right).op
  pub payloads : (node_of nodes left).payloads ≡ (node_of nodes right).payloads
  pub children : AreCongruent nodes (node_of nodes left).args (node_of nodes right).args parts

-- the equation at a number of the proof list
abbrev pub equation_at : List ProofEntry → ℕ → Equation
equation_at proofs p = (slice_index_or proofs p (record { equation = record { left = 0; right = 0; pairs = [] }; step = explicit })).equation

-- the step at a number of the proof list
abbrev pub step_at : List ProofEntry → ℕ → Step
step_at proofs p = (slice_index_or proofs p (record { equation = record { left = 0; right = 0; pairs = [] }; step = explicit })).step

-- the step proves the equation, over entries before the number p
abbrev pub IsStepFor : List DTerm → List ProofEntry → ℕ → Equation → Step → Type 0
IsStepFor nodes proofs p e explicit = Unit {0}
IsStepFor nodes proofs p e reflexive = IsReflexive nodes e
IsStepFor nodes proofs p e (symmetric q) = (q < p) × IsSymmetric nodes e (equation_at proofs q)
IsStepFor nodes proofs p e (transitive q r) = (q < p) × (r < p) × IsTransitive e (equation_at proofs q) (equation_at proofs r)
IsStepFor nodes proofs p e (congruent qs) = ((q : ℕ) → Contains qs q → q < p) × IsCongruent nodes e (map (equation_at proofs) qs)

-- what holds of the proof list of each graph: each step proves its equation over earlier entries, and no equation stands twice
pub record Proved (nodes : List DTerm) (proofs : List ProofEntry) : Type 0 where
  pub over : (p : ℕ) → p < length proofs → IsOver nodes (equation_at proofs p)
  pub steps : (p : ℕ) → p < length proofs → IsStepFor nodes proofs p (equation_at proofs p) (step_at proofs p)
  pub once : (p q : ℕ) → p < length proofs → q < length proofs → equation_at proofs p ≡ equation_at proofs q → p ≡ q

-- the two sides of an equation, their names numbered from 0 as they first occur
abbrev pub left_side : List DTerm → Equation → Applied
left_side nodes e = (e.left, (numbered (canonical_slots nodes e.left) (canonical_slots nodes e.right) e.pairs).0)

abbrev pub right_side : List DTerm → Equation → Applied
right_side nodes e = (e.right, (numbered (canonical_slots nodes e.left) (canonical_slots nodes e.right) e.pairs).1)

-- the canonical terms of the two sides
abbrev pub term_pair : List DTerm → Equation → DTerm × DTerm
term_pair nodes e = (term_of nodes (left_side nodes e), term_of nodes (right_side nodes e))

-- the pair, if the step is explicit
abbrev pub if_explicit : Step → DTerm × DTerm → Option (DTerm × DTerm)
if_explicit explicit pair = Some pair
if_explicit reflexive pair = None
if_explicit (symmetric q) pair = None
if_explicit (transitive q r) pair = None
if_explicit (congruent qs) pair = None

-- the asserted list: the pairs of canonical terms of the explicit entries, in order
abbrev pub asserted : List DTerm → List ProofEntry → List (DTerm × DTerm)
asserted nodes proofs = filter_map (λ entry. if_explicit entry.step (term_pair nodes entry.equation)) proofs

-- what the find entry of a class says: the class equals the one that it leads to, and paired slots carry one name
abbrev pub entry_equation : List DTerm → List Entry → ℕ → Equation
entry_equation nodes found i = record { left = i; right = (entry_at found i).class; pairs = turned (canonical_slots nodes i) (entry_at found i).pairs }

-- what the find of a class says
abbrev pub find_equation : List DTerm → List Entry → ℕ → Equation
find_equation nodes found i = record { left = i; right = find_class found i; pairs = turned (canonical_slots nodes i) (find_map found i) }

-- the proof of each find entry proves just what the entry says: names at other slots are shared with nothing
pub record Exact (nodes : List DTerm) (found : List Entry) (proofs : List ProofEntry) : Type 0 where
  pub in_range : (i : ℕ) → i < length nodes → (entry_at found i).proof < length proofs
  pub equations : (i : ℕ) → i < length nodes → equation_at proofs (entry_at found i).proof ≡ entry_equation nodes found i
