-- A graph at rest where a class has a row over itself, since f a and a are asserted equal: a is extracted for f a, and costs least among all f .. f a.
use Rattle.std.proofs.Common.{◌≡◌, ℕ, zero, suc, ◌<◌, ◌≤◌, List, [], ◌∷◌, Some, refl, sym, ap, subst, arith, inl, inr}
use Rattle.std.specs.Prelude.{Contains}
use Rattle.std.proofs.lemmas.Bool.{leb-true, false≢true}
use Rattle.slotted_lists.proofs.Contained.{contains_head, contains_tail, contains_cases, Contains-nil}
use Rattle.slotted_lists.proofs.Options.{Some-same}
use Rattle.slotted_theory.specs.Nameless.{DTerm, stop}
use Rattle.slotted_theory.specs.Shape.{shape}
use Rattle.slotted_theory.specs.Derives.{Equal}
use Rattle.slotted_theory.proofs.Values.{node, child_before}
use Rattle.slotted_model.specs.Applied.{Applied, as_term}
use Rattle.slotted_model.specs.Classes.{canonical_node, term_of, IsFull}
use Rattle.slotted_model.specs.Growth.{IsNew, Added}
use Rattle.slotted_model.specs.Correspondence.{AllDifferent, IsPartialInjection}
use Rattle.slotted_model.specs.Find.{Entry, find}
use Rattle.slotted_model.specs.ProofList.{Equation, ProofEntry, explicit, reflexive, equation_of, equation_at, step_at, asserted}
use Rattle.slotted_model.specs.Link.{CanEnter, IsLater, CanLink, found_equation, with_link}
use Rattle.slotted_model.specs.Sound.{Sound}
use Rattle.slotted_model.specs.State.{Row, State, sources, look_up_tree}
use Rattle.slotted_model.specs.Rest.{IsValidIn, UpToSymmetries, found_alike, LinkedTo, IsRow, IsCurrent, Filed, AtRest}
use Rattle.slotted_model.specs.Trees.{IsTree}
use Rattle.slotted_model.specs.Cost.{CostFunction, AtMost, limited_size, tree_cost}
use Rattle.slotted_model.specs.Extraction.{TableEntry, IsCandidate, IsLeastFirst, IsFinished, Fits, Extracts, by_entry, no_more}
use Rattle.slotted_model.proofs.Represented.Growing.{added, Canonical-nil}
use Rattle.slotted_model.proofs.Finds.NormalIds.{full-is_valid}
use Rattle.slotted_model.proofs.Finds.Uniting.{linked-alike}
use Rattle.slotted_model.proofs.Rebuilding.UpTo.{linked_to-same}
use Rattle.slotted_model.proofs.Complete.Spreading.{is_affected-iff}
use Rattle.slotted_model.proofs.Finds.Keeping.{nothing-sound, new_class-sound, entered-sound, link-sound}
use Rattle.slotted_model.proofs.Data.Options.{None-Some}
use Rattle.slotted_model.proofs.Examples.CompletenessExamples.{one_of}
use Rattle.slotted_model.proofs.LeastTerms.Optimal.{finished-fits}
use Rattle.slotted_model.proofs.LeastTerms.Sizes.{size-lawful}
use Rattle.slotted_model.proofs.LeastTerms.KnownCosts.{lawful-everywhere}
use Rattle.slotted_model.proofs.LeastTerms.Cheapest.{least-represented, least-equal}

abbrev a : DTerm
a = node 1 [] stop

abbrev a_id : Applied
a_id = (0, [])

abbrev f_a_id : Applied
f_a_id = (1, [])

-- f over a, as a node and as a tree
abbrev f_node : DTerm
f_node = node 2 [] (child_before (as_term a_id) stop)

abbrev f_of : DTerm → DTerm
f_of t = node 2 [] (child_before t stop)

abbrev nodes : List DTerm
nodes = a ∷ f_node ∷ []

abbrev alive : ℕ → Entry
alive i = record { class = i; pairs = []; proof = i; died = 0 }

abbrev itself : ℕ → ProofEntry
itself i = record { equation = record { left = i; right = i; pairs = [] }; step = reflexive }

operators_differ : {d e : DTerm} → d ≡ e → d.op ≡ e.op
operators_differ p = ap (λ (t : DTerm). t.op) p

a_is_new : IsNew [] a
a_is_new = record { operator = omega arith; children = tt; shape_is_new = λ i l p. omega arith }

with_a : Added [] (a ∷ []) a
with_a = added [] a Canonical-nil a_is_new

a_full : IsFull (a ∷ []) a_id
a_full = record { in_range = omega arith; slots = refl; injective = tt }

f_is_new : IsNew (a ∷ []) f_node
f_is_new = record { operator = omega arith; children = ((a_id, refl, a_full), tt); shape_is_new = other }
  where
    other : (i : ℕ) → i < 1 → ¬ (shape (canonical_node (a ∷ []) i) ≡ shape f_node)
    other zero l p = let e : ◌≡◌ {A = ℕ} 1 2 = operators_differ p in omega arith
    other (suc i) l p = omega arith

with_f : Added (a ∷ []) nodes f_node
with_f = added (a ∷ []) f_node with_a.canonical f_is_new

abbrev before : List Entry
before = alive 0 ∷ alive 1 ∷ []

before_sound : Sound nodes before (itself 0 ∷ itself 1 ∷ [])
before_sound =
    new_class-sound (a ∷ []) nodes (alive 0 ∷ []) (itself 0 ∷ [])
    (new_class-sound [] (a ∷ []) [] [] nothing-sound with_a.canonical with_a.extends refl) with_f.canonical with_f.extends refl

-- f a and a are asserted equal
abbrev f_a_is_a : Equation
f_a_is_a = record { left = 1; right = 0; pairs = [] }

abbrev assertion : ProofEntry
assertion = record { equation = f_a_is_a; step = explicit }

abbrev proofs : List ProofEntry
proofs = itself 0 ∷ itself 1 ∷ assertion ∷ []

nothing-partial : IsPartialInjection [] [] []
nothing-partial = record { in_order = refl; within = λ s t c. absurd (Contains-nil (s, t) c); injective = λ s r t c d. absurd (Contains-nil (s, t) c) }

can_assert : CanEnter nodes (itself 0 ∷ itself 1 ∷ []) assertion
can_assert = record { over = record { left = omega arith; right = omega arith; pairs = nothing-partial }; proved = tt; is_new = other }
  where
    other : (p : ℕ) → p < 2 → equation_at (itself 0 ∷ itself 1 ∷ []) p ≡ f_a_is_a → ⊥
    other zero l e = let n : ◌≡◌ {A = ℕ} 0 1 = ap (λ (x : Equation). x.left) e in omega arith
    other (suc zero) l e = let n : ◌≡◌ {A = ℕ} 1 0 = ap (λ (x : Equation). x.right) e in omega arith
    other (suc (suc p)) l e = omega arith

can_link : CanLink nodes before f_a_is_a
can_link = record {
  over = record { left = omega arith; right = omega arith; pairs = nothing-partial };
  left_lives = refl;
  right_lives = refl;
  different = λ e. omega arith;
  from = λ s c. c;
  onto = λ t c. c;
}

none_died : IsLater before 0
none_died zero l d = absurd (d refl)
none_died (suc zero) l d = absurd (d refl)
none_died (suc (suc i)) l d = absurd (omega arith)

abbrev after : List Entry
after = with_link nodes before f_a_is_a 2 0

after_sound : Sound nodes after proofs
after_sound = link-sound nodes before proofs f_a_is_a 2 0 (entered-sound nodes before (itself 0 ∷ itself 1 ∷ []) assertion before_sound can_assert) can_link none_died (omega arith) refl

-- both rows are of the class 0
abbrev row_a : Row
row_a = record { shape = a; source = 0; slots = [] }

abbrev row_f : Row
row_f = record { shape = f_node; source = 1; slots = [] }

abbrev graph : State
graph = record { nodes = nodes; found = after; proofs = proofs; rows = row_a ∷ row_f ∷ []; waiting = []; symmetries = [] }

two_of : {X : Type 0} (P : X → Type 0) (x y : X) → P x → P y → (w : X) → Contains (x ∷ y ∷ []) w → P w
two_of P x y p q w c = elim (contains_cases x (y ∷ []) w c) [
  | inl e ↦ subst P (sym e) p
  | inr d ↦ subst P (sym (one_of d)) q
]

a-valid : IsValidIn graph a_id
a-valid = record { in_range = omega arith; ascending = tt; injective = tt; has_slots = λ s c. c; within = λ s c. c }

is_row : (r : Row) → Contains graph.rows r → IsRow graph r
is_row = two_of (IsRow graph) row_a row_f
    (record { in_range = omega arith; operator = omega arith; children = tt; is_shape = refl; numbers = refl; injective = tt; within = λ s c. c; normal_form = refl })
    (record { in_range = omega arith; operator = omega arith; children = ((a_id, refl, a-valid), tt); is_shape = refl; numbers = refl; injective = tt; within = λ s c. c; normal_form = refl })

is_current : (r : Row) → Contains graph.rows r → IsCurrent graph r
is_current = two_of (IsCurrent graph) row_a row_f (record { in_normal_form = refl; covered = λ s c. c }) (record { in_normal_form = refl; covered = λ s c. c })

shapes_differ : (r q : Row) → Contains graph.rows r → Contains graph.rows q → r.shape ≡ q.shape → r.source ≡ q.source
shapes_differ r q c d = two_of (λ x. x.shape ≡ q.shape → x.source ≡ q.source) row_a row_f
    (two_of (λ y. row_a.shape ≡ y.shape → row_a.source ≡ y.source) row_a row_f (λ e. refl) (λ e. let n : ◌≡◌ {A = ℕ} 1 2 = operators_differ e in omega arith) q d)
    (two_of (λ y. row_f.shape ≡ y.shape → row_f.source ≡ y.source) row_a row_f (λ e. let n : ◌≡◌ {A = ℕ} 2 1 = operators_differ e in omega arith) (λ e. refl) q d)
    r c

sources_differ : AllDifferent (0 ∷ 1 ∷ [])
sources_differ = (zero_is, (Contains-nil 1, tt))
  where
    zero_is : Contains {X = ℕ} (1 ∷ []) 0 → ⊥
    zero_is c = let e : ◌≡◌ {A = ℕ} 0 1 = one_of c in omega arith

filed : Filed graph
filed = record {
  each = is_row;
  once = sources_differ;
  shapes = shapes_differ;
  waits_once = tt;
  waits_for_row = λ o c. absurd (Contains-nil o c);
  current = λ r c n. is_current r c;
}

own_row : (i : ℕ) → i < 2 → (o : ℕ) × Contains (sources graph.rows) o × LinkedTo graph i o
own_row i h = (i, there i h, linked_to-same graph after_sound.linked i h)
  where
    there : (i : ℕ) → i < 2 → Contains {X = ℕ} (0 ∷ 1 ∷ []) i
    there zero l = contains_head 0 (1 ∷ [])
    there (suc zero) l = contains_tail 0 (1 ∷ []) 1 (contains_head 1 [])
    there (suc (suc i)) l = absurd (omega arith)

sides_alike : (p : ℕ) → p < 3 → step_at proofs p ≡ explicit → (x y : Applied) → IsFull nodes x → IsFull nodes y → equation_of x y ≡ equation_at proofs p → UpToSymmetries graph x y
sides_alike zero l e x y fx fy q = let n : ⊥ = cc in absurd n
sides_alike (suc zero) l e x y fx fy q = let n : ⊥ = cc in absurd n
sides_alike (suc (suc zero)) l e x y fx fy q =
    found_alike (full-is_valid nodes after after_sound.linked x fx) (full-is_valid nodes after after_sound.linked y fy)
    (subst (λ (w : Equation). find (with_link nodes before (found_equation nodes before w) 2 0) x ≡ find (with_link nodes before (found_equation nodes before w) 2 0) y) q
    (linked-alike nodes before before_sound.linked x y fx fy 2 0 (subst (λ w. CanLink nodes before (found_equation nodes before w)) (sym q) can_link) none_died))
sides_alike (suc (suc (suc p))) l e x y fx fy q = absurd (omega arith)

at_rest : AtRest graph
at_rest = record {
  sane = record {
    sound = after_sound;
    filed = filed;
    each_listed = λ y c. absurd (Contains-nil y c);
    listed_once = λ y z c. absurd (Contains-nil y c);
  };
  represents = record { linked = own_row; asserted = sides_alike };
  nothing_waits = refl;
  aligned = λ y c. absurd (Contains-nil y c);
}

-- one entry is enough: after it the row of f is of a class that is there
abbrev k : CostFunction ℕ
k = limited_size 100

abbrev entry_a : TableEntry ℕ
entry_a = record { class = 0; cost = 1; row = row_a }

abbrev table : List (TableEntry ℕ)
table = entry_a ∷ []

a_is_least : (r : Row) (x : ℕ) → IsCandidate ℕ graph k [] r x → AtMost k 1 x
a_is_least r x n = two_of (λ q. IsCandidate ℕ graph k [] q x → AtMost k 1 x) row_a row_f
    (λ m. subst (AtMost k 1) (Some-same 1 x m.cost) refl) (λ m. absurd (None-Some x m.cost)) r n.filed n

least_first : IsLeastFirst graph k table
least_first = (record { class = refl; candidate = record { filed = contains_head row_a (row_f ∷ []); new = refl; cost = refl } }, a_is_least, tt)

finished : IsFinished graph k table
finished r x n = two_of (λ q. ¬ IsCandidate ℕ graph k table q x) row_a row_f (λ m. None-Some 1 (sym m.new)) (λ m. None-Some 1 (sym m.new)) r n.filed n

fits : Fits ℕ graph k table
fits = finished-fits graph k table at_rest (lawful-everywhere graph k (size-lawful 100)) least_first finished

-- a is extracted for f a
a_extracted : Extracts graph table f_a_id a
a_extracted = by_entry entry_a a_id (contains_head entry_a []) (record { in_range = omega arith; slots = refl; injective = tt }) refl refl no_more

-- f (f (f a)) was never added, and is looked up as the same id; a costs no more
fff_a_looked_up : look_up_tree graph (f_of (f_of (f_of a))) ≡ Some a_id
fff_a_looked_up = refl

cheaper : AtMost k (tree_cost k a) (tree_cost k (f_of (f_of (f_of a))))
cheaper = least-represented graph at_rest k (lawful-everywhere graph k (size-lawful 100)) table fits f_a_id a a_extracted (f_of (f_of (f_of a))) a_id fff_a_looked_up refl

costs : (tree_cost k a ≡ 1) × (tree_cost k (f_of (f_of (f_of a))) ≡ 4)
costs = (refl, refl)

-- nor does any tree cost less that is equal to f a by what was asserted
least : (t : DTerm) → IsTree t → Equal (asserted nodes proofs) (term_of nodes f_a_id) t → 1 ≤ tree_cost k t
least t h e =
    leb-true 1 (tree_cost k t) (least-equal graph at_rest k (lawful-everywhere graph k (size-lawful 100)) table fits f_a_id a a_extracted f_a_id (record { in_range = omega arith; slots = refl; injective = tt }) refl (λ i. false≢true ((is_affected-iff graph 0).1 i)) t h e)
