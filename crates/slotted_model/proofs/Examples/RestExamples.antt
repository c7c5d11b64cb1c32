-- Small graphs at rest, made and asserted step by step, and what is looked up in them, computed.
use Rattle.std.proofs.Common.{◌≡◌, ◌≢◌, ℕ, zero, suc, ◌<◌, List, [], ◌∷◌, Some, None, length, get_or, refl, sym, ◌∙◌, ap, subst, inl, inr, arith}
use Rattle.std.specs.Prelude.{Contains}
use Rattle.slotted_lists.proofs.Contained.{contains_head, contains_tail, contains_cases, Contains-nil}
use Rattle.slotted_theory.specs.Nameless.{DTerm, stop, place}
use Rattle.slotted_theory.specs.Shape.{shape}
use Rattle.slotted_theory.proofs.Values.{node}
use Rattle.slotted_model.specs.Applied.{Applied}
use Rattle.slotted_model.specs.Classes.{canonical_node, IsFull}
use Rattle.slotted_model.specs.Correspondence.{identity}
use Rattle.slotted_model.specs.Find.{find}
use Rattle.slotted_model.specs.Growth.{IsNew}
use Rattle.slotted_model.specs.Link.{IsLater}
use Rattle.slotted_model.specs.ProofList.{Equation, equation_of, equation_at}
use Rattle.slotted_model.specs.State.{Row, Symmetry, State, look_up_node, look_up_tree}
use Rattle.slotted_model.specs.Rest.{AtRest, IsOpen, IsAligned, size, FoundTogether}
use Rattle.slotted_model.specs.Changes.{Unites, left_dies, lists, linked_state, PairsAll, symmetry_of, with_symmetry}
use Rattle.slotted_model.specs.Rebuild.{Runs, takes_turn, starts, refiles, refiled_state}
use Rattle.slotted_model.specs.RestClaims.{RestLaws}
use Rattle.slotted_model.specs.Adding.{with_new_class, with_new_row, with_quiet_row, with_assertion, Adds, files_row, Asserts, is_new, HasAsserted}
use Rattle.slotted_model.proofs.Rebuilding.Adding.{adds}
use Rattle.slotted_model.proofs.Rebuilding.Touching.{touching, touched-is}
use Rattle.slotted_model.proofs.Rebuilding.Asserting.{asserts, nothing-rests}

abbrev pub empty : State
empty = record { nodes = []; found = []; proofs = []; rows = []; waiting = []; symmetries = [] }

-- a class is made of a node, and its node is filed at once
abbrev pub made : State → DTerm → State
made g c = refiled_state (with_new_row (with_new_class g c) (length g.nodes)) (length g.nodes)

-- the word p
abbrev pub p : DTerm
p = node 1 [] stop

abbrev with_p : State
with_p = made empty p

p_new : IsNew [] p
p_new = record { operator = omega arith; children = tt; shape_is_new = λ i l e. omega arith }

-- the only row is of the class itself
only_p : (r : Row) → Contains with_p.rows r → r.source ≢ 0 → ⊥
only_p r c n = elim (contains_cases _ [] r c) [
  | inl e ↦ n (ap (λ (x : Row). x.source) e)
  | inr k ↦ Contains-nil r k
]

p_adds : Adds empty p with_p
p_adds =
    files_row (λ r c e. Contains-nil r c)
    (takes_turn starts (refiles 0 (contains_head 0 []) (λ s c. absurd (Contains-nil s c)) (λ r c n e. only_p r c n)))
    (refl, λ y c. absurd (Contains-nil y c))

p_rests : AtRest with_p
p_rests = (adds empty nothing-rests p p_new with_p p_adds).rest

-- its turn files its row and changes nothing else
module _ (laws : RestLaws) where
  p_is_quiet : Runs (with_new_row (with_new_class empty p) 0) 1 (with_quiet_row (with_new_class empty p) 0)
  p_is_quiet = laws.quiet_turns (with_new_class empty p) 0 (λ s c. absurd (Contains-nil s c)) (λ r c. absurd (Contains-nil r c)) (λ r c. absurd (Contains-nil r c)) (Contains-nil 0)

p_looked_up : look_up_node with_p p ≡ Some (0, [])
p_looked_up = refl

-- and the word q
abbrev pub q : DTerm
q = node 2 [] stop

abbrev pub with_q : State
with_q = made with_p q

q_new : IsNew with_p.nodes q
q_new = record { operator = omega arith; children = tt; shape_is_new = other }
  where
    other : (i : ℕ) → i < 1 → ¬ (shape (canonical_node with_p.nodes i) ≡ shape q)
    other zero l e = let n : ◌≡◌ {A = ℕ} 1 2 = ap (λ (t : DTerm). t.op) e in omega arith
    other (suc i) l e = omega arith

-- no row has its shape before
not_q : (r : Row) → Contains with_p.rows r → r.shape ≡ q → ⊥
not_q r c e = elim (contains_cases _ [] r c) [
  | inl f ↦ let n : ◌≡◌ {A = ℕ} 1 2 = ap (λ (x : Row). x.shape.op) (sym f) ∙ ap (λ (t : DTerm). t.op) e in omega arith
  | inr k ↦ Contains-nil r k
]

q_adds : Adds with_p q with_q
q_adds =
    files_row not_q
    (takes_turn starts (refiles 1 (contains_head 1 []) (λ s c. absurd (Contains-nil s c)) (λ r c n e. elim (contains_cases _ with_p.rows r c) [
      | inl f ↦ n (ap (λ (x : Row). x.source) f)
      | inr k ↦ not_q r k e
    ])))
    (refl, λ y c. absurd (Contains-nil y c))

pub q_rests : AtRest with_q
q_rests = (adds with_p p_rests q q_new with_q q_adds).rest

words_apart : find with_q.found (0, []) ≡ find with_q.found (1, []) → ⊥
words_apart e = let n : ◌≡◌ {A = ℕ} 0 1 = ap (λ (a : Applied). a.0) e in omega arith

-- p is asserted to equal q: the class of p dies
abbrev word_equation : Equation
word_equation = equation_of (0, []) (1, [])

abbrev one_word : State
one_word = linked_state (with_assertion with_q word_equation) word_equation 2 0 (touching with_q 0)

p_full : IsFull with_q.nodes (0, [])
p_full = record { in_range = omega arith; slots = refl; injective = tt }

q_full : IsFull with_q.nodes (1, [])
q_full = record { in_range = omega arith; slots = refl; injective = tt }

words_united : Unites 2 (with_assertion with_q word_equation) one_word
words_united = left_dies 2 0 (touching with_q 0) (λ e. omega arith) (record { left = λ s c. c; right = λ s c. c }) (omega arith, refl) none_died (touched-is (with_assertion with_q word_equation) tt 0)
  where
    none_died : IsLater with_q.found 0
    none_died zero l d = absurd (d refl)
    none_died (suc zero) l d = absurd (d refl)
    none_died (suc (suc i)) l d = absurd (omega arith)

words_asserted : Asserts with_q (0, []) (1, []) one_word
words_asserted = is_new other words_united starts (refl, λ y c. absurd (Contains-nil y c))
  where
    other : (n : ℕ) → n < 2 → equation_at with_q.proofs n ≡ word_equation → ⊥
    other zero l e = let n : ◌≡◌ {A = ℕ} 0 1 = ap (λ (x : Equation). x.right) e in omega arith
    other (suc zero) l e = let n : ◌≡◌ {A = ℕ} 1 0 = ap (λ (x : Equation). x.left) e in omega arith
    other (suc (suc n)) l e = omega arith

words_rest : HasAsserted with_q (0, []) (1, []) one_word
words_rest = asserts with_q q_rests (0, []) (1, []) p_full q_full one_word words_asserted

-- both words are looked up as the class of q, and the size has fallen by the class of p
p_is_q : look_up_tree one_word p ≡ Some (1, [])
p_is_q = refl

q_is_q : look_up_tree one_word q ≡ Some (1, [])
q_is_q = refl

sizes : (size with_q ≡ 2) × (size one_word ≡ 1)
sizes = (refl, refl)

-- f x y for the slots 0 and 1
abbrev pub f : DTerm
f = node 3 [] (place 0 (place 1 stop))

abbrev pub with_f : State
with_f = made empty f

f_new : IsNew [] f
f_new = record { operator = omega arith; children = tt; shape_is_new = λ i l e. omega arith }

only_f : (r : Row) → Contains with_f.rows r → r.source ≢ 0 → ⊥
only_f r c n = elim (contains_cases _ [] r c) [
  | inl e ↦ n (ap (λ (x : Row). x.source) e)
  | inr k ↦ Contains-nil r k
]

f_adds : Adds empty f with_f
f_adds =
    files_row (λ r c e. Contains-nil r c)
    (takes_turn starts (refiles 0 (contains_head 0 []) (λ s c. c) (λ r c n e. only_f r c n)))
    (refl, λ y c. absurd (Contains-nil y c))

pub f_rests : AtRest with_f
f_rests = (adds empty nothing-rests f f_new with_f f_adds).rest

-- its row has the shape with names numbered from 0
f_filed : with_f.rows ≡ record { shape = f; source = 0; slots = (0, 0) ∷ (1, 1) ∷ [] } ∷ []
f_filed = refl

-- f 7 8 and f 8 7 are asserted equal: a symmetry of the class is listed
abbrev f_7_8 : Applied
f_7_8 = (0, (0, 7) ∷ (1, 8) ∷ [])

abbrev f_8_7 : Applied
f_8_7 = (0, (0, 8) ∷ (1, 7) ∷ [])

abbrev exchanged : Equation
exchanged = equation_of f_7_8 f_8_7

exchanged_is : exchanged.pairs ≡ (0, 1) ∷ (1, 0) ∷ []
exchanged_is = refl

abbrev symmetric_f : State
symmetric_f = with_symmetry (with_assertion with_f exchanged) (symmetry_of (with_assertion with_f exchanged) exchanged 1)

abbrev symmetry : Symmetry
symmetry = record { class = 0; slots = 0 ∷ 1 ∷ []; pairs = (0, 1) ∷ (1, 0) ∷ []; proof = 1 }

f_listed : symmetric_f.symmetries ≡ symmetry ∷ []
f_listed = refl

pub both_slots : (xs : List ℕ) → Contains xs 0 → Contains xs 1 → (s : ℕ) → Contains (0 ∷ 1 ∷ []) s → Contains xs s
both_slots xs a b s c = elim (contains_cases 0 (1 ∷ []) s c) [
  | inl e ↦ subst (Contains xs) (sym e) a
  | inr k ↦ elim (contains_cases 1 [] s k) [
    | inl e ↦ subst (Contains xs) (sym e) b
    | inr j ↦ absurd (Contains-nil s j)
  ]
]

all_paired : PairsAll (with_assertion with_f exchanged) exchanged
all_paired = record {
  left = λ s c. c;
  right = both_slots (1 ∷ 0 ∷ []) (contains_tail 1 (0 ∷ []) 0 (contains_head 0 [])) (contains_head 1 (0 ∷ []));
}

not_identity : exchanged.pairs ≡ identity (0 ∷ 1 ∷ []) → ⊥
not_identity e = let n : ◌≡◌ {A = ℕ} 1 0 = ap (λ (m : List (ℕ × ℕ)). (get_or m 0 (0, 0)).1) e in omega arith

f_united : Unites 1 (with_assertion with_f exchanged) symmetric_f
f_united = lists 1 refl all_paired not_identity (λ y c. absurd (Contains-nil y c)) (omega arith, refl)

f_aligned : (y : Symmetry) → Contains symmetric_f.symmetries y → IsAligned symmetric_f y
f_aligned y c = elim (contains_cases symmetry [] y c) [
  | inl e ↦ subst (IsAligned symmetric_f) (sym e) refl
  | inr k ↦ absurd (Contains-nil y k)
]

f_asserted : Asserts with_f f_7_8 f_8_7 symmetric_f
f_asserted = is_new other f_united starts (refl, f_aligned)
  where
    other : (n : ℕ) → n < 1 → equation_at with_f.proofs n ≡ exchanged → ⊥
    other zero l e = not_identity (ap (λ (x : Equation). x.pairs) (sym e))
    other (suc n) l e = omega arith

f_full : (x y : ℕ) → x ≢ y → IsFull with_f.nodes (0, (0, x) ∷ (1, y) ∷ [])
f_full x y n = record {
  in_range = omega arith;
  slots = refl;
  injective = (
    λ h. elim h [
      | inl e ↦ n e
      | inr k ↦ k
    ],
    (λ k. k, tt),
  );
}

f_rest : HasAsserted with_f f_7_8 f_8_7 symmetric_f
f_rest = asserts with_f f_rests f_7_8 f_8_7 (f_full 7 8 (λ e. omega arith)) (f_full 8 7 (λ e. omega arith)) symmetric_f f_asserted

-- both have one class and one set of names, but are not found alike: the symmetry is open
f_together : FoundTogether symmetric_f f_7_8 f_8_7
f_together = f_rest.together

f_open : IsOpen symmetric_f symmetry
f_open e = let n : ◌≡◌ {A = ℕ} 0 1 = ap (λ (a : Applied). (get_or a.1 0 (0, 0)).1) e in omega arith

-- each order of names is looked up as it is
f_looked_up : look_up_tree symmetric_f (node 3 [] (place 8 (place 7 stop))) ≡ Some f_8_7
f_looked_up = refl

-- and f x x is not looked up at all
f_twice : look_up_tree symmetric_f (node 3 [] (place 7 (place 7 stop))) ≡ None
f_twice = refl
