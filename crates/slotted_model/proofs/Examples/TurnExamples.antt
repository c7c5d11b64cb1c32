-- Turns of rebuilding on small graphs: congruent parents, and a slot that becomes redundant.
use Rattle.std.proofs.Common.{◌≡◌, ◌≢◌, ℕ, zero, suc, ◌<◌, List, [], ◌∷◌, length, get_or, refl, sym, ◌∙◌, ap, subst, inl, inr, arith}
use Rattle.std.specs.Prelude.{Contains}
use Rattle.slotted_lists.proofs.Contained.{contains_head, contains_tail, contains_cases, Contains-nil}
use Rattle.slotted_theory.specs.Nameless.{DTerm, stop}
use Rattle.slotted_theory.specs.FiniteMaps.{IsInjectiveMap}
use Rattle.slotted_theory.specs.Shape.{shape}
use Rattle.slotted_theory.proofs.Values.{node, child_before}
use Rattle.slotted_model.specs.Applied.{Applied, as_term}
use Rattle.slotted_model.specs.Classes.{canonical_node, IsFull}
use Rattle.slotted_model.specs.Correspondence.{identity}
use Rattle.slotted_model.specs.Growth.{IsNew}
use Rattle.slotted_model.specs.Link.{IsLater}
use Rattle.slotted_model.specs.ProofList.{Equation, explicit, equation_of, equation_at}
use Rattle.slotted_model.specs.State.{Row, Symmetry, State, normal_node, child_classes}
use Rattle.slotted_model.specs.Rest.{IsAligned, Sane, AtRest}
use Rattle.slotted_model.specs.Changes.{symmetry_of, with_symmetry, Unites, lists, finds_alike, drops_left, left_dies, linked_state, dropped_state, with_proofs}
use Rattle.slotted_model.specs.Rebuild.{Acts, acts, Turn, enters, narrows, unites_parents, takes_turn, starts, refiles, CongruenceEntered}
use Rattle.slotted_model.specs.Adding.{with_assertion, Adds, files_row}
use Rattle.slotted_model.proofs.Rebuilding.Adding.{adds}
use Rattle.slotted_model.proofs.Rebuilding.Asserting.{entry-sane, can_assert}
use Rattle.slotted_model.proofs.Rebuilding.Congruences.{congruence-entered}
use Rattle.slotted_model.proofs.Rebuilding.Ending.{union-ends}
use Rattle.slotted_model.proofs.Rebuilding.GrowingLists.{proofs-sane}
use Rattle.slotted_model.proofs.Rebuilding.Unions.{unites}
use Rattle.slotted_model.proofs.Rebuilding.Touching.{touching, touched-is}
use Rattle.slotted_model.proofs.Examples.RestExamples.{made, p, q, with_q, q_rests, with_f, f_rests}

-- k p and k q over the words p and q
abbrev k_p : DTerm
k_p = node 4 [] (child_before (as_term (0, [])) stop)

abbrev k_q : DTerm
k_q = node 4 [] (child_before (as_term (1, [])) stop)

-- the operator of a node and the class of its first child, by which the nodes here are told apart
abbrev sign : DTerm → ℕ × ℕ
sign d = (d.op, get_or (child_classes d.args) 0 7)

abbrev with_k_p : State
with_k_p = made with_q k_p

abbrev with_k_q : State
with_k_q = made with_k_p k_q

p_child : IsFull with_q.nodes (0, [])
p_child = record { in_range = omega arith; slots = refl; injective = tt }

k_p_new : IsNew with_q.nodes k_p
k_p_new = record { operator = omega arith; children = (((0, []), refl, p_child), tt); shape_is_new = other }
  where
    other : (i : ℕ) → i < 2 → ¬ (shape (canonical_node with_q.nodes i) ≡ shape k_p)
    other zero l e = let n : ◌≡◌ {A = ℕ} 1 4 = ap (λ (t : DTerm). t.op) e in omega arith
    other (suc zero) l e = let n : ◌≡◌ {A = ℕ} 2 4 = ap (λ (t : DTerm). t.op) e in omega arith
    other (suc (suc i)) l e = omega arith

not_k_p : (r : Row) → Contains with_q.rows r → r.shape ≡ k_p → ⊥
not_k_p r c e = elim (contains_cases _ (_ ∷ []) r c) [
  | inl f ↦ let n : ◌≡◌ {A = ℕ} 2 4 = ap (λ (x : Row). x.shape.op) (sym f) ∙ ap (λ (t : DTerm). t.op) e in omega arith
  | inr d ↦ elim (contains_cases _ [] r d) [
    | inl f ↦ let n : ◌≡◌ {A = ℕ} 1 4 = ap (λ (x : Row). x.shape.op) (sym f) ∙ ap (λ (t : DTerm). t.op) e in omega arith
    | inr k ↦ Contains-nil r k
  ]
]

k_p_adds : Adds with_q k_p with_k_p
k_p_adds =
    files_row not_k_p
    (takes_turn starts (refiles 2 (contains_head 2 []) (λ s c. absurd (Contains-nil s c)) (λ r c n e. elim (contains_cases _ with_q.rows r c) [
      | inl f ↦ n (ap (λ (x : Row). x.source) f)
      | inr k ↦ not_k_p r k e
    ])))
    (refl, λ y c. absurd (Contains-nil y c))

k_p_rests : AtRest with_k_p
k_p_rests = (adds with_q q_rests k_p k_p_new with_k_p k_p_adds).rest

q_child : IsFull with_k_p.nodes (1, [])
q_child = record { in_range = omega arith; slots = refl; injective = tt }

k_q_new : IsNew with_k_p.nodes k_q
k_q_new = record { operator = omega arith; children = (((1, []), refl, q_child), tt); shape_is_new = other }
  where
    other : (i : ℕ) → i < 3 → ¬ (shape (canonical_node with_k_p.nodes i) ≡ shape k_q)
    other zero l e = let n : ◌≡◌ {A = ℕ} 1 4 = ap (λ (t : DTerm). t.op) e in omega arith
    other (suc zero) l e = let n : ◌≡◌ {A = ℕ} 2 4 = ap (λ (t : DTerm). t.op) e in omega arith
    other (suc (suc zero)) l e = let n : ◌≡◌ {A = ℕ} 0 1 = ap (λ (t : DTerm). (sign t).1) e in omega arith
    other (suc (suc (suc i))) l e = omega arith

not_k_q : (r : Row) → Contains with_k_p.rows r → r.shape ≡ k_q → ⊥
not_k_q r c e = elim (contains_cases _ with_q.rows r c) [
  | inl f ↦ let n : ◌≡◌ {A = ℕ} 0 1 = ap (λ (x : Row). (sign x.shape).1) (sym f) ∙ ap (λ (t : DTerm). (sign t).1) e in omega arith
  | inr d ↦ elim (contains_cases _ (_ ∷ []) r d) [
    | inl f ↦ let n : ◌≡◌ {A = ℕ} 2 4 = ap (λ (x : Row). x.shape.op) (sym f) ∙ ap (λ (t : DTerm). t.op) e in omega arith
    | inr h ↦ elim (contains_cases _ [] r h) [
      | inl f ↦ let n : ◌≡◌ {A = ℕ} 1 4 = ap (λ (x : Row). x.shape.op) (sym f) ∙ ap (λ (t : DTerm). t.op) e in omega arith
      | inr k ↦ Contains-nil r k
    ]
  ]
]

k_q_adds : Adds with_k_p k_q with_k_q
k_q_adds =
    files_row not_k_q
    (takes_turn starts (refiles 3 (contains_head 3 []) (λ s c. absurd (Contains-nil s c)) (λ r c n e. elim (contains_cases _ with_k_p.rows r c) [
      | inl f ↦ n (ap (λ (x : Row). x.source) f)
      | inr k ↦ not_k_q r k e
    ])))
    (refl, λ y c. absurd (Contains-nil y c))

k_q_rests : AtRest with_k_q
k_q_rests = (adds with_k_p k_p_rests k_q k_q_new with_k_q k_q_adds).rest

-- p is asserted to equal q: the row of k p waits
abbrev word_equation : Equation
word_equation = equation_of (0, []) (1, [])

abbrev asserted : State
asserted = with_assertion with_k_q word_equation

abbrev united : State
united = linked_state asserted word_equation 4 0 (touching asserted 0)

waits : united.waiting ≡ 2 ∷ []
waits = refl

not_asserted : (n : ℕ) → n < 4 → equation_at with_k_q.proofs n ≡ word_equation → ⊥
not_asserted zero l e = let n : ◌≡◌ {A = ℕ} 0 1 = ap (λ (x : Equation). x.right) e in omega arith
not_asserted (suc zero) l e = let n : ◌≡◌ {A = ℕ} 1 0 = ap (λ (x : Equation). x.left) e in omega arith
not_asserted (suc (suc zero)) l e = let n : ◌≡◌ {A = ℕ} 2 0 = ap (λ (x : Equation). x.left) e in omega arith
not_asserted (suc (suc (suc zero))) l e = let n : ◌≡◌ {A = ℕ} 3 0 = ap (λ (x : Equation). x.left) e in omega arith
not_asserted (suc (suc (suc (suc n)))) l e = omega arith

both_full : IsFull with_k_q.nodes (0, []) × IsFull with_k_q.nodes (1, [])
both_full = (record { in_range = omega arith; slots = refl; injective = tt }, record { in_range = omega arith; slots = refl; injective = tt })

asserted_sane : Sane asserted
asserted_sane =
    let r = both_full in
    entry-sane with_k_q k_q_rests.sane (record { equation = word_equation; step = explicit }) (can_assert with_k_q (0, []) (1, []) r.0 r.1 not_asserted)

words_united : Unites 4 asserted united
words_united = left_dies 4 0 (touching asserted 0) (λ e. omega arith) (record { left = λ s c. c; right = λ s c. c }) (omega arith, refl) none_died (touched-is asserted tt 0)
  where
    none_died : IsLater with_k_q.found 0
    none_died zero l d = absurd (d refl)
    none_died (suc zero) l d = absurd (d refl)
    none_died (suc (suc zero)) l d = absurd (d refl)
    none_died (suc (suc (suc zero))) l d = absurd (d refl)
    none_died (suc (suc (suc (suc i)))) l d = absurd (omega arith)

united_sane : Sane united
united_sane = (unites 4 words_united asserted_sane (omega arith)).sane

-- its normal form is that of k q, which is filed: so the turn of k p unites the two
abbrev row_of_k_q : Row
row_of_k_q = record { shape = k_q; source = 3; slots = [] }

now_k_q : normal_node united 2 ≡ k_q
now_k_q = refl

k_q_filed : Contains united.rows row_of_k_q
k_q_filed = contains_head row_of_k_q (record { shape = k_p; source = 2; slots = [] } ∷ record { shape = q; source = 1; slots = [] } ∷ record { shape = p; source = 0; slots = [] } ∷ [])

parents_turn : (h : State) × Turn united h
parents_turn =
    let x : CongruenceEntered united 2 3 = congruence-entered united united_sane 2 (omega arith) 3 (omega arith) refl in
    let u = union-ends x.number (with_proofs united x.proofs) (proofs-sane united united_sane x.proofs x.grow) x.congruence.stands.0 in
    (_, enters x.proofs x.grow (unites_parents 2 x.number row_of_k_q (contains_head 2 []) k_q_filed (λ e. omega arith) refl x.congruence u.1))

-- h (f x y) for the slots 2 and 3, over f x y
abbrev h : DTerm
h = node 5 [] (child_before (as_term (0, (0, 2) ∷ (1, 3) ∷ [])) stop)

abbrev pub with_h : State
with_h = made with_f h

f_child : IsFull with_f.nodes (0, (0, 2) ∷ (1, 3) ∷ [])
f_child = record { in_range = omega arith; slots = refl; injective = different 2 3 (λ e. omega arith) }
  where
    different : (x y : ℕ) → x ≢ y → IsInjectiveMap ((0, x) ∷ (1, y) ∷ [])
    different x y n = (
      λ k. elim k [
        | inl e ↦ n e
        | inr j ↦ j
      ],
      (λ j. j, tt),
    )

h_new : IsNew with_f.nodes h
h_new = record { operator = omega arith; children = (((0, (0, 2) ∷ (1, 3) ∷ []), refl, f_child), tt); shape_is_new = other }
  where
    other : (i : ℕ) → i < 1 → ¬ (shape (canonical_node with_f.nodes i) ≡ shape h)
    other zero l e = let n : ◌≡◌ {A = ℕ} 3 5 = ap (λ (t : DTerm). t.op) e in omega arith
    other (suc i) l e = omega arith

not_h : (r : Row) → Contains with_f.rows r → r.shape ≡ shape h → ⊥
not_h r c e = elim (contains_cases _ [] r c) [
  | inl x ↦ let n : ◌≡◌ {A = ℕ} 3 5 = ap (λ (y : Row). y.shape.op) (sym x) ∙ ap (λ (t : DTerm). t.op) e in omega arith
  | inr k ↦ Contains-nil r k
]

h_adds : Adds with_f h with_h
h_adds =
    files_row not_h
    (takes_turn starts (refiles 1 (contains_head 1 []) (λ s c. c) (λ r c n e. elim (contains_cases _ with_f.rows r c) [
      | inl x ↦ n (ap (λ (y : Row). y.source) x)
      | inr k ↦ not_h r k e
    ])))
    (refl, λ y c. absurd (Contains-nil y c))

pub h_rests : AtRest with_h
h_rests = (adds with_f f_rests h h_new with_h h_adds).rest

-- f 7 8 is asserted to equal f 7 9: the second slot of f is redundant, and the row of h waits
abbrev pub f_7_8 : Applied
f_7_8 = (0, (0, 7) ∷ (1, 8) ∷ [])

abbrev pub f_7_9 : Applied
f_7_9 = (0, (0, 7) ∷ (1, 9) ∷ [])

abbrev pub redundant : Equation
redundant = equation_of f_7_8 f_7_9

pub f_full : (x y : ℕ) → x ≢ y → IsFull with_h.nodes (0, (0, x) ∷ (1, y) ∷ [])
f_full x y n = record {
  in_range = omega arith;
  slots = refl;
  injective = (
    λ k. elim k [
      | inl e ↦ n e
      | inr j ↦ j
    ],
    (λ j. j, tt),
  );
}

not_redundant : (n : ℕ) → n < 2 → equation_at with_h.proofs n ≡ redundant → ⊥
not_redundant zero l e = let n : ◌≡◌ {A = ℕ} 2 1 = ap (λ (x : Equation). length x.pairs) e in omega arith
not_redundant (suc zero) l e = let n : ◌≡◌ {A = ℕ} 1 0 = ap (λ (x : Equation). x.left) e in omega arith
not_redundant (suc (suc n)) l e = omega arith

abbrev pub f_asserted : State
f_asserted = with_assertion with_h redundant

pub f_sane : Sane f_asserted
f_sane = entry-sane with_h h_rests.sane (record { equation = redundant; step = explicit }) (can_assert with_h f_7_8 f_7_9 (f_full 7 8 (λ e. omega arith)) (f_full 7 9 (λ e. omega arith)) not_redundant)

abbrev pub f_dropped : State
f_dropped = dropped_state f_asserted 0 (0 ∷ []) 2 (touching f_asserted 0)

pub not_zero : Contains {X = ℕ} (0 ∷ []) 1 → ⊥
not_zero c = elim (contains_cases 0 [] 1 c) [
  | inl e ↦ let n : ◌≡◌ {A = ℕ} 1 0 = e in omega arith
  | inr k ↦ Contains-nil 1 k
]

pub f_united : Unites 2 f_asserted f_dropped
f_united = drops_left 2 1 (touching f_asserted 0) (contains_tail 0 (1 ∷ []) 1 (contains_head 1 [])) not_zero (omega arith, refl) (touched-is f_asserted tt 0) (finds_alike refl refl)

pub dropped_sane : Sane f_dropped
dropped_sane = (unites 2 f_united f_sane (omega arith)).sane

h_waits : f_dropped.waiting ≡ 1 ∷ []
h_waits = refl

-- the node of h lacks the slot 3, which the class still uses: in its turn the class drops it
h_lacks : normal_node f_dropped 1 ≡ node 5 [] (child_before (as_term (0, (0, 2) ∷ [])) stop)
h_lacks = refl

not_two : Contains {X = ℕ} (2 ∷ []) 3 → ⊥
not_two c = elim (contains_cases 2 [] 3 c) [
  | inl e ↦ let n : ◌≡◌ {A = ℕ} 3 2 = e in omega arith
  | inr k ↦ Contains-nil 3 k
]

h_turn : (t : State) × Turn f_dropped t
h_turn =
    let x : CongruenceEntered f_dropped 1 1 = congruence-entered f_dropped dropped_sane 1 (omega arith) 1 (omega arith) refl in
    let u = union-ends x.number (with_proofs f_dropped x.proofs) (proofs-sane f_dropped dropped_sane x.proofs x.grow) x.congruence.stands.0 in
    (u.0, enters x.proofs x.grow (narrows 1 x.number 3 (contains_head 1 []) (contains_tail 2 (3 ∷ []) 3 (contains_head 3 [])) not_two x.congruence u.1))

-- f 7 8 and f 8 7 are asserted equal first, so a symmetry of f is listed; then the second slot of f is redundant as before
abbrev pub exchanged : Equation
exchanged = equation_of f_7_8 (0, (0, 8) ∷ (1, 7) ∷ [])

abbrev pub symmetric : State
symmetric = with_symmetry (with_assertion with_h exchanged) (symmetry_of (with_assertion with_h exchanged) exchanged 2)

abbrev pub exchange : Symmetry
exchange = record { class = 0; slots = 0 ∷ 1 ∷ []; pairs = (0, 1) ∷ (1, 0) ∷ []; proof = 2 }

pub not_identity : exchanged.pairs ≡ identity (0 ∷ 1 ∷ []) → ⊥
not_identity e = let n : ◌≡◌ {A = ℕ} 1 0 = ap (λ (m : List (ℕ × ℕ)). (get_or m 0 (0, 0)).1) e in omega arith

pub not_exchanged : (n : ℕ) → n < 2 → equation_at with_h.proofs n ≡ exchanged → ⊥
not_exchanged zero l e = not_identity (ap (λ (x : Equation). x.pairs) (sym e))
not_exchanged (suc zero) l e = let n : ◌≡◌ {A = ℕ} 1 0 = ap (λ (x : Equation). x.left) e in omega arith
not_exchanged (suc (suc n)) l e = omega arith

pub exchange_sane : Sane (with_assertion with_h exchanged)
exchange_sane = entry-sane with_h h_rests.sane (record { equation = exchanged; step = explicit }) (can_assert with_h f_7_8 (0, (0, 8) ∷ (1, 7) ∷ []) (f_full 7 8 (λ e. omega arith)) (f_full 8 7 (λ e. omega arith)) not_exchanged)

pub both_slots : (s : ℕ) → Contains (0 ∷ 1 ∷ []) s → Contains (1 ∷ 0 ∷ []) s
both_slots s c = elim (contains_cases 0 (1 ∷ []) s c) [
  | inl e ↦ subst (Contains (1 ∷ 0 ∷ [])) (sym e) (contains_tail 1 (0 ∷ []) 0 (contains_head 0 []))
  | inr k ↦ elim (contains_cases 1 [] s k) [
    | inl e ↦ subst (Contains (1 ∷ 0 ∷ [])) (sym e) (contains_head 1 (0 ∷ []))
    | inr j ↦ absurd (Contains-nil s j)
  ]
]

exchange_listed : Unites 2 (with_assertion with_h exchanged) symmetric
exchange_listed = lists 2 refl (record { left = λ s c. c; right = both_slots }) not_identity (λ y c. absurd (Contains-nil y c)) (omega arith, refl)

pub symmetric_sane : Sane symmetric
symmetric_sane = (unites 2 exchange_listed exchange_sane (omega arith)).sane

pub not_redundant_too : (n : ℕ) → n < 3 → equation_at symmetric.proofs n ≡ redundant → ⊥
not_redundant_too zero l e = not_redundant 0 (omega arith) e
not_redundant_too (suc zero) l e = not_redundant 1 (omega arith) e
not_redundant_too (suc (suc zero)) l e = let n : ◌≡◌ {A = ℕ} 2 1 = ap (λ (x : Equation). length x.pairs) e in omega arith
not_redundant_too (suc (suc (suc n))) l e = omega arith

abbrev pub narrowed : State
narrowed = dropped_state (with_assertion symmetric redundant) 0 (0 ∷ []) 3 (touching symmetric 0)

narrowed_united : Unites 3 (with_assertion symmetric redundant) narrowed
narrowed_united = drops_left 3 1 (touching symmetric 0) (contains_tail 0 (1 ∷ []) 1 (contains_head 1 [])) not_zero (omega arith, refl) (touched-is (with_assertion symmetric redundant) tt 0) (finds_alike refl refl)

pub narrowed_sane : Sane narrowed
narrowed_sane =
    (unites 3 narrowed_united
    (entry-sane symmetric symmetric_sane (record { equation = redundant; step = explicit }) (can_assert symmetric f_7_8 f_7_9 (f_full 7 8 (λ e. omega arith)) (f_full 7 9 (λ e. omega arith)) not_redundant_too))
    (omega arith)).sane

-- now the sides of the symmetry find different names, so it is acted on
pub not_aligned : IsAligned narrowed exchange → ⊥
not_aligned e = let n : ◌≡◌ {A = ℕ} 0 1 = ap (λ (xs : List ℕ). get_or xs 0 7) e in omega arith

pub symmetry_acts : (t : State) × Acts narrowed t
symmetry_acts =
    let u = union-ends 2 narrowed narrowed_sane (omega arith) in
    (u.0, acts exchange (contains_head exchange []) not_aligned u.1)
