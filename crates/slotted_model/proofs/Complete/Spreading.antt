-- The test of affected classes says yes to just the affected ones.
use Rattle.std.proofs.Common.{◌≡◌, ◌↔◌, ℕ, zero, suc, ◌<◌, ◌≤◌, List, [], ◌∷◌, ◌++◌, Bool, true, false, length, sym, ◌∙◌, ap, refl, subst, arith, inl, inr}
use Rattle.std.specs.Prelude.{map, filter, not, ◌||◌, nat_eq, IsTrue}
use Rattle.std.specs.List.{list_any}
use Rattle.std.proofs.lemmas.Bool.{cases_Bool, or_cases, false≢true, eq-eqb, eqb-true}
use Rattle.slotted_lists.proofs.Members.{In, In-left, In-right, In-append, In-map, In-of_map, In-Contains, Contains-In, In-filter as In-of_filter}
use Rattle.slotted_lists.proofs.Booleans.{or-false}
use Rattle.slotted_lists.proofs.Lists.{filter-yes, filter-no}
use Rattle.slotted_model.specs.Applied.{Applied, as_term}
use Rattle.slotted_model.specs.Correspondence.{has_slot}
use Rattle.slotted_model.specs.Find.{Entry, find_class, find}
use Rattle.slotted_model.specs.State.{Row, Symmetry, State, left_of, right_of, child_classes}
use Rattle.slotted_model.specs.Rest.{IsOpen, IsAffected, by_symmetry, by_child, CoversAffected}
use Rattle.slotted_model.specs.Affected.{id_eq, is_open, open_classes, stands_over, spread, is_affected}
use Rattle.slotted_model.proofs.Represented.Ids.{term_eq-true, term_eq-same}
use Rattle.slotted_model.proofs.Represented.Folds.{as_term-same}
use Rattle.slotted_model.proofs.Rebuilding.Affected.{affected-marked}

-- some element passes a test
any-some : {X : Type 0} (p : X → Bool) (xs : List X) → list_any p xs ≡ true → (x : X) × In x xs × (p x ≡ true)
any-some p [] e = absurd (false≢true e)
any-some p (x ∷ xs) e = elim (or_cases (p x) (list_any p xs) e) [
  | inl h ↦ (x, inl refl, h)
  | inr h ↦ let r = any-some p xs h in (r.0, inr r.1, r.2)
]

or-right : (x : Bool) → (x || true) ≡ true
or-right true = refl
or-right false = refl

any-by : {X : Type 0} (p : X → Bool) (xs : List X) (x : X) → In x xs → p x ≡ true → list_any p xs ≡ true
any-by p [] x h e = absurd h
any-by p (y ∷ xs) x (inl q) e = ap (λ b. b || list_any p xs) (ap p (sym q) ∙ e)
any-by p (y ∷ xs) x (inr h) e = ap (λ b. p y || b) (any-by p xs x h e) ∙ or-right (p y)

pub has_slot-in : (cs : List ℕ) (c : ℕ) → has_slot cs c ≡ true → In c cs
has_slot-in cs c e =
    let r : (x : ℕ) × In x cs × (nat_eq c x ≡ true) = any-some (nat_eq c) cs e in
    subst (λ x. In x cs) (sym (eqb-true c r.0 r.2)) r.1

pub in-has_slot : (cs : List ℕ) (c : ℕ) → In c cs → has_slot cs c ≡ true
in-has_slot cs c h = any-by (nat_eq c) cs c h (eq-eqb c c refl)

In-filter : {X : Type 0} (p : X → Bool) (xs : List X) (x : X) → In x xs → p x ≡ true → In x (filter p xs)
In-filter p [] x h e = absurd h
In-filter p (y ∷ xs) x (inl q) e = subst (In x) (sym (filter-yes p y xs (ap p (sym q) ∙ e))) (inl q)
In-filter p (y ∷ xs) x (inr h) e = elim (cases_Bool (p y)) [
  | inl t ↦ subst (In x) (sym (filter-yes p y xs t)) (inr (In-filter p xs x h e))
  | inr f ↦ subst (In x) (sym (filter-no p y xs f)) (In-filter p xs x h e)
]

-- a filter by the converse of a test: all stay where none passes, and some go where one does
filter-none : {X : Type 0} (p : X → Bool) (xs : List X) → list_any p xs ≡ false → (filter p xs ≡ []) × (filter (λ x. not (p x)) xs ≡ xs)
filter-none p [] e = (refl, refl)
filter-none p (x ∷ xs) e =
    let o : (p x ≡ false) × (list_any p xs ≡ false) = or-false (p x) (list_any p xs) e in
    let r : (filter p xs ≡ []) × (filter (λ y. not (p y)) xs ≡ xs) = filter-none p xs o.1 in
    (filter-no p x xs o.0 ∙ r.0, filter-yes (λ y. not (p y)) x xs (ap not o.0) ∙ ap (λ ys. x ∷ ys) r.1)

filter-length : {X : Type 0} (p : X → Bool) (xs : List X) → length (filter p xs) ≤ length xs
filter-length p [] = omega arith
filter-length p (x ∷ xs) = elim (cases_Bool (p x)) [
  | inl t ↦ omega (arith, filter-length p xs, ap length (filter-yes p x xs t))
  | inr f ↦ omega (arith, filter-length p xs, ap length (filter-no p x xs f))
]

filter-fewer : {X : Type 0} (p : X → Bool) (xs : List X) → list_any p xs ≡ true → length (filter (λ x. not (p x)) xs) < length xs
filter-fewer p [] e = absurd (false≢true e)
filter-fewer p (x ∷ xs) e = elim (cases_Bool (p x)) [
  | inl t ↦ omega (arith, filter-length (λ y. not (p y)) xs, ap length (filter-no (λ y. not (p y)) x xs (ap not t)))
  | inr f ↦ omega (arith, filter-fewer p xs (ap (λ b. b || list_any p xs) (sym f) ∙ e), ap length (filter-yes (λ y. not (p y)) x xs (ap not f)))
]

module _ (found : List Entry) where
  abbrev class_of : Row → ℕ
  class_of r = find_class found r.source

  -- what is in the list stays
  spread-keeps : (n : ℕ) (rows : List Row) (cs : List ℕ) (c : ℕ) → In c cs → In c (spread found n rows cs)
  spread-keeps zero rows cs c h = h
  spread-keeps (suc n) rows cs c h =
      spread-keeps n (filter (λ r. not (stands_over cs r)) rows) (map class_of (filter (stands_over cs) rows) ++ cs) c (In-right c (map class_of (filter (stands_over cs) rows)) cs h)

  -- and where no row stands over the list, it is the whole list
  spread-ends : (n : ℕ) (rows : List Row) (cs : List ℕ) → list_any (stands_over cs) rows ≡ false → spread found n rows cs ≡ cs
  spread-ends zero rows cs e = refl
  spread-ends (suc n) rows cs e =
      let r : (filter (stands_over cs) rows ≡ []) × (filter (λ x. not (stands_over cs x)) rows ≡ rows) = filter-none (stands_over cs) rows e in
      (λ i. spread found n (r.1 i) (map class_of (r.0 i) ++ cs)) ∙ spread-ends n rows cs e

  -- with a round for each row, the list has the class of each row over it
  spread-closed : (n : ℕ) (rows : List Row) (cs : List ℕ) → length rows ≤ n → (r : Row) → In r rows → stands_over (spread found n rows cs) r ≡ true → In (class_of r) (spread found n rows cs)
  spread-closed zero [] cs l r h e = absurd h
  spread-closed zero (x ∷ rows) cs l r h e = absurd (omega arith)
  spread-closed (suc n) rows cs l r h e =
      let over : List Row = filter (stands_over cs) rows in
      let others : List Row = filter (λ x. not (stands_over cs x)) rows in
      let more : List ℕ = map class_of over ++ cs in
      elim (cases_Bool (list_any (stands_over cs) rows)) [
        | inl some ↦ elim (cases_Bool (stands_over cs r)) [
          | inl t ↦ spread-keeps n others more (class_of r) (In-left (class_of r) (map class_of over) cs (In-map class_of over r (In-filter (stands_over cs) rows r h t)))
          | inr f ↦ spread-closed n others more (omega (arith, filter-fewer (stands_over cs) rows some)) r (In-filter (λ x. not (stands_over cs x)) rows r h (ap not f)) e
        ]
        | inr none ↦
            let same : spread found (suc n) rows cs ≡ cs = spread-ends (suc n) rows cs none in
            absurd (false≢true (sym none ∙ any-by (stands_over cs) rows r h (ap (λ x. stands_over x r) (sym same) ∙ e)))
      ]

  -- what holds of the list, and of the class of each row over a class of which it holds, holds of all that is reached
  spread-each : (P : ℕ → Type 0) (n : ℕ) (rows : List Row) (cs : List ℕ) → ((c : ℕ) → In c cs → P c) →
      ((r : Row) (c : ℕ) → In r rows → In c (child_classes r.shape.args) → P c → P (class_of r)) → (c : ℕ) → In c (spread found n rows cs) → P c
  spread-each P zero rows cs here up c h = here c h
  spread-each P (suc n) rows cs here up c h =
      let over : List Row = filter (stands_over cs) rows in
      spread-each P n (filter (λ x. not (stands_over cs x)) rows) (map class_of over ++ cs)
      (λ d k. elim (In-append d (map class_of over) cs k) [
        | inl m ↦
            let r : (x : Row) × In x over × (d ≡ class_of x) = In-of_map class_of over d m in
            let q : In r.0 rows × (stands_over cs r.0 ≡ true) = In-of_filter (stands_over cs) rows r.0 r.1 in
            let s : (e : ℕ) × In e (child_classes r.0.shape.args) × (has_slot cs e ≡ true) = any-some (has_slot cs) (child_classes r.0.shape.args) q.1 in
            subst P (sym r.2) (up r.0 s.0 q.0 s.1 (here s.0 (has_slot-in cs s.0 s.2)))
        | inr m ↦ here d m
      ])
      (λ r d k. up r d (In-of_filter (λ x. not (stands_over cs x)) rows r k).0)
      c h

-- a symmetry tests open exactly if it is
pub id_eq-same : (a b : Applied) → id_eq a b ≡ true → a ≡ b
id_eq-same a b e = as_term-same a b (term_eq-true (as_term a) (as_term b) e)

open-is_open : (g : State) (y : Symmetry) → IsOpen g y → is_open g y ≡ true
open-is_open g y o = elim (cases_Bool (id_eq (find g.found (left_of y)) (find g.found (right_of y)))) [
  | inl t ↦ absurd (o (id_eq-same (find g.found (left_of y)) (find g.found (right_of y)) t))
  | inr f ↦ ap not f
]

is_open-open : (g : State) (y : Symmetry) → is_open g y ≡ true → IsOpen g y
is_open-open g y t e = absurd (false≢true (sym (ap not (term_eq-same (as_term (find g.found (left_of y))) (as_term (find g.found (right_of y))) (ap as_term e))) ∙ t))

module _ (g : State) where
  abbrev reached : List ℕ
  reached = spread g.found (length g.rows) g.rows (open_classes g)

  -- the test says yes to the class of each open symmetry, and to that of each row over a class to which it says yes
  pub is_affected-covers : CoversAffected g (is_affected g)
  is_affected-covers = record {
    symmetries = λ y c o.
        let class : Symmetry → ℕ = λ x. find_class g.found x.class in
        let h : In (class y) (open_classes g) = In-map class (filter (is_open g) g.symmetries) y (In-filter (is_open g) g.symmetries y (In-Contains g.symmetries y c) (open-is_open g y o)) in
        in-has_slot reached (class y) (spread-keeps g.found (length g.rows) g.rows (open_classes g) (class y) h);
    parents = λ r c h k m.
        in-has_slot reached (find_class g.found r.source)
        (spread-closed g.found (length g.rows) g.rows (open_classes g) (omega arith) r (In-Contains g.rows r h) (any-by (has_slot reached) (child_classes r.shape.args) c (In-Contains (child_classes r.shape.args) c k) m));
  }

  affected-of : (c : ℕ) → is_affected g c ≡ true → IsAffected g c
  affected-of c e =
      spread-each g.found (IsAffected g) (length g.rows) g.rows (open_classes g)
      (λ d h.
      let class : Symmetry → ℕ = λ x. find_class g.found x.class in
      let r : (y : Symmetry) × In y (filter (is_open g) g.symmetries) × (d ≡ class y) = In-of_map class (filter (is_open g) g.symmetries) d h in
      let q : In r.0 g.symmetries × (is_open g r.0 ≡ true) = In-of_filter (is_open g) g.symmetries r.0 r.1 in
      subst (IsAffected g) (sym r.2) (by_symmetry r.0 (Contains-In g.symmetries r.0 q.0) (is_open-open g r.0 q.1)))
      (λ r d h k a. by_child r (Contains-In g.rows r h) (Contains-In (child_classes r.shape.args) d k) a)
      c (has_slot-in reached c e)

  -- and to no class that is not affected
  pub is_affected-iff : (c : ℕ) → IsTrue (is_affected g c) ↔ IsAffected g c
  is_affected-iff c = (affected-of c, affected-marked g (is_affected g) is_affected-covers)
