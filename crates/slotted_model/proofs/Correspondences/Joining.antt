-- Transitive steps that can always be made, the proof of a find, and the test of a transitive step.
use Rattle.std.proofs.Common.{◌≡◌, ℕ, List, [], ◌∷◌, Bool, true, false, sym, ◌∙◌, ap, refl, subst, inl, inr}
use Rattle.std.specs.Prelude.{Contains, option_map, ◌&&◌, ◌||◌, not, nat_eq, IsTrue, ◌↔◌}
use Rattle.std.specs.List.{list_any, list_all, cons_option}
use Rattle.std.specs.Map.{keys_of, values_of}
use Rattle.std.proofs.lemmas.Bool.{and_parts, and_from, or_cases, or_left, or_right, eqb-true, eq-eqb, false≢true}
use Rattle.slotted_lists.proofs.Contained.{contains_head, contains_tail, contains_cases, Contains-nil}
use Rattle.slotted_model.specs.Correspondence.{IsFullMap, composite, turned, same_names, IsPartialInjection, CanJoin, has_pair, has_slot, can_join}
use Rattle.slotted_model.proofs.Correspondences.Pairs.{Contains-value, Contains-of_key, Contains-of_value, value_of-found}
use Rattle.slotted_model.proofs.Correspondences.PartialInjections.{composite-in_order, in_order-ext, one_partner, composite-over, composite-by, turned-pair, turned-by, turned-composite}
use Rattle.slotted_model.proofs.Correspondences.FullMaps.{full-one_name, full-slot, full-in_order, full-name, full-one_slot, full-from, same_names-over, same_names-by}

-- two halves can be joined to their composite
pub composite-can_join : (A1 A2 : List (ℕ × ℕ)) → CanJoin (composite A1 A2) A1 A2
composite-can_join A1 A2 = record { within = λ s u c. c; from_left = λ s u c d. c; from_right = λ s u c d. c }

-- maps that agree over live slots S can be joined over them, whatever names they share at other slots
pub bridge : (S P Q : List ℕ) (φ ψ m n : List (ℕ × ℕ)) → IsPartialInjection S P φ → IsPartialInjection S Q ψ → IsFullMap P m → IsFullMap Q n → composite φ m ≡ composite ψ n → CanJoin (same_names m n) (turned P φ) ψ
bridge S P Q φ ψ m n a b f g e = record {
  within = λ s u c.
      let r = composite-over (turned P φ) ψ s u c in
      let l = turned-pair P φ r.0 s r.1 in
      let x = full-name P m f s (a.within r.0 s l) in
      let q = to_right r.0 s x.0 l x.1 in
      same_names-by Q m n g s u x.0 x.1 (subst (λ t. Contains n (t, x.0)) (one_partner S ψ b.in_order r.0 q.0 u q.1 r.2) q.2);
  from_left = λ s u c d.
      let x = same_names-over m n s u c in
      let r = Contains-of_key (turned P φ) s d in
      let q = to_right r.0 s x.0 (turned-pair P φ r.0 s r.1) x.1 in
      composite-by S (turned P φ) ψ b.in_order s r.0 u r.1 (subst (λ t. Contains ψ (r.0, t)) (full-one_slot Q n g q.0 u x.0 q.2 x.2) q.1);
  from_right = λ s u c d.
      let x = same_names-over m n s u c in
      let r = Contains-of_value ψ u d in
      let q = to_left r.0 u x.0 r.1 x.2 in
      composite-by S (turned P φ) ψ b.in_order s r.0 u
      (turned-by S P φ a r.0 s (subst (λ t. Contains φ (r.0, t)) (full-one_slot P m f q.0 s x.0 q.2 x.1) q.1)) r.1;
}
  where
    to_right : (c s x : ℕ) → Contains φ (c, s) → Contains m (s, x) → (t : ℕ) × Contains ψ (c, t) × Contains n (t, x)
    to_right c s x l h = composite-over ψ n c x (subst (λ L. Contains L (c, x)) e (composite-by P φ m (full-in_order P m f) c s x l h))

    to_left : (c u x : ℕ) → Contains ψ (c, u) → Contains n (u, x) → (s : ℕ) × Contains φ (c, s) × Contains m (s, x)
    to_left c u x l h = composite-over φ m c x (subst (λ L. Contains L (c, x)) (sym e) (composite-by Q ψ n (full-in_order Q n g) c u x l h))

-- maps that share names exactly over live slots K agree over them
pub joined-agree : (K P Q : List ℕ) (φ ψ m n : List (ℕ × ℕ)) → IsFullMap K φ → IsFullMap K ψ → IsPartialInjection K P φ → IsPartialInjection K Q ψ → IsFullMap P m → IsFullMap Q n → same_names m n ≡ composite (turned P φ) ψ → composite φ m ≡ composite ψ n
joined-agree K P Q φ ψ m n h k a b f g e =
    in_order-ext K (composite φ m) (composite ψ n) (composite-in_order K φ m a.in_order) (composite-in_order K ψ n b.in_order)
    (λ x v c.
    let r = composite-over φ m x v c in
    let t = full-name K ψ k x (full-slot K φ h x r.0 r.1) in
    let y = shared x r.0 t.0 r.1 t.1 in
    composite-by Q ψ n (full-in_order Q n g) x t.0 v t.1 (subst (λ w. Contains n (t.0, w)) (full-one_name P m f r.0 y.0 v y.1 r.2) y.2))
    (λ x v c.
    let r = composite-over ψ n x v c in
    let s = full-name K φ h x (full-slot K ψ k x r.0 r.1) in
    let y = shared x s.0 r.0 s.1 r.1 in
    composite-by P φ m (full-in_order P m f) x s.0 v s.1 (subst (λ w. Contains m (s.0, w)) (full-one_name Q n g r.0 y.0 v y.2 r.2) y.1))
  where
    shared : (x s t : ℕ) → Contains φ (x, s) → Contains ψ (x, t) → (w : ℕ) × Contains m (s, w) × Contains n (t, w)
    shared x s t c d = same_names-over m n s t
        (subst (λ A. Contains A (s, t)) (sym e) (composite-by K (turned P φ) ψ b.in_order s x t (turned-by K P φ a x s c) d))

-- back over live slots and forth again each of them stays
pub back_and_forth : (K P : List ℕ) (φ : List (ℕ × ℕ)) → IsPartialInjection K P φ → (s t : ℕ) → Contains (composite (turned P φ) φ) (s, t) ↔ (Contains (values_of φ) s × (s ≡ t))
back_and_forth K P φ a s t = (
  λ c.
      let r = composite-over (turned P φ) φ s t c in
      let h = turned-pair P φ r.0 s r.1 in
      (Contains-value φ r.0 s h, one_partner K φ a.in_order r.0 s t h r.2),
  λ h.
      let r = Contains-of_value φ s h.0 in
      composite-by K (turned P φ) φ a.in_order s r.0 t (turned-by K P φ a r.0 s r.1) (subst (λ y. Contains φ (r.0, y)) h.1 r.1),
)

-- the correspondence of one find after another is that of the composed map
pub find_composite : (S T P : List ℕ) (φ μ : List (ℕ × ℕ)) → IsPartialInjection S T φ → IsPartialInjection T P μ → composite (turned P μ) (turned T φ) ≡ turned P (composite φ μ)
find_composite S T P φ μ a b = sym (turned-composite S T P φ μ a b)

-- the composed map has a name for each slot
composite-keys : (φ μ : List (ℕ × ℕ)) → ((t : ℕ) → Contains (values_of φ) t → Contains (keys_of μ) t) → keys_of (composite φ μ) ≡ keys_of φ
composite-keys [] μ h = refl
composite-keys (p ∷ φ) μ h =
    let k = Contains-of_key μ p.1 (h p.1 (contains_head p.1 (values_of φ))) in
    let v = value_of-found μ p.1 k.0 k.1 in
    ap (λ o. keys_of (cons_option (option_map (λ u. (p.0, u)) o) (composite φ μ))) v.1
    ∙ ap (λ L. p.0 ∷ L) (composite-keys φ μ (λ t c. h t (contains_tail p.1 (values_of φ) t c)))

pub composite-full : (S T P : List ℕ) (φ μ : List (ℕ × ℕ)) → IsFullMap S φ → IsPartialInjection T P μ → ((t : ℕ) → Contains (values_of φ) t → Contains (keys_of μ) t) → IsFullMap S (composite φ μ)
composite-full S T P φ μ f b h =
    full-from S (composite φ μ) (composite-keys φ μ h ∙ f.slots) f.once
    (λ s s' x c d.
    let r = composite-over φ μ s x c in
    let q = composite-over φ μ s' x d in
    full-one_slot S φ f s s' q.0 (subst (λ t. Contains φ (s, t)) (b.injective r.0 q.0 x r.2 q.2) r.1) q.1)

-- what a test of a whole list says
list_any-at : {X : Type 0} (f : X → Bool) (xs : List X) (x : X) → Contains xs x → f x ≡ true → list_any f xs ≡ true
list_any-at f [] x c e = absurd (Contains-nil x c)
list_any-at f (y ∷ ys) x c e = elim (contains_cases y ys x c) [
  | inl p ↦ or_left (f y) (list_any f ys) (ap f (sym p) ∙ e)
  | inr h ↦ or_right (f y) (list_any f ys) (list_any-at f ys x h e)
]

at_list_any : {X : Type 0} (f : X → Bool) (xs : List X) → list_any f xs ≡ true → (x : X) × Contains xs x × (f x ≡ true)
at_list_any f [] e = absurd (false≢true e)
at_list_any f (y ∷ ys) e = elim (or_cases (f y) (list_any f ys) e) [
  | inl p ↦ (y, contains_head y ys, p)
  | inr h ↦
      let r : (x : _) × Contains ys x × (f x ≡ true) = at_list_any f ys h in
      (r.0, contains_tail y ys r.0 r.1, r.2)
]

list_all-at : {X : Type 0} (f : X → Bool) (xs : List X) → list_all f xs ≡ true → (x : X) → Contains xs x → f x ≡ true
list_all-at f [] e x c = absurd (Contains-nil x c)
list_all-at f (y ∷ ys) e x c =
    let p = and_parts (f y) (list_all f ys) e in
    elim (contains_cases y ys x c) [
      | inl q ↦ ap f q ∙ p.0
      | inr h ↦ list_all-at f ys p.1 x h
    ]

list_all-from : {X : Type 0} (f : X → Bool) (xs : List X) → ((x : X) → Contains xs x → f x ≡ true) → list_all f xs ≡ true
list_all-from f [] h = refl
list_all-from f (y ∷ ys) h = and_from (f y) (list_all f ys) (h y (contains_head y ys)) (list_all-from f ys (λ x c. h x (contains_tail y ys x c)))

-- the tests of a pair and of a slot
has_pair-at : (A : List (ℕ × ℕ)) (p : ℕ × ℕ) → Contains A p → has_pair A p ≡ true
has_pair-at A p c = list_any-at (λ q. nat_eq q.0 p.0 && nat_eq q.1 p.1) A p c (and_from _ _ (eq-eqb p.0 p.0 refl) (eq-eqb p.1 p.1 refl))

at_has_pair : (A : List (ℕ × ℕ)) (p : ℕ × ℕ) → has_pair A p ≡ true → Contains A p
at_has_pair A p e =
    let r = at_list_any (λ q. nat_eq q.0 p.0 && nat_eq q.1 p.1) A e in
    let h = and_parts (nat_eq r.0.0 p.0) (nat_eq r.0.1 p.1) r.2 in
    subst (Contains A) (λ i. (eqb-true r.0.0 p.0 h.0 i, eqb-true r.0.1 p.1 h.1 i)) r.1

has_slot-at : (P : List ℕ) (s : ℕ) → Contains P s → has_slot P s ≡ true
has_slot-at P s c = list_any-at (nat_eq s) P s c (eq-eqb s s refl)

at_has_slot : (P : List ℕ) (s : ℕ) → has_slot P s ≡ true → Contains P s
at_has_slot P s e =
    let r = at_list_any (nat_eq s) P e in
    subst (Contains P) (sym (eqb-true s r.0 r.2)) r.1

-- what the test asks of one pair: it stands in the one list, or its slots stand in neither of the others
passes : (b c d : Bool) → (c ≡ true → b ≡ true) → (d ≡ true → b ≡ true) → (b || not (c || d)) ≡ true
passes true c d h k = refl
passes false true d h k = absurd (false≢true (h refl))
passes false false true h k = absurd (false≢true (k refl))
passes false false false h k = refl

passes-left : (b c d : Bool) → (b || not (c || d)) ≡ true → c ≡ true → b ≡ true
passes-left true c d e p = refl
passes-left false true d e p = absurd (false≢true e)
passes-left false false d e p = absurd (false≢true p)

passes-right : (b c d : Bool) → (b || not (c || d)) ≡ true → d ≡ true → b ≡ true
passes-right true c d e p = refl
passes-right false true d e p = absurd (false≢true e)
passes-right false false true e p = absurd (false≢true e)
passes-right false false false e p = absurd (false≢true p)

-- the test of a transitive step answers yes exactly where it can be made
pub can_join_iff : (A A1 A2 : List (ℕ × ℕ)) → IsTrue (can_join A A1 A2) ↔ CanJoin A A1 A2
can_join_iff A A1 A2 = (
  λ e.
      let h = and_parts (list_all (has_pair A) (composite A1 A2)) (list_all asked A) e in
      record {
        within = λ s u c. at_has_pair A (s, u) (list_all-at (has_pair A) (composite A1 A2) h.0 (s, u) c);
        from_left = λ s u c d.
            at_has_pair (composite A1 A2) (s, u) (passes-left (has_pair (composite A1 A2) (s, u)) (has_slot (keys_of A1) s) (has_slot (values_of A2) u) (list_all-at asked A h.1 (s, u) c) (has_slot-at (keys_of A1) s d));
        from_right = λ s u c d.
            at_has_pair (composite A1 A2) (s, u) (passes-right (has_pair (composite A1 A2) (s, u)) (has_slot (keys_of A1) s) (has_slot (values_of A2) u) (list_all-at asked A h.1 (s, u) c) (has_slot-at (values_of A2) u d));
      },
  λ j. and_from (list_all (has_pair A) (composite A1 A2)) (list_all asked A)
      (list_all-from (has_pair A) (composite A1 A2) (λ p c. has_pair-at A p (j.within p.0 p.1 c)))
      (list_all-from asked A (λ p c. passes (has_pair (composite A1 A2) p) (has_slot (keys_of A1) p.0) (has_slot (values_of A2) p.1)
      (λ e. has_pair-at (composite A1 A2) p (j.from_left p.0 p.1 c (at_has_slot (keys_of A1) p.0 e)))
      (λ e. has_pair-at (composite A1 A2) p (j.from_right p.0 p.1 c (at_has_slot (values_of A2) p.1 e))))),
)
  where
    asked : ℕ × ℕ → Bool
    asked p = has_pair (composite A1 A2) p || not (has_slot (keys_of A1) p.0 || has_slot (values_of A2) p.1)
