-- Full maps: what is found in them, the map with other names, and the correspondence of two of them.
use Rattle.std.proofs.Common.{◌≡◌, ℕ, List, [], ◌∷◌, sym, ◌∙◌, ap, refl, subst, inl, inr}
use Rattle.std.specs.Prelude.{◌↔◌, Contains, option_map, ◌++◌}
use Rattle.std.specs.List.{cons_option}
use Rattle.std.specs.Map.{keys_of, values_of}
use Rattle.std.proofs.lemmas.List.Elements.{Contains-append_left, Contains-append_right}
use Rattle.slotted_lists.proofs.Contained.{contains_head, contains_tail, contains_cases, Contains-nil, Contains-map}
use Rattle.slotted_lists.proofs.Maps.{value_of-first, value_of-rest, with_values-pair}
use Rattle.slotted_theory.specs.FiniteMaps.{value_of, HasValue, IsInjectiveMap, with_values}
use Rattle.slotted_model.specs.Correspondence.{AllDifferent, IsFullMap, IsInjectiveOn, pairs_on, flipped, turned, same_names, IsPartialInjection, identity}
use Rattle.slotted_model.proofs.Correspondences.Pairs.{Contains-composite, Contains-flipped, Contains-of_flipped, Contains-key, Contains-of_key, Contains-value, value_of-only, pairs_on-agree}
use Rattle.slotted_model.proofs.Correspondences.PartialInjections.{in_order-ext, one_partner, composite-in_order, composite-over, pairs_on-in_order, turned-pair, turned-by, identity-in_order, identity-pair, identity-by, identity-both}

-- a value of a map stands at a key
pub HasValue-at : (m : List (ℕ × ℕ)) (s x : ℕ) → Contains m (s, x) → HasValue m x
HasValue-at [] s x c = absurd (Contains-nil (s, x) c)
HasValue-at (p ∷ m) s x c = elim (contains_cases p m (s, x) c) [
  | inl e ↦ inl (ap (λ q. q.1) e)
  | inr h ↦ inr (HasValue-at m s x h)
]

pub at_HasValue : (m : List (ℕ × ℕ)) (x : ℕ) → HasValue m x → (s : ℕ) × Contains m (s, x)
at_HasValue [] x h = absurd h
at_HasValue (p ∷ m) x (inl e) = (p.0, subst (λ y. Contains (p ∷ m) (p.0, y)) (sym e) (contains_head p m))
at_HasValue (p ∷ m) x (inr h) =
    let r : (s : ℕ) × Contains m (s, x) = at_HasValue m x h in
    (r.0, contains_tail p m (r.0, x) r.1)

-- a map has no value twice exactly if no two keys have one value
pub injective_map-keys : (m : List (ℕ × ℕ)) → IsInjectiveMap m → (s s' x : ℕ) → Contains m (s, x) → Contains m (s', x) → s ≡ s'
injective_map-keys [] i s s' x c d = absurd (Contains-nil (s, x) c)
injective_map-keys (p ∷ m) i s s' x c d = elim (contains_cases p m (s, x) c) [
  | inl e ↦ elim (contains_cases p m (s', x) d) [
    | inl f ↦ ap (λ q. q.0) e ∙ sym (ap (λ q. q.0) f)
    | inr k ↦ absurd (i.0 (subst (HasValue m) (ap (λ q. q.1) e) (HasValue-at m s' x k)))
  ]
  | inr h ↦ elim (contains_cases p m (s', x) d) [
    | inl f ↦ absurd (i.0 (subst (HasValue m) (ap (λ q. q.1) f) (HasValue-at m s x h)))
    | inr k ↦ injective_map-keys m i.1 s s' x h k
  ]
]

pub injective_map-from : (m : List (ℕ × ℕ)) → AllDifferent (keys_of m) → ((s s' x : ℕ) → Contains m (s, x) → Contains m (s', x) → s ≡ s') → IsInjectiveMap m
injective_map-from [] d h = tt
injective_map-from (p ∷ m) d h = (
  λ v.
      let r : (s : ℕ) × Contains m (s, p.1) = at_HasValue m p.1 v in
      let e : r.0 ≡ p.0 = h r.0 p.0 p.1 (contains_tail p m (r.0, p.1) r.1) (contains_head p m) in
      d.0 (subst (λ s. Contains (keys_of m) s) e (Contains-key m r.0 p.1 r.1)),
  injective_map-from m d.1 (λ s s' x b c. h s s' x (contains_tail p m (s, x) b) (contains_tail p m (s', x) c)),
)

-- a map with no key twice is in the order of its keys
pub keys-in_order : (m : List (ℕ × ℕ)) → AllDifferent (keys_of m) → pairs_on (keys_of m) (value_of m) ≡ m
keys-in_order [] d = refl
keys-in_order (p ∷ m) d =
    let rest : pairs_on (keys_of m) (value_of (p ∷ m)) ≡ m = pairs_on-agree (keys_of m) (value_of (p ∷ m)) (value_of m)
    (λ s c. value_of-rest p m s (λ e. d.0 (subst (λ x. Contains (keys_of m) x) e c))) ∙ keys-in_order m d.1 in
    λ i. cons_option (option_map (λ t. (p.0, t)) (value_of-first p m p.0 refl i)) (rest i)

pub full-in_order : (P : List ℕ) (m : List (ℕ × ℕ)) → IsFullMap P m → pairs_on P (value_of m) ≡ m
full-in_order P m f =
    subst (λ L. pairs_on L (value_of m) ≡ m) f.slots (keys-in_order m (subst AllDifferent (sym f.slots) f.once))

-- a full map has a name for each slot, and only for those, and each once
pub full-name : (P : List ℕ) (m : List (ℕ × ℕ)) → IsFullMap P m → (s : ℕ) → Contains P s → (x : ℕ) × Contains m (s, x)
full-name P m f s c = Contains-of_key m s (subst (λ L. Contains L s) (sym f.slots) c)

pub full-slot : (P : List ℕ) (m : List (ℕ × ℕ)) → IsFullMap P m → (s x : ℕ) → Contains m (s, x) → Contains P s
full-slot P m f s x c = subst (λ L. Contains L s) f.slots (Contains-key m s x c)

pub full-one_name : (P : List ℕ) (m : List (ℕ × ℕ)) → IsFullMap P m → (s x y : ℕ) → Contains m (s, x) → Contains m (s, y) → x ≡ y
full-one_name P m f s x y c d = one_partner P m (full-in_order P m f) s x y c d

pub full-one_slot : (P : List ℕ) (m : List (ℕ × ℕ)) → IsFullMap P m → (s s' x : ℕ) → Contains m (s, x) → Contains m (s', x) → s ≡ s'
full-one_slot P m f s s' x c d = injective_map-keys m f.injective s s' x c d

pub full-from : (P : List ℕ) (m : List (ℕ × ℕ)) → keys_of m ≡ P → AllDifferent P → ((s s' x : ℕ) → Contains m (s, x) → Contains m (s', x) → s ≡ s') → IsFullMap P m
full-from P m e d h = record {
  slots = e;
  once = d;
  injective = injective_map-from m (subst AllDifferent (sym e) d) h;
}

-- a full map is a partial injection of its slots to any list that has its names
pub full-partial : (P Q : List ℕ) (m : List (ℕ × ℕ)) → IsFullMap P m → ((s x : ℕ) → Contains m (s, x) → Contains Q x) → IsPartialInjection P Q m
full-partial P Q m f h = record {
  in_order = full-in_order P m f;
  within = h;
  injective = full-one_slot P m f;
}

-- full maps over the same slots are the same, if the one says what the other says
pub full-ext : (P : List ℕ) (m n : List (ℕ × ℕ)) → IsFullMap P m → IsFullMap P n → ((s x : ℕ) → Contains m (s, x) → Contains n (s, x)) → m ≡ n
full-ext P m n f g h = in_order-ext P m n (full-in_order P m f) (full-in_order P n g) h
    (λ s x c.
    let r = full-name P m f s (full-slot P n g s x c) in
    subst (λ y. Contains m (s, y)) (full-one_name P n g s r.0 x (h s r.0 r.1) c) r.1)

-- the map with f put on its values
pub with_values-keys : (f : ℕ → ℕ) (m : List (ℕ × ℕ)) → keys_of (with_values f m) ≡ keys_of m
with_values-keys f [] = refl
with_values-keys f (p ∷ m) = ap (λ L. p.0 ∷ L) (with_values-keys f m)

pub with_values-by : (f : ℕ → ℕ) (m : List (ℕ × ℕ)) (s x : ℕ) → Contains m (s, x) → Contains (with_values f m) (s, f x)
with_values-by f m s x c = Contains-map (λ p. (p.0, f p.1)) m (s, x) c

pub with_values-full : (f : ℕ → ℕ) (P : List ℕ) (m : List (ℕ × ℕ)) → IsFullMap P m → IsInjectiveOn f (values_of m) → IsFullMap P (with_values f m)
with_values-full f P m h i = full-from P (with_values f m) (with_values-keys f m ∙ h.slots) h.once
    (λ s s' y c d.
    let r = with_values-pair f m s y c in
    let q = with_values-pair f m s' y d in
    let e : r.0 ≡ q.0 = i r.0 q.0 (Contains-value m s r.0 r.1) (Contains-value m s' q.0 q.1) (r.2 ∙ sym q.2) in
    full-one_slot P m h s s' q.0 (subst (λ x. Contains m (s, x)) e r.1) q.1)

-- a correspondence has the pairs of slots that carry one name
pub same_names-over : (m n : List (ℕ × ℕ)) (s t : ℕ) → Contains (same_names m n) (s, t) → (x : ℕ) × Contains m (s, x) × Contains n (t, x)
same_names-over m n s t c =
    let r = composite-over m (flipped n) s t c in
    (r.0, r.1, Contains-of_flipped n t r.0 r.2)

pub same_names-by : (Q : List ℕ) (m n : List (ℕ × ℕ)) → IsFullMap Q n → (s t x : ℕ) → Contains m (s, x) → Contains n (t, x) → Contains (same_names m n) (s, t)
same_names-by Q m n g s t x c d = Contains-composite m (flipped n) s x t c
    (value_of-only (flipped n) x t (Contains-flipped n t x d) (λ v e. full-one_slot Q n g v t x (Contains-of_flipped n v x e) d))

pub same_names-in_order : (P : List ℕ) (m n : List (ℕ × ℕ)) → IsFullMap P m → pairs_on P (value_of (same_names m n)) ≡ same_names m n
same_names-in_order P m n f = composite-in_order P m (flipped n) (full-in_order P m f)

pub same_names-partial : (P Q : List ℕ) (m n : List (ℕ × ℕ)) → IsFullMap P m → IsFullMap Q n → IsPartialInjection P Q (same_names m n)
same_names-partial P Q m n f g = record {
  in_order = same_names-in_order P m n f;
  within = λ s t c. let r = same_names-over m n s t c in full-slot Q n g t r.0 r.2;
  injective = λ s s' t c d.
      let r = same_names-over m n s t c in
      let q = same_names-over m n s' t d in
      full-one_slot P m f s s' q.0 (subst (λ x. Contains m (s, x)) (full-one_name Q n g t r.0 q.0 r.2 q.2) r.1) q.1;
}

-- a list in the order of P with the same pairs is the correspondence
pub same_names-is : (P Q : List ℕ) (m n A : List (ℕ × ℕ)) → IsFullMap P m → IsFullMap Q n → pairs_on P (value_of A) ≡ A → ((s t x : ℕ) → Contains m (s, x) → Contains n (t, x) → Contains A (s, t)) → ((s t : ℕ) → Contains A (s, t) → (x : ℕ) × Contains m (s, x) × Contains n (t, x)) → same_names m n ≡ A
same_names-is P Q m n A f g o h k = in_order-ext P (same_names m n) A (same_names-in_order P m n f) o
    (λ s t c. let r = same_names-over m n s t c in h s t r.0 r.1 r.2)
    (λ s t c. let r = k s t c in same_names-by Q m n g s t r.0 r.1 r.2)

-- a map that is injective on the names of both sides keeps the correspondence
pub same_names-with_values : (f : ℕ → ℕ) (P Q : List ℕ) (m n : List (ℕ × ℕ)) → IsFullMap P m → IsFullMap Q n → IsInjectiveOn f (values_of m ++ values_of n) → same_names (with_values f m) (with_values f n) ≡ same_names m n
same_names-with_values f P Q m n a b i =
    let i₁ : IsInjectiveOn f (values_of m) = λ x y c d e. i x y (Contains-append_left (values_of m) (values_of n) x c) (Contains-append_left (values_of m) (values_of n) y d) e in
    let i₂ : IsInjectiveOn f (values_of n) = λ x y c d e. i x y (Contains-append_right (values_of m) (values_of n) x c) (Contains-append_right (values_of m) (values_of n) y d) e in
    same_names-is P Q (with_values f m) (with_values f n) (same_names m n) (with_values-full f P m a i₁) (with_values-full f Q n b i₂) (same_names-in_order P m n a)
    (λ s t y c d.
    let r = with_values-pair f m s y c in
    let q = with_values-pair f n t y d in
    let e : r.0 ≡ q.0 = i r.0 q.0 (Contains-append_left (values_of m) (values_of n) r.0 (Contains-value m s r.0 r.1)) (Contains-append_right (values_of m) (values_of n) q.0 (Contains-value n t q.0 q.1)) (r.2 ∙ sym q.2) in
    same_names-by Q m n b s t q.0 (subst (λ x. Contains m (s, x)) e r.1) q.1)
    (λ s t c.
    let r = same_names-over m n s t c in
    (f r.0, with_values-by f m s r.0 r.1, with_values-by f n t r.0 r.2))

-- turning an equation round turns its correspondence
pub same_names-turned : (P Q : List ℕ) (m n : List (ℕ × ℕ)) → IsFullMap P m → IsFullMap Q n → same_names n m ≡ turned Q (same_names m n)
same_names-turned P Q m n f g = same_names-is Q P n m (turned Q (same_names m n)) g f (pairs_on-in_order Q (value_of (flipped (same_names m n))))
    (λ t s x c d. turned-by P Q (same_names m n) (same_names-partial P Q m n f g) s t (same_names-by Q m n g s t x d c))
    (λ t s c. let r = same_names-over m n s t (turned-pair Q (same_names m n) s t c) in (r.0, r.2, r.1))

-- the two sides are equal exactly if each slot shares its name with itself
pub same_names-itself : (P : List ℕ) (m : List (ℕ × ℕ)) → IsFullMap P m → same_names m m ≡ identity P
same_names-itself P m f = same_names-is P P m m (identity P) f f (identity-in_order P)
    (λ s t x c d. identity-both P s t (full-slot P m f s x c, full-one_slot P m f s t x c d))
    (λ s t c.
    let r = identity-pair P s t c in
    let x = full-name P m f s r.0 in
    (x.0, x.1, subst (λ y. Contains m (y, x.0)) r.1 x.1))

pub equal_sides_iff : (P : List ℕ) (m n : List (ℕ × ℕ)) → IsFullMap P m → IsFullMap P n → (same_names m n ≡ identity P) ↔ (m ≡ n)
equal_sides_iff P m n f g = (
  λ e. full-ext P m n f g (λ s x c.
      let r = same_names-over m n s s (subst (λ A. Contains A (s, s)) (sym e) (identity-by P s (full-slot P m f s x c))) in
      subst (λ y. Contains n (s, y)) (full-one_name P m f s r.0 x r.1 c) r.2),
  λ e. ap (same_names m) (sym e) ∙ same_names-itself P m f,
)
