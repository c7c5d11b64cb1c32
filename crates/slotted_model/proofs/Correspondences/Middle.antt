-- The middle of a transitive step: names for it can be chosen exactly if the two halves can be joined.
use Rattle.std.proofs.Common.{◌≡◌, ℕ, ◌+◌, ◌<◌, List, [], ◌∷◌, Option, Some, None, sym, ◌∙◌, ap, refl, subst, inl, inr, arith}
use Rattle.std.specs.Prelude.{Contains, map, unwrap_or, ◌++◌, ◌⊎◌, ◌↔◌}
use Rattle.std.specs.Option.{option_or}
use Rattle.std.specs.Map.{keys_of, values_of}
use Rattle.std.proofs.lemmas.Option.{none-some}
use Rattle.std.proofs.lemmas.List.Elements.{Contains-append_left, Contains-append_right}
use Rattle.slotted_lists.proofs.Contained.{Contains-nil, Contains-map, Contains-of_map, above, Contains-below}
use Rattle.slotted_theory.specs.FiniteMaps.{value_of}
use Rattle.slotted_model.specs.Correspondence.{AllDifferent, IsFullMap, pairs_on, composite, turned, same_names, IsPartialInjection, CanJoin}
use Rattle.slotted_model.proofs.Correspondences.Pairs.{Contains-key, Contains-value, Contains-of_key, Contains-of_value, Contains-value_of, value_of-found}
use Rattle.slotted_model.proofs.Correspondences.PartialInjections.{key_in_order, one_partner, composite-over, composite-by, turned-pair, turned-by}
use Rattle.slotted_model.proofs.Correspondences.FullMaps.{full-in_order, full-name, full-one_name, full-one_slot, full-from, same_names-over, same_names-by, same_names-is, same_names-in_order}

-- with names in the middle the halves can be joined
pub can_join_from : (P Q R : List ℕ) (m k n : List (ℕ × ℕ)) → IsFullMap P m → IsFullMap Q k → IsFullMap R n → CanJoin (same_names m n) (same_names m k) (same_names k n)
can_join_from P Q R m k n f h g = record {
  within = λ s u c.
      let r = composite-over (same_names m k) (same_names k n) s u c in
      let a = same_names-over m k s r.0 r.1 in
      let b = same_names-over k n r.0 u r.2 in
      same_names-by R m n g s u b.0 (subst (λ x. Contains m (s, x)) (full-one_name Q k h r.0 a.0 b.0 a.2 b.1) a.1) b.2;
  from_left = λ s u c d.
      let r = same_names-over m n s u c in
      let t = Contains-of_key (same_names m k) s d in
      let a = same_names-over m k s t.0 t.1 in
      let e = full-one_name P m f s a.0 r.0 a.1 r.1 in
      over s t.0 u r.0 r.1 (subst (λ x. Contains k (t.0, x)) e a.2) r.2;
  from_right = λ s u c d.
      let r = same_names-over m n s u c in
      let t = Contains-of_value (same_names k n) u d in
      let b = same_names-over k n t.0 u t.1 in
      let e = full-one_name R n g u b.0 r.0 b.2 r.2 in
      over s t.0 u r.0 r.1 (subst (λ x. Contains k (t.0, x)) e b.1) r.2;
}
  where
    over : (s t u x : ℕ) → Contains m (s, x) → Contains k (t, x) → Contains n (u, x) → Contains (composite (same_names m k) (same_names k n)) (s, u)
    over s t u x a b c = composite-by Q (same_names m k) (same_names k n)
        (same_names-in_order Q k n h) s t u (same_names-by Q m k h s t x a b) (same_names-by R k n g t u x b c)

-- the names that are not to be used again
abbrev used : List (ℕ × ℕ) → List (ℕ × ℕ) → List ℕ → List ℕ
used m n avoid = values_of m ++ (values_of n ++ avoid)

-- how the slot t came to the name x: from its partner on the left, or else from its partner on the right, or else it is one of its own
data IsChosen (m n A1 A2 : List (ℕ × ℕ)) (bound t x : ℕ) : Type 0 where
  left_partner : (s : ℕ) → Contains A1 (s, t) → Contains m (s, x) → IsChosen m n A1 A2 bound t x
  right_partner : (u : ℕ) → Contains A2 (t, u) → Contains n (u, x) → ((s : ℕ) → Contains A1 (s, t) → ⊥) → IsChosen m n A1 A2 bound t x
  no_partner : x ≡ bound + t → ((s : ℕ) → Contains A1 (s, t) → ⊥) → ((u : ℕ) → Contains A2 (t, u) → ⊥) → IsChosen m n A1 A2 bound t x

-- a full map over the middle with the two halves as its correspondences, whose other names avoid a list
pub record Middle (Q : List ℕ) (m n A1 A2 : List (ℕ × ℕ)) (avoid : List ℕ) : Type 0 where
  pub names : List (ℕ × ℕ)
  pub full : IsFullMap Q names
  pub left : same_names m names ≡ A1
  pub right : same_names names n ≡ A2
  pub fresh : (t x : ℕ) → Contains names (t, x) → ((s : ℕ) × Contains A1 (s, t)) ⊎ (((u : ℕ) × Contains A2 (t, u)) ⊎ (¬ Contains avoid x))

module _ (P Q R : List ℕ) (m n A1 A2 : List (ℕ × ℕ)) (avoid : List ℕ) (f : IsFullMap P m) (g : IsFullMap R n) (once : AllDifferent Q) (a : IsPartialInjection P Q A1) (b : IsPartialInjection Q R A2) (j : CanJoin (same_names m n) A1 A2) where
  -- a number above all names that are used
  abbrev bound : ℕ
  bound = above (used m n avoid)

  -- the names of partners on the left and on the right
  abbrev from_left : List (ℕ × ℕ)
  from_left = composite (turned Q A1) m

  abbrev from_right : List (ℕ × ℕ)
  from_right = composite A2 n

  abbrev name_of : ℕ → ℕ
  name_of t = unwrap_or (option_or (value_of from_left t) (value_of from_right t)) (bound + t)

  abbrev middle : List (ℕ × ℕ)
  middle = map (λ t. (t, name_of t)) Q

  no_left : (t : ℕ) → value_of from_left t ≡ None → (s : ℕ) → Contains A1 (s, t) → ⊥
  no_left t e s c =
      let x = full-name P m f s (key_in_order P A1 a.in_order s t c) in
      let v = value_of-found from_left t x.0 (composite-by P (turned Q A1) m (full-in_order P m f) t s x.0 (turned-by P Q A1 a s t c) x.1) in
      none-some v.0 (sym e ∙ v.1)

  no_right : (t : ℕ) → value_of from_right t ≡ None → (u : ℕ) → Contains A2 (t, u) → ⊥
  no_right t e u c =
      let x = full-name R n g u (b.within t u c) in
      let v = value_of-found from_right t x.0 (composite-by R A2 n (full-in_order R n g) t u x.0 c x.1) in
      none-some v.0 (sym e ∙ v.1)

  chosen_by : (t : ℕ) (o p : Option ℕ) → value_of from_left t ≡ o → value_of from_right t ≡ p → IsChosen m n A1 A2 bound t (unwrap_or (option_or o p) (bound + t))
  chosen_by t (Some x) p d e =
      let r = composite-over (turned Q A1) m t x (Contains-value_of from_left t x d) in
      left_partner r.0 (turned-pair Q A1 r.0 t r.1) r.2
  chosen_by t None (Some x) d e =
      let r = composite-over A2 n t x (Contains-value_of from_right t x e) in
      right_partner r.0 r.1 r.2 (no_left t d)
  chosen_by t None None d e = no_partner refl (no_left t d) (no_right t e)

  chosen : (t : ℕ) → IsChosen m n A1 A2 bound t (name_of t)
  chosen t = chosen_by t (value_of from_left t) (value_of from_right t) refl refl

  named : (t : ℕ) → Contains Q t → Contains middle (t, name_of t)
  named t c = Contains-map (λ r. (r, name_of r)) Q t c

  chosen_pair : (t x : ℕ) → Contains middle (t, x) → IsChosen m n A1 A2 bound t x
  chosen_pair t x c =
      let r : (r : ℕ) × Contains Q r × (◌≡◌ {A = ℕ × ℕ} (r, name_of r) (t, x)) = Contains-of_map (λ r. (r, name_of r)) Q (t, x) c in
      subst (λ q. IsChosen m n A1 A2 bound q.0 q.1) r.2 (chosen r.0)

  below_left : (s x : ℕ) → Contains m (s, x) → x < bound
  below_left s x c = Contains-below (used m n avoid) x (Contains-append_left (values_of m) (values_of n ++ avoid) x (Contains-value m s x c))

  below_right : (u x : ℕ) → Contains n (u, x) → x < bound
  below_right u x c =
      Contains-below (used m n avoid) x (Contains-append_right (values_of m) (values_of n ++ avoid) x (Contains-append_left (values_of n) avoid x (Contains-value n u x c)))

  -- a name on both sides is joined over the middle
  over_left : (s t u x : ℕ) → Contains A1 (s, t) → Contains m (s, x) → Contains n (u, x) → Contains A2 (t, u)
  over_left s t u x c d e =
      let r = composite-over A1 A2 s u (j.from_left s u (same_names-by R m n g s u x d e) (Contains-key A1 s t c)) in
      subst (λ y. Contains A2 (y, u)) (one_partner P A1 a.in_order s r.0 t r.1 c) r.2

  over_right : (s t u x : ℕ) → Contains A2 (t, u) → Contains m (s, x) → Contains n (u, x) → Contains A1 (s, t)
  over_right s t u x c d e =
      let r = composite-over A1 A2 s u (j.from_right s u (same_names-by R m n g s u x d e) (Contains-value A2 t u c)) in
      subst (λ y. Contains A1 (s, y)) (b.injective r.0 t u r.2 c) r.1

  chosen_once : (t t' x : ℕ) → IsChosen m n A1 A2 bound t x → IsChosen m n A1 A2 bound t' x → t ≡ t'
  chosen_once t t' x (left_partner s c d) (left_partner s' c' d') =
      one_partner P A1 a.in_order s' t t' (subst (λ y. Contains A1 (y, t)) (full-one_slot P m f s s' x d d') c) c'
  chosen_once t t' x (left_partner s c d) (right_partner u c' d' h) = absurd (h s (over_right s t' u x c' d d'))
  chosen_once t t' x (left_partner s c d) (no_partner e h k) = let l = below_left s x d in absurd (omega arith)
  chosen_once t t' x (right_partner u c d h) (left_partner s c' d') = absurd (h s (over_right s t u x c d' d))
  chosen_once t t' x (right_partner u c d h) (right_partner u' c' d' h') =
      b.injective t t' u' (subst (λ y. Contains A2 (t, y)) (full-one_slot R n g u u' x d d') c) c'
  chosen_once t t' x (right_partner u c d h) (no_partner e h' k) = let l = below_right u x d in absurd (omega arith)
  chosen_once t t' x (no_partner e h k) (left_partner s c d) = let l = below_left s x d in absurd (omega arith)
  chosen_once t t' x (no_partner e h k) (right_partner u c d h') = let l = below_right u x d in absurd (omega arith)
  chosen_once t t' x (no_partner e h k) (no_partner e' h' k') = omega arith

  middle-keys : (L : List ℕ) → keys_of (map (λ t. (t, name_of t)) L) ≡ L
  middle-keys [] = refl
  middle-keys (t ∷ L) = ap (λ K. t ∷ K) (middle-keys L)

  middle-full : IsFullMap Q middle
  middle-full = full-from Q middle (middle-keys Q) once (λ t t' x c d. chosen_once t t' x (chosen_pair t x c) (chosen_pair t' x d))

  left_at : (s t x : ℕ) → IsChosen m n A1 A2 bound t x → Contains m (s, x) → Contains A1 (s, t)
  left_at s t x (left_partner s' c d) e = subst (λ y. Contains A1 (y, t)) (full-one_slot P m f s' s x d e) c
  left_at s t x (right_partner u c d h) e = over_right s t u x c e d
  left_at s t x (no_partner p h k) e = let l = below_left s x e in absurd (omega arith)

  right_at : (t u x : ℕ) → IsChosen m n A1 A2 bound t x → Contains n (u, x) → Contains A2 (t, u)
  right_at t u x (left_partner s c d) e = over_left s t u x c d e
  right_at t u x (right_partner u' c d h) e = subst (λ y. Contains A2 (t, y)) (full-one_slot R n g u' u x d e) c
  right_at t u x (no_partner p h k) e = let l = below_right u x e in absurd (omega arith)

  left_name : (s t x : ℕ) → IsChosen m n A1 A2 bound t x → Contains A1 (s, t) → Contains m (s, x)
  left_name s t x (left_partner s' c d) e = subst (λ y. Contains m (y, x)) (a.injective s' s t c e) d
  left_name s t x (right_partner u c d h) e = absurd (h s e)
  left_name s t x (no_partner p h k) e = absurd (h s e)

  right_name : (t u x : ℕ) → IsChosen m n A1 A2 bound t x → Contains A2 (t, u) → Contains n (u, x)
  right_name t u x (left_partner s c d) e =
      let r = same_names-over m n s u (j.within s u (composite-by Q A1 A2 b.in_order s t u c e)) in
      subst (λ y. Contains n (u, y)) (full-one_name P m f s r.0 x r.1 d) r.2
  right_name t u x (right_partner u' c d h) e = subst (λ y. Contains n (y, x)) (one_partner Q A2 b.in_order t u' u c e) d
  right_name t u x (no_partner p h k) e = absurd (k u e)

  avoids : (t x : ℕ) → IsChosen m n A1 A2 bound t x → ((s : ℕ) × Contains A1 (s, t)) ⊎ (((u : ℕ) × Contains A2 (t, u)) ⊎ (¬ Contains avoid x))
  avoids t x (left_partner s c d) = inl (s, c)
  avoids t x (right_partner u c d h) = inr (inl (u, c))
  avoids t x (no_partner p h k) = inr (inr (λ c.
      let l : x < bound = Contains-below (used m n avoid) x (Contains-append_right (values_of m) (values_of n ++ avoid) x (Contains-append_right (values_of n) avoid x c)) in
      absurd (omega arith)))

  -- names for the middle, where the halves can be joined
  pub middle_of : Middle Q m n A1 A2 avoid
  middle_of = record {
    names = middle;
    full = middle-full;
    left = same_names-is P Q m middle A1 f middle-full a.in_order
        (λ s t x c d. left_at s t x (chosen_pair t x d) c)
        (λ s t c. (name_of t, left_name s t (name_of t) (chosen t) c, named t (a.within s t c)));
    right = same_names-is Q R middle n A2 middle-full g b.in_order
        (λ t u x c d. right_at t u x (chosen_pair t x c) d)
        (λ t u c. (name_of t, named t (key_in_order Q A2 b.in_order t u c), right_name t u (name_of t) (chosen t) c));
    fresh = λ t x c. avoids t x (chosen_pair t x c);
  }

-- names for the middle can be chosen exactly if the halves can be joined
pub middle_iff : (P Q R : List ℕ) (m n A A1 A2 : List (ℕ × ℕ)) → IsFullMap P m → IsFullMap R n → same_names m n ≡ A → AllDifferent Q → IsPartialInjection P Q A1 → IsPartialInjection Q R A2 → ((k : List (ℕ × ℕ)) × IsFullMap Q k × (same_names m k ≡ A1) × (same_names k n ≡ A2)) ↔ CanJoin A A1 A2
middle_iff P Q R m n A A1 A2 f g e once a b = (
  λ r. subst (λ B. CanJoin B A1 A2) e (subst (λ B. CanJoin (same_names m n) A1 B) r.3 (subst (λ B. CanJoin (same_names m n) B (same_names r.0 n)) r.2 (can_join_from P Q R m r.0 n f r.1 g))),
  λ j.
      let r = middle_of P Q R m n A1 A2 [] f g once a b (subst (λ B. CanJoin B A1 A2) (sym e) j) in
      (r.names, r.full, r.left, r.right),
)

-- the correspondence with a map of no slots
nothing-in_order : (Q : List ℕ) → pairs_on Q (value_of []) ≡ []
nothing-in_order [] = refl
nothing-in_order (t ∷ Q) = nothing-in_order Q

-- every partial injection is the correspondence of two maps, the first of which may be chosen
pub each_occurs : (P Q : List ℕ) (m A : List (ℕ × ℕ)) (avoid : List ℕ) → IsFullMap P m → AllDifferent Q → IsPartialInjection P Q A → (n : List (ℕ × ℕ)) × IsFullMap Q n × (same_names m n ≡ A) × ((t x : ℕ) → Contains n (t, x) → ((s : ℕ) × Contains A (s, t)) ⊎ (¬ Contains avoid x))
each_occurs P Q m A avoid f once a =
    let none : IsFullMap [] [] = record { slots = refl; once = tt; injective = tt } in
    let b : IsPartialInjection Q [] [] = record {
      in_order = nothing-in_order Q;
      within = λ t u c. absurd (Contains-nil (t, u) c);
      injective = λ t t' u c d. absurd (Contains-nil (t, u) c);
    } in
    let j : CanJoin (same_names m []) A [] = record {
      within = λ s u c. absurd (Contains-nil _ (composite-over A [] s u c).2);
      from_left = λ s u c d. absurd (Contains-nil _ (same_names-over m [] s u c).2);
      from_right = λ s u c d. absurd (Contains-nil u d);
    } in
    let r = middle_of P Q [] m [] A [] avoid f none once a b j in (
      r.names,
      r.full,
      r.left,
      λ t x c. elim (r.fresh t x c) [
        | inl h ↦ inl h
        | inr k ↦ elim k [
          | inl u ↦ absurd (Contains-nil (t, u.0) u.1)
          | inr h ↦ inr h
        ]
      ],
    )
