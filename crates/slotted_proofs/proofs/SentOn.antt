-- A map of names that is completed by fresh slots knows all names, and keeps apart what the map itself keeps apart.
use Rattle.std.proofs.Common.{◌≡◌, ℕ, true, false, not, List, [], ◌∷◌, ◌++◌, Option, Some, None, refl, sym, ap, subst, inl, inr, ◌∙◌}
use Rattle.std.specs.Prelude.{◌⊎◌}
use Rattle.std.proofs.lemmas.Bool.{cases_Bool, and_parts, and_from, true≢false, not-true}
use Rattle.slotted_lists.proofs.Maps.{is_among-left, is_among-right}
use Rattle.slotted_theory.specs.FiniteMaps.{IsInjectiveMap}
use Rattle.slotted_slots.specs.Ascending.{IsAscending}
use Rattle.slotted_slots.specs.Combining.{IsCompleted, TakesForLacked, LacksForLacked, TakesToComplete, LacksToComplete}
use Rattle.slotted_slots.specs.Maps.{IsInEither, keys, values, value_of, is_among, all_differ, composed, doubled, with_first}
use Rattle.slotted_slots.specs.Table.{Table, Takes, is_known}
use Rattle.slotted_slots.proofs.Ascending.{is_among-set_of, IsAscending-set_of}
use Rattle.slotted_slots.proofs.MapLaws.{is_among-cons, is_among-first, is_among-more, is_among-value_of, is_among-key, value_of-doubled}
use Rattle.slotted_slots.proofs.MapLemmas.{keys-doubled}
use Rattle.slotted_slots.proofs.Taken.{takes_as}
use Rattle.slotted_slots.proofs.WholeMaps.{key_of_value}
use Rattle.slotted_proofs.specs.declared.equation.Equation.{Equation as Sides}
use Rattle.slotted_proofs.specs.Fresh.{names_of, side_names, AreKnownOr, StaysInjective, TakesFor, TakesToSend, LacksToSend}
use Rattle.slotted_proofs.proofs.Bridges.{injective_differ, differ_injective}

-- each of the numbers has itself
own_name : (xs : List ℕ) (v : ℕ) → is_among v xs ≡ true → value_of (doubled xs) v ≡ Some v
own_name xs v there = value_of-doubled xs v ∙ rw there refl

values-doubled : (xs : List ℕ) → values (doubled xs) ≡ xs
values-doubled [] = refl
values-doubled (x ∷ xs) = ap (λ r. x ∷ r) (values-doubled xs)

-- what is sent on comes from a value of the first map
among_composed : (a c : List (ℕ × ℕ)) (s : ℕ) → is_among s (values (composed a c)) ≡ true → (v : ℕ) × (is_among v (values a) ≡ true) × (value_of c v ≡ Some s)
among_composed [] c s there = absurd (true≢false (sym there))
among_composed (p ∷ a) c s there = by (value_of c p.1) refl there (λ rest. later (among_composed a c s rest))
  where
    later : (v : ℕ) × (is_among v (values a) ≡ true) × (value_of c v ≡ Some s) → (v : ℕ) × (is_among v (values (p ∷ a)) ≡ true) × (value_of c v ≡ Some s)
    later found = (found.0, is_among-more found.0 p.1 (values a) found.1, found.2)

    by : (o : Option ℕ) → value_of c p.1 ≡ o → is_among s (values (with_first p.0 o (composed a c))) ≡ true → (is_among s (values (composed a c)) ≡ true → (v : ℕ) × (is_among v (values (p ∷ a)) ≡ true) × (value_of c v ≡ Some s)) → (v : ℕ) × (is_among v (values (p ∷ a)) ≡ true) × (value_of c v ≡ Some s)
    by (Some w) found here rest = elim (is_among-cons s w (values (composed a c)) here) [
      | inl same ↦ (p.1, is_among-first p.1 p.1 (values a) refl, found ∙ ap Some same)
      | inr further ↦ rest further
    ]
    by None found here rest = rest here

-- and each value of the first map that the second knows is sent on
sent_among : (a c : List (ℕ × ℕ)) (v s : ℕ) → is_among v (values a) ≡ true → value_of c v ≡ Some s → is_among s (values (composed a c)) ≡ true
sent_among [] c v s there found = absurd (true≢false (sym there))
sent_among (p ∷ a) c v s there found = by (value_of c p.1) refl (is_among-cons v p.1 (values a) there) (λ further. sent_among a c v s further found)
  where
    by : (o : Option ℕ) → value_of c p.1 ≡ o → (p.1 ≡ v) ⊎ (is_among v (values a) ≡ true) → (is_among v (values a) ≡ true → is_among s (values (composed a c)) ≡ true) → is_among s (values (with_first p.0 o (composed a c))) ≡ true
    by (Some w) own (inl here) rest =
        let same : Some w ≡ Some s = sym own ∙ (ap (value_of c) here ∙ found) in
        is_among-first s w (values (composed a c)) (cc)
    by None own (inl here) rest =
        let same : None ≡ Some s = sym own ∙ (ap (value_of c) here ∙ found) in
        absurd (cc)
    by (Some w) own (inr further) rest = is_among-more s w (values (composed a c)) (rest further)
    by None own (inr further) rest = rest further

among_either : (xs ys : List ℕ) (z : ℕ) → is_among z (xs ++ ys) ≡ true → IsInEither xs ys z
among_either [] ys z there = inr there
among_either (x ∷ xs) ys z there = elim (is_among-cons z x (xs ++ ys) there) [
  | inl here ↦ inl (is_among-first z x xs here)
  | inr rest ↦ elim (among_either xs ys z rest) [
    | inl further ↦ inl (is_among-more z x xs further)
    | inr second ↦ inr second
  ]
]

-- the names of an equation are those of its sides
names-among : (e : Sides) (v : ℕ) → is_among v (names_of e) ≡ is_among v (side_names e)
names-among e v = is_among-set_of v (side_names e)

module _ (old new : Table) (names : List ℕ) (m c : List (ℕ × ℕ)) (completed : IsCompleted old new (doubled names) m c) where
  -- a name that m sends on and one that m lacks are not sent to one slot
  clash : (v w x s : ℕ) → is_among v names ≡ true → is_among w names ≡ true → value_of c v ≡ Some s → value_of c w ≡ Some s → value_of m v ≡ Some x → value_of m w ≡ None → ⊥
  clash v w x s hv hw ev ew f g =
      let known : value_of m v ≡ Some s = f ∙ (sym (completed.sent v v x (own_name names v hv) f) ∙ ev) in
      let made = completed.made w w s (own_name names w hw) g ew in
      true≢false (sym (is_among-right (values (doubled names)) (values m) s (is_among-value_of m v s known)) ∙ made.unused)

  -- two names are sent to one slot only where m sends them there
  sent_alike : (v w s : ℕ) → is_among v names ≡ true → is_among w names ≡ true → value_of c v ≡ Some s → value_of c w ≡ Some s → (v ≡ w) ⊎ ((value_of m v ≡ Some s) × (value_of m w ≡ Some s))
  sent_alike v w s hv hw ev ew = by (value_of m v) (value_of m w) refl refl
    where
      by : (o q : Option ℕ) → value_of m v ≡ o → value_of m w ≡ q → (v ≡ w) ⊎ ((value_of m v ≡ Some s) × (value_of m w ≡ Some s))
      by (Some x) (Some y) f g = inr (
        f ∙ (sym (completed.sent v v x (own_name names v hv) f) ∙ ev),
        g ∙ (sym (completed.sent w w y (own_name names w hw) g) ∙ ew),
      )
      by (Some x) None f g = absurd (clash v w x s hv hw ev ew f g)
      by None (Some y) f g = absurd (clash w v y s hw hv ew ev g f)
      by None None f g = inl (completed.apart v w v w s (own_name names v hv) f (own_name names w hw) g ev ew)

  -- a side whose names are different keeps them different, if m does
  stays_apart : (a : List (ℕ × ℕ)) → ((v : ℕ) → is_among v (values a) ≡ true → is_among v names ≡ true) → all_differ (values a) ≡ true → all_differ (values (composed a m)) ≡ true → all_differ (values (composed a c)) ≡ true
  stays_apart [] within once apart = refl
  stays_apart (p ∷ a) within once apart =
      let parts = and_parts (not (is_among p.1 (values a))) (all_differ (values a)) once in
      by (value_of c p.1) refl (not-true _ parts.0) (stays_apart a further parts.1 (rest (value_of m p.1) apart))
    where
      further : (v : ℕ) → is_among v (values a) ≡ true → is_among v names ≡ true
      further v there = within v (is_among-more v p.1 (values a) there)

      rest : (o : Option ℕ) → all_differ (values (with_first p.0 o (composed a m))) ≡ true → all_differ (values (composed a m)) ≡ true
      rest (Some w) differ = (and_parts (not (is_among w (values (composed a m)))) (all_differ (values (composed a m))) differ).1
      rest None differ = differ

      first : (s : ℕ) → value_of m p.1 ≡ Some s → is_among s (values (composed a m)) ≡ false
      first s e =
          let differ : all_differ (s ∷ values (composed a m)) ≡ true = subst (λ o. all_differ (values (with_first p.0 o (composed a m))) ≡ true) e apart in
          not-true _ (and_parts (not (is_among s (values (composed a m)))) (all_differ (values (composed a m))) differ).0

      away : (s : ℕ) → value_of c p.1 ≡ Some s → is_among p.1 (values a) ≡ false → is_among s (values (composed a c)) ≡ true → ⊥
      away s found alone there =
          let back = among_composed a c s there in
          elim (sent_alike p.1 back.0 s (within p.1 (is_among-first p.1 p.1 (values a) refl)) (further back.0 back.1) found back.2) [
            | inl same ↦ true≢false (sym back.1 ∙ subst (λ v. is_among v (values a) ≡ false) same alone)
            | inr sent ↦ true≢false (sym (sent_among a m back.0 s back.1 sent.1) ∙ first s sent.0)
          ]

      by : (o : Option ℕ) → value_of c p.1 ≡ o → is_among p.1 (values a) ≡ false → all_differ (values (composed a c)) ≡ true → all_differ (values (with_first p.0 o (composed a c))) ≡ true
      by (Some s) found alone differ = and_from _ _ (elim (cases_Bool (is_among s (values (composed a c)))) [
        | inl there ↦ absurd (away s found alone there)
        | inr missing ↦ ap not missing
      ]) differ
      by None found alone differ = differ

  -- what a side goes on to is known, or a value of m
  known_or_sent : (a : List (ℕ × ℕ)) → ((v : ℕ) → is_among v (values a) ≡ true → is_among v names ≡ true) → AreKnownOr new (values m) (values (composed a c))
  known_or_sent a within z there = let back = among_composed a c z there in by back.0 (within back.0 back.1) back.2 (value_of m back.0) refl
    where
      by : (v : ℕ) → is_among v names ≡ true → value_of c v ≡ Some z → (o : Option ℕ) → value_of m v ≡ o → (is_known new z ≡ true) ⊎ (is_among z (values m) ≡ true)
      by v hv ev (Some w) f = inr (is_among-value_of m v z (f ∙ (sym (completed.sent v v w (own_name names v hv) f) ∙ ev)))
      by v hv ev None f = inl (completed.made v v z (own_name names v hv) f ev).known

-- a map from the names of an equation, completed by fresh slots
module _ (old new : Table) (e : Sides) (m c : List (ℕ × ℕ)) (completed : IsCompleted old new (doubled (names_of e)) m c) where
  its_keys : keys c ≡ names_of e
  its_keys = completed.same_keys ∙ keys-doubled (names_of e)

  left_within : (v : ℕ) → is_among v (values e.l.m) ≡ true → is_among v (names_of e) ≡ true
  left_within v there = names-among e v ∙ is_among-left (values e.l.m) (values e.r.m) v there

  right_within : (v : ℕ) → is_among v (values e.r.m) ≡ true → is_among v (names_of e) ≡ true
  right_within v there = names-among e v ∙ is_among-right (values e.l.m) (values e.r.m) v there

  pub left_stays : StaysInjective e.l.m m → IsInjectiveMap (composed e.l.m c)
  left_stays stays =
      differ_injective (composed e.l.m c) (stays_apart old new (names_of e) m c completed e.l.m left_within (injective_differ e.l.m stays.0) stays.1)

  pub right_stays : StaysInjective e.r.m m → IsInjectiveMap (composed e.r.m c)
  right_stays stays =
      differ_injective (composed e.r.m c) (stays_apart old new (names_of e) m c completed e.r.m right_within (injective_differ e.r.m stays.0) stays.1)

  -- each name that is sent on is known, or a value of m
  pub known_sent : AreKnownOr new (values m) (values (composed e.l.m c) ++ values (composed e.r.m c))
  known_sent z there = elim (among_either (values (composed e.l.m c)) (values (composed e.r.m c)) z there) [
    | inl left ↦ known_or_sent old new (names_of e) m c completed e.l.m left_within z left
    | inr right ↦ known_or_sent old new (names_of e) m c completed e.r.m right_within z right
  ]

  -- a slot that something is sent to is a name of a side that was sent on
  sent_to : (z : ℕ) → is_among z (values c) ≡ true → is_among z (values (composed e.l.m c) ++ values (composed e.r.m c)) ≡ true
  sent_to z made =
      let key : (k : ℕ) × (value_of c k ≡ Some z) = key_of_value c (subst IsAscending (sym its_keys) (IsAscending-set_of (side_names e))) z made in
      let name : is_among key.0 (names_of e) ≡ true = ap (is_among key.0) (sym its_keys) ∙ is_among-key c key.0 z key.1 in
      elim (among_either (values e.l.m) (values e.r.m) key.0 (sym (names-among e key.0) ∙ name)) [
        | inl left ↦ is_among-left (values (composed e.l.m c)) (values (composed e.r.m c)) z (sent_among e.l.m c key.0 z left key.1)
        | inr right ↦ is_among-right (values (composed e.l.m c)) (values (composed e.r.m c)) z (sent_among e.r.m c key.0 z right key.1)
      ]

  pub takes_sent : TakesFor old new e m (values c) → TakesFor old new e m (values (composed e.l.m c) ++ values (composed e.r.m c))
  takes_sent taken =
      takes_as old new (IsInEither (values c) (side_names e ++ values m)) (IsInEither (values (composed e.l.m c) ++ values (composed e.r.m c)) (side_names e ++ values m)) taken
      (λ z p. elim p [
        | inl made ↦ inl (sent_to z made)
        | inr used ↦ inr used
      ])

-- what a map over the names of an equation takes, said of the equation
module _ (old new : Table) (e : Sides) (m own : List (ℕ × ℕ)) (is_own : own ≡ doubled (names_of e)) where
  its_values : values own ≡ names_of e
  its_values = ap values is_own ∙ values-doubled (names_of e)

  pub takes_names : (c : List (ℕ × ℕ)) → Takes old new (IsInEither (values c) (values own ++ values m)) → TakesFor old new e m (values c)
  takes_names c taken =
      takes_as old new (IsInEither (values c) (values own ++ values m)) (IsInEither (values c) (side_names e ++ values m)) taken
      (λ z p. elim p [
        | inl made ↦ inl made
        | inr used ↦ elim (among_either (values own) (values m) z used) [
          | inl name ↦ inr (is_among-left (side_names e) (values m) z (sym (names-among e z) ∙ (ap (is_among z) (sym its_values) ∙ name)))
          | inr sent_by ↦ inr (is_among-right (side_names e) (values m) z sent_by)
        ]
      ])

  pub takes_to_send : TakesToComplete own m old new → TakesToSend e m old new
  takes_to_send count = subst (λ xs. TakesForLacked m xs (xs ++ values m) old new) its_values count

  pub lacks_to_send : LacksToComplete own m old → LacksToSend e m old
  lacks_to_send lacks = subst (λ xs. LacksForLacked m xs (xs ++ values m) old) its_values lacks
