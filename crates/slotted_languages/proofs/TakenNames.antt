-- What a table knows in addition stands in a renamed node.
use Rattle.std.proofs.Common.{◌≡◌, ℕ, suc, zero, ◌+◌, ◌<◌, List, [], ◌∷◌, ◌++◌, length, map, take, drop, slice_index, slice_set, Some, ◌≢◌, sym, ◌∙◌, ap, refl, inl, inr, arith, add-one}
use Rattle.std.specs.Prelude.{Bool, true, false, ◌⊎◌, ◌||◌, nat_eq, cond}
use Rattle.std.specs.List.{filter}
use Rattle.std.specs.Ordering.{nat_cmp}
use Rattle.std.proofs.lemmas.Bool.{false≢true, cases_eq, eq-eqb, ne_eqb}
use Rattle.std.proofs.lemmas.Bool.Decides.{nat_tests}
use Rattle.slotted_lists.proofs.Options.{some-or_none as told}
use Rattle.slotted_lists.proofs.Lists.{length-map_names}
use Rattle.slotted_lists.proofs.Maps.{values-with_values}
use Rattle.slotted_theory.specs.FiniteMaps.{filled, with_values}
use Rattle.slotted_theory.specs.Nameless.{DTerm, moved}
use Rattle.slotted_theory.specs.Shape.{free_names}
use Rattle.slotted_theory.proofs.FreeNames.{free_names-moved}
use Rattle.slotted_slots.specs.Ascending.{IsAscending}
use Rattle.slotted_slots.specs.Maps.{IsInEither, value_of, with_pair, values, keys, is_among}
use Rattle.slotted_slots.specs.Sets.{insert_key}
use Rattle.slotted_slots.specs.Table.{Table, Takes}
use Rattle.slotted_slots.proofs.Ascending.{is_among-insert_key}
use Rattle.slotted_slots.proofs.Taken.{takes_then, takes_as}
use Rattle.slotted_slots.proofs.MapLaws.{is_among-value_of}
use Rattle.slotted_languages.specs.Children.{below}
use Rattle.slotted_nodes.specs.Form.{Form, with_name}
use Rattle.slotted_languages.specs.Fresh.{IsFilled, IsInUse}
use Rattle.slotted_languages.specs.NodeTerm.{nameless_node, free_names_of}
use Rattle.slotted_nodes.specs.Public.{is_public}
use Rattle.slotted_languages.specs.Renaming.{IsEntered}
use Rattle.slotted_languages.specs.Shape.{Fits, firsts, shape}
use Rattle.slotted_languages.proofs.Occurrences.{is_among-append, is_among-firsts}
use Rattle.slotted_languages.proofs.Fills.{filled_at}
use Rattle.slotted_languages.proofs.PublicNames.{public_free}
use Rattle.slotted_languages.proofs.Renamings.{IsRenaming, new_name, among_index}
use Rattle.slotted_languages.proofs.Taken.{among_map, grown_taken, keyed, value_kept}

-- what stands among mapped numbers was mapped
pub among_of_map : (f : ℕ → ℕ) (xs : List ℕ) (z : ℕ) → is_among z (map f xs) ≡ true → (x : ℕ) × (is_among x xs ≡ true) × (f x ≡ z)
among_of_map f [] z h = absurd (false≢true h)
among_of_map f (y ∷ xs) z h = elim (cases_eq (f y) z) [
  | inl d ↦ (y, ap (λ b. b || is_among y xs) (eq-eqb y y refl), d)
  | inr n ↦
      let r = among_of_map f xs z (sym (ap (λ b. b || is_among z (map f xs)) (ne_eqb (f y) z n)) ∙ h) in
      (r.0, or_last (nat_eq y r.0) r.1, r.2)
]
  where
    or_last : {c : Bool} (b : Bool) → c ≡ true → (b || c) ≡ true
    or_last true e = refl
    or_last false e = e

among_filter : (test : ℕ → Bool) (xs : List ℕ) (z : ℕ) → is_among z (filter test xs) ≡ true → is_among z xs ≡ true
among_filter test [] z h = h
among_filter test (x ∷ xs) z h = step (test x) (among_filter test xs z) h
  where
    or_last : {c : Bool} (b : Bool) → c ≡ true → (b || c) ≡ true
    or_last true e = refl
    or_last false e = e

    step : (b : Bool) → (is_among z (filter test xs) ≡ true → is_among z xs ≡ true) → is_among z (cond b (x ∷ filter test xs) (filter test xs)) ≡ true → is_among z (x ∷ xs) ≡ true
    step true rest k = elim (cases_eq x z) [
      | inl d ↦ ap (λ b. b || is_among z xs) (eq-eqb x z d)
      | inr n ↦ or_last (nat_eq x z) (rest (sym (ap (λ b. b || is_among z (filter test xs)) (ne_eqb x z n)) ∙ k))
    ]
    step false rest k = or_last (nat_eq x z) (rest k)

among_below : (n z : ℕ) → is_among z (below n) ≡ true → z < n
among_below zero z h = absurd (false≢true h)
among_below (suc n) z h = by (is_among z (below n)) (among_below n z) refl (sym (is_among-append z (below n) (n ∷ [])) ∙ h)
  where
    by : (b : Bool) → (is_among z (below n) ≡ true → z < n) → is_among z (below n) ≡ b → (b || is_among z (n ∷ [])) ≡ true → z < suc n
    by true rest e k = omega (arith, rest e)
    by false rest e k = elim (cases_eq n z) [
      | inl d ↦ omega (arith, d)
      | inr d ↦ absurd (false≢true (sym (ap (λ b. b || false) (ne_eqb n z d)) ∙ k))
    ]

-- a free name stands in the node
pub free_stands : (f : Form) (z : ℕ) → Fits f → is_among z (free_names_of f) ≡ true → is_among z f.names ≡ true
free_stands f z fits h =
    let ks = filter (is_public f) (below (length f.names)) in
    let r = among_of_map (slice_index f.names) ks z (ap (is_among z) (public_free f fits) ∙ h) in
    let lt : r.0 < length f.names = among_below (length f.names) r.0 (among_filter (is_public f) (below (length f.names)) r.0 r.1) in
    ap (λ w. is_among w f.names) (sym r.2) ∙ among_index f.names r.0 lt

-- and what it is renamed to stands in the renamed node
pub moved_stands : (f g : Form) (π : ℕ → ℕ) (x : ℕ) → Fits g → nameless_node g ≡ moved π (nameless_node f) → is_among x (free_names_of f) ≡ true → is_among (π x) g.names ≡ true
moved_stands f g π x fits e h =
    let d = nameless_node f in
    let same : free_names_of g ≡ map π (free_names_of f) = ap (λ (t : DTerm). free_names t.args) e ∙ free_names-moved π d.args in
    free_stands g (π x) fits (ap (is_among (π x)) same ∙ among_map π (free_names_of f) x h)

-- a set that gets one more name of a node has nothing but those of before and names of the node
pub within_among : (start old new names : List ℕ) (i slot x : ℕ) → new ≡ insert_key nat_cmp old slot → slot ≡ slice_index names i → i < length names → (is_among x old ≡ true → IsInEither start names x) → is_among x new ≡ true → IsInEither start names x
within_among start old new names i slot x e s lt before h =
    by (cases_eq slot x) (sym (ap (is_among x) e ∙ is_among-insert_key x slot old) ∙ h)
  where
    by : (slot ≡ x) ⊎ (slot ≢ x) → (nat_eq slot x || is_among x old) ≡ true → IsInEither start names x
    by (inl d) k = inr (ap (λ w. is_among w names) (sym d ∙ s) ∙ among_index names i lt)
    by (inr n) k = before (sym (ap (λ b. b || is_among x old) (ne_eqb slot x n)) ∙ k)

-- each value of the map that renames numbers is a free name of the renamed node
pub value_free : (f g : Form) (π : ℕ → ℕ) (free names : List (ℕ × ℕ)) (z : ℕ) → values free ≡ firsts (free_names_of f) → names ≡ with_values π free → nameless_node g ≡ moved π (nameless_node f) → is_among z (values names) ≡ true → is_among z (free_names_of g) ≡ true
value_free f g π free names z ef en e h =
    let r = among_of_map π (values free) z (ap (is_among z) (sym (ap values en ∙ values-with_values π free)) ∙ h) in
    let here : is_among r.0 (free_names_of f) ≡ true = sym (is_among-firsts r.0 (free_names_of f)) ∙ (ap (is_among r.0) (sym ef) ∙ r.1) in
    let same : free_names_of g ≡ map π (free_names_of f) = ap (λ (t : DTerm). free_names t.args) e ∙ free_names-moved π (nameless_node f).args in
    ap (λ w. is_among w (free_names_of g)) (sym r.2) ∙ (ap (is_among (π r.0)) same ∙ among_map π (free_names_of f) r.0 here)

-- so it stands in that node
pub value_stands : (f g : Form) (π : ℕ → ℕ) (free names : List (ℕ × ℕ)) (z : ℕ) → Fits g → values free ≡ firsts (free_names_of f) → names ≡ with_values π free → nameless_node g ≡ moved π (nameless_node f) → is_among z (values names) ≡ true → is_among z g.names ≡ true
value_stands f g π free names z fits ef en e h = free_stands g z fits (value_free f g π free names z ef en e h)

-- an entered name keeps the values of the map
entered_grows : (t u : Table) (xs avoid : List ℕ) (free old new : List (ℕ × ℕ)) (number name y z : ℕ) → IsEntered t u xs avoid free old new number name y → is_among z (values old) ≡ true → is_among z (values new) ≡ true
entered_grows t u xs avoid free old new number name y z d h = elim (told (value_of old number)) [
  | inl k ↦ ap (λ m. is_among z (values m)) (d.known k.0 k.1).1 ∙ h
  | inr k ↦ ap (λ m. is_among z (values m)) (d.entered k) ∙ value_kept old number y z k h
]

pub value_put_or : (m : List (ℕ × ℕ)) (x y z : ℕ) → is_among z (values (with_pair m x y)) ≡ true → (z ≡ y) ⊎ (is_among z (values m) ≡ true)
value_put_or [] x y z h = elim (cases_eq y z) [
  | inl d ↦ inl (sym d)
  | inr n ↦ absurd (false≢true (sym (ap (λ b. b || false) (ne_eqb y z n)) ∙ h))
]
value_put_or (p ∷ m) x y z h = grind (arith, nat_tests, value_put_or m x y z)

take_set_kept : (xs : List ℕ) (i y z : ℕ) → is_among z (take i xs) ≡ true → is_among z (take (suc i) (slice_set xs i y)) ≡ true
take_set_kept [] zero y z h = absurd (false≢true h)
take_set_kept [] (suc i) y z h = absurd (false≢true h)
take_set_kept (x ∷ xs) zero y z h = absurd (false≢true h)
take_set_kept (x ∷ xs) (suc i) y z h = elim (cases_eq x z) [
  | inl d ↦ ap (λ b. b || is_among z (take (suc i) (slice_set xs i y))) (eq-eqb x z d)
  | inr n ↦ or_last (nat_eq x z) (take_set_kept xs i y z (sym (ap (λ b. b || is_among z (take i xs)) (ne_eqb x z n)) ∙ h))
]
  where
    or_last : {c : Bool} (b : Bool) → c ≡ true → (b || c) ≡ true
    or_last true e = refl
    or_last false e = e

take_set_put : (xs : List ℕ) (i y : ℕ) → i < length xs → is_among y (take (suc i) (slice_set xs i y)) ≡ true
take_set_put [] i y lt = absurd (omega (arith, lt))
take_set_put (x ∷ xs) zero y lt = ap (λ b. b || false) (eq-eqb y y refl)
take_set_put (x ∷ xs) (suc i) y lt = or_last (nat_eq x y) (take_set_put xs i y (omega (arith, lt)))
  where
    or_last : {c : Bool} (b : Bool) → c ≡ true → (b || c) ≡ true
    or_last true e = refl
    or_last false e = e

among_take : (xs : List ℕ) (i z : ℕ) → is_among z (take i xs) ≡ true → is_among z xs ≡ true
among_take [] zero z h = absurd (false≢true h)
among_take [] (suc i) z h = absurd (false≢true h)
among_take (x ∷ xs) zero z h = absurd (false≢true h)
among_take (x ∷ xs) (suc i) z h = elim (cases_eq x z) [
  | inl d ↦ ap (λ b. b || is_among z xs) (eq-eqb x z d)
  | inr n ↦ or_last (nat_eq x z) (among_take xs i z (sym (ap (λ b. b || is_among z (take i xs)) (ne_eqb x z n)) ∙ h))
]
  where
    or_last : {c : Bool} (b : Bool) → c ≡ true → (b || c) ≡ true
    or_last true e = refl
    or_last false e = e

-- a name that is entered and put in stands among the first places, as those before it do
pub entered_stands : (t u : Table) (xs avoid : List ℕ) (free old new : List (ℕ × ℕ)) (h k : Form) (i number name y : ℕ) → i < length h.names → IsEntered t u xs avoid free old new number name y → k ≡ with_name h i y → ((z : ℕ) → is_among z (values old) ≡ true → is_among z (take i h.names) ≡ true) → (z : ℕ) → is_among z (values new) ≡ true → is_among z (take (i + 1) k.names) ≡ true
entered_stands t u xs avoid free old new h k i number name y lt d ek placed z there =
    let kept : is_among z (values old) ≡ true → is_among z (take (suc i) (slice_set h.names i y)) ≡ true = λ q. take_set_kept h.names i y z (placed z q) in
    let put : is_among z (take (suc i) (slice_set h.names i y)) ≡ true = elim (told (value_of old number)) [
      | inl q ↦ kept (ap (λ m. is_among z (values m)) (sym (d.known q.0 q.1).1) ∙ there)
      | inr q ↦ elim (value_put_or old number y z (ap (λ m. is_among z (values m)) (sym (d.entered q)) ∙ there)) [
        | inl same ↦ ap (λ w. is_among w (take (suc i) (slice_set h.names i y))) same ∙ take_set_put h.names i y lt
        | inr before ↦ kept before
      ]
    ] in
    rw (add-one i) (ap (λ (f : Form). is_among z (take (suc i) f.names)) ek ∙ put)

split_length : (σ : ℕ → ℕ) (ns : List ℕ) (i : ℕ) → length (map σ (take i ns) ++ drop i ns) ≡ length ns
split_length σ [] zero = refl
split_length σ [] (suc i) = refl
split_length σ (x ∷ ns) zero = refl
split_length σ (x ∷ ns) (suc i) = omega (arith, split_length σ ns i)

-- while a node is renamed it keeps its number of places
pub renaming_length : (t u : Table) (f h : Form) (avoid : List ℕ) (free names : List (ℕ × ℕ)) (i : ℕ) → IsRenaming t u f avoid free names h i → length h.names ≡ length f.names
renaming_length t u f h avoid free names i d =
    let ns = (shape f).0.names in
    ap (λ (e : Form). length e.names) d.named ∙ (split_length (new_name free names) ns i ∙ (sym (length-map_names d.was.old ns) ∙ ap length d.was.were))

-- what was taken for the names so far
pub entered_takes : (t u v : Table) (xs avoid : List ℕ) (free old new : List (ℕ × ℕ)) (number name y : ℕ) → IsEntered u v xs avoid free old new number name y → Takes t u (IsInUse avoid (values old) xs) → Takes u v (IsInUse avoid (values new) xs) → Takes t v (IsInUse avoid (values new) xs)
entered_takes t u v xs avoid free old new number name y d h k =
    grown_taken t u v avoid xs (values old) (values new) (λ z p. entered_grows u v xs avoid free old new number name y z d p) h k

-- in the end it stands in the node
pub all_taken : (t u : Table) (xs avoid : List ℕ) (names : List (ℕ × ℕ)) (h : Form) (i : ℕ) → ((z : ℕ) → is_among z (values names) ≡ true → is_among z (take i h.names) ≡ true) → Takes t u (IsInUse avoid (values names) xs) → Takes t u (IsInUse avoid h.names xs)
all_taken t u xs avoid names h i placed k = takes_as t u (IsInUse avoid (values names) xs) (IsInUse avoid h.names xs) k (λ z p. elim p [
  | inl q ↦ inl q
  | inr (inl q) ↦ inr (inl (among_take h.names i z (placed z q)))
  | inr (inr q) ↦ inr (inr q)
])

-- where what was avoided stands in one of the two, nothing else is taken
pub avoided_taken : (t u : Table) (avoid xs ys : List ℕ) → ((z : ℕ) → is_among z avoid ≡ true → IsInEither ys xs z) → Takes t u (IsInUse avoid ys xs) → Takes t u (IsInEither ys xs)
avoided_taken t u avoid xs ys h k = takes_as t u (IsInUse avoid ys xs) (IsInEither ys xs) k (λ z p. elim p [
  | inl q ↦ h z q
  | inr q ↦ q
])

-- a value of a map that was filled is one of the map before, or a new name of a free one, which stands in the node
pub filled_taken : (t u v : Table) (m names : List (ℕ × ℕ)) (wanted : List ℕ) (f g : Form) → Fits f → Fits g → IsAscending (keys names) → IsFilled t u f.names wanted m names → ((x : ℕ) → is_among x wanted ≡ is_among x (free_names_of f)) → nameless_node g ≡ moved (filled names) (nameless_node f) → Takes t u (IsInUse wanted (values names) f.names) → Takes u v (IsInEither g.names f.names) → Takes t v (IsInUse (values m) g.names f.names)
filled_taken t u v m names wanted f g fits fitsg up d w e h k =
    takes_then t u v (IsInUse wanted (values names) f.names) (IsInEither g.names f.names) (IsInUse (values m) g.names f.names) h k
    (λ z p. elim p [
      | inl q ↦ inr (inr (free_stands f z fits (sym (w z) ∙ q)))
      | inr (inl q) ↦ value z (keyed names z up q)
      | inr (inr q) ↦ inr (inr q)
    ])
    (λ z p. inr p)
  where
    value : (z : ℕ) → ((x : ℕ) × (value_of names x ≡ Some z)) → IsInUse (values m) g.names f.names z
    value z (x, has) = elim (told (value_of m x)) [
      | inl old ↦ inl (ap (λ y. is_among y (values m)) (cc (has, d.kept x old.0 old.1)) ∙ is_among-value_of m x old.0 old.1)
      | inr none ↦
          let free : is_among x (free_names_of f) ≡ true = sym (w x) ∙ d.asked x z none has in
          inr (inl (ap (λ y. is_among y g.names) (sym (filled_at names x z has)) ∙ moved_stands f g (filled names) x fitsg e free))
    ]
