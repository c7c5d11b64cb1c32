-- How many slots the calls take that put names into a node.
use Rattle.std.proofs.Common.{◌≡◌, ℕ, zero, suc, ◌+◌, ◌-◌, ◌<◌, ◌≤◌, List, [], ◌∷◌, ◌++◌, length, take, slice_index, Option, Some, None, sym, ◌∙◌, ap, refl, subst, inl, inr, arith, add-one}
use Rattle.std.specs.Prelude.{Bool, true, false, ◌⊎◌, ◌||◌, ◌&&◌, not, nat_eq, cond, is_some, IsSome}
use Rattle.std.specs.List.{filter}
use Rattle.std.proofs.lemmas.Bool.{false≢true, cases_eq, cases_Bool, eq-eqb, ne_eqb}
use Rattle.std.proofs.lemmas.List.{length-append}
use Rattle.std.proofs.lemmas.List.Elements.{filter-append}
use Rattle.slotted_lists.proofs.Members.{In}
use Rattle.slotted_lists.proofs.Booleans.{or-true as either}
use Rattle.slotted_lists.proofs.Maps.{is_among-left, is_among-right}
use Rattle.slotted_lists.proofs.Options.{some-or_none as told}
use Rattle.slotted_lists.proofs.Lists.{length-map_names}
use Rattle.slotted_slots.specs.Ascending.{AllAbove, IsAscending}
use Rattle.slotted_slots.specs.Maps.{IsInEither, composed, is_among, keys, value_of, values, with_pair}
use Rattle.slotted_slots.specs.Table.{KnowsMore, Table, TakesAtMost, is_known, slot_limit}
use Rattle.slotted_slots.proofs.SlotsTaken.{at_most_beside, at_most_more, at_most_then, fresh_goes_on, lacks_beside, lacks_more, lacks_then}
use Rattle.slotted_slots.proofs.FreshLaws.{is_among-composed}
use Rattle.slotted_slots.proofs.MapLaws.{is_among-value_of}
use Rattle.slotted_nodes.specs.Form.{Form, scopes, scope_end_of}
use Rattle.slotted_nodes.specs.Public.{is_bound_by, is_no_binder, is_public}
use Rattle.slotted_languages.specs.Children.{below, binders, is_binder}
use Rattle.slotted_languages.specs.Fresh.{IsFilled, IsInUse, KeepsAll, RunsOut, ValuesAreIn, at_hand}
use Rattle.slotted_languages.specs.NodeTerm.{free_names_of}
use Rattle.slotted_languages.specs.Renaming.{HasName, IsEntered}
use Rattle.slotted_languages.specs.Shape.{Fits, firsts, shape}
use Rattle.slotted_languages.proofs.FirstPlaces.{number_met}
use Rattle.slotted_languages.proofs.Occurrences.{is_among-append, is_among-firsts}
use Rattle.slotted_languages.proofs.PublicNames.{public_free}
use Rattle.slotted_languages.proofs.Renamings.{Covers, Covers-at, IsRenaming, renaming_number}
use Rattle.slotted_languages.proofs.Taken.{keyed}
use Rattle.slotted_languages.proofs.TakenNames.{free_stands, value_put_or}

or_last : {c : Bool} (b : Bool) → c ≡ true → (b || c) ≡ true
or_last true e = refl
or_last false e = e

or_first : {b : Bool} (c : Bool) → b ≡ true → (b || c) ≡ true
or_first {b = true} c e = refl
or_first {b = false} c e = absurd (false≢true e)

pub among_either : (xs ys : List ℕ) (z : ℕ) → is_among z (xs ++ ys) ≡ true → (is_among z xs ≡ true) ⊎ (is_among z ys ≡ true)
among_either xs ys z h = either (is_among z xs) (is_among z ys) (sym (is_among-append z xs ys) ∙ h)

fits_before : (t u : Table) → KnowsMore t u → u.fresh ≡ slot_limit → t.fresh ≤ slot_limit
fits_before t u more end = subst (λ k. t.fresh ≤ k) end (fresh_goes_on t u more)

-- a name in use is at hand
pub in_use_at_hand : (avoid : List ℕ) (names : List (ℕ × ℕ)) (f : Form) (z : ℕ) → IsInUse avoid (values names) f.names z → is_among z (at_hand avoid names f) ≡ true
in_use_at_hand avoid names f z (inl q) = is_among-left avoid (values names ++ f.names) z q
in_use_at_hand avoid names f z (inr (inl q)) = is_among-right avoid (values names ++ f.names) z (is_among-left (values names) f.names z q)
in_use_at_hand avoid names f z (inr (inr q)) = is_among-right avoid (values names ++ f.names) z (is_among-right (values names) f.names z q)

-- so beside these an unknown name at hand is one of them
within : (t : Table) (avoid ys : List ℕ) (names : List (ℕ × ℕ)) (f : Form) → ValuesAreIn t ys names → ((z : ℕ) → is_among z avoid ≡ true → is_among z ys ≡ true) → ((z : ℕ) → is_among z f.names ≡ true → is_among z ys ≡ true) → (z : ℕ) → is_known t z ≡ false → is_among z (at_hand avoid names f) ≡ true → is_among z ys ≡ true
within t avoid ys names f known one own z unknown h = elim (among_either avoid (values names ++ f.names) z h) [
  | inl q ↦ one z q
  | inr q ↦ elim (among_either (values names) f.names z q) [
    | inl r ↦ elim (known z r) [
      | inl k ↦ absurd (false≢true (sym unknown ∙ k))
      | inr k ↦ k
    ]
    | inr r ↦ own z r
  ]
]

pub takes_beside : (n : ℕ) (t u : Table) (avoid ys : List ℕ) (names : List (ℕ × ℕ)) (f : Form) → ValuesAreIn t ys names → ((z : ℕ) → is_among z avoid ≡ true → is_among z ys ≡ true) → ((z : ℕ) → is_among z f.names ≡ true → is_among z ys ≡ true) → TakesAtMost n (at_hand avoid names f) t u → TakesAtMost n ys t u
takes_beside n t u avoid ys names f known one own taken =
    at_most_beside n (at_hand avoid names f) ys t u (λ z now before h. within t avoid ys names f known one own z before h) taken

pub runs_out_beside : (n : ℕ) (t u : Table) (avoid ys : List ℕ) (names : List (ℕ × ℕ)) (f : Form) → KnowsMore t u → ValuesAreIn t ys names → ((z : ℕ) → is_among z avoid ≡ true → is_among z ys ≡ true) → ((z : ℕ) → is_among z f.names ≡ true → is_among z ys ≡ true) → RunsOut n (at_hand avoid names f) t u → RunsOut n ys t u
runs_out_beside n t u avoid ys names f more known one own out =
    (out.0, lacks_beside n (at_hand avoid names f) ys t (fits_before t u more out.0) (λ z before h. within t avoid ys names f known one own z before h) out.1)

-- what runs out after a call, with what the call took
pub runs_out_then : (n k : ℕ) (xs : List ℕ) (t u v : Table) → TakesAtMost k xs t u → RunsOut n xs u v → RunsOut (k + n) xs t v
runs_out_then n k xs t u v taken out = (out.0, lacks_then n k xs t u taken out.1)

pub runs_out_more : (n k : ℕ) (xs : List ℕ) (t u : Table) → n ≤ k → RunsOut n xs t u → RunsOut k xs t u
runs_out_more n k xs t u le out = (out.0, lacks_more n k xs t le out.1)

-- the values of a map that gets one more name of a node
pub values_entered : (t u : Table) (f : Form) (avoid : List ℕ) (free old new : List (ℕ × ℕ)) (i number name y : ℕ) → KnowsMore t u → is_among name f.names ≡ true → ((n z : ℕ) → value_of free n ≡ Some z → is_among z avoid ≡ true) → IsEntered t u f.names avoid free old new number name y → ValuesAreIn t (avoid ++ f.names) old → ValuesAreIn u (avoid ++ f.names) new
values_entered t u f avoid free old new i number name y more there targets e known z h = elim (told (value_of old number)) [
  | inl k ↦ later (ap (λ m. is_among z (values m)) (sym (e.known k.0 k.1).1) ∙ h)
  | inr missing ↦ elim (value_put_or old number y z (ap (λ m. is_among z (values m)) (sym (e.entered missing)) ∙ h)) [
    | inl same ↦ subst (λ w. (is_known u w ≡ true) ⊎ (is_among w (avoid ++ f.names) ≡ true)) (sym same) (chosen missing)
    | inr before ↦ later before
  ]
]
  where
    later : is_among z (values old) ≡ true → (is_known u z ≡ true) ⊎ (is_among z (avoid ++ f.names) ≡ true)
    later h = elim (known z h) [
      | inl k ↦ inl (more z k)
      | inr k ↦ inr k
    ]

    chosen : value_of old number ≡ None → (is_known u y ≡ true) ⊎ (is_among y (avoid ++ f.names) ≡ true)
    chosen missing =
        let c = e.chosen missing in
        elim (told (value_of free number)) [
          | inl k ↦ inr (is_among-left avoid f.names y (ap (λ w. is_among w avoid) (c.free_name k.0 k.1) ∙ targets number k.0 k.1))
          | inr none ↦ elim (cases_Bool (is_among name avoid)) [
            | inl a ↦ inl (c.known none a)
            | inr a ↦ inr (is_among-right avoid f.names y (ap (λ w. is_among w f.names) (c.kept none a) ∙ there))
          ]
        ]

-- the binders among the first places
abbrev pub binders_below : Form → ℕ → ℕ
binders_below f i = length (filter (is_binder f) (below i))

binders_next : (f : Form) (i : ℕ) → binders_below f (suc i) ≡ binders_below f i + length (filter (is_binder f) (i ∷ []))
binders_next f i = ap (λ l. length l) (filter-append (is_binder f) (below i) (i ∷ [])) ∙ length-append (filter (is_binder f) (below i)) (filter (is_binder f) (i ∷ []))

one_kept : (f : Form) (i : ℕ) → is_binder f i ≡ true → length (filter (is_binder f) (i ∷ [])) ≡ 1
one_kept f i e = ap (λ b. length (cond b (i ∷ []) [])) e

binders_rise : (f : Form) (i d : ℕ) → binders_below f i ≤ binders_below f (i + d)
binders_rise f i zero = let e : i ≡ i + 0 = omega arith in subst (λ k. binders_below f i ≤ binders_below f k) e (omega arith)
binders_rise f i (suc d) =
    let e : suc (i + d) ≡ i + suc d = omega arith in
    subst (λ k. binders_below f i ≤ binders_below f k) e (omega (arith, binders_rise f i d, binders_next f (i + d)))

pub binders_among : (f : Form) (i n : ℕ) → i ≤ n → binders_below f i ≤ binders_below f n
binders_among f i n le =
    let e : i + (n - i) ≡ n = omega (arith, le) in
    subst (λ k. binders_below f i ≤ binders_below f k) e (binders_rise f i (n - i))

-- the name of one more place, which takes a slot only at a binder
pub place_takes : (t u v : Table) (f : Form) (ys : List ℕ) (i : ℕ) → TakesAtMost (binders_below f i) ys t u → (is_binder f i ≡ false → v ≡ u) → TakesAtMost 1 ys u v → TakesAtMost (binders_below f (i + 1)) ys t v
place_takes t u v f ys i before still last = rw (add-one i) (elim (cases_Bool (is_binder f i)) [
  | inl b ↦
      let one = one_kept f i b in
      at_most_more (binders_below f i + 1) (binders_below f (suc i)) ys t v (omega (arith, binders_next f i, one)) (at_most_then (binders_below f i) 1 ys t u v before last)
  | inr clear ↦ at_most_more (binders_below f i) (binders_below f (suc i)) ys t v (omega (arith, binders_next f i)) (subst (λ w. TakesAtMost (binders_below f i) ys t w) (sym (still clear)) before)
])

pub place_runs_out : (t u v : Table) (f : Form) (ys : List ℕ) (i n : ℕ) → i < n → TakesAtMost (binders_below f i) ys t u → (is_binder f i ≡ false → ⊥) → RunsOut 1 ys u v → RunsOut (binders_below f n) ys t v
place_runs_out t u v f ys i n lt before needed out = elim (cases_Bool (is_binder f i)) [
  | inl b ↦
      runs_out_more (binders_below f i + 1) (binders_below f n) ys t v (omega (arith, binders_next f i, one_kept f i b, binders_among f (suc i) n (omega (arith, lt))))
      (runs_out_then 1 (binders_below f i) ys t u v before out)
  | inr clear ↦ absurd (needed clear)
]

-- at a place that is no binder the number has a name
pub In-value : (m : List (ℕ × ℕ)) (n : ℕ) → In n (keys m) → IsSome (value_of m n)
In-value [] n h = absurd h
In-value (p ∷ m) n (inl e) = ap (λ b. is_some (cond b (Some p.1) (value_of m n))) (eq-eqb p.0 n (sym e))
In-value (p ∷ m) n (inr h) = later (nat_eq p.0 n) (In-value m n h)
  where
    later : (b : Bool) → IsSome (value_of m n) → IsSome (cond b (Some p.1) (value_of m n))
    later true k = refl
    later false k = k

some : (o : Option ℕ) (y : ℕ) → o ≡ Some y → IsSome o
some (Some z) y e = refl
some None y e = cc

no_end : (o : Option ℕ) → is_some o ≡ false → o ≡ None
no_end None e = refl
no_end (Some n) e = absurd (false≢true (sym e))

place_named : (f : Form) (free names : List (ℕ × ℕ)) (i : ℕ) → Fits f → i < length f.names → keys free ≡ keys (shape f).1 → Covers names (take i (shape f).0.names) → is_binder f i ≡ false → let n = slice_index (shape f).0.names i in HasName names free n
place_named f free names i fits lt same covers clear =
    let n = slice_index (shape f).0.names i in
    elim (number_met f i fits lt (no_end (scope_end_of (scopes f.tree) i) clear)) [
      | inl q ↦ inr (In-value free n (subst (In n) (sym same) q))
      | inr q ↦ let c = Covers-at names (take i (shape f).0.names) n covers q in inl (some (value_of names n) c.0 c.1)
    ]

pub number_named : (t u : Table) (f h : Form) (avoid : List ℕ) (free names : List (ℕ × ℕ)) (i number : ℕ) → Fits f → i < length f.names → keys free ≡ keys (shape f).1 → IsRenaming t u f avoid free names h i → number ≡ slice_index h.names i → is_binder f i ≡ false → HasName names free number
number_named t u f h avoid free names i number fits lt same d e clear =
    subst (HasName names free) (sym (e ∙ renaming_number t u f h avoid free names i lt d)) (place_named f free names i fits lt same d.covers clear)

-- different names of a list are no more than the list has
without : ℕ → List ℕ → List ℕ
without x ys = filter (λ y. not (nat_eq y x)) ys

without_shorter : (x : ℕ) (ys : List ℕ) → length (without x ys) ≤ length ys
unfolding without
without_shorter x [] = omega arith
without_shorter x (y ∷ ys) = elim (cases_Bool (nat_eq y x)) [
  | inl e ↦ rw e (omega (arith, without_shorter x ys))
  | inr e ↦ rw e (omega (arith, without_shorter x ys))
]

without_less : (x : ℕ) (ys : List ℕ) → is_among x ys ≡ true → length (without x ys) + 1 ≤ length ys
unfolding without
without_less x [] h = absurd (false≢true h)
without_less x (y ∷ ys) h = elim (cases_Bool (nat_eq y x)) [
  | inl e ↦ rw e (omega (arith, without_shorter x ys))
  | inr e ↦
      let rest : is_among x ys ≡ true = sym (ap (λ b. b || is_among x ys) e) ∙ h in
      rw e (omega (arith, without_less x ys rest))
]

without_keeps : (x z : ℕ) (ys : List ℕ) → x < z → is_among z ys ≡ true → is_among z (without x ys) ≡ true
unfolding without
without_keeps x z [] lt h = h
without_keeps x z (y ∷ ys) lt h = elim (cases_eq y z) [
  | inl d ↦
      let other : nat_eq y x ≡ false = ne_eqb y x (λ q. omega (arith, lt, d, q)) in
      rw other (ap (λ b. b || is_among z (without x ys)) (eq-eqb y z d))
  | inr n ↦
      let rest = without_keeps x z ys lt (sym (ap (λ b. b || is_among z ys) (ne_eqb y z n)) ∙ h) in
      elim (cases_Bool (nat_eq y x)) [
        | inl e ↦ rw e rest
        | inr e ↦ rw e (or_last (nat_eq y z) rest)
      ]
]

above_all : (k : ℕ) (xs : List ℕ) (z : ℕ) → AllAbove k xs → is_among z xs ≡ true → k < z
above_all k [] z a h = absurd (false≢true h)
above_all k (x ∷ xs) z a h = elim (cases_eq x z) [
  | inl d ↦ omega (arith, a.0, d)
  | inr n ↦ above_all k xs z a.1 (sym (ap (λ b. b || is_among z xs) (ne_eqb x z n)) ∙ h)
]

pub few_different : (xs ys : List ℕ) → IsAscending xs → ((z : ℕ) → is_among z xs ≡ true → is_among z ys ≡ true) → length xs ≤ length ys
few_different [] ys a h = omega arith
few_different (x ∷ xs) ys a h =
    let here : is_among x ys ≡ true = h x (or_first (is_among x xs) (eq-eqb x x refl)) in
    let rest = few_different xs (without x ys) a.1 (λ z q. without_keeps x z ys (above_all x xs z a.0 q) (h z (or_last (nat_eq x z) q))) in
    omega (arith, rest, without_less x ys here)

-- free names and binders stand at places of their own
kinds_differ : (f : Form) (ns : List ℕ) → length (filter (is_public f) ns) + length (filter (is_binder f) ns) ≤ length ns
kinds_differ f [] = omega arith
kinds_differ f (i ∷ ns) = one (scope_end_of (scopes f.tree) i) refl (kinds_differ f ns)
  where
    one : (o : Option ℕ) → scope_end_of (scopes f.tree) i ≡ o → length (filter (is_public f) ns) + length (filter (is_binder f) ns) ≤ length ns → length (filter (is_public f) (i ∷ ns)) + length (filter (is_binder f) (i ∷ ns)) ≤ suc (length ns)
    one None e h =
        let clear : is_binder f i ≡ false = ap is_some e in
        elim (cases_Bool (is_public f i)) [
          | inl p ↦ rw (clear, p) (omega (arith, h))
          | inr p ↦ rw (clear, p) (omega (arith, h))
        ]
    one (Some end) e h =
        let clear : is_public f i ≡ false = ap (λ o. is_no_binder o && not (is_bound_by f i i)) e in
        elim (cases_Bool (is_binder f i)) [
          | inl p ↦ rw (clear, p) (omega (arith, h))
          | inr p ↦ rw (clear, p) (omega (arith, h))
        ]

length_below : (n : ℕ) → length (below n) ≡ n
length_below zero = refl
length_below (suc n) = let e = length_below n in length-append (below n) (n ∷ []) ∙ omega (arith, e)

-- so the different free names and the binders are no more than the places
pub names_and_binders : (f : Form) (wanted : List ℕ) → Fits f → IsAscending wanted → ((x : ℕ) → is_among x wanted ≡ is_among x (free_names_of f)) → length wanted + binders f ≤ length f.names
names_and_binders f wanted fits up same =
    let few = few_different wanted (free_names_of f) up (λ z q. sym (same z) ∙ q) in
    let public : length (free_names_of f) ≡ length (filter (is_public f) (below (length f.names))) =
    ap (λ xs. length xs) (sym (public_free f fits)) ∙ length-map_names (slice_index f.names) (filter (is_public f) (below (length f.names))) in
    omega (arith, few, public, kinds_differ f (below (length f.names)), length_below (length f.names))

-- there are no more binders than places
pub binders_fit : (f : Form) → binders f ≤ length f.names
binders_fit f = omega (arith, kinds_differ f (below (length f.names)), length_below (length f.names))

-- a map that was filled has known values in addition
pub filled_values : (t u : Table) (xs wanted : List ℕ) (m names : List (ℕ × ℕ)) (ys : List ℕ) → IsAscending (keys names) → IsFilled t u xs wanted m names → ((z : ℕ) → is_among z (values m) ≡ true → is_among z ys ≡ true) → ValuesAreIn u ys names
filled_values t u xs wanted m names ys up d old z h =
    let k = keyed names z up h in
    elim (told (value_of m k.0)) [
      | inl v ↦
          let same : v.0 ≡ z = one_value (value_of names k.0) v.0 z (d.kept k.0 v.0 v.1) k.1 in
          inr (old z (ap (λ w. is_among w (values m)) (sym same) ∙ is_among-value_of m k.0 v.0 v.1))
      | inr none ↦ inl (d.known k.0 z none k.1)
    ]
  where
    one_value : (o : Option ℕ) (a b : ℕ) → o ≡ Some a → o ≡ Some b → a ≡ b
    one_value o a b p q = cc

-- a map that got one more name, which is known
pub values_filled : (t : Table) (m n : List (ℕ × ℕ)) (x y : ℕ) → n ≡ with_pair m x y → is_known t y ≡ true → ValuesAreIn t (values m) n
values_filled t m n x y e known z h = elim (value_put_or m x y z (ap (λ l. is_among z (values l)) (sym e) ∙ h)) [
  | inl same ↦ inl (ap (is_known t) same ∙ known)
  | inr before ↦ inr before
]

-- values of a map at hand are at hand
pub values_at_hand : (t : Table) (avoid : List ℕ) (m names : List (ℕ × ℕ)) (f : Form) → ValuesAreIn t (values m) names → ValuesAreIn t (at_hand avoid m f) names
values_at_hand t avoid m names f known z h = elim (known z h) [
  | inl k ↦ inl k
  | inr k ↦ inr (in_use_at_hand avoid m f z (inr (inl k)))
]

-- so it is after each further step
pub values_then : (t u : Table) (ys : List ℕ) (m n : List (ℕ × ℕ)) → KnowsMore t u → ValuesAreIn t ys m → ValuesAreIn u (values m) n → ValuesAreIn u ys n
values_then t u ys m n more first second z h = elim (second z h) [
  | inl k ↦ inl k
  | inr k ↦ elim (first z k) [
    | inl q ↦ inl (more z q)
    | inr q ↦ inr q
  ]
]

-- what runs out beside some names runs out beside others that have those of them that are not known
pub runs_out_from : (n : ℕ) (xs ys : List ℕ) (t u : Table) → KnowsMore t u → ((z : ℕ) → is_known t z ≡ false → is_among z xs ≡ true → is_among z ys ≡ true) → RunsOut n xs t u → RunsOut n ys t u
runs_out_from n xs ys t u more inside out = (out.0, lacks_beside n xs ys t (fits_before t u more out.0) inside out.1)

-- what was avoided by a renaming is among the names at hand
pub composed_within : (f : Form) (avoid : List ℕ) (free m names : List (ℕ × ℕ)) → ((z : ℕ) → is_among z avoid ≡ is_among z (values names)) → names ≡ composed free m → (z : ℕ) → is_among z (avoid ++ f.names) ≡ true → is_among z (values m ++ f.names) ≡ true
composed_within f avoid free m names same e z h = elim (among_either avoid f.names z h) [
  | inl q ↦ is_among-left (values m) f.names z (is_among-composed free m z (ap (λ l. is_among z (values l)) (sym e) ∙ (sym (same z) ∙ q)))
  | inr q ↦ is_among-right (values m) f.names z q
]

-- and where free names and all names of the node were avoided, among those of the node
pub avoided_stands : (f : Form) (before avoid : List ℕ) (free : List (ℕ × ℕ)) → Fits f → values free ≡ firsts (free_names_of f) → ((z : ℕ) → is_among z before ≡ is_among z (values free)) → ((z : ℕ) → is_among z avoid ≡ true → IsInEither before f.names z) → (z : ℕ) → is_among z (avoid ++ f.names) ≡ true → is_among z f.names ≡ true
avoided_stands f before avoid free fits names members inside z h = elim (among_either avoid f.names z h) [
  | inl q ↦ elim (inside z q) [
    | inl r ↦ free_stands f z fits (sym (is_among-firsts z (free_names_of f)) ∙ (ap (is_among z) (sym names) ∙ (sym (members z) ∙ r)))
    | inr r ↦ r
  ]
  | inr q ↦ q
]

-- some names of a node, one slot for each
module _ (t u : Table) (wanted : List ℕ) (names : List (ℕ × ℕ)) (f : Form) (none : names ≡ []) (up : IsAscending wanted) (own : KeepsAll wanted f.names) where
  no_values : ValuesAreIn t f.names names
  no_values z h = absurd (false≢true (sym (ap (λ m. is_among z (values m)) none) ∙ h))

  pub refreshed_takes : TakesAtMost (length wanted) (at_hand wanted names f) t u → TakesAtMost (length f.names) f.names t u
  refreshed_takes taken =
      at_most_more (length wanted) (length f.names) f.names t u (few_different wanted f.names up own)
      (takes_beside (length wanted) t u wanted f.names names f no_values own (λ z q. q) taken)

  pub refreshed_runs_out : KnowsMore t u → RunsOut (length wanted) (at_hand wanted names f) t u → RunsOut (length f.names) f.names t u
  refreshed_runs_out more out =
      runs_out_more (length wanted) (length f.names) f.names t u (few_different wanted f.names up own)
      (runs_out_beside (length wanted) t u wanted f.names names f more no_values own (λ z q. q) out)

-- the free names that a map lacks, one slot for each, and then the binders
module _ (t u : Table) (wanted : List ℕ) (m : List (ℕ × ℕ)) (f : Form) (fits : Fits f) (up : IsAscending wanted) (same : (x : ℕ) → is_among x wanted ≡ is_among x (free_names_of f)) where
  handed : ValuesAreIn t (values m ++ f.names) m
  handed z h = inr (is_among-left (values m) f.names z h)

  wanted_stand : (z : ℕ) → is_among z wanted ≡ true → is_among z (values m ++ f.names) ≡ true
  wanted_stand z h = is_among-right (values m) f.names z (free_stands f z fits (sym (same z) ∙ h))

  first_takes : TakesAtMost (length wanted) (at_hand wanted m f) t u → TakesAtMost (length wanted) (values m ++ f.names) t u
  first_takes taken = takes_beside (length wanted) t u wanted (values m ++ f.names) m f handed wanted_stand (is_among-right (values m) f.names) taken

  pub filling_takes : TakesAtMost (length wanted) (at_hand wanted m f) t u → TakesAtMost (length f.names) (values m ++ f.names) t u
  filling_takes taken = at_most_more (length wanted) (length f.names) (values m ++ f.names) t u (omega (arith, names_and_binders f wanted fits up same)) (first_takes taken)

  pub filling_runs_out : KnowsMore t u → RunsOut (length wanted) (at_hand wanted m f) t u → RunsOut (length f.names) (values m ++ f.names) t u
  filling_runs_out more out =
      runs_out_more (length wanted) (length f.names) (values m ++ f.names) t u (omega (arith, names_and_binders f wanted fits up same))
      (runs_out_beside (length wanted) t u wanted (values m ++ f.names) m f more handed wanted_stand (is_among-right (values m) f.names) out)

  module _ (v : Table) (names : List (ℕ × ℕ)) (ascending : IsAscending (keys names)) (d : IsFilled t u f.names wanted m names) (taken : TakesAtMost (length wanted) (at_hand wanted m f) t u) where
    inside : (z : ℕ) → is_known u z ≡ false → is_among z (values names ++ f.names) ≡ true → is_among z (values m ++ f.names) ≡ true
    inside z unknown h = elim (among_either (values names) f.names z h) [
      | inl q ↦ elim (filled_values t u f.names wanted m names (values m ++ f.names) ascending d (is_among-left (values m) f.names) z q) [
        | inl k ↦ absurd (false≢true (sym unknown ∙ k))
        | inr k ↦ k
      ]
      | inr q ↦ is_among-right (values m) f.names z q
    ]

    pub filled_takes : TakesAtMost (binders f) (values names ++ f.names) u v → TakesAtMost (length f.names) (values m ++ f.names) t v
    filled_takes last =
        at_most_more (length wanted + binders f) (length f.names) (values m ++ f.names) t v (names_and_binders f wanted fits up same)
        (at_most_then (length wanted) (binders f) (values m ++ f.names) t u v (first_takes taken)
        (at_most_beside (binders f) (values names ++ f.names) (values m ++ f.names) u v (λ z now before h. inside z before h) last))

    pub filled_runs_out : KnowsMore u v → RunsOut (binders f) (values names ++ f.names) u v → RunsOut (length f.names) (values m ++ f.names) t v
    filled_runs_out more out =
        runs_out_more (length wanted + binders f) (length f.names) (values m ++ f.names) t v (names_and_binders f wanted fits up same)
        (runs_out_then (binders f) (length wanted) (values m ++ f.names) t u v (first_takes taken)
        (runs_out_from (binders f) (values names ++ f.names) (values m ++ f.names) u v more inside out))
