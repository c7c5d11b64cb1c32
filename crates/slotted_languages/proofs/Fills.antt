-- Maps that get a fresh slot for each name that they lack, and nodes with such slots in the place of names.
use Rattle.std.proofs.Common.{◌≡◌, ◌≢◌, ℕ, suc, ◌+◌, ◌<◌, List, [], ◌∷◌, ◌++◌, length, take, drop, Option, Some, None, sym, ◌∙◌, ap, refl, subst, inl, inr, arith, map, slice_index, add-one}
use Rattle.std.specs.Prelude.{Bool, true, false, ◌||◌, ◌&&◌, not, nat_eq, IsSome, unwrap_or, is_some, slice_index_or}
use Rattle.std.proofs.lemmas.Bool.{eq-eqb, ne_eqb, cases_eq, eqb-true, false≢true}
use Rattle.std.proofs.lemmas.List.{map-append, length-take-le}
use Rattle.std.proofs.lemmas.List.Elements.{All-nil, All-cons}
use Rattle.std.proofs.Math.Seq.{take-suc}
use Rattle.std.specs.Ordering.{nat_cmp}
use Rattle.slotted_lists.proofs.Members.{In}
use Rattle.slotted_lists.proofs.Booleans.{or-true}
use Rattle.slotted_lists.proofs.Options.{some-or_none as told}
use Rattle.slotted_lists.proofs.Lists.{length-map_names}
use Rattle.slotted_theory.specs.FiniteMaps.{top, filled}
use Rattle.slotted_theory.specs.Nameless.{moved}
use Rattle.slotted_slots.specs.Maps.{value_of, with_pair, values, is_among, KnowsAll}
use Rattle.slotted_slots.specs.Sets.{has, insert_key}
use Rattle.slotted_slots.specs.Table.{Table, is_known, KnowsMore}
use Rattle.slotted_slots.proofs.Ascending.{has-is_among, is_among-insert_key}
use Rattle.slotted_slots.proofs.MapLaws.{is_among-value_of}
use Rattle.slotted_nodes.specs.Form.{Form, with_name}
use Rattle.slotted_languages.specs.Fresh.{IsFilled, IsRefreshed, IsRenamedFresh, replaced}
use Rattle.slotted_languages.specs.NodeTerm.{nameless_node, free_names_of}
use Rattle.slotted_languages.specs.Shape.{shape, with_names, Fits}
use Rattle.slotted_languages.proofs.FilledFrom.{filled-walked}
use Rattle.slotted_languages.proofs.Numbered.{Knows}
use Rattle.slotted_languages.proofs.Occurrences.{is_among-append, or_false}
use Rattle.slotted_languages.proofs.RenamedNumbers.{IsApart, renamed_node}
use Rattle.slotted_languages.proofs.Renamings.{is_some_of, some_of, value_of-filled, unknown_before}
use Rattle.slotted_languages.proofs.Walks.{value_of-with_pair_same, value_of-with_pair_other}
use Rattle.slotted_languages.proofs.WalkNames.{Named, names_of_shape}
use Rattle.slotted_languages.proofs.WalkSteps.{place_written}

none_some : {A : Type 0} (o : Option ℕ) (y : ℕ) → o ≡ None → o ≡ Some y → A
none_some o y e f = cc

same_some : (o : Option ℕ) (y z : ℕ) → o ≡ Some y → o ≡ Some z → y ≡ z
same_some o y z e f = cc

-- the only name of a list of one
only_name : (x z : ℕ) → is_among z (x ∷ []) ≡ true → x ≡ z
only_name x z e = eqb-true x z (sym (or_false (nat_eq x z)) ∙ e)

first_name : (x : ℕ) → is_among x (x ∷ []) ≡ true
first_name x = ap (λ b. b || false) (eq-eqb x x refl)

-- the name has a value already
pub known_filled : (t : Table) (xs : List ℕ) (m : List (ℕ × ℕ)) (x : ℕ) → IsSome (value_of m x) → IsFilled t t xs (x ∷ []) m m
known_filled t xs m x h = record {
  kept = λ z y e. e;
  has = λ z e. subst (λ w. IsSome (value_of m w)) (only_name x z e) h;
  asked = λ z y e f. none_some (value_of m z) y e f;
  unused = λ z y e f. none_some (value_of m z) y e f;
  known = λ z y e f. none_some (value_of m z) y e f;
  apart = λ z y e f. none_some (value_of m z) y e f;
  differ = λ z w y e f g. none_some (value_of m z) y e f;
}

module _ (m : List (ℕ × ℕ)) (x y : ℕ) (missing : value_of m x ≡ None) where
  -- what a map with one more pair says
  at_new : (v : ℕ) → value_of (with_pair m x y) x ≡ Some v → y ≡ v
  at_new v e = same_some (value_of (with_pair m x y) x) y v (value_of-with_pair_same m x y) e

  at_old : (z v : ℕ) → x ≢ z → value_of (with_pair m x y) z ≡ Some v → value_of m z ≡ Some v
  at_old z v n e = sym (value_of-with_pair_other m x y z n) ∙ e

  -- a name that got a value is the new one
  is_new : (z v : ℕ) → value_of m z ≡ None → value_of (with_pair m x y) z ≡ Some v → (x ≡ z) × (y ≡ v)
  is_new z v e f = elim (cases_eq x z) [
    | inl d ↦ (d, at_new v (ap (value_of (with_pair m x y)) d ∙ f))
    | inr n ↦ none_some (value_of m z) v e (at_old z v n f)
  ]

  new_filled : (t u : Table) (xs : List ℕ) → is_known t y ≡ false → is_known u y ≡ true → is_among y xs ≡ false → is_among y (values m) ≡ false → IsFilled t u xs (x ∷ []) m (with_pair m x y)
  new_filled t u xs unused known apart other = record {
    kept = λ z v e. elim (cases_eq x z) [
      | inl d ↦ none_some (value_of m x) v missing (ap (value_of m) d ∙ e)
      | inr n ↦ value_of-with_pair_other m x y z n ∙ e
    ];
    has = λ z e. subst (λ w. IsSome (value_of (with_pair m x y) w)) (only_name x z e) (is_some_of (value_of (with_pair m x y) x) y (value_of-with_pair_same m x y));
    asked = λ z v e f. subst (λ w. is_among w (x ∷ []) ≡ true) (is_new z v e f).0 (first_name x);
    unused = λ z v e f. subst (λ w. is_known t w ≡ false) (is_new z v e f).1 unused;
    known = λ z v e f. subst (λ w. is_known u w ≡ true) (is_new z v e f).1 known;
    apart = λ z v e f. subst (λ w. is_among w xs ≡ false) (is_new z v e f).1 apart;
    differ = λ z w v e f g. elim (cases_eq x w) [
      | inl d ↦ sym (is_new z v e f).0 ∙ d
      | inr n ↦
          let there : is_among v (values m) ≡ true = is_among-value_of m w v (at_old w v n g) in
          absurd (false≢true (sym other ∙ (ap (λ u. is_among u (values m)) (is_new z v e f).1 ∙ there)))
    ];
  }

-- the name got a slot
pub one_filled : (t u : Table) (xs : List ℕ) (m n : List (ℕ × ℕ)) (x y : ℕ) → value_of m x ≡ None → n ≡ with_pair m x y → is_known t y ≡ false → is_known u y ≡ true → is_among y xs ≡ false → is_among y (values m) ≡ false → IsFilled t u xs (x ∷ []) m n
one_filled t u xs m n x y missing e unused known apart other = rw e (new_filled m x y missing t u xs unused known apart other)

or_left : (a b : Bool) → a ≡ true → (a || b) ≡ true
or_left true b e = refl
or_left false b e = absurd (false≢true e)

or_right : (a b : Bool) → b ≡ true → (a || b) ≡ true
or_right true b e = refl
or_right false b e = e

module _ (t u v : Table) (xs ws : List ℕ) (w : ℕ) (m n o : List (ℕ × ℕ)) (more : KnowsMore t u) (grows : KnowsMore u v) (a : IsFilled t u xs ws m n) (b : IsFilled u v xs (w ∷ []) n o) where
  early : (x : ℕ) → is_among x ws ≡ true → is_among x (ws ++ w ∷ []) ≡ true
  early x e = is_among-append x ws (w ∷ []) ∙ or_left (is_among x ws) (is_among x (w ∷ [])) e

  late : (x : ℕ) → is_among x (w ∷ []) ≡ true → is_among x (ws ++ w ∷ []) ≡ true
  late x e = is_among-append x ws (w ∷ []) ∙ or_right (is_among x ws) (is_among x (w ∷ [])) e

  -- the value was there before the last name, or the last name has it
  stage : (P : ℕ → ℕ → Type 0) → ((x y : ℕ) → value_of m x ≡ None → value_of n x ≡ Some y → P x y) → ((x y : ℕ) → value_of n x ≡ None → value_of o x ≡ Some y → P x y) → (x y : ℕ) → value_of m x ≡ None → value_of o x ≡ Some y → P x y
  stage P f g x y e h = elim (told (value_of n x)) [
    | inl z ↦ f x y e (z.1 ∙ ap Some (same_some (value_of o x) z.0 y (b.kept x z.0 z.1) h))
    | inr q ↦ g x y q h
  ]

  -- one more name was asked
  pub more_filled : IsFilled t v xs (ws ++ w ∷ []) m o
  more_filled = record {
    kept = λ x y e. b.kept x y (a.kept x y e);
    has = λ x e. elim (or-true (is_among x ws) (is_among x (w ∷ [])) (sym (is_among-append x ws (w ∷ [])) ∙ e)) [
      | inl q ↦ let z = some_of (value_of n x) (a.has x q) in is_some_of (value_of o x) z.0 (b.kept x z.0 z.1)
      | inr q ↦ b.has x q
    ];
    asked = stage (λ x y. is_among x (ws ++ w ∷ []) ≡ true) (λ x y e f. early x (a.asked x y e f)) (λ x y e f. late x (b.asked x y e f));
    unused = stage (λ x y. is_known t y ≡ false) a.unused (λ x y e f. unknown_before t u y more (b.unused x y e f));
    known = stage (λ x y. is_known v y ≡ true) (λ x y e f. grows y (a.known x y e f)) b.known;
    apart = stage (λ x y. is_among y xs ≡ false) a.apart b.apart;
    differ = λ x z y e f g. elim (told (value_of n x)) [
      | inr q ↦ b.differ x z y q f g
      | inl p ↦ elim (told (value_of n z)) [
        | inr q ↦ sym (b.differ z x y q g f)
        | inl r ↦
            let px : p.0 ≡ y = same_some (value_of o x) p.0 y (b.kept x p.0 p.1) f in
            let rz : r.0 ≡ y = same_some (value_of o z) r.0 y (b.kept z r.0 r.1) g in
            a.differ x z y e (p.1 ∙ ap Some px) (r.1 ∙ ap Some rz)
      ]
    ];
  }

-- a map that has each of some names knows them all
pub knows_each : (m : List (ℕ × ℕ)) (xs : List ℕ) → ((x : ℕ) → is_among x xs ≡ true → IsSome (value_of m x)) → KnowsAll m xs
knows_each m [] h = All-nil (λ y. IsSome (value_of m y))
knows_each m (x ∷ xs) h =
    All-cons (λ y. IsSome (value_of m y)) x xs (h x (or_left (nat_eq x x) (is_among x xs) (eq-eqb x x refl)))
    (knows_each m xs (λ z e. h z (or_right (nat_eq x z) (is_among z xs) e)))

pub filled_at : (m : List (ℕ × ℕ)) (x y : ℕ) → value_of m x ≡ Some y → filled m x ≡ y
filled_at m x y e = ap (λ (g : ℕ → ℕ). g x) (filled-walked m) ∙ value_of-filled (top m) m x y e

-- a node that is renamed by such a map
pub renamed_fresh : (t u : Table) (m names : List (ℕ × ℕ)) (wanted : List ℕ) (f g : Form) → IsFilled t u f.names wanted m names → ((x : ℕ) → is_among x wanted ≡ is_among x (free_names_of f)) → nameless_node g ≡ moved (filled names) (nameless_node f) → IsRenamedFresh t m f g
renamed_fresh t u m names wanted f g d same e = record {
  by = filled names;
  known = λ x y q. filled_at names x y (d.kept x y q);
  unused = λ x q miss. let z = value x q in subst (λ w. is_known t w ≡ false) (sym (filled_at names x z.0 z.1)) (d.unused x z.0 miss z.1);
  apart = λ x q miss. let z = value x q in subst (λ w. is_among w f.names ≡ false) (sym (filled_at names x z.0 z.1)) (d.apart x z.0 miss z.1);
  differ = λ x w q miss r k.
      let z = value x q in
      let v = value w r in
      let s : v.0 ≡ z.0 = sym (filled_at names w v.0 v.1) ∙ (sym k ∙ filled_at names x z.0 z.1) in
      d.differ x w z.0 miss z.1 (v.1 ∙ ap Some s);
  renamed = e;
}
  where
    value : (x : ℕ) → is_among x (free_names_of f) ≡ true → (y : ℕ) × (value_of names x ≡ Some y)
    value x q = some_of (value_of names x) (d.has x (same x ∙ q))

-- names that are replaced one after another
pub one_replaced : (f h k : Form) (m : List (ℕ × ℕ)) (i x y : ℕ) → i < length f.names → h ≡ with_names f (map (replaced m) (take i f.names) ++ drop i f.names) → x ≡ slice_index f.names i → y ≡ replaced m x → k ≡ with_name h i y → k ≡ with_names f (map (replaced m) (take (i + 1) f.names) ++ drop (i + 1) f.names)
one_replaced f h k m i x y lt e ex ey ek =
    let ps = map (replaced m) (take i f.names) in
    let li : length ps ≡ i = length-map_names (replaced m) (take i f.names) ∙ length-take-le i f.names (omega (arith, lt)) in
    let more : map (replaced m) (take (suc i) f.names) ≡ ps ++ y ∷ [] =
    ap (map (replaced m)) (take-suc f.names i 0 lt) ∙ (map-append (replaced m) (take i f.names) (slice_index f.names i ∷ []) ∙ ap (λ z. ps ++ z ∷ []) (sym (ey ∙ ap (replaced m) ex))) in
    rw (add-one i) (ek ∙ (ap (λ g. with_name g i y) e ∙ ap (with_names f) (place_written ps f.names i y li lt ∙ ap (λ zs. zs ++ drop (suc i) f.names) (sym more))))

map_twice : (f g : ℕ → ℕ) (xs : List ℕ) → map (λ x. g (f x)) xs ≡ map g (map f xs)
map_twice f g [] = refl
map_twice f g (x ∷ xs) = ap (λ r. g (f x) ∷ r) (map_twice f g xs)

among_mapped : (f : ℕ → ℕ) (xs : List ℕ) (x : ℕ) → In x xs → is_among (f x) (map f xs) ≡ true
among_mapped f [] x h = absurd h
among_mapped f (y ∷ xs) x (inl e) = or_left (nat_eq (f y) (f x)) (is_among (f x) (map f xs)) (eq-eqb (f y) (f x) (sym (ap f e)))
among_mapped f (y ∷ xs) x (inr h) = or_right (nat_eq (f y) (f x)) (is_among (f x) (map f xs)) (among_mapped f xs x h)

Knows_then : (f g : ℕ → ℕ) (m : List (ℕ × ℕ)) → Knows f (λ x. x) m → Knows (λ n. g (f n)) g m
Knows_then f g [] h = tt
Knows_then f g (p ∷ m) h = (ap g h.0, Knows_then f g m h.1)

-- a function on names that keeps the node's names apart renames it, up to bound names
all_names_moved : (f : Form) (by : ℕ → ℕ) → Fits f → ((x z : ℕ) → is_among x f.names ≡ true → is_among z f.names ≡ true → by x ≡ by z → x ≡ z) → nameless_node (with_names f (map by f.names)) ≡ moved by (nameless_node f)
all_names_moved f by fits differ =
    let w : Named f = names_of_shape f fits in
    let new : ℕ → ℕ = λ n. by (w.old n) in
    let there : (n : ℕ) → In n (shape f).0.names → is_among (w.old n) f.names ≡ true = λ n h. ap (is_among (w.old n)) (sym w.were) ∙ among_mapped w.old (shape f).0.names n h in
    let apart : IsApart f w.old new = record { were = w.were; free = w.free; meet = λ b n fb ib im q. differ (w.old b) (w.old n) (there b ib) (there n im) q } in
    let put : map by f.names ≡ map new (shape f).0.names = ap (map by) (sym w.were) ∙ sym (map_twice w.old by (shape f).0.names) in
    ap (λ zs. nameless_node (with_names f zs)) put ∙ renamed_node f w.old new by fits apart (Knows_then w.old by (shape f).1 w.free)

-- a node whose names are replaced by such a map
module _ (t u : Table) (f g : Form) (wanted : List ℕ) (names : List (ℕ × ℕ)) (fits : Fits f) (d : IsFilled t u f.names wanted [] names) (put : g ≡ with_names f (map (replaced names) f.names)) where
  value_at : (x y : ℕ) → value_of names x ≡ Some y → replaced names x ≡ y
  value_at x y e = ap (λ o. unwrap_or o x) e

  same_at : (x : ℕ) → value_of names x ≡ None → replaced names x ≡ x
  same_at x e = ap (λ o. unwrap_or o x) e

  wanted_value : (x : ℕ) → is_among x wanted ≡ true → (y : ℕ) × (value_of names x ≡ Some y)
  wanted_value x e = some_of (value_of names x) (d.has x e)

  names_differ : (x z : ℕ) → is_among x f.names ≡ true → is_among z f.names ≡ true → replaced names x ≡ replaced names z → x ≡ z
  names_differ x z hx hz e = elim (told (value_of names x)) [
    | inl p ↦ elim (told (value_of names z)) [
      | inl q ↦ d.differ x z p.0 refl p.1 (q.1 ∙ ap Some (sym (value_at z q.0 q.1) ∙ (sym e ∙ value_at x p.0 p.1)))
      | inr q ↦ absurd (false≢true (sym (d.apart x p.0 refl p.1) ∙ (ap (λ w. is_among w f.names) (sym (value_at x p.0 p.1) ∙ (e ∙ same_at z q)) ∙ hz)))
    ]
    | inr p ↦ elim (told (value_of names z)) [
      | inl q ↦ absurd (false≢true (sym (d.apart z q.0 refl q.1) ∙ (ap (λ w. is_among w f.names) (sym (value_at z q.0 q.1) ∙ (sym e ∙ same_at x p)) ∙ hx)))
      | inr q ↦ sym (same_at x p) ∙ (e ∙ same_at z q)
    ]
  ]

  pub refreshed : IsRefreshed t (λ x. is_among x wanted) f g
  refreshed = record {
    by = replaced names;
    kept = λ x e. elim (told (value_of names x)) [
      | inl p ↦ absurd (false≢true (sym e ∙ d.asked x p.0 refl p.1))
      | inr p ↦ same_at x p
    ];
    unused = λ x h e. let z = wanted_value x e in subst (λ w. is_known t w ≡ false) (sym (value_at x z.0 z.1)) (d.unused x z.0 refl z.1);
    apart = λ x h e. let z = wanted_value x e in subst (λ w. is_among w f.names ≡ false) (sym (value_at x z.0 z.1)) (d.apart x z.0 refl z.1);
    differ = names_differ;
    places = put;
    renamed = ap nameless_node put ∙ all_names_moved f (replaced names) fits names_differ;
  }

-- the same of names that are chosen in another way
refreshed_as : (t : Table) (old new : ℕ → Bool) (f g : Form) → ((x : ℕ) → new x ≡ false → old x ≡ false) → ((x : ℕ) → is_among x f.names ≡ true → new x ≡ true → old x ≡ true) → IsRefreshed t old f g → IsRefreshed t new f g
refreshed_as t old new f g out into r = record {
  by = r.by;
  kept = λ x e. r.kept x (out x e);
  unused = λ x h e. r.unused x h (into x h e);
  apart = λ x h e. r.apart x h (into x h e);
  differ = r.differ;
  places = r.places;
  renamed = r.renamed;
}

and_false : (b : Bool) → (b && false) ≡ false
and_false true = refl
and_false false = refl

-- where the set holds those of the node's names that are chosen
pub refreshed_by : (t : Table) (set : List ℕ) (chosen : ℕ → Bool) (f g : Form) → ((x : ℕ) → is_among x set ≡ (is_among x f.names && chosen x)) → IsRefreshed t (λ x. is_among x set) f g → IsRefreshed t chosen f g
refreshed_by t set chosen f g same r =
    refreshed_as t (λ x. is_among x set) chosen f g
    (λ x e. same x ∙ (ap (λ b. is_among x f.names && b) e ∙ and_false (is_among x f.names)))
    (λ x h e. same x ∙ (ap (λ b. b && chosen x) h ∙ e)) r

-- the names of one more place, where they are among those of the first i places and chosen
is_among-more : (names : List ℕ) (i name x : ℕ) → name ≡ slice_index names i → i < length names → is_among x (take (i + 1) names) ≡ (is_among x (take i names) || nat_eq name x)
is_among-more names i name x e lt =
    rw (add-one i) (ap (is_among x) (take-suc names i 0 lt ∙ ap (λ y. take i names ++ y ∷ []) (sym e))
    ∙ (is_among-append x (take i names) (name ∷ []) ∙ ap (λ b. is_among x (take i names) || b) (or_false (nat_eq name x))))

or_and : (a c : Bool) → ((a || false) && c) ≡ (a && c)
or_and true c = refl
or_and false c = refl

true_and : (a c : Bool) → c ≡ true → true ≡ ((a || true) && c)
true_and true c e = sym e
true_and false c e = sym e

chosen_step : (old names : List ℕ) (i name : ℕ) (chosen : ℕ → Bool) → name ≡ slice_index names i → i < length names → ((x : ℕ) → is_among x old ≡ (is_among x (take i names) && chosen x)) → chosen name ≡ true → (x : ℕ) → is_among x (insert_key nat_cmp old name) ≡ (is_among x (take (i + 1) names) && chosen x)
chosen_step old names i name chosen e lt h c x =
    is_among-insert_key x name old ∙ (elim (cases_eq name x) [
      | inl d ↦
          ap (λ b. b || is_among x old) (eq-eqb name x d)
          ∙ (true_and (is_among x (take i names)) (chosen x) (ap chosen (sym d) ∙ c) ∙ ap (λ b. (is_among x (take i names) || b) && chosen x) (sym (eq-eqb name x d)))
      | inr n ↦
          ap (λ b. b || is_among x old) (ne_eqb name x n)
          ∙ (h x ∙ (sym (or_and (is_among x (take i names)) (chosen x)) ∙ ap (λ b. (is_among x (take i names) || b) && chosen x) (sym (ne_eqb name x n))))
    ] ∙ ap (λ b. b && chosen x) (sym (is_among-more names i name x e lt)))

skipped_step : (old names : List ℕ) (i name : ℕ) (chosen : ℕ → Bool) → name ≡ slice_index names i → i < length names → ((x : ℕ) → is_among x old ≡ (is_among x (take i names) && chosen x)) → chosen name ≡ false → (x : ℕ) → is_among x old ≡ (is_among x (take (i + 1) names) && chosen x)
skipped_step old names i name chosen e lt h c x =
    h x ∙ (elim (cases_eq name x) [
      | inl d ↦
          let no : chosen x ≡ false = ap chosen (sym d) ∙ c in
          ap (λ b. is_among x (take i names) && b) no ∙ (and_false (is_among x (take i names)) ∙ (sym (and_false (is_among x (take i names) || nat_eq name x)) ∙ ap (λ b. (is_among x (take i names) || nat_eq name x) && b) (sym no)))
      | inr n ↦ sym (or_and (is_among x (take i names)) (chosen x)) ∙ ap (λ b. (is_among x (take i names) || b) && chosen x) (sym (ne_eqb name x n))
    ] ∙ ap (λ b. b && chosen x) (sym (is_among-more names i name x e lt)))

-- the same with what the loop has at hand: the set that is tested, and the one that grows
pub within_put : (set old new names : List ℕ) (i name : ℕ) → name ≡ slice_index names i → i < length names → new ≡ insert_key nat_cmp old name → has nat_cmp set name ≡ true → ((x : ℕ) → is_among x old ≡ (is_among x (take i names) && is_among x set)) → (x : ℕ) → is_among x new ≡ (is_among x (take (i + 1) names) && is_among x set)
within_put set old new names i name e lt put c h x =
    ap (is_among x) put ∙ chosen_step old names i name (λ y. is_among y set) e lt h (sym (has-is_among set name) ∙ c) x

pub within_skip : (set old names : List ℕ) (i name : ℕ) → name ≡ slice_index names i → i < length names → has nat_cmp set name ≡ false → ((x : ℕ) → is_among x old ≡ (is_among x (take i names) && is_among x set)) → (x : ℕ) → is_among x old ≡ (is_among x (take (i + 1) names) && is_among x set)
within_skip set old names i name e lt c h x = skipped_step old names i name (λ y. is_among y set) e lt h (sym (has-is_among set name) ∙ c) x

pub outside_put : (set old new names : List ℕ) (i name : ℕ) → name ≡ slice_index names i → i < length names → new ≡ insert_key nat_cmp old name → has nat_cmp set name ≡ false → ((x : ℕ) → is_among x old ≡ (is_among x (take i names) && not (is_among x set))) → (x : ℕ) → is_among x new ≡ (is_among x (take (i + 1) names) && not (is_among x set))
outside_put set old new names i name e lt put c h x =
    ap (is_among x) put ∙ chosen_step old names i name (λ y. not (is_among y set)) e lt h (ap not (sym (has-is_among set name) ∙ c)) x

pub outside_skip : (set old names : List ℕ) (i name : ℕ) → name ≡ slice_index names i → i < length names → has nat_cmp set name ≡ true → ((x : ℕ) → is_among x old ≡ (is_among x (take i names) && not (is_among x set))) → (x : ℕ) → is_among x old ≡ (is_among x (take (i + 1) names) && not (is_among x set))
outside_skip set old names i name e lt c h x = skipped_step old names i name (λ y. not (is_among y set)) e lt h (ap not (sym (has-is_among set name) ∙ c)) x

-- a test for a value says no
pub lacks_of : (m : List (ℕ × ℕ)) (x : ℕ) → is_some (value_of m x) ≡ false → value_of m x ≡ None
lacks_of m x e = go (value_of m x) e
  where
    go : (o : Option ℕ) → is_some o ≡ false → o ≡ None
    go None e = refl
    go (Some y) e = absurd (false≢true (sym e))

-- one more name of a list
pub next_filled : (t u v : Table) (xs ws : List ℕ) (i w : ℕ) (m n o : List (ℕ × ℕ)) → i < length ws → w ≡ slice_index_or ws i w → KnowsMore t u → KnowsMore u v → IsFilled t u xs (take i ws) m n → IsFilled u v xs (w ∷ []) n o → IsFilled t v xs (take (i + 1) ws) m o
next_filled t u v xs ws i w m n o lt e more grows a b =
    rw (add-one i) (subst (λ vs. IsFilled t v xs vs m o) (sym (take-suc ws i w lt ∙ ap (λ v. take i ws ++ v ∷ []) (sym e))) (more_filled t u v xs (take i ws) w m n o more grows a b))
