-- Choosing new names for the numbers of a shape, one place after another.
use Rattle.std.proofs.Common.{◌≡◌, ◌≢◌, ◌↔◌, ℕ, zero, suc, ◌+◌, ◌<◌, List, [], ◌∷◌, ◌++◌, length, take, drop, Option, Some, None, sym, ◌∙◌, ap, refl, subst, inl, inr, arith, map, slice_index, add-one}
use Rattle.std.specs.Prelude.{Bool, true, false, ◌⊎◌, ◌||◌, nat_eq, cond, IsSome}
use Rattle.std.proofs.lemmas.Bool.{eq-eqb, ne_eqb, cases_eq, false≢true}
use Rattle.std.proofs.lemmas.List.{map-append, length-take-le, append-nil}
use Rattle.std.proofs.lemmas.List.Elements.{All-head, All-tail, All-nil, All-cons}
use Rattle.std.proofs.Math.Seq.{take-suc, take-length, drop-length}
use Rattle.slotted_lists.proofs.Members.{In}
use Rattle.slotted_lists.proofs.Options.{some-or_none as told}
use Rattle.slotted_lists.proofs.Lists.{length-map_names}
use Rattle.slotted_theory.proofs.Laws.{moved_args-id}
use Rattle.slotted_theory.specs.FiniteMaps.{top, filled, with_values}
use Rattle.slotted_languages.proofs.FilledFrom.{filled_from, filled-walked}
use Rattle.slotted_languages.proofs.Occurrences.{is_among-firsts, lacks_smaller}
use Rattle.slotted_slots.specs.Ascending.{AllAbove, IsAscending}
use Rattle.slotted_slots.specs.Maps.{value_of, with_pair, with_first, composed, values, keys, is_among, KnowsAll}
use Rattle.slotted_slots.specs.Table.{Table, is_known, KnowsMore}
use Rattle.slotted_slots.proofs.MapLaws.{is_among-value_of}
use Rattle.slotted_nodes.specs.Form.{Form, with_name}
use Rattle.slotted_languages.specs.NodeTerm.{nameless_node, free_names_of}
use Rattle.slotted_languages.specs.Shape.{shape, with_names, Fits, added, firsts}
use Rattle.slotted_languages.specs.Renaming.{IsChoice, IsEntered, IsRenamed}
use Rattle.slotted_languages.specs.Children.{IsBinder}
use Rattle.slotted_languages.proofs.Numbered.{Knows, IsFreeOf}
use Rattle.slotted_languages.proofs.RenamedNumbers.{IsApart, renamed_node}
use Rattle.slotted_languages.proofs.Shapes.{keys-shape, values-shape}
use Rattle.slotted_languages.proofs.Walks.{value_of-with_pair_same, value_of-with_pair_other}
use Rattle.slotted_languages.proofs.WalkNames.{or_zero, Named, names_of_shape}
use Rattle.slotted_languages.proofs.WalkBinders.{binder_number, binders_apart}
use Rattle.slotted_languages.proofs.WalkSteps.{place_read, place_written}

-- the new name of a number: the chosen one, or else that of its free name
abbrev pub or_free : Option ℕ → Option ℕ → ℕ
or_free (Some y) o = y
or_free None o = or_zero o

abbrev pub new_name : List (ℕ × ℕ) → List (ℕ × ℕ) → ℕ → ℕ
new_name free names n = or_free (value_of names n) (value_of free n)

-- each number has a chosen name
abbrev pub Covers : List (ℕ × ℕ) → List ℕ → Type 0
Covers names [] = Unit {0}
Covers names (n ∷ ns) = ((y : ℕ) × (value_of names n ≡ Some y)) × Covers names ns

-- what was chosen so far: a binder's name meets another only if the old names met
pub record AreChosen (t : Table) (xs avoid : List ℕ) (old : ℕ → ℕ) (free names : List (ℕ × ℕ)) : Type 0 where
  pub as_free : (n y z : ℕ) → value_of names n ≡ Some y → value_of free n ≡ Some z → y ≡ z
  pub not_avoided : (n y : ℕ) → value_of names n ≡ Some y → value_of free n ≡ None → is_among y avoid ≡ false
  pub kept_or_fresh : (n y : ℕ) → value_of names n ≡ Some y → value_of free n ≡ None → (y ≡ old n) ⊎ (is_among y xs ≡ false)
  pub unused : (n y : ℕ) → value_of names n ≡ Some y → value_of free n ≡ None → is_among (old n) avoid ≡ true → is_known t y ≡ false
  pub stays : (n y : ℕ) → value_of names n ≡ Some y → value_of free n ≡ None → is_among (old n) avoid ≡ false → y ≡ old n
  pub apart : (b n y : ℕ) → value_of names b ≡ Some y → value_of names n ≡ Some y → value_of free b ≡ None → value_of free n ≡ None → is_among (old b) avoid ≡ true → is_among (old n) avoid ≡ true → b ≡ n
  pub meet : (b n y : ℕ) → value_of free b ≡ None → value_of names b ≡ Some y → value_of names n ≡ Some y → old b ≡ old n

pub none_chosen : (t : Table) (xs avoid : List ℕ) (old : ℕ → ℕ) (free : List (ℕ × ℕ)) → AreChosen t xs avoid old free []
none_chosen t xs avoid old free = record {
  as_free = λ n y z e f. cc;
  not_avoided = λ n y e f. cc;
  kept_or_fresh = λ n y e f. cc;
  unused = λ n y e f g. cc;
  stays = λ n y e f g. cc;
  apart = λ b n y e g f h a z. cc;
  meet = λ b n y e f g. cc;
}

told_bool : (b : Bool) → (b ≡ true) ⊎ (b ≡ false)
told_bool true = inl refl
told_bool false = inr refl

module _ (t : Table) (xs avoid : List ℕ) (old : ℕ → ℕ) (free : List (ℕ × ℕ)) (targets : (n z : ℕ) → value_of free n ≡ Some z → is_among z avoid ≡ true) where
  module _ (names : List (ℕ × ℕ)) (c : AreChosen t xs avoid old free names) (number y : ℕ) (missing : value_of names number ≡ None) (here : is_among (old number) xs ≡ true) (u : Table) (choice : IsChoice t u xs avoid free names number (old number) y) where
    -- the chosen name among those chosen before
    choice_meets : (n : ℕ) → (value_of free n ≡ None) ⊎ (value_of free number ≡ None) → value_of names n ≡ Some y → old number ≡ old n
    choice_meets n either e = elim (told (value_of free number)) [
      | inl z ↦ elim either [
        | inl f ↦
            let a : is_among y avoid ≡ true = ap (λ v. is_among v avoid) (choice.free_name z.0 z.1) ∙ targets number z.0 z.1 in
            absurd (false≢true (sym (c.not_avoided n y e f) ∙ a))
        | inr f ↦ cc
      ]
      | inr g ↦ elim (told_bool (is_among (old number) avoid)) [
        | inl a ↦ absurd (false≢true (sym (choice.not_new g a) ∙ is_among-value_of names n y e))
        | inr a ↦
            let k : y ≡ old number = choice.kept g a in
            elim (told (value_of free n)) [
              | inl z ↦
                  let t : is_among (old number) avoid ≡ true = ap (λ v. is_among v avoid) (sym k ∙ c.as_free n y z.0 e z.1) ∙ targets n z.0 z.1 in
                  absurd (false≢true (sym a ∙ t))
              | inr f ↦ elim (c.kept_or_fresh n y e f) [
                | inl q ↦ sym k ∙ q
                | inr q ↦ absurd (false≢true (sym q ∙ (ap (λ v. is_among v xs) k ∙ here)))
              ]
            ]
      ]
    ]

    at_number : (z : ℕ) → value_of (with_pair names number y) number ≡ Some z → y ≡ z
    at_number z e = let f = value_of-with_pair_same names number y in cc

    at_other : (n z : ℕ) → n ≢ number → value_of (with_pair names number y) n ≡ Some z → value_of names n ≡ Some z
    at_other n z d e = sym (value_of-with_pair_other names number y n (λ q. d (sym q))) ∙ e

    pub one_chosen : AreChosen t xs avoid old free (with_pair names number y)
    one_chosen = record {
      as_free = λ n v z e f. elim (cases_eq n number) [
        | inl d ↦ sym (at_number v (ap (value_of (with_pair names number y)) (sym d) ∙ e)) ∙ choice.free_name z (ap (value_of free) (sym d) ∙ f)
        | inr d ↦ c.as_free n v z (at_other n v d e) f
      ];
      not_avoided = λ n v e f. elim (cases_eq n number) [
        | inl d ↦
            let k : y ≡ v = at_number v (ap (value_of (with_pair names number y)) (sym d) ∙ e) in
            ap (λ w. is_among w avoid) (sym k) ∙ chosen_free (ap (value_of free) (sym d) ∙ f)
        | inr d ↦ c.not_avoided n v (at_other n v d e) f
      ];
      kept_or_fresh = λ n v e f. elim (cases_eq n number) [
        | inl d ↦
            let k : y ≡ v = at_number v (ap (value_of (with_pair names number y)) (sym d) ∙ e) in
            elim (told_bool (is_among (old number) avoid)) [
              | inl a ↦ inr (ap (λ w. is_among w xs) (sym k) ∙ choice.not_old (ap (value_of free) (sym d) ∙ f) a)
              | inr a ↦ inl (sym k ∙ (choice.kept (ap (value_of free) (sym d) ∙ f) a ∙ ap old (sym d)))
            ]
        | inr d ↦ c.kept_or_fresh n v (at_other n v d e) f
      ];
      unused = λ n v e f a. elim (cases_eq n number) [
        | inl d ↦
            let k : y ≡ v = at_number v (ap (value_of (with_pair names number y)) (sym d) ∙ e) in
            ap (is_known t) (sym k) ∙ choice.unused (ap (value_of free) (sym d) ∙ f) (ap (λ w. is_among (old w) avoid) (sym d) ∙ a)
        | inr d ↦ c.unused n v (at_other n v d e) f a
      ];
      stays = λ n v e f a. elim (cases_eq n number) [
        | inl d ↦
            let k : y ≡ v = at_number v (ap (value_of (with_pair names number y)) (sym d) ∙ e) in
            sym k ∙ (choice.kept (ap (value_of free) (sym d) ∙ f) (ap (λ w. is_among (old w) avoid) (sym d) ∙ a) ∙ ap old (sym d))
        | inr d ↦ c.stays n v (at_other n v d e) f a
      ];
      apart = λ b n v e g f h a z. elim (cases_eq b number) [
        | inl d ↦ elim (cases_eq n number) [
          | inl q ↦ d ∙ sym q
          | inr q ↦
              let k : y ≡ v = at_number v (ap (value_of (with_pair names number y)) (sym d) ∙ e) in
              absurd (not_given n v k (ap (value_of free) (sym d) ∙ f) (ap (λ w. is_among (old w) avoid) (sym d) ∙ a) (at_other n v q g))
        ]
        | inr d ↦ elim (cases_eq n number) [
          | inl q ↦
              let k : y ≡ v = at_number v (ap (value_of (with_pair names number y)) (sym q) ∙ g) in
              absurd (not_given b v k (ap (value_of free) (sym q) ∙ h) (ap (λ w. is_among (old w) avoid) (sym q) ∙ z) (at_other b v d e))
          | inr q ↦ c.apart b n v (at_other b v d e) (at_other n v q g) f h a z
        ]
      ];
      meet = λ b n v f e g. elim (cases_eq b number) [
        | inl d ↦
            let k : y ≡ v = at_number v (ap (value_of (with_pair names number y)) (sym d) ∙ e) in
            elim (cases_eq n number) [
              | inl q ↦ ap old (d ∙ sym q)
              | inr q ↦ ap old d ∙ choice_meets n (inr (ap (value_of free) (sym d) ∙ f)) (at_other n v q g ∙ ap Some (sym k))
            ]
        | inr d ↦ elim (cases_eq n number) [
          | inl q ↦
              let k : y ≡ v = at_number v (ap (value_of (with_pair names number y)) (sym q) ∙ g) in
              sym (choice_meets b (inl f) (at_other b v d e ∙ ap Some (sym k))) ∙ ap old (sym q)
          | inr q ↦ c.meet b n v f (at_other b v d e) (at_other n v q g)
        ]
      ];
    }
      where
        not_given : (n v : ℕ) → y ≡ v → value_of free number ≡ None → is_among (old number) avoid ≡ true → value_of names n ≡ Some v → ⊥
        not_given n v k f a e = false≢true (sym (choice.not_new f a) ∙ (ap (λ w. is_among w (values names)) k ∙ is_among-value_of names n v e))

        chosen_free : value_of free number ≡ None → is_among y avoid ≡ false
        chosen_free f = elim (told_bool (is_among (old number) avoid)) [
          | inl a ↦ choice.not_avoided f a
          | inr a ↦ ap (λ w. is_among w avoid) (choice.kept f a) ∙ a
        ]

-- a slot that a later table does not know an earlier one does not know
pub unknown_before : (t u : Table) (s : ℕ) → KnowsMore t u → is_known u s ≡ false → is_known t s ≡ false
unknown_before t u s more e = lacks_smaller (is_known t s) (is_known u s) (more s) e

-- what is chosen with a later table is a choice with an earlier one
entered_before : (t u v : Table) (xs avoid : List ℕ) (free old new : List (ℕ × ℕ)) (number name y : ℕ) → KnowsMore t u → IsEntered u v xs avoid free old new number name y → IsEntered t v xs avoid free old new number name y
entered_before t u v xs avoid free old new number name y more e = record {
  known = e.known;
  chosen = λ m.
      let c = e.chosen m in
      record { free_name = c.free_name; kept = c.kept; not_avoided = c.not_avoided; not_old = c.not_old; not_new = c.not_new; unused = λ f a. unknown_before t u y more (c.unused f a); known = c.known };
  entered = e.entered;
}

abbrev Extends : List (ℕ × ℕ) → List (ℕ × ℕ) → Type 0
Extends names more = (n y : ℕ) → value_of names n ≡ Some y → value_of more n ≡ Some y

Covers-more : (names more : List (ℕ × ℕ)) (ns : List ℕ) → Extends names more → Covers names ns → Covers more ns
Covers-more names more [] e c = tt
Covers-more names more (n ∷ ns) e c = ((c.0.0, e n c.0.0 c.0.1), Covers-more names more ns e c.1)

Covers-last : (names : List (ℕ × ℕ)) (ns : List ℕ) (n y : ℕ) → Covers names ns → value_of names n ≡ Some y → Covers names (ns ++ n ∷ [])
Covers-last names [] n y c e = ((y, e), tt)
Covers-last names (m ∷ ns) n y c e = (c.0, Covers-last names ns n y c.1 e)

pub Covers-at : (names : List (ℕ × ℕ)) (ns : List ℕ) (n : ℕ) → Covers names ns → In n ns → (y : ℕ) × (value_of names n ≡ Some y)
Covers-at names [] n c h = absurd h
Covers-at names (m ∷ ns) n c (inl e) = (c.0.0, ap (value_of names) e ∙ c.0.1)
Covers-at names (m ∷ ns) n c (inr h) = Covers-at names ns n c.1 h

map_new_name : (free names more : List (ℕ × ℕ)) (ns : List ℕ) → Extends names more → Covers names ns → map (new_name free more) ns ≡ map (new_name free names) ns
map_new_name free names more [] e c = refl
map_new_name free names more (n ∷ ns) e c =
    λ i. or_free ((e n c.0.0 c.0.1 ∙ sym c.0.1) i) (value_of free n) ∷ map_new_name free names more ns e c.1 i

pub map_index : (f : ℕ → ℕ) (xs : List ℕ) (i : ℕ) → i < length xs → slice_index (map f xs) i ≡ f (slice_index xs i)
map_index f [] i h = absurd (omega (arith, h))
map_index f (x ∷ xs) zero h = refl
map_index f (x ∷ xs) (suc i) h = map_index f xs i (omega (arith, h))

pub among_index : (xs : List ℕ) (i : ℕ) → i < length xs → is_among (slice_index xs i) xs ≡ true
among_index [] i h = absurd (omega (arith, h))
among_index (x ∷ xs) zero h = ap (λ b. b || is_among x xs) (eq-eqb x x refl)
among_index (x ∷ xs) (suc i) h = ap (λ b. nat_eq x (slice_index xs i) || b) (among_index xs i (omega (arith, h))) ∙ or_true (nat_eq x (slice_index xs i))
  where
    or_true : (b : Bool) → (b || true) ≡ true
    or_true true = refl
    or_true false = refl

-- a new name is the old one, or the table knows it, or it is that of a free name
abbrev pub AreKnown : Table → (ℕ → ℕ) → List (ℕ × ℕ) → List (ℕ × ℕ) → Type 0
AreKnown u old free names =
    (n y : ℕ) → value_of names n ≡ Some y → (y ≡ old n) ⊎ ((is_known u y ≡ true) ⊎ (value_of free n ≡ Some y))

known_later : (u v : Table) (old : ℕ → ℕ) (free names : List (ℕ × ℕ)) → KnowsMore u v → AreKnown u old free names → AreKnown v old free names
known_later u v old free names more k n y e = elim (k n y e) [
  | inl q ↦ inl q
  | inr (inl q) ↦ inr (inl (more y q))
  | inr (inr q) ↦ inr (inr q)
]

-- one more name that was entered
known_entered : (u v : Table) (xs avoid : List ℕ) (old : ℕ → ℕ) (free names more : List (ℕ × ℕ)) (number y : ℕ) → KnowsMore u v → IsEntered u v xs avoid free names more number (old number) y → AreKnown u old free names → AreKnown v old free more
known_entered u v xs avoid old free names more number y grows e k = elim (told (value_of names number)) [
  | inl z ↦ subst (AreKnown v old free) (sym (e.known z.0 z.1).1) (known_later u v old free names grows k)
  | inr missing ↦ subst (AreKnown v old free) (sym (e.entered missing)) (λ n w h. elim (cases_eq number n) [
    | inl d ↦
        let q : y ≡ w = same_value (value_of (with_pair names number y) number) y w (value_of-with_pair_same names number y) (ap (value_of (with_pair names number y)) d ∙ h) in
        subst (λ x. (x ≡ old n) ⊎ ((is_known v x ≡ true) ⊎ (value_of free n ≡ Some x))) q
        (subst (λ m. (y ≡ old m) ⊎ ((is_known v y ≡ true) ⊎ (value_of free m ≡ Some y))) d (choice (e.chosen missing)))
    | inr d ↦ known_later u v old free names grows k n w (sym (value_of-with_pair_other names number y n d) ∙ h)
  ])
]
  where
    same_value : (o : Option ℕ) (a b : ℕ) → o ≡ Some a → o ≡ Some b → a ≡ b
    same_value o a b p q = cc

    choice : IsChoice u v xs avoid free names number (old number) y → (y ≡ old number) ⊎ ((is_known v y ≡ true) ⊎ (value_of free number ≡ Some y))
    choice c = elim (told (value_of free number)) [
      | inl z ↦ inr (inr (z.1 ∙ ap Some (sym (c.free_name z.0 z.1))))
      | inr f ↦ elim (told_bool (is_among (old number) avoid)) [
        | inl a ↦ inr (inl (c.known f a))
        | inr a ↦ inl (c.kept f a)
      ]
    ]

-- the first i places have their new names
pub record IsRenaming (t u : Table) (f : Form) (avoid : List ℕ) (free names : List (ℕ × ℕ)) (h : Form) (i : ℕ) : Type 0 where
  pub was : Named f
  pub named : h ≡ with_names f (map (new_name free names) (take i (shape f).0.names) ++ drop i (shape f).0.names)
  pub covers : Covers names (take i (shape f).0.names)
  pub chosen : AreChosen t f.names avoid was.old free names
  pub known : AreKnown u was.old free names

pub none_renamed : (t : Table) (f h : Form) (avoid : List ℕ) (free names : List (ℕ × ℕ)) → Fits f → h ≡ (shape f).0 → names ≡ [] → IsRenaming t t f avoid free names h 0
none_renamed t f h avoid free names fits e none = record {
  was = names_of_shape f fits;
  named = e;
  covers = tt;
  chosen = rw none (none_chosen t f.names avoid (names_of_shape f fits).old free);
  known = λ n y e. let q : value_of [] n ≡ Some y = ap (λ m. value_of m n) (sym none) ∙ e in cc;
}

-- at a place that has no new name yet stands its number
pub renaming_number : (t u : Table) (f h : Form) (avoid : List ℕ) (free names : List (ℕ × ℕ)) (i : ℕ) → i < length f.names → IsRenaming t u f avoid free names h i → slice_index h.names i ≡ slice_index (shape f).0.names i
renaming_number t u f h avoid free names i lt d =
    let ns = (shape f).0.names in
    let l : length ns ≡ length f.names = sym (length-map_names d.was.old ns) ∙ ap length d.was.were in
    let li : length (map (new_name free names) (take i ns)) ≡ i = length-map_names (new_name free names) (take i ns) ∙ length-take-le i ns (omega (arith, lt, l)) in
    ap (λ g. slice_index g.names i) d.named ∙ place_read (map (new_name free names) (take i ns)) ns i li

-- one more number has its name
record Advanced (t : Table) (xs avoid : List ℕ) (old : ℕ → ℕ) (free names more : List (ℕ × ℕ)) (number y : ℕ) : Type 0 where
  has : value_of more number ≡ Some y
  extends : Extends names more
  chosen : AreChosen t xs avoid old free more

advanced : (t v : Table) (xs avoid : List ℕ) (old : ℕ → ℕ) (free names more : List (ℕ × ℕ)) (number y : ℕ) → ((n z : ℕ) → value_of free n ≡ Some z → is_among z avoid ≡ true) → is_among (old number) xs ≡ true → AreChosen t xs avoid old free names → IsEntered t v xs avoid free names more number (old number) y → Advanced t xs avoid old free names more number y
advanced t v xs avoid old free names more number y targets here c e = elim (told (value_of names number)) [
  | inl z ↦
      let k = e.known z.0 z.1 in
      let m : more ≡ names = k.1 in
      record { has = ap (λ l. value_of l number) m ∙ (z.1 ∙ ap Some (sym k.0)); extends = λ n v d. ap (λ l. value_of l n) m ∙ d; chosen = rw m c }
  | inr missing ↦
      let m : more ≡ with_pair names number y = e.entered missing in
      record {
        has = ap (λ l. value_of l number) m ∙ value_of-with_pair_same names number y;
        extends = λ n v d. ap (λ l. value_of l n) m ∙ (value_of-with_pair_other names number y n (λ q. differ n v d missing q) ∙ d);
        chosen = rw m (one_chosen t xs avoid old free targets names c number y missing here v (e.chosen missing));
      }
]
  where
    differ : (n v : ℕ) → value_of names n ≡ Some v → value_of names number ≡ None → number ≡ n → ⊥
    differ n v d missing q = let k : value_of names number ≡ Some v = ap (value_of names) q ∙ d in cc

pub one_renamed : (t u v : Table) (f h k : Form) (avoid : List ℕ) (free names more : List (ℕ × ℕ)) (i name number y : ℕ) → i < length f.names → ((n z : ℕ) → value_of free n ≡ Some z → is_among z avoid ≡ true) → KnowsMore t u → KnowsMore u v → IsRenaming t u f avoid free names h i → name ≡ slice_index f.names i → number ≡ slice_index h.names i → IsEntered u v f.names avoid free names more number name y → k ≡ with_name h i y → IsRenaming t v f avoid free more k (i + 1)
one_renamed t u v f h k avoid free names more i name number y lt targets tu uv d en enum e ek =
    let ns = (shape f).0.names in
    let old = d.was.old in
    let l : length ns ≡ length f.names = sym (length-map_names old ns) ∙ ap length d.was.were in
    let li : length (map (new_name free names) (take i ns)) ≡ i = length-map_names (new_name free names) (take i ns) ∙ length-take-le i ns (omega (arith, lt, l)) in
    let e1 : number ≡ slice_index ns i = enum ∙ (ap (λ g. slice_index g.names i) d.named ∙ place_read (map (new_name free names) (take i ns)) ns i li) in
    let e2 : name ≡ old number = en ∙ (ap (λ xs. slice_index xs i) (sym d.was.were) ∙ (map_index old ns i (omega (arith, lt, l)) ∙ ap old (sym e1))) in
    let here : is_among (old number) f.names ≡ true = ap (λ x. is_among x f.names) (sym e2 ∙ en) ∙ among_index f.names i lt in
    let ee : IsEntered t v f.names avoid free names more number name y = entered_before t u v f.names avoid free names more number name y tu e in
    let a : Advanced t f.names avoid old free names more number y = advanced t v f.names avoid old free names more number y targets here d.chosen (rw e2 at ee) in
    let more_taken : take (suc i) ns ≡ take i ns ++ number ∷ [] = take-suc ns i 0 (omega (arith, lt, l)) ∙ ap (λ m. take i ns ++ m ∷ []) (sym e1) in
    let mapped : map (new_name free more) (take (suc i) ns) ≡ map (new_name free names) (take i ns) ++ y ∷ [] =
    ap (map (new_name free more)) more_taken
    ∙ (map-append (new_name free more) (take i ns) (number ∷ [])
    ∙ λ j. map_new_name free names more (take i ns) a.extends d.covers j ++ or_free (a.has j) (value_of free number) ∷ []) in
    rw (add-one i) (record {
      was = d.was;
      named = ek ∙ (ap (λ g. with_name g i y) d.named ∙ ap (with_names f) (place_written (map (new_name free names) (take i ns)) ns i y li (omega (arith, lt, l)) ∙ ap (λ zs. zs ++ drop (suc i) ns) (sym mapped)));
      covers = rw more_taken (Covers-last more (take i ns) number y (Covers-more names more (take i ns) a.extends d.covers) a.has);
      chosen = a.chosen;
      known = known_entered u v f.names avoid old free names more number y uv (rw e2 at e) d.known;
    })

-- what the new names of free names are
abbrev Found : List (ℕ × ℕ) → (ℕ → ℕ) → List (ℕ × ℕ) → Type 0
Found free π [] = Unit {0}
Found free π (p ∷ m) = (value_of free p.0 ≡ Some (π p.1)) × Found free π m

Found-later : (free : List (ℕ × ℕ)) (q : ℕ × ℕ) (π : ℕ → ℕ) (m : List (ℕ × ℕ)) → AllAbove q.0 (keys m) → Found free π m → Found (q ∷ free) π m
Found-later free q π [] a f = tt
Found-later free q π (p ∷ m) a f =
    let n : q.0 ≢ p.0 = omega (arith, a.0) in
    (ap (λ b. cond b (Some q.1) (value_of free p.0)) (ne_eqb q.0 p.0 n) ∙ f.0, Found-later free q π m a.1 f.1)

found_moved : (π : ℕ → ℕ) (m : List (ℕ × ℕ)) → IsAscending (keys m) → Found (with_values π m) π m
found_moved π [] a = tt
found_moved π (p ∷ m) a =
    (ap (λ b. cond b (Some (π p.1)) (value_of (with_values π m) p.0)) (eq-eqb p.0 p.0 refl), Found-later (with_values π m) (p.0, π p.1) π m a.0 (found_moved π m a.1))

lacks_moved : (π : ℕ → ℕ) (m : List (ℕ × ℕ)) (b : ℕ) → IsFreeOf b m → value_of (with_values π m) b ≡ None
lacks_moved π [] b h = refl
lacks_moved π (p ∷ m) b h = ap (λ c. cond c (Some (π p.1)) (value_of (with_values π m) b)) (ne_eqb p.0 b h.0) ∙ lacks_moved π m b h.1

Knows-found : (σ π : ℕ → ℕ) (free m : List (ℕ × ℕ)) → ((n z : ℕ) → value_of free n ≡ Some z → σ n ≡ z) → Found free π m → Knows σ π m
Knows-found σ π free [] f h = tt
Knows-found σ π free (p ∷ m) f h = (f p.0 (π p.1) h.0, Knows-found σ π free m f h.1)

free_new_name : (free names : List (ℕ × ℕ)) (n z : ℕ) (o : Option ℕ) → value_of names n ≡ o → ((y : ℕ) → value_of names n ≡ Some y → y ≡ z) → value_of free n ≡ Some z → or_free o (value_of free n) ≡ z
free_new_name free names n z (Some y) e f h = f y e
free_new_name free names n z None e f h = ap or_zero h

Covers-index : (names : List (ℕ × ℕ)) (ns : List ℕ) (j : ℕ) → j < length ns → Covers names ns → (y : ℕ) × (value_of names (slice_index ns j) ≡ Some y)
Covers-index names [] j h c = absurd (omega (arith, h))
Covers-index names (n ∷ ns) zero h c = c.0
Covers-index names (n ∷ ns) (suc j) h c = Covers-index names ns j (omega (arith, h)) c.1

-- the new name of a number of a free name
free_value : (old π : ℕ → ℕ) (m : List (ℕ × ℕ)) (n y : ℕ) → Knows old (λ x. x) m → value_of (with_values π m) n ≡ Some y → (is_among (old n) (values m) ≡ true) × (y ≡ π (old n))
free_value old π [] n y k e = cc
free_value old π (p ∷ m) n y k e = elim (cases_eq p.0 n) [
  | inl d ↦
      let q : cond (nat_eq p.0 n) (Some (π p.1)) (value_of (with_values π m) n) ≡ Some (π p.1) = ap (λ b. cond b (Some (π p.1)) (value_of (with_values π m) n)) (eq-eqb p.0 n d) in
      let here : p.1 ≡ old n = sym k.0 ∙ ap old d in
      let s : y ≡ π p.1 = cc in
      (ap (λ b. b || is_among (old n) (values m)) (eq-eqb p.1 (old n) here), s ∙ ap π here)
  | inr d ↦
      let r = free_value old π m n y k.1 (sym (ap (λ b. cond b (Some (π p.1)) (value_of (with_values π m) n)) (ne_eqb p.0 n d)) ∙ e) in
      (ap (λ b. nat_eq p.1 (old n) || b) r.0 ∙ or_true (nat_eq p.1 (old n)), r.1)
]
  where
    or_true : (b : Bool) → (b || true) ≡ true
    or_true true = refl
    or_true false = refl

-- all places have their new names
pub all_renamed : (t u : Table) (f h : Form) (avoid : List ℕ) (free names : List (ℕ × ℕ)) (i : ℕ) → Fits f → i ≡ length f.names → IsRenaming t u f avoid free names h i → (π : ℕ → ℕ) → free ≡ with_values π (shape f).1 → IsRenamed t u π f avoid h
all_renamed t u f h avoid free names i fits e d π ef =
    let ns = (shape f).0.names in
    let σ = new_name free names in
    let l : i ≡ length ns = omega (arith, e, length-map_names d.was.old ns, ap length d.was.were) in
    let all : take i ns ≡ ns = ap (λ m. take m ns) l ∙ take-length ns in
    let put : h ≡ with_names f (map σ ns) =
    d.named ∙ ap (with_names f) ((λ j. map σ (all j) ++ (ap (λ m. drop m ns) l ∙ drop-length ns) j) ∙ append-nil (map σ ns)) in
    let covers : Covers names ns = rw all at d.covers in
    let apart : IsApart f d.was.old σ = record {
      were = d.was.were;
      free = d.was.free;
      meet = λ b n fb ib in_names q.
          let yb = Covers-at names ns b covers ib in
          let yn = Covers-at names ns n covers in_names in
          let s : yn.0 ≡ yb.0 = sym (ap (λ o. or_free o (value_of free n)) yn.1) ∙ (sym q ∙ ap (λ o. or_free o (value_of free b)) yb.1) in
          d.chosen.meet b n yb.0 (ap (λ m. value_of m b) ef ∙ lacks_moved π (shape f).1 b fb) yb.1 (yn.1 ∙ ap Some s);
    } in
    let found : Found free π (shape f).1 = rw ef (found_moved π (shape f).1 (keys-shape f)) in
    let knows : Knows σ π (shape f).1 =
    Knows-found σ π free (shape f).1 (λ n z g. free_new_name free names n z (value_of names n) refl (λ y k. d.chosen.as_free n y z k g) g) found in
    let chosen_at : (j : ℕ) → j < length f.names → (y : ℕ) × (value_of names (slice_index ns j) ≡ Some y) × (slice_index h.names j ≡ y) =
    λ j lt.
    let n = slice_index ns j in
    let c = Covers-index names ns j (omega (arith, lt, l, e)) covers in
    (c.0, c.1, ap (λ g. slice_index g.names j) put ∙ (map_index σ ns j (omega (arith, lt, l, e)) ∙ ap (λ o. or_free o (value_of free n)) c.1)) in
    let old_at : (j : ℕ) → j < length f.names → slice_index f.names j ≡ d.was.old (slice_index ns j) =
    λ j lt. ap (λ xs. slice_index xs j) (sym d.was.were) ∙ map_index d.was.old ns j (omega (arith, lt, l, e)) in
    let binds : (j : ℕ) → j < length f.names → IsBinder f j → value_of free (slice_index ns j) ≡ None =
    λ j lt b. ap (λ m. value_of m (slice_index ns j)) ef ∙ lacks_moved π (shape f).1 (slice_index ns j) (binder_number f j fits lt b) in
    record {
      renamed = ap nameless_node put ∙ renamed_node f d.was.old σ π fits apart knows;
      bound = λ j lt b. let c = chosen_at j lt in ap (λ x. is_among x avoid) c.2 ∙ d.chosen.not_avoided (slice_index ns j) c.0 c.1 (binds j lt b);
      unused = λ j lt b a.
          let c = chosen_at j lt in
          ap (is_known t) c.2 ∙ d.chosen.unused (slice_index ns j) c.0 c.1 (binds j lt b) (ap (λ x. is_among x avoid) (sym (old_at j lt)) ∙ a);
      kept = λ j lt b a.
          let c = chosen_at j lt in
          c.2 ∙ (d.chosen.stays (slice_index ns j) c.0 c.1 (binds j lt b) (ap (λ x. is_among x avoid) (sym (old_at j lt)) ∙ a) ∙ sym (old_at j lt));
      apart = λ j k lt lk b u a z q.
          let c = chosen_at j lt in
          let o = chosen_at k lk in
          let s : o.0 ≡ c.0 = sym o.2 ∙ (sym q ∙ c.2) in
          binders_apart f j k fits lt lk b u (d.chosen.apart (slice_index ns j) (slice_index ns k) c.0 c.1 (o.1 ∙ ap Some s) (binds j lt b) (binds k lk u)
          (ap (λ x. is_among x avoid) (sym (old_at j lt)) ∙ a) (ap (λ x. is_among x avoid) (sym (old_at k lk)) ∙ z));
      differ = λ j k lt lk b q.
          let c = chosen_at j lt in
          let o = chosen_at k lk in
          let s : o.0 ≡ c.0 = sym o.2 ∙ (sym q ∙ c.2) in
          old_at j lt ∙ (d.chosen.meet (slice_index ns j) (slice_index ns k) c.0 (binds j lt b) c.1 (o.1 ∙ ap Some s) ∙ sym (old_at k lk));
      put = λ j lt.
          let n = slice_index ns j in
          let c = chosen_at j lt in
          elim (d.known n c.0 c.1) [
            | inl q ↦ inl (c.2 ∙ (q ∙ sym (old_at j lt)))
            | inr (inl q) ↦ inr (inl (ap (is_known u) c.2 ∙ q))
            | inr (inr q) ↦
                let r = free_value d.was.old π (shape f).1 n c.0 d.was.free (ap (λ m. value_of m n) (sym ef) ∙ q) in
                inr (inr (
                  ap (λ x. is_among x (free_names_of f)) (old_at j lt) ∙ (sym (is_among-firsts (d.was.old n) (free_names_of f)) ∙ (ap (is_among (d.was.old n)) (sym (values-shape f)) ∙ r.0)),
                  c.2 ∙ (r.1 ∙ ap π (sym (old_at j lt))),
                ))
          ];
      places = put ∙ ap (λ (g : Form). with_names f g.names) (sym put);
    }

pub value_of-filled : (t : ℕ) (m : List (ℕ × ℕ)) (x v : ℕ) → value_of m x ≡ Some v → filled_from t m x ≡ v
value_of-filled t [] x v e = cc
value_of-filled t (p ∷ m) x v e = elim (cases_eq p.0 x) [
  | inl d ↦
      let k : value_of (p ∷ m) x ≡ Some p.1 = ap (λ b. cond b (Some p.1) (value_of m x)) (eq-eqb p.0 x d) in
      let q : p.1 ≡ v = cc in
      ap (λ b. cond b p.1 (filled_from t m x)) (eq-eqb x p.0 (sym d)) ∙ q
  | inr d ↦
      ap (λ b. cond b p.1 (filled_from t m x)) (ne_eqb x p.0 (λ q. d (sym q)))
      ∙ value_of-filled t m x v (sym (ap (λ b. cond b (Some p.1) (value_of m x)) (ne_eqb p.0 x d)) ∙ e)
]

-- each name has a value
abbrev Has : List (ℕ × ℕ) → List ℕ → Type 0
Has m [] = Unit {0}
Has m (x ∷ xs) = ((v : ℕ) × (value_of m x ≡ Some v)) × Has m xs

Has-last : (m : List (ℕ × ℕ)) (xs : List ℕ) (x v : ℕ) → Has m xs → value_of m x ≡ Some v → Has m (xs ++ x ∷ [])
Has-last m [] x v h e = ((v, e), tt)
Has-last m (y ∷ xs) x v h e = (h.0, Has-last m xs x v h.1 e)

Has-added : (m : List (ℕ × ℕ)) (vs xs : List ℕ) → Has m vs → Has m xs → Has m (added vs xs)
Has-added m vs [] h k = h
Has-added m vs (x ∷ xs) h k = Has-added m (cond (is_among x vs) vs (vs ++ x ∷ [])) xs (one (is_among x vs)) k.1
  where
    one : (b : Bool) → Has m (cond b vs (vs ++ x ∷ []))
    one true = h
    one false = Has-last m vs x k.0.0 h k.0.1

pub some_of : (o : Option ℕ) → IsSome o → (v : ℕ) × (o ≡ Some v)
some_of None h = absurd (false≢true h)
some_of (Some v) h = (v, refl)

pub Has-from : (m : List (ℕ × ℕ)) (xs : List ℕ) → KnowsAll m xs → Has m xs
Has-from m [] h = tt
Has-from m (x ∷ xs) h =
    (some_of (value_of m x) (All-head (λ y. IsSome (value_of m y)) x xs h), Has-from m xs (All-tail (λ y. IsSome (value_of m y)) x xs h))

composed_moved : (t : ℕ) (m free : List (ℕ × ℕ)) → Has m (values free) → composed free m ≡ with_values (filled_from t m) free
composed_moved t m [] h = refl
composed_moved t m (p ∷ free) h =
    ap (λ o. with_first p.0 o (composed free m)) h.0.1
    ∙ λ i. (p.0, sym (value_of-filled t m p.1 h.0.0 h.0.1) i) ∷ composed_moved t m free h.1 i

-- a map that knows the free names, after the map of a shape
pub composed_shape : (f : Form) (m free : List (ℕ × ℕ)) → KnowsAll m (free_names_of f) → free ≡ (shape f).1 → composed free m ≡ with_values (filled m) (shape f).1
composed_shape f m free h e =
    let k : Has m (values (shape f).1) = rw (values-shape f) (Has-added m [] (free_names_of f) tt (Has-from m (free_names_of f) h)) in
    ap (λ l. composed l m) e
    ∙ (composed_moved (top m) m (shape f).1 k ∙ sym (ap (λ (g : ℕ → ℕ). with_values g (shape f).1) (filled-walked m)))

-- a set that has the values of a map has each value
pub has_values : (names : List (ℕ × ℕ)) (set : List ℕ) → ((v : ℕ) → is_among v set ≡ is_among v (values names)) → (n z : ℕ) → value_of names n ≡ Some z → is_among z set ≡ true
has_values names set h n z e = h z ∙ is_among-value_of names n z e

pub Has-among : (m : List (ℕ × ℕ)) (xs : List ℕ) (x : ℕ) → Has m xs → is_among x xs ≡ true → (v : ℕ) × (value_of m x ≡ Some v)
Has-among m [] x h e = absurd (false≢true e)
Has-among m (y ∷ xs) x h e = elim (cases_eq y x) [
  | inl d ↦ (h.0.0, ap (value_of m) (sym d) ∙ h.0.1)
  | inr n ↦ Has-among m xs x h.1 (sym (ap (λ b. b || is_among x xs) (ne_eqb y x n)) ∙ e)
]

Has-last_back : (m : List (ℕ × ℕ)) (xs : List ℕ) (x : ℕ) → Has m (xs ++ x ∷ []) → Has m xs × ((v : ℕ) × (value_of m x ≡ Some v))
Has-last_back m [] x h = (tt, h.0)
Has-last_back m (y ∷ xs) x h = let r = Has-last_back m xs x h.1 in ((h.0, r.0), r.1)

Has-added_back : (m : List (ℕ × ℕ)) (vs xs : List ℕ) → Has m (added vs xs) → Has m vs × Has m xs
Has-added_back m vs [] h = (h, tt)
Has-added_back m vs (x ∷ xs) h =
    let r = Has-added_back m (cond (is_among x vs) vs (vs ++ x ∷ [])) xs h in
    one (is_among x vs) refl r.0 r.1
  where
    one : (b : Bool) → is_among x vs ≡ b → Has m (cond b vs (vs ++ x ∷ [])) → Has m xs → Has m vs × Has m (x ∷ xs)
    one true e h k = (h, (Has-among m vs x h e, k))
    one false e h k = let r = Has-last_back m vs x h in (r.0, (r.1, k))

pub is_some_of : (o : Option ℕ) (v : ℕ) → o ≡ Some v → IsSome o
is_some_of None v e = cc
is_some_of (Some w) v e = refl

Has-to : (m : List (ℕ × ℕ)) (xs : List ℕ) → Has m xs → KnowsAll m xs
Has-to m [] h = All-nil (λ y. IsSome (value_of m y))
Has-to m (x ∷ xs) h = All-cons (λ y. IsSome (value_of m y)) x xs (is_some_of (value_of m x) h.0.0 h.0.1) (Has-to m xs h.1)

-- a map knows the values of a shape's map exactly if it knows the free names
pub knows_free : (f : Form) (m free : List (ℕ × ℕ)) → values free ≡ firsts (free_names_of f) → KnowsAll m (values free) ↔ KnowsAll m (free_names_of f)
knows_free f m free e = (
  λ k. Has-to m (free_names_of f) (Has-added_back m [] (free_names_of f) (Has-from m (firsts (free_names_of f)) (subst (KnowsAll m) e k))).1,
  λ k. subst (KnowsAll m) (sym e) (Has-to m (firsts (free_names_of f)) (Has-added m [] (free_names_of f) tt (Has-from m (free_names_of f) k))),
)

pub renamed_same : (t u : Table) (f : Form) (avoid : List ℕ) (g : Form) → IsRenamed t u (λ x. x) f avoid g → nameless_node g ≡ nameless_node f
renamed_same t u f avoid g r = r.renamed ∙ λ i. record { op = suc f.operator; payloads = f.payloads; args = moved_args-id (nameless_node f).args i }
