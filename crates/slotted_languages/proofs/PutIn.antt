-- Names that are put into a node are known to the table, or were handed in.
use Rattle.std.proofs.Common.{◌≡◌, ℕ, zero, suc, ◌<◌, List, [], ◌∷◌, length, map, slice_index, Some, sym, ◌∙◌, ap, refl, inl, inr, arith}
use Rattle.std.specs.Prelude.{Option, true, ◌||◌, All, IsTrue, unwrap_or}
use Rattle.std.proofs.lemmas.Bool.{cases_eq, ne_eqb}
use Rattle.std.proofs.lemmas.List.Elements.{All-head, All-tail, All-nil, All-cons}
use Rattle.slotted_lists.proofs.Options.{some-or_none as told}
use Rattle.slotted_lists.proofs.Lists.{length-map_names}
use Rattle.slotted_theory.specs.FiniteMaps.{filled}
use Rattle.slotted_slots.specs.Ascending.{IsAscending}
use Rattle.slotted_slots.specs.Maps.{KnowsAll, is_among, keys, value_of, values}
use Rattle.slotted_slots.specs.Table.{KnowsMore, Table, is_known}
use Rattle.slotted_slots.proofs.TableLaws.{is_known-numeric_slot}
use Rattle.slotted_slots.proofs.MapLaws.{is_among-value_of}
use Rattle.slotted_nodes.specs.Form.{Form}
use Rattle.slotted_languages.specs.Fresh.{IsFilled, replaced}
use Rattle.slotted_languages.specs.NewNames.{PutsIn}
use Rattle.slotted_languages.specs.NodeTerm.{free_names_of}
use Rattle.slotted_languages.specs.Renaming.{IsRenamed}
use Rattle.slotted_languages.specs.Shape.{Fits, with_names}
use Rattle.slotted_languages.proofs.Fills.{filled_at}
use Rattle.slotted_languages.proofs.FreeAndBound.{as_many_places}
use Rattle.slotted_languages.proofs.Renamings.{Has-among, Has-from, map_index}
use Rattle.slotted_languages.proofs.Taken.{keyed}

-- a node whose free names were renamed by a map that knows them
pub renamed_put : (t u : Table) (m : List (ℕ × ℕ)) (f : Form) (avoid : List ℕ) (g : Form) → Fits f → Fits g → KnowsAll m (free_names_of f) → IsRenamed t u (filled m) f avoid g → PutsIn u (values m) f g
renamed_put t u m f avoid g ff fg knows r j lt =
    let x = slice_index f.names j in
    elim (r.put j (omega (arith, lt, as_many_places f g ff fg r.places))) [
      | inl q ↦ inl q
      | inr (inl q) ↦ inr (inl q)
      | inr (inr q) ↦
          let v = Has-among m (free_names_of f) x (Has-from m (free_names_of f) knows) q.0 in
          inr (inr (ap (λ y. is_among y (values m)) (q.1 ∙ filled_at m x v.0 v.1) ∙ is_among-value_of m x v.0 v.1))
    ]

-- and one whose free names stay
pub same_put : (t u : Table) (f : Form) (avoid : List ℕ) (g : Form) → Fits f → Fits g → IsRenamed t u (λ x. x) f avoid g → PutsIn u [] f g
same_put t u f avoid g ff fg r j lt =
    elim (r.put j (omega (arith, lt, as_many_places f g ff fg r.places))) [
      | inl q ↦ inl q
      | inr (inl q) ↦ inr (inl q)
      | inr (inr q) ↦ inl q.1
    ]

-- where a map was filled, its new values are known
pub filled_put : (t u v : Table) (xs wanted : List ℕ) (m names : List (ℕ × ℕ)) (f g : Form) → IsAscending (keys names) → IsFilled t u xs wanted m names → KnowsMore u v → PutsIn v (values names) f g → PutsIn v (values m) f g
filled_put t u v xs wanted m names f g up d more put j lt = elim (put j lt) [
  | inl q ↦ inl q
  | inr (inl q) ↦ inr (inl q)
  | inr (inr q) ↦
      let y = slice_index g.names j in
      let k = keyed names y up q in
      elim (told (value_of m k.0)) [
        | inl z ↦
            let same : z.0 ≡ y = one_value (value_of names k.0) z.0 y (d.kept k.0 z.0 z.1) k.1 in
            inr (inr (ap (λ w. is_among w (values m)) (sym same) ∙ is_among-value_of m k.0 z.0 z.1))
        | inr none ↦ inr (inl (more y (d.known k.0 y none k.1)))
      ]
]
  where
    one_value : (o : Option ℕ) (a b : ℕ) → o ≡ Some a → o ≡ Some b → a ≡ b
    one_value o a b p q = cc

-- a node whose names were replaced by the values of such a map
pub replaced_put : (t u : Table) (wanted : List ℕ) (names : List (ℕ × ℕ)) (f g : Form) → IsFilled t u f.names wanted [] names → g ≡ with_names f (map (replaced names) f.names) → PutsIn u [] f g
replaced_put t u wanted names f g d put j lt =
    let x = slice_index f.names j in
    let l : length g.names ≡ length f.names = ap (λ (h : Form). length h.names) put ∙ length-map_names (replaced names) f.names in
    let at : slice_index g.names j ≡ replaced names x = ap (λ (h : Form). slice_index h.names j) put ∙ map_index (replaced names) f.names j (omega (arith, lt, l)) in
    elim (told (value_of names x)) [
      | inl z ↦ inr (inl (ap (is_known u) (at ∙ ap (λ o. unwrap_or o x) z.1) ∙ d.known x z.0 refl z.1))
      | inr none ↦ inl (at ∙ ap (λ o. unwrap_or o x) none)
    ]

-- For callers: where the table knows all names of a node and all that are handed in, it knows all names of the answer.
known_among : (t : Table) (xs : List ℕ) (x : ℕ) → All (λ s. IsTrue (is_known t s)) xs → is_among x xs ≡ true → is_known t x ≡ true
known_among t [] x h e = cc
known_among t (y ∷ xs) x h e = elim (cases_eq y x) [
  | inl d ↦ ap (is_known t) (sym d) ∙ All-head (λ s. IsTrue (is_known t s)) y xs h
  | inr n ↦ known_among t xs x (All-tail (λ s. IsTrue (is_known t s)) y xs h) (sym (ap (λ b. b || is_among x xs) (ne_eqb y x n)) ∙ e)
]

known_at : (t : Table) (xs : List ℕ) (j : ℕ) → All (λ s. IsTrue (is_known t s)) xs → is_known t (slice_index xs j) ≡ true
known_at t [] j h = is_known-numeric_slot t 0
known_at t (x ∷ xs) zero h = All-head (λ s. IsTrue (is_known t s)) x xs h
known_at t (x ∷ xs) (suc j) h = known_at t xs j (All-tail (λ s. IsTrue (is_known t s)) x xs h)

all_at : (t : Table) (ys : List ℕ) → ((j : ℕ) → j < length ys → is_known t (slice_index ys j) ≡ true) → All (λ s. IsTrue (is_known t s)) ys
all_at t [] h = All-nil (λ s. IsTrue (is_known t s))
all_at t (y ∷ ys) h = All-cons (λ s. IsTrue (is_known t s)) y ys (h 0 (omega arith)) (all_at t ys (λ j lt. h (suc j) (omega (arith, lt))))

pub answer_is_known : (t u : Table) (vs : List ℕ) (f g : Form) → KnowsMore t u → All (λ s. IsTrue (is_known t s)) f.names → All (λ s. IsTrue (is_known t s)) vs → PutsIn u vs f g → All (λ s. IsTrue (is_known u s)) g.names
answer_is_known t u vs f g more names handed put = all_at u g.names (λ j lt. elim (put j lt) [
  | inl q ↦ ap (is_known u) q ∙ more (slice_index f.names j) (known_at t f.names j names)
  | inr (inl q) ↦ q
  | inr (inr q) ↦ more (slice_index g.names j) (known_among t vs (slice_index g.names j) handed q)
])
