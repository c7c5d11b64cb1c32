-- No free name is that of a binder, after a renaming.
use Rattle.std.proofs.Common.{◌≡◌, ℕ, zero, suc, ◌<◌, ◌≤◌, List, [], ◌∷◌, length, map, slice_index, Option, Some, None, sym, ◌∙◌, ap, refl, subst, inl, inr, arith}
use Rattle.std.specs.Prelude.{Bool, true, false, ◌⊎◌, ◌||◌, ◌&&◌, not, nat_eq, nat_lt, cond}
use Rattle.std.specs.List.{filter}
use Rattle.std.proofs.lemmas.Bool.{false≢true, cases_eq, cases_lt, eq-eqb, ne_eqb, le-ltb}
use Rattle.slotted_lists.proofs.Lists.{length-map_names}
use Rattle.slotted_lists.proofs.Maps.{values-with_values}
use Rattle.slotted_theory.specs.FiniteMaps.{with_values}
use Rattle.slotted_theory.specs.Nameless.{DTerm, moved}
use Rattle.slotted_theory.specs.Shape.{free_names}
use Rattle.slotted_theory.proofs.FreeNames.{free_names-moved}
use Rattle.slotted_slots.specs.Maps.{is_among, values}
use Rattle.slotted_slots.specs.Table.{Table}
use Rattle.slotted_nodes.specs.Form.{Form, scopes, scope_end_of}
use Rattle.slotted_nodes.specs.Public.{IsPublic, reaches, is_bound_by, is_no_binder, is_public}
use Rattle.slotted_languages.specs.Children.{IsBinder, NoneFreeAndBound, below}
use Rattle.slotted_languages.specs.Fresh.{IsRefreshed}
use Rattle.slotted_languages.specs.NodeTerm.{nameless_node, free_names_of}
use Rattle.slotted_languages.specs.Renaming.{IsRenamed}
use Rattle.slotted_languages.specs.Shape.{Fits, firsts, with_names}
use Rattle.slotted_languages.proofs.Occurrences.{is_among-append, is_among-firsts}
use Rattle.slotted_languages.proofs.PublicNames.{public_free}
use Rattle.slotted_languages.proofs.Renamings.{among_index, map_index}
use Rattle.slotted_languages.proofs.Taken.{among_map}
use Rattle.slotted_languages.proofs.TakenNames.{among_of_map}

neither : (b c d : Bool) → (b ≡ false) ⊎ (c ≡ false) → d ≡ false → ((b && c) || d) ≡ false
neither false c d e h = h
neither true false d e h = h
neither true true d (inl q) h = cc
neither true true d (inr q) h = cc

-- a public place is no binder, and none of the first places binds it
none_binds : (f : Form) (i n : ℕ) → n ≤ i → IsPublic f i → is_bound_by f i n ≡ false
none_binds f i zero le p = refl
none_binds f i (suc j) le p = one (scope_end_of (scopes f.tree) j) refl (none_binds f i j (omega (arith, le)) p)
  where
    one : (o : Option ℕ) → scope_end_of (scopes f.tree) j ≡ o → is_bound_by f i j ≡ false → ((reaches o i && nat_eq (slice_index f.names j) (slice_index f.names i)) || is_bound_by f i j) ≡ false
    one None s h = h
    one (Some end) s h = neither (nat_lt i end) (nat_eq (slice_index f.names j) (slice_index f.names i)) (is_bound_by f i j) (elim (cases_lt i end) [
      | inl lt ↦ inr (ne_eqb (slice_index f.names j) (slice_index f.names i) (p.not_bound j (record { before = omega (arith, le); end = end; is_end = s; within = lt })))
      | inr ge ↦ inl (le-ltb i end ge)
    ]) h

public_test : (f : Form) (i : ℕ) → IsPublic f i → is_public f i ≡ true
public_test f i p =
    (λ k. is_no_binder (p.no_binder k) && not (is_bound_by f i i)) ∙ ap not (none_binds f i i (omega arith) p)

or_last : {c : Bool} (b : Bool) → c ≡ true → (b || c) ≡ true
or_last true e = refl
or_last false e = e

or_first : {b : Bool} (c : Bool) → b ≡ true → (b || c) ≡ true
or_first {b = true} c e = refl
or_first {b = false} c e = absurd (false≢true e)

below_among : (n i : ℕ) → i < n → is_among i (below n) ≡ true
below_among zero i lt = absurd (omega (arith, lt))
below_among (suc n) i lt = is_among-append i (below n) (n ∷ []) ∙ elim (cases_eq n i) [
  | inl d ↦ or_last (is_among i (below n)) (ap (λ b. b || false) (eq-eqb n i d))
  | inr d ↦ or_first (is_among i (n ∷ [])) (below_among n i (omega (arith, lt, d)))
]

filter_among : (test : ℕ → Bool) (xs : List ℕ) (z : ℕ) → test z ≡ true → is_among z xs ≡ true → is_among z (filter test xs) ≡ true
filter_among test [] z t h = h
filter_among test (x ∷ xs) z t h = elim (cases_eq x z) [
  | inl d ↦
      ap (λ b. is_among z (cond b (x ∷ filter test xs) (filter test xs))) (ap test d ∙ t)
      ∙ ap (λ b. b || is_among z (filter test xs)) (eq-eqb x z d)
  | inr n ↦ later (test x) (filter_among test xs z t (sym (ap (λ b. b || is_among z xs) (ne_eqb x z n)) ∙ h))
]
  where
    later : (b : Bool) → is_among z (filter test xs) ≡ true → is_among z (cond b (x ∷ filter test xs) (filter test xs)) ≡ true
    later true e = or_last (nat_eq x z) e
    later false e = e

-- the name at a public place is a free one
pub public_is_free : (f : Form) (i : ℕ) → Fits f → i < length f.names → IsPublic f i → is_among (slice_index f.names i) (free_names_of f) ≡ true
public_is_free f i fits lt p =
    ap (is_among (slice_index f.names i)) (sym (public_free f fits))
    ∙ among_map (slice_index f.names) (filter (is_public f) (below (length f.names))) i
    (filter_among (is_public f) (below (length f.names)) i (public_test f i p) (below_among (length f.names) i lt))

-- a node with the places of another one has as many
pub as_many_places : (f g : Form) → Fits f → Fits g → g ≡ with_names f g.names → length g.names ≡ length f.names
as_many_places f g ff fg e = fg ∙ (ap (λ (h : Form). length (scopes h.tree)) e ∙ sym ff)

binder_there : (f g : Form) (j : ℕ) → g ≡ with_names f g.names → IsBinder g j → IsBinder f j
binder_there f g j e b = subst (λ (h : Form). IsBinder h j) e b

-- where all free names of a renamed node were avoided, none of its binders has one
pub none_meets : (t u : Table) (π : ℕ → ℕ) (f : Form) (avoid : List ℕ) (g : Form) → Fits f → Fits g → IsRenamed t u π f avoid g → ((z : ℕ) → is_among z (free_names_of g) ≡ true → is_among z avoid ≡ true) → NoneFreeAndBound g
none_meets t u π f avoid g ff fg r avoided i lt p b =
    let l = as_many_places f g ff fg r.places in
    let clear : is_among (slice_index g.names b.place) avoid ≡ false = r.bound b.place (omega (arith, b.within, l)) (binder_there f g b.place r.places b.binder) in
    let there : is_among (slice_index g.names b.place) avoid ≡ true = ap (λ x. is_among x avoid) b.named ∙ avoided (slice_index g.names i) (public_is_free g i fg lt p) in
    false≢true (sym clear ∙ there)

-- each free name of a renamed node is a value of the map that renames numbers
pub free_is_value : (f g : Form) (π : ℕ → ℕ) (free names : List (ℕ × ℕ)) → values free ≡ firsts (free_names_of f) → names ≡ with_values π free → nameless_node g ≡ moved π (nameless_node f) → (z : ℕ) → is_among z (free_names_of g) ≡ true → is_among z (values names) ≡ true
free_is_value f g π free names ef en e z h =
    let same : free_names_of g ≡ map π (free_names_of f) = ap (λ (t : DTerm). free_names t.args) e ∙ free_names-moved π (nameless_node f).args in
    let r = among_of_map π (free_names_of f) z (ap (is_among z) (sym same) ∙ h) in
    let here : is_among r.0 (values free) ≡ true = ap (is_among r.0) ef ∙ (is_among-firsts r.0 (free_names_of f) ∙ r.1) in
    ap (is_among z) (ap values en ∙ values-with_values π free) ∙ (ap (λ w. is_among w (map π (values free))) (sym r.2) ∙ among_map π (values free) r.0 here)

-- where names are replaced so that different ones stay different, no free name becomes that of a binder
pub none_meets_still : (t : Table) (chosen : ℕ → Bool) (f g : Form) → IsRefreshed t chosen f g → NoneFreeAndBound f → NoneFreeAndBound g
none_meets_still t chosen f g r clear i lt p b =
    let l : length g.names ≡ length f.names = ap (λ (h : Form). length h.names) r.places ∙ length-map_names r.by f.names in
    let at : (j : ℕ) → j < length f.names → slice_index g.names j ≡ r.by (slice_index f.names j) = λ j lj. ap (λ (h : Form). slice_index h.names j) r.places ∙ map_index r.by f.names j lj in
    let li : i < length f.names = omega (arith, lt, l) in
    let lb : b.place < length f.names = omega (arith, b.within, l) in
    let same : slice_index f.names b.place ≡ slice_index f.names i =
    r.differ (slice_index f.names b.place) (slice_index f.names i) (among_index f.names b.place lb) (among_index f.names i li) (sym (at b.place lb) ∙ (b.named ∙ at i li)) in
    let scopes_same : scopes g.tree ≡ scopes f.tree = ap (λ (h : Form). scopes h.tree) r.places in
    clear i li
    (record {
      no_binder = ap (λ ss. scope_end_of ss i) (sym scopes_same) ∙ p.no_binder;
      not_bound = λ j d q.
          let lj : j < length f.names = omega (arith, d.before, li) in
          p.not_bound j (record { before = d.before; end = d.end; is_end = ap (λ ss. scope_end_of ss j) scopes_same ∙ d.is_end; within = d.within })
          (at j lj ∙ (ap r.by q ∙ sym (at i li)));
    })
    (record { place = b.place; within = lb; binder = subst (λ (h : Form). IsBinder h b.place) r.places b.binder; named = same })
