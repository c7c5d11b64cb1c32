-- Going through a list, and through the listed symmetries.
use Rattle.std.proofs.Common.{◌≡◌, ◌<◌, ◌+◌, ℕ, List, length, sym, ◌∙◌, ap, subst, inl, inr, arith}
use Rattle.std.specs.Prelude.{Contains, map, slice_index_or}
use Rattle.std.proofs.lemmas.Bool.{cases_eq}
use Rattle.slotted_lists.proofs.Contained.{Contains-map, Contains-of_map}
use Rattle.slotted_model.specs.State.{Symmetry}
use Rattle.slotted_classes.specs.Kept.{SymmetryEntry}
use Rattle.slotted_classes.proofs.KeptLists.{any_default}
use Rattle.slotted_classes.specs.StateOf.{symmetry_of_entry}

-- what holds of the elements so far, and of the next one, holds of one more
pub so_far-next : {X : Type 0} (P : X → Type 0) (xs : List X) (i : ℕ) (x : X) → i < length xs → x ≡ slice_index_or xs i x → P x → ((j : ℕ) (d : X) → j < i → P (slice_index_or xs j d)) → (j : ℕ) (d : X) → j < i + 1 → P (slice_index_or xs j d)
so_far-next P xs i x l e p before j d h = elim (cases_eq j i) [
  | inl q ↦ subst P (e ∙ (any_default xs i x d l ∙ ap (λ n. slice_index_or xs n d) (sym q))) p
  | inr n ↦ before j d (omega (arith, h, n))
]

-- what holds of each element holds of each that the list contains
pub each-contained : {X : Type 0} (P : X → Type 0) (xs : List X) → ((j : ℕ) (d : X) → j < length xs → P (slice_index_or xs j d)) → (x : X) → Contains xs x → P x
each-contained P xs each x c = subst P c.2 (each c.0 x c.1)

-- an element stands in what is made of the list
pub contained-map : {X Y : Type 0} (f : X → Y) (xs : List X) (ys : List Y) → map f xs ≡ ys → (i : ℕ) (x : X) → i < length xs → x ≡ slice_index_or xs i x → Contains ys (f x)
contained-map f xs ys e i x l q = subst (λ zs. Contains zs (f x)) e (Contains-map f xs x (i, l, sym q))

-- what holds of the symmetry of each element holds of each symmetry
pub each-symmetry : {X : Type 0} (f : X → SymmetryEntry) (P : Symmetry → Type 0) (xs : List X) (es : List SymmetryEntry) → map f xs ≡ es → ((j : ℕ) (d : X) → j < length xs → P (symmetry_of_entry (f (slice_index_or xs j d)))) → (y : Symmetry) → Contains (map symmetry_of_entry es) y → P y
each-symmetry f P xs es e each y c =
    let r = Contains-of_map symmetry_of_entry es y c in
    let s = Contains-of_map f xs r.0 (subst (λ zs. Contains zs r.0) (sym e) r.1) in
    subst P (ap symmetry_of_entry s.2 ∙ r.2) (each-contained (λ x. P (symmetry_of_entry (f x))) xs each s.0 s.1)
