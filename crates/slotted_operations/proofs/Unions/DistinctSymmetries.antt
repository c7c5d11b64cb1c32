-- No two listed symmetries say the same.
use Rattle.std.proofs.Common.{◌≡◌, ◌<◌, ℕ, zero, suc, List, [], ◌∷◌, length, sym, ◌∙◌, ap, refl, subst, arith}
use Rattle.std.specs.Prelude.{Contains, slice_index_or}
use Rattle.slotted_lists.proofs.Contained.{contains_head, contains_tail}
use Rattle.slotted_lists.proofs.Lists.{slice_index_or-map}
use Rattle.slotted_model.specs.Correspondence.{AllDifferent}
use Rattle.slotted_classes.specs.Kept.{Kept, SymmetryEntry}
use Rattle.slotted_classes.proofs.KeptLists.{length-mapped}
use Rattle.slotted_classes.specs.Stored.{proofs_listed}
use Rattle.slotted_operations.specs.Good.{Good, image_of}
use Rattle.slotted_operations.specs.Image.{IsSymmetry, AreListedOnce, no_symmetry}
use Rattle.slotted_operations.proofs.Unions.Symmetries.{is_symmetry}

at-index : {X : Type 0} (xs : List X) (i : ℕ) (d : X) → i < length xs → Contains xs (slice_index_or xs i d)
at-index [] i d h = absurd (omega (arith, h))
at-index (x ∷ xs) zero d h = contains_head x xs
at-index (x ∷ xs) (suc i) d h = contains_tail x xs (slice_index_or xs i d) (at-index xs i d (omega (arith, h)))

-- one number stands at one place
different-index : (xs : List ℕ) → AllDifferent xs → (i j : ℕ) → i < length xs → j < length xs →
    slice_index_or xs i 0 ≡ slice_index_or xs j 0 → i ≡ j
different-index [] d i j h k e = absurd (omega (arith, h))
different-index (x ∷ xs) d zero zero h k e = refl
different-index (x ∷ xs) d zero (suc j) h k e = absurd (d.0 (subst (Contains xs) (sym e) (at-index xs j 0 (omega (arith, k)))))
different-index (x ∷ xs) d (suc i) zero h k e = absurd (d.0 (subst (Contains xs) e (at-index xs i 0 (omega (arith, h)))))
different-index (x ∷ xs) d (suc i) (suc j) h k e = ap suc (different-index xs d.1 i j (omega (arith, h)) (omega (arith, k)) e)

pub listed_once : (k : Kept) → Good k → AreListedOnce (image_of k)
listed_once k good i j h l e =
    let y : SymmetryEntry = slice_index_or k.symmetries i no_symmetry in
    let z : SymmetryEntry = slice_index_or k.symmetries j no_symmetry in
    let first : IsSymmetry (image_of k) y = is_symmetry k good y (at-index k.symmetries i no_symmetry h) in
    let second : IsSymmetry (image_of k) z = is_symmetry k good z (at-index k.symmetries j no_symmetry l) in
    let number : y.1 ≡ z.1 = good.stored.sane.sound.proved.once y.1 z.1 first.in_range second.in_range (first.proof ∙ (e ∙ sym second.proof)) in
    let n : length (proofs_listed k) ≡ length k.symmetries = length-mapped (λ (x : SymmetryEntry). x.1) k.symmetries in
    different-index (proofs_listed k) good.stored.once i j (omega (arith, h, n)) (omega (arith, l, n))
    (slice_index_or-map (λ (x : SymmetryEntry). x.1) k.symmetries i no_symmetry
    ∙ (number ∙ sym (slice_index_or-map (λ (x : SymmetryEntry). x.1) k.symmetries j no_symmetry)))
