-- Ascending lists, one of which stands in the other.
use Rattle.std.proofs.Common.{◌≡◌, ◌<◌, ◌≤◌, ℕ, List, [], ◌∷◌, length, refl, arith, inl, inr}
use Rattle.slotted_lists.proofs.Members.{Contains-In, In, In-Contains}
use Rattle.slotted_model.specs.Ascending.{IsAscending, IsBelowAll}
use Rattle.slotted_model.proofs.Correspondences.FullIds.{ascending-different}
use Rattle.slotted_model.proofs.Rebuilding.Touching.{different-length}

below-in : (x z : ℕ) (ys : List ℕ) → IsBelowAll x ys → In z ys → x < z
below-in x z [] b i = absurd i
below-in x z (y ∷ ys) b i = elim i [
  | inl e ↦ omega (arith, b.0, e)
  | inr j ↦ below-in x z ys b.1 j
]

-- an ascending list whose names stand all in one that is as long is that one
pub ascending-within : (xs ys : List ℕ) → IsAscending xs → IsAscending ys → ((z : ℕ) → In z xs → In z ys) → length xs ≡ length ys → xs ≡ ys
ascending-within [] [] a b h e = refl
ascending-within [] (y ∷ ys) a b h e = absurd (omega (arith, e))
ascending-within (x ∷ xs) [] a b h e = absurd (omega (arith, e))
ascending-within (x ∷ xs) (y ∷ ys) a b h e = elim (h x (inl refl)) [
  | inl s ↦
      let rest : (z : ℕ) → In z xs → In z ys = λ z i. elim (h z (inr i)) [
        | inl q ↦ let l : x < z = below-in x z xs a.0 i in absurd (omega (arith, l, s, q))
        | inr j ↦ j
      ] in
      λ i. s i ∷ ascending-within xs ys a.1 b.1 rest (omega (arith, e)) i
  | inr j ↦
      let first : y < x = below-in y x ys b.0 j in
      let all : (z : ℕ) → In z (x ∷ xs) → In z ys = λ z i. elim (h z i) [
        | inr k ↦ k
        | inl q ↦ elim i [
          | inl p ↦ absurd (omega (arith, first, p, q))
          | inr k ↦ let l : x < z = below-in x z xs a.0 k in absurd (omega (arith, first, l, q))
        ]
      ] in
      let l : length (x ∷ xs) ≤ length ys = different-length (x ∷ xs) ys (ascending-different (x ∷ xs) a) (λ z c. Contains-In ys z (all z (In-Contains (x ∷ xs) z c))) in
      absurd (omega (arith, l, e))
]
