-- The flags of what waits, as it comes and goes.
use Rattle.std.proofs.Common.{◌≡◌, ℕ, zero, suc, ◌<◌, List, [], ◌∷◌, ◌++◌, length, Bool, true, false, sym, ◌∙◌, refl, subst, inl, inr, arith}
use Rattle.std.specs.Prelude.{Contains, IsTrue, ◌↔◌, slice_index_or, set}
use Rattle.std.proofs.lemmas.Bool.{cases_eq, false≢true}
use Rattle.std.proofs.lemmas.List.{get_or-set_same, get_or-set_other}
use Rattle.std.proofs.lemmas.List.Elements.{Contains-append_left, Contains-append_right, Contains-append_cases}
use Rattle.slotted_lists.proofs.Contained.{contains_head, contains_tail, contains_cases, Contains-nil}
use Rattle.slotted_model.proofs.Rebuilding.Touching.{different-added}
use Rattle.slotted_hashcons.specs.Waiting.{HasFlags}

-- a flag that is up is one of the list
pub flag-within : (flags : List Bool) (i : ℕ) → IsTrue (slice_index_or flags i false) → i < length flags
flag-within [] i h = absurd (false≢true h)
flag-within (b ∷ flags) zero h = omega arith
flag-within (b ∷ flags) (suc i) h = let w = flag-within flags i h in omega arith

-- what waits is one of those that have a flag
pub waiting-within : {flags : List Bool} {q : List ℕ} → HasFlags flags q → (i : ℕ) → Contains q i → i < length flags
waiting-within {flags} h i c = flag-within flags i ((h.tells i).1 c)

-- one more flag, which is down
flag-added : (flags : List Bool) (i : ℕ) → slice_index_or (flags ++ false ∷ []) i false ≡ slice_index_or flags i false
flag-added [] zero = refl
flag-added [] (suc i) = refl
flag-added (b ∷ flags) zero = refl
flag-added (b ∷ flags) (suc i) = flag-added flags i

pub flags-added : (flags : List Bool) (q : List ℕ) → HasFlags flags q → HasFlags (flags ++ false ∷ []) q
flags-added flags q h = record {
  once = h.once;
  tells = λ i. (λ t. (h.tells i).0 (subst IsTrue (flag-added flags i) t), λ c. subst IsTrue (sym (flag-added flags i)) ((h.tells i).1 c));
}

-- its flag goes up
pub flags-pushed : (flags : List Bool) (q : List ℕ) (i : ℕ) → HasFlags flags q → i < length flags → ¬ Contains q i → HasFlags (set flags i true) (q ++ i ∷ [])
flags-pushed flags q i h w n = record {
  once = different-added q i h.once n;
  tells = λ j. elim (cases_eq j i) [
    | inl e ↦ subst (λ k. IsTrue (slice_index_or (set flags i true) k false) ↔ Contains (q ++ i ∷ []) k) (sym e)
        (λ _. Contains-append_right q (i ∷ []) i (contains_head i []), λ _. get_or-set_same flags i true false w)
    | inr d ↦ (
      λ t. Contains-append_left q (i ∷ []) j ((h.tells j).0 (subst IsTrue (get_or-set_other flags i j true false d) t)),
      λ c. subst IsTrue (sym (get_or-set_other flags i j true false d)) (elim (Contains-append_cases q (i ∷ []) j c) [
        | inl k ↦ (h.tells j).1 k
        | inr k ↦ elim (contains_cases i [] j k) [
          | inl e ↦ absurd (d e)
          | inr m ↦ absurd (Contains-nil j m)
        ]
      ]),
    )
  ];
}

-- its flag goes down
pub flags-popped : (flags : List Bool) (q : List ℕ) (i : ℕ) → HasFlags flags (i ∷ q) → HasFlags (set flags i false) q
flags-popped flags q i h = record {
  once = h.once.1;
  tells = λ j. elim (cases_eq j i) [
    | inl e ↦ subst (λ k. IsTrue (slice_index_or (set flags i false) k false) ↔ Contains q k) (sym e)
        (λ t. absurd (false≢true (sym (get_or-set_same flags i false false (waiting-within h i (contains_head i q))) ∙ t)), λ c. absurd (h.once.0 c))
    | inr d ↦ (
      λ t. elim (contains_cases i q j ((h.tells j).0 (subst IsTrue (get_or-set_other flags i j false false d) t))) [
        | inl e ↦ absurd (d e)
        | inr k ↦ k
      ],
      λ c. subst IsTrue (sym (get_or-set_other flags i j false false d)) ((h.tells j).1 (contains_tail i q j c)),
    )
  ];
}
