-- The keys of pairs that stand in the order of an ascending list ascend.
use Rattle.std.proofs.Common.{◌≡◌, ℕ, List, [], ◌∷◌, Option, Some, None, subst}
use Rattle.std.specs.Prelude.{option_map}
use Rattle.std.specs.List.{cons_option}
use Rattle.std.specs.Map.{keys_of}
use Rattle.slotted_theory.specs.FiniteMaps.{value_of}
use Rattle.slotted_model.specs.Ascending.{IsBelowAll, IsAscending}
use Rattle.slotted_model.specs.Correspondence.{AllDifferent, pairs_on}
use Rattle.slotted_model.proofs.Correspondences.FullIds.{ascending-different}

below_option : (x s : ℕ) (o : Option ℕ) (A : List (ℕ × ℕ)) → (IsBelowAll x (s ∷ keys_of A)) → IsBelowAll x (keys_of (cons_option (option_map (λ t. (s, t)) o) A))
below_option x s None A b = b.1
below_option x s (Some t) A b = b

below_pairs : (x : ℕ) (P : List ℕ) (f : ℕ → Option ℕ) → IsBelowAll x P → IsBelowAll x (keys_of (pairs_on P f))
below_pairs x [] f b = tt
below_pairs x (s ∷ P) f b = below_option x s (f s) (pairs_on P f) (b.0, below_pairs x P f b.1)

ascending_option : (s : ℕ) (o : Option ℕ) (A : List (ℕ × ℕ)) → IsAscending (s ∷ keys_of A) → IsAscending (keys_of (cons_option (option_map (λ t. (s, t)) o) A))
ascending_option s None A a = a.1
ascending_option s (Some t) A a = a

ascending_pairs : (P : List ℕ) (f : ℕ → Option ℕ) → IsAscending P → IsAscending (keys_of (pairs_on P f))
ascending_pairs [] f a = tt
ascending_pairs (s ∷ P) f a = ascending_option s (f s) (pairs_on P f) (below_pairs s P f a.0, ascending_pairs P f a.1)

pub in_order-ascending : (P : List ℕ) (A : List (ℕ × ℕ)) → IsAscending P → pairs_on P (value_of A) ≡ A → IsAscending (keys_of A)
in_order-ascending P A a o = subst (λ (B : List (ℕ × ℕ)). IsAscending (keys_of B)) o (ascending_pairs P (value_of A) a)

-- no key stands twice
pub in_order-once : (P : List ℕ) (A : List (ℕ × ℕ)) → IsAscending P → pairs_on P (value_of A) ≡ A → AllDifferent (keys_of A)
in_order-once P A a o = ascending-different (keys_of A) (in_order-ascending P A a o)
