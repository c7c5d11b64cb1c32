-- The least size of a class's terms, which merging lowers.
use Rattle.std.specs.Prelude.{◌≡◌, ◌≢◌, ℕ, suc, ◌-◌, ◌<◌, ◌^◌, min, sum}
use Rattle.std.specs.Coded.{Coded, code_by, coded_ℕ}
use Rattle.std.specs.Prelude.{refl}
use base.Stored.{gnil}
use Rattle.std.proofs.Common.{arith}
use Rattle.slotted_data.specs.Meaning.{Meaning, IsMergeOf}
use Rattle.slotted_run_lines.specs.declared.least_size.LeastSize.{LeastSize}
use Rattle.slotted_run_lines.specs.declared.refusing.Refusing.{Refusing}

abbrev pub largest : ℕ
largest = 2 ^ 32 - 1

-- a node has one node more than its children together; the smaller of two sizes is kept; and so often can it fall
abbrev pub least_size : Meaning ℕ
least_size = record { make = λ _ xs. min (suc (sum xs)) largest; merge = min; height = λ n. n }

commutes : (x y : ℕ) → min x y ≡ min y x
commutes x y = omega arith

associates : (x y z : ℕ) → min (min x y) z ≡ min x (min y z)
associates x y z = omega arith

itself : (x : ℕ) → min x x ≡ x
itself x = omega arith

falls : (x y : ℕ) → min x y ≢ x → min x y < x
falls x y n = omega arith

pub least_size_merges : IsMergeOf least_size
least_size_merges = record { commutative = commutes; associative = associates; idempotent = itself; lowers = falls }

-- there is one analysis of this type
abbrev pub size_codes : Coded LeastSize × Coded ℕ
size_codes = (record { code = λ _. gnil; inj = λ _ _ _. refl }, coded_ℕ)

abbrev pub refusing_codes : Coded Refusing × Coded ℕ
refusing_codes = (code_by ℕ coded_ℕ (λ r. r.most) (λ n. record { most = n }) (λ _. refl), coded_ℕ)
