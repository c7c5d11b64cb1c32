-- The least number of binders of a class's terms, which merging lowers.
use Rattle.std.specs.Prelude.{refl, ℕ, ◌+◌, min, sum, cond, nat_eq}
use Rattle.std.specs.Coded.{Coded, coded_ℕ}
use base.Stored.{gnil}
use Rattle.slotted_theory.specs.Nameless.{DTerm}
use Rattle.slotted_data.specs.Meaning.{Meaning, IsMergeOf}
use Rattle.slotted_run_lines.specs.LeastSize.{largest, least_size_merges}
use Rattle.slotted_run_lines.specs.declared.least_binders.LeastBinders.{LeastBinders}

-- by the operator, which is one more than the node's: an abstraction is one binder
abbrev pub binders_of : DTerm → ℕ
binders_of d = cond (nat_eq d.op 1) 1 0

-- an abstraction has one more than its part, and each other node as many as its children together; the smaller of two numbers is kept
abbrev pub least_binders : Meaning ℕ
least_binders = record { make = λ d xs. min (binders_of d + sum xs) largest; merge = min; height = λ n. n }

pub least_binders_merges : IsMergeOf least_binders
least_binders_merges = record {
  commutative = least_size_merges.commutative;
  associative = least_size_merges.associative;
  idempotent = least_size_merges.idempotent;
  lowers = least_size_merges.lowers;
}

-- there is one analysis of this type
abbrev pub binder_codes : Coded LeastBinders × Coded ℕ
binder_codes = (record { code = λ _. gnil; inj = λ _ _ _. refl }, coded_ℕ)
