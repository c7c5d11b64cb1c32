-- Constant folding: what numbers nodes come to.
--     Fold           nothing is known, a number is, or two different ones are
--     fold_made      a sum or a product of two numbers, where it is one of 32 bits
--     fold_merged    what is known of a class by two of its nodes
--     fold_codes     what tells analyses and data apart
use Rattle.std.specs.Prelude.{◌≡◌, refl, ℕ, ◌+◌, ◌*◌, ◌^◌, List, [], ◌∷◌, cond, nat_eq, nat_lt, slice_index, slice_index_or, Option, Some}
use Rattle.std.specs.Prelude.{None as nothing}
use Rattle.std.specs.Coded.{Coded, code_by, coded_option, coded_ℕ}
use base.Stored.{gnil}
use Rattle.slotted_data.specs.declared.edit.Edit.{Edit}
use Rattle.slotted_data.specs.declared.edit.Edit.TheVariants.{Equal}
use Rattle.slotted_small.specs.declared.small.Small.{Small}
use Rattle.slotted_theory.specs.Nameless.{DTerm}
use Rattle.slotted_theory.specs.Term.{Term, done}
use Rattle.slotted_data.specs.Meaning.{Meaning}
use Rattle.slotted_const_fold.specs.declared.const_fold.ConstFold.{ConstFold}
use Rattle.slotted_const_fold.specs.declared.const_fold.Fold.{Fold}
use Rattle.slotted_const_fold.specs.declared.const_fold.Fold.TheVariants.{None, Number, Conflict}

-- a number that 32 bits hold
abbrev pub fitting : ℕ → Fold
fitting n = cond (nat_lt n (2 ^ 32)) (Number n) None

abbrev pub known_of : Option ℕ → Fold
known_of (Some n) = Number n
known_of nothing = None

-- what two children come to
abbrev pub both : (ℕ → ℕ → ℕ) → Fold → Fold → Fold
both f Conflict y = Conflict
both f None Conflict = Conflict
both f None None = None
both f None (Number n) = None
both f (Number m) Conflict = Conflict
both f (Number m) None = None
both f (Number m) (Number n) = fitting (f m n)

abbrev pub both_of : (ℕ → ℕ → ℕ) → List Fold → Fold
both_of f xs = both f (slice_index_or xs 0 None) (slice_index_or xs 1 None)

-- the number of a node that is one
abbrev pub number_of : DTerm → ℕ
number_of d = slice_index (slice_index_or d.payloads 0 []) 0

-- by the operator, which is one more than the node's: a sum, a product, or a number
abbrev pub fold_made : DTerm → List Fold → Fold
fold_made d xs = cond (nat_eq d.op 8) (Number (number_of d)) (cond (nat_eq d.op 6) (both_of (λ m n. m + n) xs) (cond (nat_eq d.op 7) (both_of (λ m n. m * n) xs) None))

-- equal numbers are one, and two different ones are in conflict
abbrev pub fold_merged : Fold → Fold → Fold
fold_merged None y = y
fold_merged Conflict y = Conflict
fold_merged (Number m) None = Number m
fold_merged (Number m) Conflict = Conflict
fold_merged (Number m) (Number n) = cond (nat_eq m n) (Number m) Conflict

abbrev pub fold_height : Fold → ℕ
fold_height None = 2
fold_height (Number n) = 1
fold_height Conflict = 0

abbrev pub fold : Meaning Fold
fold = record { make = fold_made; merge = fold_merged; height = fold_height }

-- the term of a number
abbrev pub number_term : ℕ → Term
number_term n = record { op = 8; payloads = (n ∷ []) ∷ []; args = done }

-- the class with a number equals its term
abbrev pub AsksNumber : Fold → Edit Small → Type 0
AsksNumber x e = (n : ℕ) × (x ≡ Number n) × (e ≡ Equal (number_term n))

abbrev pub to_option : Fold → Option (Option ℕ)
to_option None = nothing
to_option Conflict = Some nothing
to_option (Number n) = Some (Some n)

abbrev pub of_option : Option (Option ℕ) → Fold
of_option nothing = None
of_option (Some nothing) = Conflict
of_option (Some (Some n)) = Number n

pub of-to : (x : Fold) → of_option (to_option x) ≡ x
of-to None = refl
of-to Conflict = refl
of-to (Number n) = refl

-- there is one analysis of this type, and data is told apart by its cases
abbrev pub fold_codes : Coded ConstFold × Coded Fold
fold_codes = (record { code = λ _. gnil; inj = λ _ _ _. refl }, code_by (Option (Option ℕ)) (coded_option (coded_option coded_ℕ)) to_option of_option of-to)
