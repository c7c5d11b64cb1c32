-- An analysis that marks variables, and asks that 1 equals 2 for a marked class.
use Rattle.std.specs.Prelude.{◌≡◌, ◌≢◌, ℕ, ◌<◌, List, [], ◌∷◌, Bool, true, false, ◌||◌, nat_eq, refl}
use Rattle.std.specs.Coded.{Coded, coded_bool}
use base.Stored.{gnil}
use Rattle.std.proofs.Common.{arith}
use Rattle.slotted_theory.specs.Term.{Term, done}
use Rattle.slotted_data.specs.declared.edit.Edit.{Edit}
use Rattle.slotted_data.specs.declared.edit.Edit.TheVariants.{Equate}
use Rattle.slotted_data.specs.Meaning.{Meaning, IsMergeOf}
use Rattle.slotted_small.specs.declared.small.Small.{Small}
use Rattle.slotted_const_fold.specs.ConstFold.{number_term}
use Rattle.slotted_run_lines.specs.declared.marking.Marking.{Marking}

abbrev pub height_of : Bool → ℕ
height_of true = 0
height_of false = 1

-- by the operator, which is one more than the node's
abbrev pub marking : Meaning Bool
marking = record { make = λ d xs. nat_eq d.op 3; merge = λ x y. x || y; height = height_of }

commutes : (x y : Bool) → (x || y) ≡ (y || x)
commutes true true = refl
commutes true false = refl
commutes false true = refl
commutes false false = refl

associates : (x y z : Bool) → ((x || y) || z) ≡ (x || (y || z))
associates true y z = refl
associates false y z = refl

itself : (x : Bool) → (x || x) ≡ x
itself true = refl
itself false = refl

falls : (x y : Bool) → (x || y) ≢ x → height_of (x || y) < height_of x
falls true y n = absurd (n refl)
falls false true n = omega arith
falls false false n = absurd (n refl)

pub marking_merges : IsMergeOf marking
marking_merges = record { commutative = commutes; associative = associates; idempotent = itself; lowers = falls }

abbrev pub marking_codes : Coded Marking × Coded Bool
marking_codes = (record { code = λ _. gnil; inj = λ _ _ _. refl }, coded_bool)

abbrev pub AsksOneIsTwo : Bool → Edit Small → Type 0
AsksOneIsTwo x e = (x ≡ true) × (e ≡ Equate (number_term 1) (number_term 2))
