-- There is one analysis of this type, and one value of its data.
use Rattle.std.specs.Prelude.{refl}
use Rattle.std.specs.Coded.{Coded}
use base.Stored.{gnil}
use Rattle.slotted_data.specs.Meaning.{unit_code}
use Rattle.slotted_run_lines.specs.declared.tired.Tired.{Tired}

abbrev pub tired_codes : Coded Tired × Coded (Unit {0})
tired_codes = (record { code = λ _. gnil; inj = λ _ _ _. refl }, unit_code)
