-- A substitution of the code as variables with their ids.
use Rattle.std.specs.Prelude.{map, string_bytes, String}
use Rattle.std.specs.BTreeMap.{BTreeMap}
use Rattle.std.specs.declared.alloc.Global.{Global}
use Rattle.slotted_slots.specs.declared.types.AppliedId.{AppliedId}
use Rattle.slotted_proofs.specs.Equations.{to_applied}
use Rattle.slotted_model_rules.specs.Conditions.{Values}

-- the entries of the map in the order of their names
abbrev pub values_of : BTreeMap (String Global) AppliedId → Values
values_of m = map (λ e. (string_bytes e.0, to_applied e.1)) m.entries
