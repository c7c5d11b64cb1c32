use Rattle.std.proofs.Common.{◌≡◌, ◌++◌, map}
use Rattle.std.specs.Prelude.{string_bytes}
use Rattle.std.specs.Map.{keys_of}
use Rattle.slotted_matching.proofs.answers.names_in_order.Given as goal

-- the names so far, and those that are left
abbrev pub invariant-loop-name : goal.invariant-loop-name
invariant-loop-name l = map string_bytes l.names.items ++ map string_bytes l.name-iterator ≡ map string_bytes (keys_of l.numbers.entries)
