use Rattle.std.proofs.Common.{map}
use Rattle.std.specs.Prelude.{string_bytes}
use Rattle.std.specs.List.Sorted.{IsStrictlySortedBy}
use Rattle.std.specs.Map.{keys_of}
use Rattle.slotted_matching.specs.Matches.{name_order}
use Rattle.slotted_matching.proofs.NumberedNames.{NumbersBelow}
use Rattle.slotted_matching.proofs.answers.numbers_by_name.Given as goal

-- the variables so far have their numbers
abbrev pub invariant-loop-number : goal.invariant-loop-number
invariant-loop-number l = record {
  below : NumbersBelow (map string_bytes l.variables) l.number (map (λ e. (string_bytes e.0, e.1)) l.numbers.entries);
  ordered : IsStrictlySortedBy (λ a b. name_order (string_bytes a) (string_bytes b)) (keys_of l.numbers.entries);
}
