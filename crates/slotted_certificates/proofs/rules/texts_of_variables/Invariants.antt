use Rattle.std.proofs.Common.{◌≡◌, ◌++◌, length}
use Rattle.std.specs.Prelude.{map, string_bytes}
use Rattle.slotted_certificates.specs.Rules.{AreWords, variable_texts}
use Rattle.slotted_certificates.proofs.rules.texts_of_variables.Given as goal

abbrev pub invariant-loop-rest : goal.invariant-loop-rest
invariant-loop-rest l = record {
  texts : map string_bytes l.texts.items ++ variable_texts (map string_bytes l.rest) ≡ variable_texts (map string_bytes l.fn.variables);
  words : AreWords (map string_bytes l.rest) → AreWords (map string_bytes l.fn.variables);
}

abbrev pub decreases-loop-rest : goal.decreases-loop-rest
decreases-loop-rest l = length l.rest
