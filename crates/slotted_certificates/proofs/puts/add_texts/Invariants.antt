use Rattle.std.proofs.Common.{ℕ, List, length}
use Rattle.std.specs.Prelude.{map, string_bytes}
use Rattle.slotted_certificates.specs.Puts.{AreTexts}
use Rattle.slotted_certificates.proofs.puts.add_texts.Given as goal

abbrev pub invariant-loop-rest : goal.invariant-loop-rest
invariant-loop-rest l = (all : List (List ℕ)) → AreTexts (map string_bytes l.operators) (map string_bytes l.slots) (map string_bytes l.texts.items) l.rest all
    → AreTexts (map string_bytes l.operators) (map string_bytes l.slots) (map string_bytes l.fn.texts.items) l.fn.puts all

abbrev pub decreases-loop-rest : goal.decreases-loop-rest
decreases-loop-rest l = length l.rest
