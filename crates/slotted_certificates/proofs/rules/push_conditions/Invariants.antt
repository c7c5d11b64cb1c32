use Rattle.std.proofs.Common.{◌≡◌, ◌++◌, ℕ, List, length}
use Rattle.std.specs.Prelude.{Some, true, string_bytes}
use Rattle.slotted_certificates.specs.Rules.{conditions_text}
use Rattle.slotted_certificates.specs.Texts.{Adds, words_of}
use Rattle.slotted_certificates.proofs.rules.push_conditions.Given as goal

abbrev pub invariant-loop-rest : goal.invariant-loop-rest
invariant-loop-rest l = (bs : List ℕ) → conditions_text (words_of l.words) l.is_first l.rest ≡ Some bs
    → Adds (conditions_text (words_of l.fn.words) true l.fn.conditions) (string_bytes l.fn.out) (string_bytes l.out ++ bs)

abbrev pub decreases-loop-rest : goal.decreases-loop-rest
decreases-loop-rest l = length l.rest
