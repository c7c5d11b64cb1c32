use Rattle.std.proofs.Common.{◌≡◌, ◌++◌, ℕ, List, length}
use Rattle.std.specs.Prelude.{Some, string_bytes}
use Rattle.slotted_certificates.specs.Texts.{Adds, text_of, words_of}
use Rattle.slotted_certificates.proofs.spelling.push_text.Given as goal

abbrev pub invariant-loop-rest : goal.invariant-loop-rest
invariant-loop-rest l = (bs : List ℕ) → text_of (words_of l.words) l.rest ≡ Some bs → Adds (text_of (words_of l.fn.words) l.fn.tokens) (string_bytes l.fn.out) (string_bytes l.out ++ bs)

abbrev pub decreases-loop-rest : goal.decreases-loop-rest
decreases-loop-rest l = length l.rest
