-- What the text methods of std answer, by what stands behind a word and around it.
use Rattle.std.proofs.Common.{◌≡◌, ◌+◌, ℕ, List, ◌++◌, refl, ap, sym, ◌∙◌}
use Rattle.std.specs.Prelude.{Some, true, false, if◌then◌else◌, bytes_eq, codes}
use Rattle.std.specs.Str.Pattern.{FindsTextPrefix, StripsPrefix}
use Rattle.slotted_lists.proofs.Splitting.{rest_behind-found}
use Rattle.slotted_commands.specs.Commands.{rest_behind, pair_by, asked_of_pair, one_or, asked_of_text, command_of, counts}

-- what `strip_prefix` answers is what stands behind the word
pub stripped : (w s rest : List ℕ) → StripsPrefix (FindsTextPrefix w) s rest → rest_behind w s ≡ Some rest
stripped w s rest h = rest_behind-found w s rest (h.1.1 ∙ ap (λ r. w ++ r) (sym h.2))

-- what a line asks that is the word alone, and one that is not

pub word_line : (line : List ℕ) → bytes_eq line (codes "symmetries") ≡ true → counts ≡ command_of line
unfolding command_of
word_line line e = sym (ap (λ b. if b then counts else asked_of_text line) e)

pub other_line : (line : List ℕ) → bytes_eq line (codes "symmetries") ≡ false → asked_of_text line ≡ command_of line
unfolding command_of
other_line line e = sym (ap (λ b. if b then counts else asked_of_text line) e)

-- what it asks of one text, or else of two
pub text_line : (line : List ℕ) → one_or (rest_behind (codes "add ") line) (rest_behind (codes "extract ") line) (asked_of_pair line) ≡ asked_of_text line
unfolding asked_of_text
text_line line = refl

-- what it asks of two texts
pub pair_line : (line : List ℕ) → pair_by (rest_behind (codes "eq ") line) (rest_behind (codes "union ") line) (rest_behind (codes "explain ") line) ≡ asked_of_pair line
unfolding asked_of_pair
pair_line line = refl
