-- Tokens whose words are lent by the text in which they stand.
use Rattle.std.specs.Prelude.{◌≡◌, ℕ, List, ◌∷◌, ◌++◌, encode_utf8}
use Rattle.std.specs.Str.{chars, IsUtf8}
use Rattle.slotted_slots.specs.Syntax.{Lexeme, word, variable, lexeme_of}
use Rattle.slotted_patterns.specs.declared.tokens.LentToken.{LentToken}
use Rattle.slotted_patterns.specs.declared.tokens.LentToken.TheVariants.{Word, Variable, Other}

-- the token, with the bytes of its text
abbrev pub lexeme : LentToken → Lexeme
lexeme (Word w) = word w.now
lexeme (Variable v) = variable v.now
lexeme (Other x) = lexeme_of x

-- the text begins with this character, which this text follows
pub record BeginsWithChar (bs : List ℕ) (c : ℕ) (rest : List ℕ) : Type 0 where
  pub bytes : bs ≡ encode_utf8 c ++ rest
  pub spelled : chars bs ≡ c ∷ chars rest
  pub utf8 : IsUtf8 rest
