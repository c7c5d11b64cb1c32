-- Tokens, syntax elements and faults of a text as contracts see them: texts are their bytes.
use Rattle.std.specs.Prelude.{ℕ, List, map, string_bytes}
use Rattle.slotted_slots.specs.declared.parse.Token.{Token}
use Rattle.slotted_slots.specs.declared.parse.SyntaxElem.{SyntaxElem}
use Rattle.slotted_slots.specs.declared.parse.ParseError.{ParseError}
use Rattle.slotted_slots.specs.declared.parse.Token.TheVariants as token
use Rattle.slotted_slots.specs.declared.parse.SyntaxElem.TheVariants as elem
use Rattle.slotted_slots.specs.declared.parse.ParseError.TheVariants as error

-- a token
pub data Lexeme : Type 0 where
  slot : (raw : ℕ) → Lexeme
  word : (bytes : List ℕ) → Lexeme
  variable : (bytes : List ℕ) → Lexeme
  colon_equals : Lexeme
  left_paren : Lexeme
  right_paren : Lexeme
  left_bracket : Lexeme
  right_bracket : Lexeme

-- an element of a node's syntax: a text, an applied id, or a slot
pub data Element : Type 0 where
  text : (bytes : List ℕ) → Element
  applied : (id : ℕ) (pairs : List (ℕ × ℕ)) → Element
  name : (raw : ℕ) → Element

-- the one fault of a text outside the grammar
pub data Fault : Type 0 where
  no_token : (rest : List ℕ) → Fault
  no_pattern : (rest : List Lexeme) → Fault
  too_much : (rest : List Lexeme) → Fault
  no_node : (elements : List Element) → Fault
  no_colon_equals : (rest : List Lexeme) → Fault
  no_right_bracket : (rest : List Lexeme) → Fault

abbrev pub lexeme_of : Token → Lexeme
lexeme_of (token.Slot s) = slot s
lexeme_of (token.Ident t) = word (string_bytes t)
lexeme_of (token.PVar t) = variable (string_bytes t)
lexeme_of token.ColonEquals = colon_equals
lexeme_of token.LParen = left_paren
lexeme_of token.RParen = right_paren
lexeme_of token.LBracket = left_bracket
lexeme_of token.RBracket = right_bracket

abbrev pub element_of : SyntaxElem → Element
element_of (elem.String t) = text (string_bytes t)
element_of (elem.AppliedId a) = applied a.id.0 a.m
element_of (elem.Slot s) = name s

abbrev pub fault_of : ParseError → Fault
fault_of (error.TokenState t) = no_token (string_bytes t)
fault_of (error.ParseState ts) = no_pattern (map lexeme_of ts.items)
fault_of (error.RemainingRest ts) = too_much (map lexeme_of ts.items)
fault_of (error.FromSyntaxFailed es) = no_node (map element_of es.items)
fault_of (error.ExpectedColonEquals ts) = no_colon_equals (map lexeme_of ts.items)
fault_of (error.ExpectedRBracket ts) = no_right_bracket (map lexeme_of ts.items)
