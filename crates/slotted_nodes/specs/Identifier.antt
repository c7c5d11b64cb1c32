-- What one identifier token is, and what elements and forms hold nothing else: for languages whose nodes read back.
use Rattle.std.specs.Prelude.{◌≡◌, ℕ, Bool, true, false, not, ◌&&◌, ◌||◌, ◌==◌, List, [], ◌∷◌, slice_index, IsTrue, ⊤}
use Rattle.std.specs.Char.{is_whitespace}
use Rattle.std.specs.Str.{chars, IsUtf8}
use Rattle.slotted_slots.specs.Syntax.{Element, text, applied, name}
use Rattle.slotted_nodes.specs.Form.{Form, children}

-- a character of a run: neither white space nor one of the brackets `(`, `)`, `[` and `]`
abbrev pub is_run_char : ℕ → Bool
is_run_char c = not (is_whitespace c || (c == 40 || (c == 41 || (c == 91 || c == 93))))

abbrev pub are_run_chars : List ℕ → Bool
are_run_chars [] = true
are_run_chars (c ∷ cs) = is_run_char c && are_run_chars cs

-- characters that begin with none of `?`, `$` and `:=`
abbrev pub begins_identifier : ℕ → List ℕ → Bool
begins_identifier c cs = not (c == 63) && (not (c == 36) && not (c == 58 && slice_index cs 0 == 61))

-- a run that is one identifier token
abbrev pub is_identifier : List ℕ → Bool
is_identifier [] = false
is_identifier (c ∷ cs) = begins_identifier c cs && are_run_chars (c ∷ cs)

-- the text is one identifier token
abbrev pub IsIdentifier : List ℕ → Type 0
IsIdentifier bs = IsUtf8 bs × IsTrue (is_identifier (chars bs))

-- each text among the elements is one identifier token
abbrev pub HasIdentifiers : List Element → Type 0
HasIdentifiers [] = ⊤
HasIdentifiers (text bs ∷ es) = IsIdentifier bs × HasIdentifiers es
HasIdentifiers (applied i m ∷ es) = HasIdentifiers es
HasIdentifiers (name x ∷ es) = HasIdentifiers es

-- each applied id among the elements is null
abbrev pub HasNullIds : List Element → Type 0
HasNullIds [] = ⊤
HasNullIds (text bs ∷ es) = HasNullIds es
HasNullIds (applied i m ∷ es) = (i ≡ 0) × (m ≡ []) × HasNullIds es
HasNullIds (name x ∷ es) = HasNullIds es

-- each child is null: the id 0 without slots
abbrev pub AreNull : List (ℕ × List ℕ) → Type 0
AreNull [] = ⊤
AreNull (c ∷ cs) = (c.0 ≡ 0) × (c.1 ≡ []) × AreNull cs

abbrev pub HasNullChildren : Form → Type 0
HasNullChildren f = AreNull (children f.tree)
