-- What the program writes for what it reads.
use Rattle.std.specs.Prelude.{◌<◌, ℕ, List, [], ◌∷◌, ◌++◌, length, Option, if◌then◌else◌, ◌==◌}
use Rattle.std.specs.Str.{IsUtf8}
use Rattle.slotted_theory.specs.Term.{Term}
use Rattle.slotted_slots.specs.Syntax.{Element}
use Rattle.slotted_nodes.specs.Form.{Form}
use Rattle.slotted_lines.specs.declared.told.Told.{Told}
use Rattle.slotted_lines.specs.Texts.{told_text}
use Rattle.slotted_lines.specs.Requests.{session_command_of}
use Rattle.slotted_lines.specs.AnsweredIn.{AnsweredIn}
use Rattle.slotted_lines.specs.States.{SessionState, empty_state}

-- the byte at the front of the first line
abbrev pub with_first : ℕ → List (List ℕ) → List (List ℕ)
with_first b [] = (b ∷ []) ∷ []
with_first b (line ∷ lines) = (b ∷ line) ∷ lines

-- the lines of bytes: each is ended by a line feed, which the last may lack
abbrev pub lines_of : List ℕ → List (List ℕ)
lines_of [] = []
lines_of (b ∷ bs) = if b == 10 then [] ∷ lines_of bs else with_first b (lines_of bs)

-- what one line writes over g, and the session that it leaves: an empty line writes nothing, and any other, which is UTF-8,
-- its answer and a line feed
pub data LineWrites {L : Type 0} (read : List Element → Option Form) (written : Term → List Element) (form : L → Form) (g : SessionState L) : List ℕ → List ℕ → SessionState L → Type 0 where
  empty_line : LineWrites read written form g [] [] g
  one_line : {line : List ℕ} {a : Told} {h : SessionState L} → 0 < length line → IsUtf8 line →
      AnsweredIn read written form g h (session_command_of line) a → LineWrites read written form g line (told_text a ++ 10 ∷ []) h

-- the line leaves the session h, whether its answer is written or not
abbrev pub LineLeaves : {L : Type 0} → (List Element → Option Form) → (Term → List Element) → (L → Form) → SessionState L → List ℕ → SessionState L → Type 0
LineLeaves read written form g line h = (bs : List ℕ) × LineWrites read written form g line bs h

-- what lines write over g, one after another
pub data LinesWrite {L : Type 0} (read : List Element → Option Form) (written : Term → List Element) (form : L → Form) : SessionState L → List (List ℕ) → List ℕ → SessionState L →
    Type 0 where
  no_line : {g : SessionState L} → LinesWrite read written form g [] [] g
  next_line : {g h k : SessionState L} {line : List ℕ} {lines : List (List ℕ)} {bs cs : List ℕ} → LineWrites read written form g line bs h →
      LinesWrite read written form h lines cs k → LinesWrite read written form g (line ∷ lines) (bs ++ cs) k

-- the lines of the input, answered from g on, write bytes of which P holds
abbrev pub WritesFrom : {L : Type 0} → (List Element → Option Form) → (Term → List Element) → (L → Form) → SessionState L → List ℕ → (List ℕ → Type 0) → Type 0
WritesFrom {L = L} read written form g input P = (bs : List ℕ) × (h : SessionState L) × LinesWrite read written form g (lines_of input) bs h × P bs

-- the same from the empty session on
abbrev pub SessionWrites : {L : Type 0} → (List Element → Option Form) → (Term → List Element) → (L → Form) → List ℕ → (List ℕ → Type 0) → Type 0
SessionWrites read written form input P = WritesFrom read written form empty_state input P
