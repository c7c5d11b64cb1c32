-- A proof as a text, printed over the graph g, which leaves h.
--     IsSideText written g h a bs      bs is the print of a term that is the canonical term of a, up to bound names
--     IsSidesText written g h p bs     bs is the print of the two sides of the entry p, which are canonical terms
--     IsLine written g h lines i p bs  bs is the line number i of a proof with these lines, that of the entry p
--     IsProofText written g h p bs     bs is the proof of the entry p: its lines, parts first
--     line_binders g p                 how many binders the canonical terms of the two sides of the entry p have
--     ProofRunsOut g h p               slots ran out in printing the proof of p
use Rattle.std.specs.Prelude.{◌≡◌, ◌⊎◌, ◌+◌, ◌<◌, ℕ, zero, suc, List, [], ◌∷◌, ◌++◌, length, codes, decimal, slice_index_or, IfSome, String, string_bytes}
use Rattle.std.specs.declared.alloc.Global.{Global}
use Rattle.slotted_theory.specs.Term.{Term}
use Rattle.slotted_theory.specs.Nameless.{nameless}
use Rattle.slotted_slots.specs.Syntax.{Element}
use Rattle.slotted_slots.specs.Table.{Table}
use Rattle.slotted_model.specs.Applied.{Applied}
use Rattle.slotted_model.specs.Classes.{term_of}
use Rattle.slotted_terms.specs.Shown.{term_text}
use Rattle.slotted_terms.specs.Valid.{IsValidTerm}
use Rattle.slotted_proofs.specs.Equations.{AreSides}
use Rattle.slotted_proofs.specs.Entries.{proven_at, statement_at}
use Rattle.slotted_proofs.specs.Lines.{Lines}
use Rattle.slotted_proofs.specs.Reasons.{reason_text}
use Rattle.slotted_graph.specs.Causes.{HasLargePart}
use Rattle.slotted_graph.specs.Image.{Image}
use Rattle.slotted_graph.specs.Graph.{Graph, MakesAtMost, RunsOutIn}
use Rattle.slotted_graph.specs.Syn.{term_binders}

-- the print, with the names of the graph's table, of a term that is the canonical term of the id, up to bound names; the graph that is
-- left knows each slot of the term, so none is shown as `$?`
pub record IsSideText (written : Term → List Element) (g h : Graph) (a : Applied) (bs : List ℕ) : Type 0 where
  pub term : Term
  pub table : Table
  pub is : nameless term ≡ term_of g.image.canonical a
  pub known : IsValidTerm h.table term
  pub names : table.names ≡ g.table.names
  pub bytes : bs ≡ term_text written table term

-- the two sides of the entry's equation, whose names are numbered
pub record IsSidesText (written : Term → List Element) (g h : Graph) (p : ℕ) (bs : List ℕ) : Type 0 where
  pub left : Applied
  pub right : Applied
  pub sides : AreSides (statement_at g.image.stored p) left right
  pub left_text : List ℕ
  pub right_text : List ℕ
  pub left_is : IsSideText written g h left left_text
  pub right_is : IsSideText written g h right right_text
  pub bytes : bs ≡ left_text ++ (codes " = " ++ right_text)

-- a line: its number, the two sides, and the reason, which is open where a text is outside ASCII
pub record IsLine (written : Term → List Element) (g h : Graph) (lines : List ℕ) (i p : ℕ) (bs : List ℕ) : Type 0 where
  pub sides : List ℕ
  pub sides_are : IsSidesText written g h p sides
  pub reason : List ℕ
  pub reason_is : IfSome (reason_text lines (proven_at g.image.stored p).step (proven_at g.image.stored p).text) (λ r. reason ≡ r)
  pub bytes : bs ≡ decimal i ++ (codes ": " ++ (sides ++ (codes " by " ++ (reason ++ 10 ∷ []))))

-- the first n lines
abbrev pub ArePrinted : (Term → List Element) → Graph → Graph → List ℕ → ℕ → List ℕ → Type 0
ArePrinted written g h lines zero bs = bs ≡ []
ArePrinted written g h lines (suc n) bs = (before line : List ℕ) × ArePrinted written g h lines n before ×
    IsLine written g h lines n (slice_index_or lines n 0) line × (bs ≡ before ++ line)

-- a line for each entry that the proof of p stands on, parts first
pub record IsProofText (written : Term → List Element) (g h : Graph) (p : ℕ) (bs : List ℕ) : Type 0 where
  pub lines : List ℕ
  pub order : Lines g.image.stored [] (p ∷ []) lines
  pub printed : ArePrinted written g h lines (length lines) bs

-- a line is appended to a text
abbrev pub AppendsLine : (Term → List Element) → Graph → Graph → List ℕ → ℕ → ℕ → String Global → String Global → Type 0
AppendsLine written g h lines i p before after =
    (bs : List ℕ) × IsLine written g h lines i p bs × (string_bytes after ≡ string_bytes before ++ bs)

abbrev pub line_binders : Image → ℕ → ℕ
line_binders g p =
    term_binders g.canonical (statement_at g.stored p).equation.left + term_binders g.canonical (statement_at g.stored p).equation.right

-- those of some lines
abbrev pub lines_binders : Image → List ℕ → ℕ
lines_binders g [] = 0
lines_binders g (p ∷ lines) = line_binders g p + lines_binders g lines

-- no more fresh slots are made for a line, or for some, than these have binders
abbrev pub MakesForLine : Graph → Graph → ℕ → Type 0
MakesForLine g h p = MakesAtMost (line_binders g.image p) g.table h.table

abbrev pub MakesForLines : Graph → Graph → List ℕ → Type 0
MakesForLines g h lines = MakesAtMost (lines_binders g.image lines) g.table h.table

-- nor for the proof of p than its lines have
abbrev pub MakesForProof : Graph → Graph → ℕ → Type 0
MakesForProof g h p = (h.table ≡ g.table) ⊎ ((lines : List ℕ) × Lines g.image.stored [] (p ∷ []) lines × MakesForLines g h lines)

-- a node of the canonical term of a side of the entry p has too many places to be numbered
abbrev pub HasLargeSide : Image → ℕ → Type 0
HasLargeSide g p =
    HasLargePart g.canonical (statement_at g.stored p).equation.left ⊎ HasLargePart g.canonical (statement_at g.stored p).equation.right

-- so has one of an entry among these
abbrev pub HasLargeLine : Image → List ℕ → Type 0
HasLargeLine g lines = (k : ℕ) × (k < length lines) × HasLargeSide g (slice_index_or lines k 0)

-- fewer fresh slots were left than the line of the entry has binders, or a side of the entry is too large
abbrev pub LineRunsOut : Graph → Graph → ℕ → Type 0
LineRunsOut g h p = RunsOutIn g h (line_binders g.image p) ⊎ HasLargeSide g.image p

-- the same of some of these entries
abbrev pub LinesRunOut : Graph → Graph → List ℕ → Type 0
LinesRunOut g h lines = RunsOutIn g h (lines_binders g.image lines) ⊎ HasLargeLine g.image lines

-- the same of the entries that have a line in the proof of p
abbrev pub ProofRunsOut : Graph → Graph → ℕ → Type 0
ProofRunsOut g h p = (lines : List ℕ) × Lines g.image.stored [] (p ∷ []) lines × LinesRunOut g h lines
