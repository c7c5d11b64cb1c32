-- How far a term is read, where one list has the elements of all open brackets, and another the terms among them.
use Rattle.std.specs.Prelude.{◌≡◌, ℕ, Bool, true, false, List, [], ◌∷◌, ◌++◌, Option, Some, length, map, drop, reverse}
use Rattle.std.specs.declared.alloc.Global.{Global}
use Rattle.std.specs.declared.vec.Vec.{Vec}
use Rattle.slotted_theory.specs.Term.{Term}
use Rattle.slotted_slots.specs.Syntax.{Lexeme, word, left_paren, Element, text, applied, name}
use Rattle.slotted_nodes.specs.Form.{Form, children}
use Rattle.slotted_languages.specs.Filled.{term_of}
use Rattle.slotted_patterns.specs.Tree.{PatternTree}
use Rattle.slotted_patterns.specs.View.{tree_of}
use Rattle.slotted_patterns.specs.Outcome.{PatternOutcome, parsed}
use Rattle.slotted_patterns.specs.Parsed.{TokensRead}
use Rattle.slotted_patterns.specs.Grammar.{Reading, found, Bracket, joined, one_text, one_slot, one_child, ReadsPattern}
use Rattle.slotted_patterns.specs.Stack.{Part, in_bracket, Continues, ReadsOpen}
use Rattle.slotted_patterns.specs.Shown.{total_width}
use Rattle.slotted_patterns.specs.ReadAgain.{HasNoText}
use Rattle.slotted_patterns.specs.declared.pattern.Pattern.{Pattern}
use Rattle.slotted_terms.specs.AsTerm.{as_term}
use Rattle.slotted_terms.specs.Parsed.{TermOutcome, term_outcome}

-- these elements, over these child patterns, are those of these open brackets: the last of each stands first
abbrev pub IsOpen : List Element → List PatternTree → List Part → Type 0
IsOpen [] ds parts = (ds ≡ []) × (parts ≡ [])
IsOpen (text w ∷ es) ds parts = (outer : List Part) × IsOpen es ds outer × (parts ≡ in_bracket (one_text w) ∷ outer)
IsOpen (name s ∷ es) ds parts = (b : Bracket) × (outer : List Part) × IsOpen es ds (in_bracket b ∷ outer) ×
    (parts ≡ in_bracket (joined b (one_slot s)) ∷ outer)
IsOpen (applied i m ∷ es) [] parts = ⊥
IsOpen (applied i m ∷ es) (d ∷ ds) parts = (b : Bracket) × (outer : List Part) × IsOpen es ds (in_bracket b ∷ outer) ×
    (parts ≡ in_bracket (joined b (one_child d)) ∷ outer)

-- what tokens read as after these elements over these child patterns: a base was read last, or one may follow
abbrev pub ReadsOn : (List Element → Option Form) → List Element → List PatternTree → List Lexeme → Reading PatternTree → Type 0
ReadsOn read (applied i m ∷ es) [] ls r = ⊥
ReadsOn read (applied i m ∷ es) (d ∷ ds) ls r = (parts : List Part) × IsOpen es ds parts × Continues read parts (found d ls) r
ReadsOn read [] ds ls r = (parts : List Part) × IsOpen [] ds parts × ReadsOpen read parts ls r
ReadsOn read (text w ∷ es) ds ls r = (parts : List Part) × IsOpen (text w ∷ es) ds parts × ReadsOpen read parts ls r
ReadsOn read (name s ∷ es) ds ls r = (parts : List Part) × IsOpen (name s ∷ es) ds parts × ReadsOpen read parts ls r

-- each applied id is the null one
abbrev pub AreNull : List Element → Type 0
AreNull [] = Unit {0}
AreNull (text w ∷ es) = AreNull es
AreNull (name s ∷ es) = AreNull es
AreNull (applied i m ∷ es) = (applied i m ≡ applied 0 []) × AreNull es

-- of the tokens `all` these are left, and of the others these elements over these terms were read
pub record Reached {L : Type 0} (form : L → Form) (read : List Element → Option Form) (all : List Lexeme) (es : List Element) (ts : List Term) (ls : List Lexeme) : Type 0 where
  pub nodes : List (Pattern L)
  pub terms : map (λ p. as_term (tree_of form p)) nodes ≡ map Some ts
  pub null : AreNull es
  pub reads : (r : Reading PatternTree) → ReadsOn read (reverse es) (reverse (map (tree_of form) nodes)) ls r → ReadsPattern read all r

-- what was read before leads on to these elements and terms
abbrev pub Leads : {L : Type 0} → (L → Form) → (List Element → Option Form) → List Element → List Term → List Lexeme → List Element → List Term →
    List Lexeme → Type 0
Leads form read es ts ls es' ts' ls' = (all : List Lexeme) → Reached form read all es ts ls → Reached form read all es' ts' ls'

-- the tokens that are left where a bracket may have begun whose operator is due
abbrev pub front : Bool → List Lexeme → List Lexeme
front true ls = left_paren ∷ ls
front false ls = ls

abbrev pub is_text : Element → Bool
is_text (text w) = true
is_text (name s) = false
is_text (applied i m) = false

-- the token is the operator of a bracket, which was added to the elements
abbrev pub BeginsBracket : List Element → Lexeme → List Element → Bool → Type 0
BeginsBracket es (word w) es' due = (es' ≡ es ++ text w ∷ []) × (due ≡ false)
BeginsBracket es l es' due = ⊥

-- the elements of the innermost bracket begin here, and have so many children
pub record EndsInBracket (es : List Element) (begin count : ℕ) : Type 0 where
  pub operator : List ℕ
  pub inner : List Element
  pub last : drop begin es ≡ text operator ∷ inner
  pub bare : HasNoText inner
  pub width : total_width inner ≡ count

-- the last terms, as many as the node's children, gave way to the term of the node over them
pub record IsClosed (f : Form) (old new : List Term) : Type 0 where
  pub below : Vec Term Global
  pub others : List Term
  pub split : old ≡ others ++ below.items
  pub count : length below.items ≡ length (children f.tree)
  pub whole : new ≡ others ++ term_of f below.items ∷ []

-- one child, and nothing else
abbrev pub IsChild : List Element → Type 0
IsChild (applied i m ∷ []) = Unit {0}
IsChild es = ⊥

-- this is the only term, and nothing but its place is among the elements
pub record IsLastTerm (due : Bool) (es : List Element) (ts : List Term) (t : Term) : Type 0 where
  pub begun : due ≡ false
  pub place : IsChild es
  pub only : ts ≡ t ∷ []

-- these tokens read as a pattern of these nodes, which is the term
pub record IsReadAs {L : Type 0} (form : L → Form) (read : List Element → Option Form) (ls : List Lexeme) (t : Term) : Type 0 where
  pub nodes : Pattern L
  pub reads : TokensRead read ls (parsed (tree_of form nodes))
  pub term : as_term (tree_of form nodes) ≡ Some t

-- what tokens that read as a pattern read as where terms are read
abbrev pub ReadAsTerm : (List Element → Option Form) → List Lexeme → TermOutcome → Type 0
ReadAsTerm read ls o = (p : PatternOutcome) × TokensRead read ls p × (o ≡ term_outcome p)
