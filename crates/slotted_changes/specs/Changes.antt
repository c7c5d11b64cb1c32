-- Two terms that differ at one place, and their texts with that place marked.
--     over l t             the level l, which is a node with its children, with the term t in the place of one of these
--     below ls t           the term t below some levels, the uppermost first
--     DifferAt ts us k     of two rows of terms those at k differ, up to bound names, and no others
--     DifferInOne a b      two terms of one node, of whose children one alone differs
--     MarksChange written t one two first second   the texts of two terms, with the smallest place marked at which they differ
--     ShowsChange written t one two first second   so they are, or nothing is marked
use Rattle.std.specs.Prelude.{◌≡◌, ◌⊎◌, ◌<◌, ◌++◌, ℕ, List, [], ◌∷◌, length, codes, slice_index_or, slice_set, All}
use Rattle.slotted_theory.specs.Term.{Term}
use Rattle.slotted_theory.specs.Nameless.{Alpha}
use Rattle.slotted_nodes.specs.Form.{Form, children}
use Rattle.slotted_languages.specs.Filled.{term_of}
use Rattle.slotted_languages.specs.Outline.{outlined_form}
use Rattle.slotted_slots.specs.Syntax.{Element}
use Rattle.slotted_slots.specs.Table.{Table}
use Rattle.slotted_terms.specs.LargeNodes.{HasLargeNode}
use Rattle.slotted_terms.specs.Shown.{term_text}
use Rattle.slotted_terms.specs.TermPattern.{no_term}
use Rattle.slotted_terms.specs.Valid.{IsWhole}

-- a node over its children, and the number of one of these
pub record Level : Type 0 where
  pub node : Form
  pub row : List Term
  pub at : ℕ

-- the node has so many children, and that one is among them
pub record IsLevel (l : Level) : Type 0 where
  pub count : length l.row ≡ length (children l.node.tree)
  pub within : l.at < length l.row

abbrev pub AreLevels : List Level → Type 0
AreLevels ls = All IsLevel ls

-- the term of the node, with the term t in the place of that child
abbrev pub over : Level → Term → Term
over l t = term_of l.node (slice_set l.row l.at t)

abbrev pub below : List Level → Term → Term
below [] t = t
below (l ∷ ls) t = over l (below ls t)

-- the term at a place of a row
abbrev pub nth : List Term → ℕ → Term
nth ts k = slice_index_or ts k no_term

pub record DifferAt (ts us : List Term) (k : ℕ) : Type 0 where
  pub within : k < length ts
  pub here : ¬ Alpha (nth ts k) (nth us k)
  pub others : (j : ℕ) → j < length ts → (j ≡ k → ⊥) → Alpha (nth ts j) (nth us j)

-- two whole terms of one node, with its names, of whose children one alone differs
pub record DifferInOne (a b : Term) : Type 0 where
  pub node : Form
  pub ts : List Term
  pub us : List Term
  pub first : a ≡ term_of node ts
  pub second : b ≡ term_of node us
  pub first_whole : IsWhole a.args
  pub second_whole : IsWhole b.args
  pub place : ℕ
  pub differ : DifferAt ts us place

-- two nodes are one but for what stands under them, and have the right numbers of children
pub record AreOfOneNode (f g : Form) (ts us : List Term) : Type 0 where
  pub same : outlined_form 0 f ≡ outlined_form 0 g
  pub first : length ts ≡ length (children f.tree)
  pub second : length us ≡ length (children g.tree)

-- so two nodes are, and of their children the one at k alone differs
pub record DifferBelow (f g : Form) (ts us : List Term) (k : ℕ) : Type 0 where
  pub node : AreOfOneNode f g ts us
  pub differ : DifferAt ts us k

-- the text of a term between the marks
abbrev pub in_marks : List ℕ → List ℕ
in_marks bs = codes "[" ++ (bs ++ codes "]")

-- the text of a term below these levels is that of the term between two others, and so stand these two texts between them
pub record Surround (written : Term → List Element) (t : Table) (ls : List Level) (first second outer_first outer_second : List ℕ) : Type 0 where
  pub before : List ℕ
  pub after : List ℕ
  pub around : (u : Term) → term_text written t (below ls u) ≡ before ++ (term_text written t u ++ after)
  pub first_is : outer_first ≡ before ++ (first ++ after)
  pub second_is : outer_second ≡ before ++ (second ++ after)

-- both terms have what differs below the same levels, the second one up to bound names; the terms there are no two of one node of
-- whose children one alone differs; and the texts are those of the terms, with marks around what differs
pub record MarksChange (written : Term → List Element) (t : Table) (one two : Term) (first second : List ℕ) : Type 0 where
  pub levels : List Level
  pub from : Term
  pub to : Term
  pub are_levels : AreLevels levels
  pub one_is : one ≡ below levels from
  pub two_is : Alpha (below levels to) two
  pub differ : ¬ Alpha from to
  pub smallest : ¬ DifferInOne from to
  pub texts : Surround written t levels (in_marks (term_text written t from)) (in_marks (term_text written t to)) first second

-- so they are marked, or they are the texts of terms that are alpha-equal or too large to be compared
pub data ShowsChange (written : Term → List Element) (t : Table) (one two : Term) (first second : List ℕ) : Type 0 where
  marked : MarksChange written t one two first second → ShowsChange written t one two first second
  plain : Alpha one two ⊎ (HasLargeNode one ⊎ HasLargeNode two) → first ≡ term_text written t one → second ≡ term_text written t two → ShowsChange written t one two first second
