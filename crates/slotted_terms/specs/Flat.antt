-- A tree of nodes as one list: each node stands before what is under it, which follows from the right.
--     flat p               the nodes of the pattern p, each with how many patterns stand under it
--     flat_of form ns      what a list of nodes is, where form says what each of them is
use Rattle.std.specs.Prelude.{◌≡◌, ℕ, suc, List, [], ◌∷◌, ◌++◌, ◌-◌, length, map, take, drop}
use Rattle.slotted_theory.specs.Term.{Term}
use Rattle.slotted_nodes.specs.Form.{Form, children}
use Rattle.slotted_languages.specs.Filled.{term_of}
use Rattle.slotted_patterns.specs.Tree.{PatternTree, enode, pvar, substitution, PatternRow, no_more, one_more, row_of}
use Rattle.slotted_terms.specs.TermPattern.{IsGround}
use Rattle.slotted_terms.specs.declared.flat.FlatNode.{FlatNode}

abbrev pub row_length : PatternRow → ℕ
row_length no_more = 0
row_length (one_more p rest) = suc (row_length rest)

abbrev mutual
  pub flat : PatternTree → List (Form × ℕ)
  flat (enode f row) = (f, row_length row) ∷ flat_row row
  flat (pvar v) = []
  flat (substitution b x t) = []

  pub flat_row : PatternRow → List (Form × ℕ)
  flat_row no_more = []
  flat_row (one_more p rest) = flat_row rest ++ flat p

abbrev pub flat_of : {L : Type 0} → (L → Form) → List (FlatNode L) → List (Form × ℕ)
flat_of form ns = map (λ n. (form n.node, n.count)) ns

-- the last patterns of a list, so many, give way to that of a node over them
abbrev pub closed : Form → ℕ → List PatternTree → List PatternTree
closed f n ps = take (length ps - n) ps ++ enode f (row_of (drop (length ps - n) ps)) ∷ []

-- the same of terms
abbrev pub closed_terms : Form → ℕ → List Term → List Term
closed_terms f n ts = take (length ts - n) ts ++ term_of f (drop (length ts - n) ts) ∷ []

-- the list is that of a tree of nodes
abbrev pub HasTree : List (Form × ℕ) → Type 0
HasTree ns = (p : PatternTree) × IsGround p × (ns ≡ flat p)

-- p is the node n over as many patterns as its children, which were added to the list
pub record Opens {L : Type 0} (form : L → Form) (p : PatternTree) (n : FlatNode L) (old new : List PatternTree) : Type 0 where
  pub below : List PatternTree
  pub whole : p ≡ enode (form n.node) (row_of below)
  pub count : n.count ≡ length below
  pub right : length below ≡ length (children (form n.node).tree)
  pub left : new ≡ old ++ below
