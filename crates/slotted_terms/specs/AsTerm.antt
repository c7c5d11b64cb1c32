-- The term that a pattern is.
use Rattle.std.specs.Prelude.{◌≡◌, List, [], ◌∷◌, length, ◌==◌, if◌then◌else◌, Option, Some, None}
use Rattle.slotted_theory.specs.Term.{Term}
use Rattle.slotted_slots.specs.declared.error.Error.{Error}
use Rattle.slotted_slots.specs.declared.error.Error.TheVariants.{OutOfMemory, NotATerm}
use Rattle.slotted_nodes.specs.Form.{Form, children}
use Rattle.slotted_languages.specs.Filled.{term_of}
use Rattle.slotted_patterns.specs.Tree.{PatternTree, enode, pvar, substitution, PatternRow, no_more, one_more}

-- a node over these terms, if they are as many as its children
abbrev pub over : Form → Option (List Term) → Option Term
over f (Some ts) = if length ts == length (children f.tree) then Some (term_of f ts) else None
over f None = None

abbrev pub in_front : Option Term → Option (List Term) → Option (List Term)
in_front (Some t) (Some ts) = Some (t ∷ ts)
in_front (Some t) None = None
in_front None ts = None

abbrev mutual
  -- a pattern is a term if neither a variable nor a substitution stands in it, and each node has the right number of
  -- child patterns
  pub as_term : PatternTree → Option Term
  as_term (enode f row) = over f (as_terms row)
  as_term (pvar v) = None
  as_term (substitution b x t) = None

  pub as_terms : PatternRow → Option (List Term)
  as_terms no_more = Some []
  as_terms (one_more p rest) = in_front (as_term p) (as_terms rest)

-- a refusal of what is no term; memory may lack besides
abbrev pub IsRefusal : Option Term → Error → Type 0
IsRefusal o NotATerm = o ≡ None
IsRefusal o OutOfMemory = Unit {0}
IsRefusal o e = ⊥
