-- The nodes of the term that an id stands for.
--     OpensId       an id gives way to its node and the ids of its children
--     IsGivenAs     the term is that of the id, and can be added over the table
--     IsOfTermOf    the list of nodes is that of such a term
use Rattle.std.specs.Prelude.{◌≡◌, ◌<◌, ℕ, List, [], ◌∷◌, ◌++◌, length, reverse}
use Rattle.slotted_theory.specs.Term.{Term}
use Rattle.slotted_theory.specs.Nameless.{nameless}
use Rattle.slotted_slots.specs.declared.types.AppliedId.{AppliedId}
use Rattle.slotted_slots.specs.Table.{Table, AllKnown}
use Rattle.slotted_nodes.specs.Form.{Form, children}
use Rattle.slotted_languages.specs.Shape.{Fits}
use Rattle.slotted_terms.specs.Valid.{IsValidTerm}
use Rattle.slotted_model.specs.Applied.{Applied}
use Rattle.slotted_model.specs.Classes.{term_of}
use Rattle.slotted_proofs.specs.Equations.{to_applied}
use Rattle.slotted_classes.specs.Kept.{Kept, nodes_of}
use Rattle.slotted_languages.specs.Beside.{IsBeside}
use Rattle.slotted_operations.specs.Canonical.{IsNodeOf}
use Rattle.slotted_operations.specs.Nodes.{child_ids}
use Rattle.slotted_operations.specs.Preorder.{HasEnough, built}
use Rattle.slotted_operations.specs.Syn.{KnowsSlotsAnd}

-- h is the canonical node of the id but for the ids of its children, which were added to those that are left, the last one first
pub record OpensId (old new : Table) (k : Kept) (a : AppliedId) (h : Form) (count : ℕ) (left next : List Applied) : Type 0 where
  pub node : Form
  pub fits : Fits node
  pub is : IsNodeOf (nodes_of k) (to_applied a) node
  pub beside : IsBeside node h
  pub number : count ≡ length (children node.tree)
  pub children : next ≡ left ++ reverse (child_ids node)
  pub known : KnowsSlotsAnd old k a.m → AllKnown new node.names

-- the term is that of the id b, and valid over the table v if the table old knew the names of the id a
pub record IsGivenAs (old : Table) (k : Kept) (a : AppliedId) (v : Table) (b : Applied) (t : Term) : Type 0 where
  pub operator : 0 < t.op
  pub term : nameless t ≡ term_of (nodes_of k) b
  pub valid : KnowsSlotsAnd old k a.m → IsValidTerm v t

pub record IsOfTermOf (old new : Table) (k : Kept) (a : AppliedId) (ns : List (Form × ℕ)) : Type 0 where
  pub term : Term
  pub given : IsGivenAs old k a new (to_applied a) term
  pub value : built ns [] ≡ term ∷ []
  pub enough : HasEnough ns []
