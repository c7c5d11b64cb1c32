-- The canonical term of an id is looked up as what the id finds, unless an open symmetry affects its class.
use Rattle.std.proofs.Common.{◌≡◌, ◌∙◌, Some, ap, subst, sym}
use Rattle.slotted_theory.specs.Nameless.{nameless}
use Rattle.slotted_model.specs.Applied.{Applied}
use Rattle.slotted_model.specs.Classes.{IsFull, term_of}
use Rattle.slotted_model.specs.Find.{find_class}
use Rattle.slotted_model.specs.Rest as model
use Rattle.slotted_model.specs.Rest.{AtRest}
use Rattle.slotted_model.specs.State.{look_up_tree}
use Rattle.slotted_model.proofs.Complete.AtRest.{rest-look_up}
use Rattle.slotted_model.proofs.Represented.Trees.{term_of-tree}
use Rattle.slotted_theory.specs.Derives.{reflexive}
use Rattle.slotted_classes.specs.Kept.{Kept, entries_of, nodes_of}
use Rattle.slotted_hashcons.specs.FiledRows.{Rows, rows_in}
use Rattle.slotted_hashcons.specs.WellFiled.{state_in}
use Rattle.slotted_operations.specs.Affected.{AreRepresented, IsAffected}
use Rattle.slotted_operations.specs.Causes.{class_found}
use Rattle.slotted_operations.specs.Good.{Good, RestsWith, image_of}
use Rattle.slotted_operations.specs.Graph.{Graph}
use Rattle.slotted_operations.specs.Image.{Image, found_id}
use Rattle.slotted_operations.proofs.Unions.AffectedClasses.{affected-is}
use Rattle.slotted_operations.proofs.Graphs.Finds.{full-findable}
use Rattle.slotted_operations.proofs.Graphs.Images.{class_found-is, found_id-is}
use Rattle.slotted_operations.proofs.LookUps.States.{tree-is}
use Rattle.slotted_operations.proofs.Graphs.AtRest.{at-rest}
use Rattle.slotted_operations.proofs.Ids.ValidIds.{findable-within}

module _ (k : Kept) (r : Rows) (good : Good k) (rests : RestsWith k r) where
  -- by what is kept
  found-term : (a : Applied) → IsFull (nodes_of k) a → ¬ IsAffected (image_of k) (class_found (image_of k) a.0) →
      look_up_tree (state_in k r) (term_of (nodes_of k) a) ≡ Some (found_id (image_of k) a)
  found-term a full n =
      let rest : AtRest (state_in k r) = at-rest k r good rests in
      let within = findable-within k a (full-findable k good a full) in
      let untouched : ¬ model.IsAffected (state_in k r) (find_class (entries_of k) a.0) = λ touched.
      n (subst (IsAffected (image_of k)) (sym (class_found-is k a.0 within)) (affected-is k good r rest.sane rest.nothing_waits touched)) in
      rest-look_up (state_in k r) rest a full untouched (term_of (nodes_of k) a) (term_of-tree (nodes_of k) rest.sane.sound.canonical a full) reflexive
      ∙ ap Some (sym (found_id-is k a within))

  pub are-represented : (g : Graph) → image_of k ≡ g.image → rows_in r.filed ≡ g.filed → AreRepresented g
  are-represented g image filed a full n t is =
      tree-is k r good rests g image filed (nameless t) ∙ ap (look_up_tree (state_in k r)) is
      ∙ subst (λ (i : Image). IsFull i.canonical a → ¬ IsAffected i (class_found i a.0) → look_up_tree (state_in k r) (term_of i.canonical a) ≡ Some (found_id i a)) image
      (found-term a) full n
