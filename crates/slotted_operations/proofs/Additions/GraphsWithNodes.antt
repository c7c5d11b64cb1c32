-- A graph to which a node was added, as contracts see it.
use Rattle.std.proofs.Common.{◌≡◌, ◌∙◌, Option, Some, ap, sym, subst}
use Rattle.std.specs.Prelude.{IsSome, IsTrue}
use Rattle.slotted_theory.specs.Nameless.{DTerm}
use Rattle.slotted_slots.specs.Table.{KnowsMore, Table, is_known, AllKnown}
use Rattle.slotted_nodes.specs.Form.{Form}
use Rattle.slotted_languages.specs.NodeTerm.{nameless_node}
use Rattle.slotted_languages.specs.Shape.{Fits}
use Rattle.slotted_model.specs.Applied.{Applied, EachChild}
use Rattle.slotted_model.specs.Classes.{IsFull}
use Rattle.slotted_model.specs.State.{look_up_node}
use Rattle.slotted_model.proofs.Represented.Children.{EachChild-map}
use Rattle.slotted_classes.specs.Finding.{IsFindable}
use Rattle.slotted_classes.specs.Kept.{Kept, nodes_of}
use Rattle.slotted_hashcons.specs.FiledRows.{Rows, rows_in}
use Rattle.slotted_hashcons.specs.WellFiled.{state_in}
use Rattle.slotted_operations.specs.Adding.{AddsSyn, IsEqualToNode, MakesFilledClass, children_lack}
use Rattle.slotted_operations.specs.Good.{AddsFilled, AddsFound, Good, RestsWith, image_of}
use Rattle.slotted_operations.specs.Graph.{Graph, HasNewClass, IsFullId, MakesAtMost}
use Rattle.slotted_operations.specs.Image.{Image}
use Rattle.slotted_operations.specs.LookUp.{HasSameClasses, IsOneGraph, KeepsLookUps, MakesClassFor, look_up}
use Rattle.slotted_operations.specs.Reports.{IsFound}
use Rattle.slotted_operations.proofs.Additions.MissingNodes.{fresh-later}
use Rattle.slotted_operations.proofs.LookUps.FoundNames.{answer_full, answer_names, answer_term}
use Rattle.slotted_operations.proofs.LookUps.States.{looked_up-is}
use Rattle.slotted_operations.proofs.LookUps.FoundIds.{graph-equal, graph-found, keeps-look_ups}

-- by look-up
module _ (k : Kept) (r : Rows) (good : Good k) (rests : RestsWith k r) (g : Graph) (image : image_of k ≡ g.image) (filed : rows_in r.filed ≡ g.filed)
    (t : Table) (table : t ≡ g.table) (f : Form) (fits : Fits f) (children : EachChild (IsFindable k) (nameless_node f).args) (known : AllKnown g.table f.names)
    (l : Kept) (q : Rows) (a : Applied) (h : Graph) (image_h : image_of l ≡ h.image) (filed_h : rows_in q.filed ≡ h.filed) (more : KnowsMore t h.table)
    (added : AddsFound t h.table k r l q f a) where
  abbrev d : DTerm
  d = nameless_node f

  children-after : EachChild (IsFindable l) d.args
  children-after = EachChild-map (IsFindable k) (IsFindable l) (λ x v. (added.goes_on.finds x v).0) d.args children

  known-after : AllKnown h.table f.names
  known-after j z s = more _ (subst (λ (x : Table). AllKnown x f.names) (sym table) known j z s)

  looked-before : look_up g f ≡ look_up_node (state_in k r) d
  looked-before = looked_up-is k r good rests g image filed d children

  pub added-id : look_up h f ≡ Some a
  added-id = looked_up-is l q added.good added.rests h image_h filed_h d children-after ∙ added.found

  pub added-found : IsFound h a
  added-found = graph-found l q added.good added.rests h image_h filed_h f fits children-after known-after a added-id

  pub added-equal : IsEqualToNode h.image a f
  added-equal = graph-equal l q added.good added.rests h image_h filed_h f fits children-after known-after a added-id

  -- nothing was done where the node was looked up
  pub added-none : IsSome (look_up g f) → (l ≡ k) × (q ≡ r) × (h.table ≡ t)
  added-none s = added.kept (subst (λ (o : Option Applied). IsSome o) looked-before s)

  pub added-same : IsSome (look_up g f) → HasSameClasses g h
  added-same s =
      let same = added-none s in
      record {
        table = same.2 ∙ table;
        image = sym image_h ∙ (ap image_of same.0 ∙ image);
        filed = sym filed_h ∙ (ap (λ (x : Rows). rows_in x.filed) same.1 ∙ filed);
      }

  pub added-kept : (l ≡ k → h.part ≡ g.part) → IsSome (look_up g f) → IsOneGraph g h
  added-kept part s =
      let same = added-same s in
      record { table = same.table; image = same.image; filed = same.filed; part = part (added-none s).0 }

  pub added-made : MakesClassFor g h f a
  added-made none =
      let made : MakesFilledClass t h.table (nodes_of k) (nodes_of l) f a = added.made (sym looked-before ∙ none) in
      subst (λ (x : Table). MakesFilledClass x h.table g.image.canonical h.image.canonical f a) table
      (subst (λ (x : Image). MakesFilledClass t h.table x.canonical h.image.canonical f a) image
      (subst (λ (x : Image). MakesFilledClass t h.table (nodes_of k) x.canonical f a) image_h made))

  pub added-answers : KeepsLookUps g h
  added-answers = keeps-look_ups k r good rests g image filed l q added.good added.rests h image_h filed_h added.goes_on added.keeps

-- by canonical nodes
module _ (k : Kept) (r : Rows) (g : Graph) (image : image_of k ≡ g.image) (filed : rows_in r.filed ≡ g.filed) (t : Table) (table : t ≡ g.table) (f : Form)
    (l : Kept) (q : Rows) (a : Applied) (h : Graph) (image_h : image_of l ≡ h.image) (filed_h : rows_in q.filed ≡ h.filed) (added : AddsFilled t h.table k r l q f a)
    (part : l ≡ k → h.part ≡ g.part) where
  pub syn-valid : IsFullId h a
  syn-valid = record {
    full = subst (λ (x : Image). IsFull x.canonical a) image_h (answer_full (nodes_of l) added.filled a added.adds.found);
    known = answer_names (nodes_of l) added.filled a added.adds.found added.fits (λ s. IsTrue (is_known h.table s)) added.known;
  }

  abbrev AddsSynOf : Table → Image → Image → Type 0
  AddsSynOf x i j = AddsSyn (record g { table = x; image = i }) (record h { image = j }) f a

  pub syn-adds : AddsSyn g h f a
  syn-adds = subst (λ x. AddsSynOf x g.image h.image) table (subst (λ i. AddsSynOf t i h.image) image (subst (AddsSynOf t (image_of k)) image_h (record {
    node = nameless_node added.filled;
    fills = added.fills;
    same = λ full. ap nameless_node (added.same full);
    found = added.adds.found;
    term = answer_term (nodes_of l) added.filled a added.adds.found added.adds.good.stored.sane.sound.canonical;
    kept = λ s.
        let same = added.adds.kept s in (
          ap image_of same.0,
          sym filed_h ∙ (ap (λ (x : Rows). rows_in x.filed) same.1 ∙ filed),
          subst (MakesAtMost (children_lack (image_of k) f) t) (sym same.2) added.filling,
          part same.0,
        );
    made = λ none. let m : HasNewClass added.between h.table (nodes_of k) (nodes_of l) (nameless_node added.filled) = added.adds.made none in
        record { node = m.node; class = m.class; same_shape = m.same_shape; fresh = λ s c. fresh-later t added.between h.table s added.no_more (m.fresh s c) };
    filed = added.adds.filed;
  })))
