-- A node of a row's shape that is looked up as what an id of the row's class finds is the row's node.
use Rattle.std.proofs.Common.{◌≡◌, ℕ, Some, sym, ◌∙◌, ap}
use Rattle.std.specs.Prelude.{Contains, option_map}
use Rattle.slotted_lists.proofs.Options.{Some-same}
use Rattle.slotted_theory.specs.Nameless.{DTerm, moved}
use Rattle.slotted_theory.specs.FiniteMaps.{filled}
use Rattle.slotted_theory.specs.Renaming.{IsInjective}
use Rattle.slotted_theory.specs.Shape.{shape, SameUpToNames}
use Rattle.slotted_theory.proofs.Bijections.{to-injective}
use Rattle.slotted_theory.proofs.Filled.{filled-injective}
use Rattle.slotted_theory.proofs.Shapes.{shape-moved, shape_iff}
use Rattle.slotted_model.specs.Applied.{Applied, renamed_id}
use Rattle.slotted_model.specs.Classes.{IsFull}
use Rattle.slotted_model.specs.Extraction.{row_class}
use Rattle.slotted_model.specs.Find.{find_class, find}
use Rattle.slotted_model.specs.Rest.{IsValidIn, IsRow, AtRest}
use Rattle.slotted_model.specs.State.{Row, State, filed_node, look_up_node}
use Rattle.slotted_model.proofs.Represented.Full.{full-renamed}
use Rattle.slotted_model.proofs.Finds.NormalIds.{found-renamed}
use Rattle.slotted_model.proofs.Represented.RenamedIds.{normal-renamed}
use Rattle.slotted_model.proofs.Rebuilding.RowNodes.{row_node, row-normal, row-looked_up, row-id}
use Rattle.slotted_model.proofs.Rebuilding.Rows.{look_up_node-moved}

-- d is the node of the row r with the names of a full id of its source that finds what a finds
abbrev pub IsNodeOfRow : State → Row → Applied → DTerm → Type 0
IsNodeOfRow g r a d = (b : Applied) × IsFull g.nodes b × (b.0 ≡ r.source) × (find g.found b ≡ find g.found a) × (row_node r b ≡ d)

module _ (g : State) (rest : AtRest g) (r : Row) (filed : Contains g.rows r) where
  abbrev row : IsRow g r
  row = rest.sane.filed.each r filed

  -- the node of a row has the row's shape
  row_node-shape : (b : Applied) → IsFull g.nodes b → shape (row_node r b) ≡ r.shape
  row_node-shape b full =
      shape-moved (filled b.1) (filled-injective b.1 full.injective) (filed_node r)
      ∙ (shape-moved (filled r.slots) (filled-injective r.slots row.injective) r.shape ∙ row.is_shape)

  pub node-of_row : (a : Applied) → IsValidIn g a → find_class g.found a.0 ≡ row_class g r → (d : DTerm) → shape d ≡ r.shape →
      look_up_node g d ≡ Some (find g.found a) → IsNodeOfRow g r a d
  node-of_row a valid class d shaped looked_up =
      let i : (b : Applied) × IsFull g.nodes b × (b.0 ≡ r.source) × (find g.found b ≡ find g.found a) =
      row-id g rest r filed a valid class in
      let n : DTerm = row_node r i.0 in
      let p : SameUpToNames n d = (shape_iff n d).0 (row_node-shape i.0 i.1 ∙ sym shaped) in
      let f : ℕ → ℕ = p.0.to in
      let inj : IsInjective f = to-injective p.0 in
      let node : row_node r (renamed_id f i.0) ≡ d =
      row-normal g rest r filed (renamed_id f i.0) i.2
      ∙ (normal-renamed g.nodes g.found i.0 i.1 f ∙ (ap (moved f) (sym (row-normal g rest r filed i.0 i.2)) ∙ p.1)) in
      let answer : Some (renamed_id f (find g.found i.0)) ≡ Some (find g.found a) =
      sym (ap (option_map (renamed_id f)) (row-looked_up g rest r filed i.0 i.1 i.2))
      ∙ (sym (look_up_node-moved g rest.sane.sound.linked rest.sane.filed f inj n) ∙ (ap (look_up_node g) p.1 ∙ looked_up)) in (
        renamed_id f i.0,
        full-renamed g.nodes i.0 i.1 f (λ x y h k. inj x y),
        i.2,
        found-renamed g.found f i.0 ∙ Some-same (renamed_id f (find g.found i.0)) (find g.found a) answer,
        node,
      )
