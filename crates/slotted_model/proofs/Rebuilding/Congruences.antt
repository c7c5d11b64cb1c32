-- Congruences between classes whose nodes have normal forms of one shape: rows show them, and their proofs can be entered.
use Rattle.std.proofs.Common.{◌≡◌, ℕ, ◌<◌, ◌++◌, length, sym, ◌∙◌, ap, refl}
use Rattle.std.specs.Prelude.{Contains}
use Rattle.slotted_theory.specs.Nameless.{DTerm, moved}
use Rattle.slotted_theory.specs.FiniteMaps.{filled}
use Rattle.slotted_theory.specs.Shape.{free_names, number_in, shape}
use Rattle.slotted_theory.proofs.Filled.{filled-injective}
use Rattle.slotted_theory.proofs.Shapes.{shape-moved}
use Rattle.slotted_model.specs.Applied.{Applied}
use Rattle.slotted_model.specs.Classes.{canonical_node, IsFull}
use Rattle.slotted_model.specs.Explained.{Explained}
use Rattle.slotted_model.specs.Growth.{identity_id}
use Rattle.slotted_model.specs.Normal.{normal, HasNormalTwin}
use Rattle.slotted_model.specs.ProofList.{equation_of}
use Rattle.slotted_model.specs.State.{Row, State, filed_node, normal_node}
use Rattle.slotted_model.specs.Rest.{IsRow, Sane}
use Rattle.slotted_model.specs.Rebuild.{CongruenceEntered}
use Rattle.slotted_model.proofs.Finds.Congruence.{same_normal-congruent}
use Rattle.slotted_model.proofs.Finds.Explaining.{by_finds-explained}
use Rattle.slotted_model.proofs.Represented.RenamedIds.{normal-moves}
use Rattle.slotted_model.proofs.Rebuilding.Refiling.{canonical-valid, normal-again}
use Rattle.slotted_model.proofs.Finds.Twins.{shape-twin}
use Rattle.slotted_model.proofs.Rebuilding.UpTo.{identity-full}

module _ (g : State) (sane : Sane g) (i : ℕ) (h : i < length g.nodes) where
  -- a row of the shape of a normal form files a normal form, whether it waits or not
  pub row-normal : (r : Row) → Contains g.rows r → r.shape ≡ shape (normal_node g i) → filed_node r ≡ normal_node g r.source
  row-normal r c e =
      let N : DTerm = normal_node g i in
      let n : ℕ → ℕ = number_in (free_names N.args) in
      let f : ℕ → ℕ = filled r.slots in
      let again : normal g.found N ≡ N = normal-again g sane.sound.linked (canonical_node g.nodes i) (canonical-valid g sane i h) in
      let stays : normal g.found (moved f (moved n N)) ≡ moved f (moved n N) = normal-moves g.found f (moved n N) ∙ ap (moved f) (normal-moves g.found n N ∙ ap (moved n) again) in
      ap (moved f) e ∙ (sym stays ∙ (ap (λ t. normal g.found (moved f t)) (sym e) ∙ (sane.filed.each r c).normal_form))

  -- so its source has a normal form of this shape
  pub row-shape : (r : Row) → Contains g.rows r → r.shape ≡ shape (normal_node g i) → shape (normal_node g i) ≡ shape (normal_node g r.source)
  row-shape r c e =
      let row : IsRow g r = sane.filed.each r c in
      sym e ∙ (sym (shape-moved (filled r.slots) (filled-injective r.slots row.injective) r.shape ∙ row.is_shape) ∙ ap shape (row-normal r c e))

  -- the congruence of two classes whose normal forms have one shape can be entered
  pub congruence-entered : (j : ℕ) → j < length g.nodes → shape (normal_node g i) ≡ shape (normal_node g j) → CongruenceEntered g i j
  congruence-entered j k e =
      let a : Applied = identity_id g.nodes i in
      let fa : IsFull g.nodes a = identity-full g.nodes i h in
      let t : (b : Applied) × (b.0 ≡ j) × HasNormalTwin g.nodes g.found a b = shape-twin g.nodes sane.sound.canonical g.found a fa j k e in
      let x : Explained g.nodes g.proofs (equation_of a t.0) =
      by_finds-explained g.nodes g.found g.proofs sane.sound.linked sane.sound.proved sane.sound.exact (equation_of a t.0)
      (same_normal-congruent g.nodes sane.sound.canonical g.found a t.0 fa t.2.full t.2.same) in
      record {
        proofs = g.proofs ++ x.more;
        grow = record { more = x.more; is = refl; proved = x.proved; asserts_nothing = x.asserts_nothing };
        number = x.number;
        congruence = record { left = a; right = t.0; left_class = refl; right_class = t.1; left_full = fa; twins = t.2; stands = (x.in_range, x.equation) };
      }
