-- The two sides of a proved equation are valid ids.
use Rattle.std.proofs.Common.{◌≡◌, ◌<◌, ℕ, length, sym, ap, subst, arith, ◌∙◌}
use Rattle.slotted_slots.specs.Table.{AllKnown}
use Rattle.slotted_model.specs.Applied.{Applied, values}
use Rattle.slotted_model.specs.Classes.{canonical_slots, IsFull}
use Rattle.slotted_proofs.specs.Equations.{Statement, AreSides}
use Rattle.slotted_model.specs.Correspondence.{numbered}
use Rattle.slotted_proofs.specs.Entries.{entry_of, entries_of, statement_at}
use Rattle.slotted_model.specs.ProofList.{Equation}
use Rattle.slotted_proofs.specs.Proving.{IsProved}
use Rattle.slotted_graph.specs.Image.{Image}
use Rattle.slotted_graph.specs.Graph.{Graph, IsFullId}
use Rattle.slotted_classes.proofs.KeptLists.{equation_at-of, length-mapped}
use Rattle.slotted_classes.proofs.NameMaps.{numeric-known}

pub left_valid : (g : Graph) (p : ℕ) (a b : Applied) → IsProved g.image.canonical g.image.stored → p < length g.image.stored → AreSides (statement_at g.image.stored p) a b → IsFullId g a
left_valid g p a b proved lt sides =
    let s : Statement = statement_at g.image.stored p in
    let n : p < length (entries_of g.image.stored) = omega (arith, lt, length-mapped entry_of g.image.stored) in
    let over = proved.proved.over p n in
    let class : a.0 ≡ s.equation.left = ap (λ (x : Applied). x.0) sides.left in
    record {
      full = record {
        in_range = subst (λ i. i < length g.image.canonical) (ap (λ (e : Equation). e.left) (equation_at-of g.image.stored p) ∙ sym class) over.left;
        slots = sides.left_full.slots ∙ ((proved.canonical p lt).left ∙ ap (canonical_slots g.image.canonical) (sym class));
        injective = sides.left_full.injective;
      };
      known = subst (λ (x : Applied). AllKnown g.table (values x.1)) (sym sides.left) (numeric-known g.table (numbered s.left_slots s.right_slots s.equation.pairs).0);
    }

-- also where the graph made slots since
pub right_valid : (g h : Graph) → h.image ≡ g.image → (p : ℕ) (a b : Applied) → IsProved g.image.canonical g.image.stored → p < length g.image.stored → AreSides (statement_at g.image.stored p) a b → IsFullId h b
right_valid g h image p a b proved lt sides =
    let s : Statement = statement_at g.image.stored p in
    let n : p < length (entries_of g.image.stored) = omega (arith, lt, length-mapped entry_of g.image.stored) in
    let over = proved.proved.over p n in
    let class : b.0 ≡ s.equation.right = ap (λ (x : Applied). x.0) sides.right in
    record {
      full = subst (λ (x : Image). IsFull x.canonical b) (sym image) (record {
        in_range = subst (λ i. i < length g.image.canonical) (ap (λ (e : Equation). e.right) (equation_at-of g.image.stored p) ∙ sym class) over.right;
        slots = sides.right_full.slots ∙ ((proved.canonical p lt).right ∙ ap (canonical_slots g.image.canonical) (sym class));
        injective = sides.right_full.injective;
      });
      known = subst (λ (x : Applied). AllKnown h.table (values x.1)) (sym sides.right) (numeric-known h.table (numbered s.left_slots s.right_slots s.equation.pairs).1);
    }
