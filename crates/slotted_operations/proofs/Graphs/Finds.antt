-- Finds of a graph that has not failed can be followed, and full ids find; entries that assert nothing keep it good.
use Rattle.std.proofs.Common.{◌≢◌, ℕ, sym, refl, subst}
use Rattle.slotted_model.specs.Applied.{Applied}
use Rattle.slotted_model.specs.Classes.{IsFull}
use Rattle.slotted_model.specs.ProofList.{explicit}
use Rattle.slotted_model.proofs.Finds.NormalIds.{full-is_valid}
use Rattle.slotted_proofs.specs.Entries.{Proven}
use Rattle.slotted_proofs.specs.Proving.{IsProvable}
use Rattle.slotted_classes.specs.Finding.{HasFinds, IsFindable}
use Rattle.slotted_classes.specs.Kept.{Kept, nodes_of, entries_of, with_proofs, EntersIn}
use Rattle.slotted_classes.proofs.StoredFinds.{stored-finds}
use Rattle.slotted_rebuilding.proofs.EnteredProofs.{entering-proves}
use Rattle.slotted_operations.specs.Good.{Good}

pub good-finds : (k : Kept) → Good k → HasFinds k
good-finds k good = stored-finds k good.stored

pub full-findable : (k : Kept) → Good k → (a : Applied) → IsFull (nodes_of k) a → IsFindable k a
full-findable k good a full = full-is_valid (nodes_of k) (entries_of k) good.stored.sane.sound.linked a full

-- one more entry, which asserts nothing
pub entering-good : (k : Kept) → Good k → (x : Proven) → IsProvable (nodes_of k) k.proofs x → x.step ≢ explicit → (l : Kept) (p : ℕ) → EntersIn k l x p → Good l
entering-good k good x can silent l p e = subst Good (sym e.kept) (record {
  rows = good.rows;
  fits = good.fits;
  numbered = good.numbered;
  stored = (entering-proves k good.stored x can silent (with_proofs k e.proofs) p (record { proofs = e.proofs; enters = e.enters; kept = refl })).only.stored;
  settled = good.settled;
})
