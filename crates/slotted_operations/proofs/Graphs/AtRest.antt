-- What is kept with its filed nodes at rest: what the model says of it, and what keeps it so.
use Rattle.std.proofs.Common.{◌≢◌, ℕ, sym, subst}
use Rattle.slotted_model.specs.Rest.{AtRest, Represents}
use Rattle.slotted_model.specs.ProofList.{explicit}
use Rattle.slotted_model.proofs.Rebuilding.Quiet.{proofs-quiet}
use Rattle.slotted_proofs.specs.Entries.{Proven}
use Rattle.slotted_proofs.specs.Proving.{IsProvable}
use Rattle.slotted_classes.specs.Kept.{Kept, nodes_of, proofs_of, size_of, EntersIn}
use Rattle.slotted_hashcons.specs.FiledRows.{Rows, rows_in}
use Rattle.slotted_rebuilding.specs.Proving.{OnlyProves}
use Rattle.slotted_rebuilding.proofs.EnteredProofs.{only-state, entering-proves}
use Rattle.slotted_rebuilding.specs.Counted.{CountsFit}
use Rattle.slotted_hashcons.specs.WellFiled.{state_in}
use Rattle.slotted_rebuilding.proofs.CongruenceEntries.{proved-well}
use Rattle.slotted_operations.specs.Good.{Good, RestsWith}

pub at-rest : (k : Kept) (r : Rows) → Good k → RestsWith k r → AtRest (state_in k r)
at-rest k r good rests = record {
  sane = rests.filed.sane;
  represents = rests.represents;
  nothing_waits = rests.quiet;
  aligned = good.stored.settled good.settled;
}

-- entries that assert nothing
pub proved-rests : (k l : Kept) (r : Rows) → Good k → RestsWith k r → OnlyProves k l → RestsWith l r
proved-rests k l r good rests only = record {
  filed = proved-well k l r only rests.filed;
  represents = subst Represents (sym (only-state k l only (rows_in r.filed) r.waiting)) (proofs-quiet (state_in k r) (at-rest k r good rests) (proofs_of l) only.asserts_nothing).rest.represents;
  quiet = rests.quiet;
  noted = subst (λ (z : Kept). CountsFit z.counts (size_of z)) (sym only.kept) rests.noted;
}

-- one of them
pub entered-rests : (k : Kept) (r : Rows) → Good k → RestsWith k r → (x : Proven) → IsProvable (nodes_of k) k.proofs x → x.step ≢ explicit → (l : Kept) (p : ℕ) → EntersIn k l x p → RestsWith l r
entered-rests k r good rests x can silent l p e = proved-rests k l r good rests (entering-proves k good.stored x can silent l p e).only
