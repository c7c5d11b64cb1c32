use Rattle.std.proofs.Common.{◌≡◌, ◌++◌, [], ◌∷◌, List, length}
use Rattle.std.specs.Prelude.{map}
use Rattle.slotted_check.specs.declared.pieces.Piece.{Piece}
use Rattle.slotted_certificates.specs.declared.frames.Frame.TheVariants.{Root}
use Rattle.slotted_certificates.specs.Frames.{Before, frames, scopes_of}
use Rattle.slotted_certificates.specs.Grammar.{binds_in}
use Rattle.slotted_certificates.specs.Meaning.{IsValueIn}
use Rattle.slotted_certificates.proofs.instances.instance.Given as goal

abbrev pub invariant-loop-rest : goal.invariant-loop-rest
invariant-loop-rest l = record {
  binders : l.making.binders.now ≡ l.fn.binders;
  values : l.making.values.now ≡ l.fn.values;
  in_step : l.making.scopes ≡ scopes_of (frames l.making.frames.items);
  goes : (ps : List Piece) → Before (binds_in l.fn.binders) (IsValueIn (map (λ r. r.items) l.fn.values)) (frames l.making.frames.items) l.rest ps
      → Before (binds_in l.fn.binders) (IsValueIn (map (λ r. r.items) l.fn.values)) (Root ∷ []) l.fn.tokens (l.making.row.items ++ ps);
}

abbrev pub decreases-loop-rest : goal.decreases-loop-rest
decreases-loop-rest l = length l.rest
