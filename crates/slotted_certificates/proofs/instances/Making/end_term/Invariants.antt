use Rattle.std.proofs.Common.{◌≡◌, length}
use Rattle.std.specs.Prelude.{map}
use Rattle.slotted_certificates.specs.Frames.{EndsScopes, frames, scopes_of}
use Rattle.slotted_certificates.specs.Grammar.{binds_in}
use Rattle.slotted_certificates.specs.Meaning.{IsValueIn}
use Rattle.slotted_certificates.proofs.instances.Making.end_term.Given as goal

abbrev pub invariant-loop-self : goal.invariant-loop-self
invariant-loop-self l = record {
  binders : l.self.binders.now ≡ l.fn.self.binders.now;
  values : l.self.values.now ≡ l.fn.self.values.now;
  in_step : l.self.scopes ≡ scopes_of (frames l.self.frames.items);
  ended : EndsScopes (binds_in l.fn.self.binders.now) (IsValueIn (map (λ r. r.items) l.fn.self.values.now)) l.fn.self.row.items l.self.row.items l.fn.self.frames.items l.self.frames.items;
}

abbrev pub decreases-loop-self : goal.decreases-loop-self
decreases-loop-self l = length l.self.frames.items
