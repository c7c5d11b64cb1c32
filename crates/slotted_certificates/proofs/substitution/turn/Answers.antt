use Rattle.slotted_certificates.proofs.Turnings.{turned-other, turned-part}
use Rattle.slotted_check.proofs.WalkSteps.{ok-map, some-map}
use Rattle.slotted_certificates.proofs.substitution.turn.Goals as goal

pub returns-else-not-branch : goal.returns-else-not-branch
returns-else-not-branch c = record {
  turns = turned-part c.args.part.now c.args.value.now c.args.row.now c.in-Term.behind.now c.args.out.now.items c.push_shifted.new.out.items c.args.depth
      c.in-Term.ensures (c.in_ok-push_shifted-in-Term.ensures c.if-not-branch.false);
}

pub returns-in-Other : goal.returns-in-Other
returns-in-Other c = record {
  turns = ok-map c.keep.result (λ o h. some-map o (λ s k. turned-other c.args.part.now c.args.value.now c.args.row.now s.1.now c.args.out.now.items _ c.args.depth s.0 c.in-Other.ensures k) h) c.keep.ensures;
}
