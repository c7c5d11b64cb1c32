use Rattle.std.proofs.Common.{subst, sym}
use Rattle.slotted_deciding.specs.Steps.{LeadsTo}
use Rattle.slotted_deciding.proofs.Growing.{leads-itself, leads-takes, leads-then}
use Rattle.slotted_deciding.proofs.stepping.add_fresh.Goals.{then-not-contains_key+in_ok-fresh+in_ok-insert, else-not-contains_key}
use Rattle.slotted_deciding.proofs.stepping.add_fresh.Goals as goal

pub loop-i-preserved : goal.loop-i-preserved
loop-i-preserved g c = elim c.if-not-contains_key.branch [
  | then-not-contains_key+in_ok-fresh+in_ok-insert w ↦
      subst (LeadsTo g.N.Analysis.codes g.N.Analysis.meaning c.args.graph.now) (sym w.graph-is)
      (leads-then g.N.Analysis.codes g.N.Analysis.meaning g.met.N.Analysis.is_merge c.args.graph.now c.loop-i.graph w.fresh_slot.new.self c.loop-i.invariant (leads-takes g.N.Analysis.codes g.N.Analysis.meaning g.met.N.Analysis.is_merge c.loop-i.graph w.fresh_slot.new.self c.loop-i.invariant.graph w.fresh_slot.ensures.takes))
  | else-not-contains_key w ↦ subst (LeadsTo g.N.Analysis.codes g.N.Analysis.meaning c.args.graph.now) (sym w.graph-is) c.loop-i.invariant
]

pub loop-i-init : goal.loop-i-init
loop-i-init g c = leads-itself g.N.Analysis.codes g.N.Analysis.meaning g.met.N.Analysis.is_merge c.args.graph.now c.requires.graph
