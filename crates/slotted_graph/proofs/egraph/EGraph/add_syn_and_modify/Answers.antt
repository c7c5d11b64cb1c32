use Rattle.std.proofs.Common.{refl, inl}
use Rattle.slotted_graph.specs.Writing.{MakesForSynNode}
use Rattle.slotted_proofs.specs.Equations.{to_applied}
use Rattle.slotted_graph.proofs.Extending.{full-extends}
use Rattle.slotted_graph.proofs.Saying.{graph-kept}
use Rattle.slotted_graph.proofs.Writing.{adds-more}
use Rattle.slotted_graph.proofs.egraph.EGraph.add_syn_and_modify.Goals as goal

pub returns-clause-valid : goal.returns-clause-valid
returns-clause-valid g c = full-extends c.add_syn_quietly.new.self c.modify.new.self (to_applied c.in_ok-id.id) c.in_ok-modify.ensures.modified.leaves.extends c.in_ok-id.ensures.valid

pub returns-clause-adds : goal.returns-clause-adds
returns-clause-adds g c = record {
  added = c.add_syn_quietly.new.self;
  adds = adds-more g.N.Analysis.codes g.N.Analysis.meaning g.met.N.Analysis.is_merge g.N.Analysis.may_ask (MakesForSynNode (g.L.LanguageChildren.form c.args.node.now)) c.args.self.now c.add_syn_quietly.new.self (graph-kept c.add_syn_quietly.new.self c.add_syn_quietly.ensures.rests c.in_ok-id.ensures.fails.0) c.in_ok-id.ensures.extends c.in_ok-id.ensures.adds c.add_syn_quietly.ensures.more c.in_ok-id.ensures.carries (to_applied c.in_ok-id.id, c.in_ok-id.ensures.syn);
  modified = c.modify.new.self;
  asked = c.in_ok-modify.field-0;
  rounds = c.in_ok-modify.ensures.modified;
  again = inl refl;
}

pub returns-clause-stands : goal.returns-clause-stands
returns-clause-stands g c = record { added = c.add_syn_quietly.new.self; syn = c.in_ok-id.ensures.syn; extends = c.in_ok-modify.ensures.modified.leaves.extends }
