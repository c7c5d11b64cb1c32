use Rattle.std.proofs.Common.{◌∙◌, refl, inl}
use Rattle.slotted_graph.specs.Writing.{MakesForSynTerm}
use Rattle.slotted_proofs.specs.Equations.{to_applied}
use Rattle.slotted_theory.specs.Nameless.{nameless}
use Rattle.slotted_graph.proofs.Extending.{full-extends}
use Rattle.slotted_graph.proofs.Saying.{graph-kept}
use Rattle.slotted_graph.proofs.Writing.{adds-more}
use Rattle.slotted_graph.proofs.egraph.EGraph.add_syn_expr_and_modify.Goals as goal

pub returns-clause-valid : goal.returns-clause-valid
returns-clause-valid g c = full-extends c.add_syn_expr_quietly.new.self c.modify.new.self (to_applied c.in_ok-id.id) c.in_ok-modify.ensures.modified.leaves.extends c.in_ok-id.ensures.valid

pub returns-clause-adds : goal.returns-clause-adds
returns-clause-adds g c = record {
  added = c.add_syn_expr_quietly.new.self;
  adds = adds-more g.N.Analysis.codes g.N.Analysis.meaning g.met.N.Analysis.is_merge g.N.Analysis.may_ask (MakesForSynTerm c.args.term.now) c.args.self.now c.add_syn_expr_quietly.new.self (graph-kept c.add_syn_expr_quietly.new.self c.add_syn_expr_quietly.ensures.rests c.in_ok-id.ensures.fails.0) c.in_ok-id.ensures.extends c.in_ok-id.ensures.adds c.add_syn_expr_quietly.ensures.more c.in_ok-id.ensures.carries (c.in_ok-id.ensures.kept, c.in_ok-id.ensures.filed);
  modified = c.modify.new.self;
  asked = c.in_ok-modify.field-0;
  rounds = c.in_ok-modify.ensures.modified;
  again = inl refl;
}

pub returns-clause-term : goal.returns-clause-term
returns-clause-term g c =
    c.in_ok-modify.ensures.modified.leaves.extends.canonical.terms (to_applied c.in_ok-id.id) c.in_ok-id.ensures.valid.full ∙ c.in_ok-id.ensures.term

pub returns-clause-found : goal.returns-clause-found
returns-clause-found g c =
    c.in_ok-modify.ensures.modified.leaves.extends.canonical.ids (nameless c.args.term.now) (to_applied c.in_ok-id.id) c.in_ok-id.ensures.found
