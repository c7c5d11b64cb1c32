use Rattle.std.proofs.Common.{◌∙◌, sym}
use Rattle.slotted_graph.proofs.Insides.{given}
use Rattle.slotted_graph.proofs.Writing.{never-modified, ok-modified}
use Rattle.slotted_graph.proofs.egraph.EGraph.modify.Goals as goal

pub returns-then-not-modifies-clause-modified : goal.returns-then-not-modifies-clause-modified
returns-then-not-modifies-clause-modified g c =
    never-modified g.N.Analysis.codes g.N.Analysis.meaning g.met.N.Analysis.is_merge g.N.Analysis.may_ask g.N.Analysis.modifies (sym c.modifies.ensures ∙ c.if-not-modifies.true) c.args.self.now (given (sym c.is_failed.ensures.failed ∙ c.if-is_failed.false) c.is_failed.ensures.rests)

pub returns-clause-modified : goal.returns-clause-modified
returns-clause-modified g c =
    ok-modified g.N.Analysis.codes g.N.Analysis.meaning g.met.N.Analysis.is_merge g.N.Analysis.may_ask g.N.Analysis.modifies (sym c.modifies.ensures ∙ c.if-not-modifies.false) c.args.self.now c.modify_in_rounds.new.graph c.modify_in_rounds.result c.modify_rounds-limit.result c.modify_rounds-limit.ensures
    c.modify_in_rounds.ensures.rounds c.modify_in_rounds.ensures.leaves
