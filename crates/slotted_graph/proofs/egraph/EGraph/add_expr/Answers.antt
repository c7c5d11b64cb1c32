use Rattle.std.proofs.Common.{◌∙◌, sym}
use Rattle.std.specs.Prelude.{IsSome}
use Rattle.slotted_operations.specs.LookUp.{IsOneGraph, look_up_term}
use Rattle.slotted_operations.specs.AddingTerms.{FilesOnlyLookedUp}
use Rattle.slotted_graph.specs.Writing.{MakesForTerm}
use Rattle.slotted_graph.proofs.Writing.{is-modified, ok-adds, ok-alone, ok-asked, ok-both, ok-extends, unmodified}
use Rattle.slotted_graph.proofs.egraph.EGraph.add_expr.Goals as goal

pub returns-then-modifies-clause-kept : goal.returns-then-modifies-clause-kept
returns-then-modifies-clause-kept g c = is-modified g.N.Analysis.modifies (sym c.modifies.ensures ∙ c.if-modifies.true) _

pub returns-clause-kept : goal.returns-clause-kept
returns-clause-kept g c = unmodified g.N.Analysis.modifies (sym c.modifies.ensures ∙ c.if-modifies.false) _ c.add_expr_quietly.ensures.kept

pub returns-then-modifies-clause-nodes : goal.returns-then-modifies-clause-nodes
returns-then-modifies-clause-nodes g c = is-modified g.N.Analysis.modifies (sym c.modifies.ensures ∙ c.if-modifies.true) _

pub returns-clause-nodes : goal.returns-clause-nodes
returns-clause-nodes g c = unmodified g.N.Analysis.modifies (sym c.modifies.ensures ∙ c.if-modifies.false) _ c.add_expr_quietly.ensures.nodes

pub returns-then-modifies-clause-filed : goal.returns-then-modifies-clause-filed
returns-then-modifies-clause-filed g c = is-modified g.N.Analysis.modifies (sym c.modifies.ensures ∙ c.if-modifies.true) _

pub returns-clause-filed : goal.returns-clause-filed
returns-clause-filed g c = unmodified g.N.Analysis.modifies (sym c.modifies.ensures ∙ c.if-modifies.false) _ c.add_expr_quietly.ensures.filed

pub returns-then-modifies-clause-answers : goal.returns-then-modifies-clause-answers
returns-then-modifies-clause-answers g c = is-modified g.N.Analysis.modifies (sym c.modifies.ensures ∙ c.if-modifies.true) _

pub returns-clause-answers : goal.returns-clause-answers
returns-clause-answers g c = unmodified g.N.Analysis.modifies (sym c.modifies.ensures ∙ c.if-modifies.false) _ c.add_expr_quietly.ensures.answers

pub returns-then-modifies-clause-adds : goal.returns-then-modifies-clause-adds
returns-then-modifies-clause-adds g c = is-modified g.N.Analysis.modifies (sym c.modifies.ensures ∙ c.if-modifies.true) _

pub returns-clause-adds : goal.returns-clause-adds
returns-clause-adds g c = unmodified g.N.Analysis.modifies (sym c.modifies.ensures ∙ c.if-modifies.false) _ c.add_expr_quietly.ensures.adds

pub returns-then-modifies-clause-takes : goal.returns-then-modifies-clause-takes
returns-then-modifies-clause-takes g c = is-modified g.N.Analysis.modifies (sym c.modifies.ensures ∙ c.if-modifies.true) _

pub returns-clause-takes : goal.returns-clause-takes
returns-clause-takes g c = unmodified g.N.Analysis.modifies (sym c.modifies.ensures ∙ c.if-modifies.false) _ c.add_expr_quietly.ensures.takes

pub returns-then-modifies-clause-full : goal.returns-then-modifies-clause-full
returns-then-modifies-clause-full g c = is-modified g.N.Analysis.modifies (sym c.modifies.ensures ∙ c.if-modifies.true) _

pub returns-clause-full : goal.returns-clause-full
returns-clause-full g c = unmodified g.N.Analysis.modifies (sym c.modifies.ensures ∙ c.if-modifies.false) _ c.add_expr_quietly.ensures.full

pub returns-then-modifies-clause-carries : goal.returns-then-modifies-clause-carries
returns-then-modifies-clause-carries g c = is-modified g.N.Analysis.modifies (sym c.modifies.ensures ∙ c.if-modifies.true) _

pub returns-clause-carries : goal.returns-clause-carries
returns-clause-carries g c = unmodified g.N.Analysis.modifies (sym c.modifies.ensures ∙ c.if-modifies.false) _ c.add_expr_quietly.ensures.carries

pub returns-then-modifies-clause-leaves : goal.returns-then-modifies-clause-leaves
returns-then-modifies-clause-leaves g c = ok-asked g.N.Analysis.codes g.N.Analysis.meaning g.met.N.Analysis.is_merge g.N.Analysis.may_ask c.add_expr_and_modify.result g.N.Analysis.modifies (MakesForTerm c.args.term.now) c.args.self.now c.add_expr_and_modify.new.self c.add_expr_and_modify.ensures.adds

pub returns-then-modifies-clause-extends : goal.returns-then-modifies-clause-extends
returns-then-modifies-clause-extends g c = ok-extends g.N.Analysis.codes g.N.Analysis.meaning g.met.N.Analysis.is_merge g.N.Analysis.may_ask c.add_expr_and_modify.result g.N.Analysis.modifies (MakesForTerm c.args.term.now) c.args.self.now c.add_expr_and_modify.new.self c.add_expr_and_modify.ensures.adds

pub returns-clause-modified : goal.returns-clause-modified
returns-clause-modified g c =
    let e = c.add_expr_quietly.ensures in
    ok-alone g.N.Analysis.codes g.N.Analysis.meaning g.met.N.Analysis.is_merge g.N.Analysis.may_ask c.add_expr_quietly.result g.N.Analysis.modifies (sym c.modifies.ensures ∙ c.if-modifies.false) (MakesForTerm c.args.term.now) c.args.self.now c.add_expr_quietly.new.self
    (ok-adds g.N.Analysis.codes g.N.Analysis.meaning g.met.N.Analysis.is_merge g.N.Analysis.may_ask c.add_expr_quietly.result (MakesForTerm c.args.term.now) c.args.self.now c.add_expr_quietly.new.self e.rests e.fails.0 e.extends e.adds e.more e.carries (ok-both c.add_expr_quietly.result (IsSome (look_up_term c.args.self.now c.args.term.now) → IsOneGraph c.args.self.now c.add_expr_quietly.new.self) (FilesOnlyLookedUp c.args.self.now c.add_expr_quietly.new.self c.args.term.now) e.kept e.filed))

pub returns-clause-leaves : goal.returns-clause-leaves
returns-clause-leaves g c =
    let e = c.add_expr_quietly.ensures in
    ok-asked g.N.Analysis.codes g.N.Analysis.meaning g.met.N.Analysis.is_merge g.N.Analysis.may_ask c.add_expr_quietly.result g.N.Analysis.modifies (MakesForTerm c.args.term.now) c.args.self.now c.add_expr_quietly.new.self
    (ok-alone g.N.Analysis.codes g.N.Analysis.meaning g.met.N.Analysis.is_merge g.N.Analysis.may_ask c.add_expr_quietly.result g.N.Analysis.modifies (sym c.modifies.ensures ∙ c.if-modifies.false) (MakesForTerm c.args.term.now) c.args.self.now c.add_expr_quietly.new.self
    (ok-adds g.N.Analysis.codes g.N.Analysis.meaning g.met.N.Analysis.is_merge g.N.Analysis.may_ask c.add_expr_quietly.result (MakesForTerm c.args.term.now) c.args.self.now c.add_expr_quietly.new.self e.rests e.fails.0 e.extends e.adds e.more e.carries (ok-both c.add_expr_quietly.result (IsSome (look_up_term c.args.self.now c.args.term.now) → IsOneGraph c.args.self.now c.add_expr_quietly.new.self) (FilesOnlyLookedUp c.args.self.now c.add_expr_quietly.new.self c.args.term.now) e.kept e.filed)))
