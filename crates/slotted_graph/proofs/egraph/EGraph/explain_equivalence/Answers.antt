use Rattle.std.proofs.Common.{◌∙◌, sym}
use Rattle.std.proofs.lemmas.Bool.{false≢true}
use Rattle.slotted_graph.proofs.Writing.{explained-asked, is-modified, unmodified}
use Rattle.slotted_graph.proofs.egraph.EGraph.explain_equivalence.Goals as goal

pub returns-then-modifies-clause-adds : goal.returns-then-modifies-clause-adds
returns-then-modifies-clause-adds g c = is-modified g.N.Analysis.modifies (sym c.modifies.ensures ∙ c.if-modifies.true) _

pub returns-clause-adds : goal.returns-clause-adds
returns-clause-adds g c = unmodified g.N.Analysis.modifies (sym c.modifies.ensures ∙ c.if-modifies.false) _ c.explain_quietly.ensures.adds

pub returns-then-modifies-clause-filed : goal.returns-then-modifies-clause-filed
returns-then-modifies-clause-filed g c = is-modified g.N.Analysis.modifies (sym c.modifies.ensures ∙ c.if-modifies.true) _

pub returns-clause-filed : goal.returns-clause-filed
returns-clause-filed g c = unmodified g.N.Analysis.modifies (sym c.modifies.ensures ∙ c.if-modifies.false) _ c.explain_quietly.ensures.filed

pub returns-then-modifies-clause-kept : goal.returns-then-modifies-clause-kept
returns-then-modifies-clause-kept g c = is-modified g.N.Analysis.modifies (sym c.modifies.ensures ∙ c.if-modifies.true) _

pub returns-clause-kept : goal.returns-clause-kept
returns-clause-kept g c = unmodified g.N.Analysis.modifies (sym c.modifies.ensures ∙ c.if-modifies.false) _ c.explain_quietly.ensures.kept

pub returns-then-modifies-clause-takes : goal.returns-then-modifies-clause-takes
returns-then-modifies-clause-takes g c = is-modified g.N.Analysis.modifies (sym c.modifies.ensures ∙ c.if-modifies.true) _

pub returns-clause-takes : goal.returns-clause-takes
returns-clause-takes g c = unmodified g.N.Analysis.modifies (sym c.modifies.ensures ∙ c.if-modifies.false) _ c.explain_quietly.ensures.takes

pub returns-then-modifies-clause-full : goal.returns-then-modifies-clause-full
returns-then-modifies-clause-full g c = is-modified g.N.Analysis.modifies (sym c.modifies.ensures ∙ c.if-modifies.true) _

pub returns-clause-full : goal.returns-clause-full
returns-clause-full g c = unmodified g.N.Analysis.modifies (sym c.modifies.ensures ∙ c.if-modifies.false) _ c.explain_quietly.ensures.full

pub returns-then-modifies-clause-carries : goal.returns-then-modifies-clause-carries
returns-then-modifies-clause-carries g c = is-modified g.N.Analysis.modifies (sym c.modifies.ensures ∙ c.if-modifies.true) _

pub returns-clause-carries : goal.returns-clause-carries
returns-clause-carries g c = unmodified g.N.Analysis.modifies (sym c.modifies.ensures ∙ c.if-modifies.false) _ c.explain_quietly.ensures.carries

pub returns-clause-leaves : goal.returns-clause-leaves
returns-clause-leaves g c =
    let e = c.explain_quietly.ensures in
    explained-asked g.N.Analysis.codes g.N.Analysis.meaning g.met.N.Analysis.is_merge g.N.Analysis.may_ask c.args.self.now c.explain_quietly.new.self e.adds e.more e.carries

pub returns-then-modifies-clause-modified : goal.returns-then-modifies-clause-modified
returns-then-modifies-clause-modified g c modified = c.explain_after_edits.ensures.modified

pub returns-clause-modified : goal.returns-clause-modified
returns-clause-modified g c modified = absurd (false≢true (sym (sym c.modifies.ensures ∙ c.if-modifies.false) ∙ modified))
