use Rattle.std.proofs.Common.{◌∙◌, sym}
use Rattle.slotted_classes.specs.Kept.{text_bytes}
use Rattle.slotted_graph.proofs.Writing.{is-modified, ok-answer, ok-united, ok-unites, unmodified}
use Rattle.slotted_graph.proofs.egraph.EGraph.union_justified.Goals as goal

pub returns-then-modifies-clause-union : goal.returns-then-modifies-clause-union
returns-then-modifies-clause-union g c = is-modified g.N.Analysis.modifies (sym c.modifies.ensures ∙ c.if-modifies.true) _

pub returns-clause-union : goal.returns-clause-union
returns-clause-union g c = unmodified g.N.Analysis.modifies (sym c.modifies.ensures ∙ c.if-modifies.false) _ c.union_quietly.ensures.union

pub returns-then-modifies-clause-text : goal.returns-then-modifies-clause-text
returns-then-modifies-clause-text g c = is-modified g.N.Analysis.modifies (sym c.modifies.ensures ∙ c.if-modifies.true) _

pub returns-clause-text : goal.returns-clause-text
returns-clause-text g c = unmodified g.N.Analysis.modifies (sym c.modifies.ensures ∙ c.if-modifies.false) _ c.union_quietly.ensures.text

pub returns-then-modifies-clause-filed : goal.returns-then-modifies-clause-filed
returns-then-modifies-clause-filed g c = is-modified g.N.Analysis.modifies (sym c.modifies.ensures ∙ c.if-modifies.true) _

pub returns-clause-filed : goal.returns-clause-filed
returns-clause-filed g c = unmodified g.N.Analysis.modifies (sym c.modifies.ensures ∙ c.if-modifies.false) _ c.union_quietly.ensures.filed

pub returns-then-modifies-clause-counts : goal.returns-then-modifies-clause-counts
returns-then-modifies-clause-counts g c = is-modified g.N.Analysis.modifies (sym c.modifies.ensures ∙ c.if-modifies.true) _

pub returns-clause-counts : goal.returns-clause-counts
returns-clause-counts g c = unmodified g.N.Analysis.modifies (sym c.modifies.ensures ∙ c.if-modifies.false) _ c.union_quietly.ensures.counts

pub returns-then-modifies-clause-counted : goal.returns-then-modifies-clause-counted
returns-then-modifies-clause-counted g c = is-modified g.N.Analysis.modifies (sym c.modifies.ensures ∙ c.if-modifies.true) _

pub returns-clause-counted : goal.returns-clause-counted
returns-clause-counted g c = unmodified g.N.Analysis.modifies (sym c.modifies.ensures ∙ c.if-modifies.false) _ c.union_quietly.ensures.counted

pub returns-then-modifies-clause-table : goal.returns-then-modifies-clause-table
returns-then-modifies-clause-table g c = is-modified g.N.Analysis.modifies (sym c.modifies.ensures ∙ c.if-modifies.true) _

pub returns-clause-table : goal.returns-clause-table
returns-clause-table g c = unmodified g.N.Analysis.modifies (sym c.modifies.ensures ∙ c.if-modifies.false) _ c.union_quietly.ensures.table

pub returns-then-modifies-clause-carries : goal.returns-then-modifies-clause-carries
returns-then-modifies-clause-carries g c = is-modified g.N.Analysis.modifies (sym c.modifies.ensures ∙ c.if-modifies.true) _

pub returns-clause-carries : goal.returns-clause-carries
returns-clause-carries g c = unmodified g.N.Analysis.modifies (sym c.modifies.ensures ∙ c.if-modifies.false) _ c.union_quietly.ensures.carries

pub returns-then-modifies-clause-full : goal.returns-then-modifies-clause-full
returns-then-modifies-clause-full g c = is-modified g.N.Analysis.modifies (sym c.modifies.ensures ∙ c.if-modifies.true) _

pub returns-clause-full : goal.returns-clause-full
returns-clause-full g c = unmodified g.N.Analysis.modifies (sym c.modifies.ensures ∙ c.if-modifies.false) _ c.union_quietly.ensures.full

pub returns-then-modifies-clause-answer : goal.returns-then-modifies-clause-answer
returns-then-modifies-clause-answer g c = ok-answer g.N.Analysis.codes g.N.Analysis.meaning g.met.N.Analysis.is_merge g.N.Analysis.may_ask c.unite_and_modify.result g.N.Analysis.modifies c.args.self.now c.unite_and_modify.new.self c.args.l.now c.args.r.now (text_bytes c.args.text) c.unite_and_modify.ensures.unites

pub returns-then-modifies-clause-extends : goal.returns-then-modifies-clause-extends
returns-then-modifies-clause-extends g c = ok-united g.N.Analysis.codes g.N.Analysis.meaning g.met.N.Analysis.is_merge g.N.Analysis.may_ask c.unite_and_modify.result g.N.Analysis.modifies c.args.self.now c.unite_and_modify.new.self c.args.l.now c.args.r.now (text_bytes c.args.text) c.unite_and_modify.ensures.unites

pub returns-clause-unites : goal.returns-clause-unites
returns-clause-unites g c =
    let e = c.union_quietly.ensures in
    ok-unites g.N.Analysis.codes g.N.Analysis.meaning g.met.N.Analysis.is_merge g.N.Analysis.may_ask c.union_quietly.result g.N.Analysis.modifies (sym c.modifies.ensures ∙ c.if-modifies.false) c.args.self.now c.union_quietly.new.self c.args.l.now c.args.r.now (text_bytes c.args.text) e.rests e.fails.0 e.union e.text e.filed e.table e.carries

pub returns-clause-answer : goal.returns-clause-answer
returns-clause-answer g c =
    let e = c.union_quietly.ensures in
    ok-answer g.N.Analysis.codes g.N.Analysis.meaning g.met.N.Analysis.is_merge g.N.Analysis.may_ask c.union_quietly.result g.N.Analysis.modifies c.args.self.now c.union_quietly.new.self c.args.l.now c.args.r.now (text_bytes c.args.text)
    (ok-unites g.N.Analysis.codes g.N.Analysis.meaning g.met.N.Analysis.is_merge g.N.Analysis.may_ask c.union_quietly.result g.N.Analysis.modifies (sym c.modifies.ensures ∙ c.if-modifies.false) c.args.self.now c.union_quietly.new.self c.args.l.now c.args.r.now (text_bytes c.args.text) e.rests e.fails.0 e.union e.text e.filed e.table e.carries)

pub returns-clause-extends : goal.returns-clause-extends
returns-clause-extends g c =
    let e = c.union_quietly.ensures in
    ok-united g.N.Analysis.codes g.N.Analysis.meaning g.met.N.Analysis.is_merge g.N.Analysis.may_ask c.union_quietly.result g.N.Analysis.modifies c.args.self.now c.union_quietly.new.self c.args.l.now c.args.r.now (text_bytes c.args.text)
    (ok-unites g.N.Analysis.codes g.N.Analysis.meaning g.met.N.Analysis.is_merge g.N.Analysis.may_ask c.union_quietly.result g.N.Analysis.modifies (sym c.modifies.ensures ∙ c.if-modifies.false) c.args.self.now c.union_quietly.new.self c.args.l.now c.args.r.now (text_bytes c.args.text) e.rests e.fails.0 e.union e.text e.filed e.table e.carries)
