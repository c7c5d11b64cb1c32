use Rattle.std.proofs.Common.{◌∙◌, sym}
use Rattle.slotted_proofs.specs.Equations.{to_applied}
use Rattle.slotted_operations.specs.Adding.{AddsSyn}
use Rattle.slotted_graph.specs.Writing.{AddsSynBefore, MakesForSynNode}
use Rattle.slotted_graph.proofs.Extending.{extends-itself}
use Rattle.slotted_graph.proofs.Saying.{if-ok}
use Rattle.slotted_graph.proofs.Writing.{is-modified, ok-adds, ok-alone, ok-asked, ok-extends, ok-some, unmodified}
use Rattle.slotted_graph.proofs.egraph.EGraph.add_syn.Goals as goal

pub returns-then-modifies-clause-syn : goal.returns-then-modifies-clause-syn
returns-then-modifies-clause-syn g c = is-modified g.N.Analysis.modifies (sym c.modifies.ensures ∙ c.if-modifies.true) _

pub returns-clause-syn : goal.returns-clause-syn
returns-clause-syn g c = unmodified g.N.Analysis.modifies (sym c.modifies.ensures ∙ c.if-modifies.false) _ c.add_syn_quietly.ensures.syn

pub returns-then-modifies-clause-adds : goal.returns-then-modifies-clause-adds
returns-then-modifies-clause-adds g c = is-modified g.N.Analysis.modifies (sym c.modifies.ensures ∙ c.if-modifies.true) _

pub returns-clause-adds : goal.returns-clause-adds
returns-clause-adds g c = unmodified g.N.Analysis.modifies (sym c.modifies.ensures ∙ c.if-modifies.false) _ c.add_syn_quietly.ensures.adds

pub returns-then-modifies-clause-takes : goal.returns-then-modifies-clause-takes
returns-then-modifies-clause-takes g c = is-modified g.N.Analysis.modifies (sym c.modifies.ensures ∙ c.if-modifies.true) _

pub returns-clause-takes : goal.returns-clause-takes
returns-clause-takes g c = unmodified g.N.Analysis.modifies (sym c.modifies.ensures ∙ c.if-modifies.false) _ c.add_syn_quietly.ensures.takes

pub returns-then-modifies-clause-full : goal.returns-then-modifies-clause-full
returns-then-modifies-clause-full g c = is-modified g.N.Analysis.modifies (sym c.modifies.ensures ∙ c.if-modifies.true) _

pub returns-clause-full : goal.returns-clause-full
returns-clause-full g c = unmodified g.N.Analysis.modifies (sym c.modifies.ensures ∙ c.if-modifies.false) _ c.add_syn_quietly.ensures.full

pub returns-then-modifies-clause-unknown : goal.returns-then-modifies-clause-unknown
returns-then-modifies-clause-unknown g c = is-modified g.N.Analysis.modifies (sym c.modifies.ensures ∙ c.if-modifies.true) _

pub returns-clause-unknown : goal.returns-clause-unknown
returns-clause-unknown g c = unmodified g.N.Analysis.modifies (sym c.modifies.ensures ∙ c.if-modifies.false) _ c.add_syn_quietly.ensures.unknown

pub returns-then-modifies-clause-carries : goal.returns-then-modifies-clause-carries
returns-then-modifies-clause-carries g c = is-modified g.N.Analysis.modifies (sym c.modifies.ensures ∙ c.if-modifies.true) _

pub returns-clause-carries : goal.returns-clause-carries
returns-clause-carries g c = unmodified g.N.Analysis.modifies (sym c.modifies.ensures ∙ c.if-modifies.false) _ c.add_syn_quietly.ensures.carries

pub returns-then-modifies-clause-leaves : goal.returns-then-modifies-clause-leaves
returns-then-modifies-clause-leaves g c = ok-asked g.N.Analysis.codes g.N.Analysis.meaning g.met.N.Analysis.is_merge g.N.Analysis.may_ask c.add_syn_and_modify.result g.N.Analysis.modifies (MakesForSynNode (g.L.LanguageChildren.form c.args.node)) c.args.self.now c.add_syn_and_modify.new.self c.add_syn_and_modify.ensures.adds

pub returns-then-modifies-clause-extends : goal.returns-then-modifies-clause-extends
returns-then-modifies-clause-extends g c = ok-extends g.N.Analysis.codes g.N.Analysis.meaning g.met.N.Analysis.is_merge g.N.Analysis.may_ask c.add_syn_and_modify.result g.N.Analysis.modifies (MakesForSynNode (g.L.LanguageChildren.form c.args.node)) c.args.self.now c.add_syn_and_modify.new.self c.add_syn_and_modify.ensures.adds

pub returns-clause-modified : goal.returns-clause-modified
returns-clause-modified g c =
    let e = c.add_syn_quietly.ensures in
    ok-alone g.N.Analysis.codes g.N.Analysis.meaning g.met.N.Analysis.is_merge g.N.Analysis.may_ask c.add_syn_quietly.result g.N.Analysis.modifies (sym c.modifies.ensures ∙ c.if-modifies.false) (MakesForSynNode (g.L.LanguageChildren.form c.args.node)) c.args.self.now c.add_syn_quietly.new.self
    (ok-adds g.N.Analysis.codes g.N.Analysis.meaning g.met.N.Analysis.is_merge g.N.Analysis.may_ask c.add_syn_quietly.result (MakesForSynNode (g.L.LanguageChildren.form c.args.node)) c.args.self.now c.add_syn_quietly.new.self e.rests e.fails.0 e.extends e.adds e.more e.carries (ok-some c.add_syn_quietly.result (AddsSyn c.args.self.now c.add_syn_quietly.new.self (g.L.LanguageChildren.form c.args.node)) e.syn))

pub returns-clause-leaves : goal.returns-clause-leaves
returns-clause-leaves g c =
    let e = c.add_syn_quietly.ensures in
    ok-asked g.N.Analysis.codes g.N.Analysis.meaning g.met.N.Analysis.is_merge g.N.Analysis.may_ask c.add_syn_quietly.result g.N.Analysis.modifies (MakesForSynNode (g.L.LanguageChildren.form c.args.node)) c.args.self.now c.add_syn_quietly.new.self
    (ok-alone g.N.Analysis.codes g.N.Analysis.meaning g.met.N.Analysis.is_merge g.N.Analysis.may_ask c.add_syn_quietly.result g.N.Analysis.modifies (sym c.modifies.ensures ∙ c.if-modifies.false) (MakesForSynNode (g.L.LanguageChildren.form c.args.node)) c.args.self.now c.add_syn_quietly.new.self
    (ok-adds g.N.Analysis.codes g.N.Analysis.meaning g.met.N.Analysis.is_merge g.N.Analysis.may_ask c.add_syn_quietly.result (MakesForSynNode (g.L.LanguageChildren.form c.args.node)) c.args.self.now c.add_syn_quietly.new.self e.rests e.fails.0 e.extends e.adds e.more e.carries (ok-some c.add_syn_quietly.result (AddsSyn c.args.self.now c.add_syn_quietly.new.self (g.L.LanguageChildren.form c.args.node)) e.syn)))

pub returns-clause-stands : goal.returns-clause-stands
returns-clause-stands g c =
    let h = c.add_syn_quietly.new.self in
    if-ok (λ a. AddsSyn c.args.self.now h (g.L.LanguageChildren.form c.args.node) (to_applied a)) (λ a. AddsSynBefore c.args.self.now h (g.L.LanguageChildren.form c.args.node) (to_applied a)) c.add_syn_quietly.result
    (λ a syn. record { added = h; syn = syn; extends = extends-itself h }) c.add_syn_quietly.ensures.syn
