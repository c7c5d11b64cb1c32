-- Once the graph has failed if memory or slots ran out.
use Rattle.std.proofs.Common.{◌∙◌, ◌↔◌, sym}
use Rattle.std.specs.Prelude.{IsTrue}
use Rattle.slotted_graph.specs.Extension.{ExtendsTo}
use Rattle.slotted_rules.specs.Applying.{AreModified, AreRefusedBy, HasProgressed}
use Rattle.slotted_rules.specs.Counting.{CountsAndModifies, CountsRules, RefusesCounted, RefusesRule}
use Rattle.slotted_rules.specs.declared.counting.TurnCounts.{TurnCounts}
use Rattle.slotted_graph.specs.Analysed.{LowersData}
use Rattle.slotted_rules.proofs.CountedRules.{no-rule_fails}
use Rattle.slotted_rules.proofs.LeftGraphs.{left-err, left-failed, left-fails, left-ok, left-so}
use Rattle.slotted_rules.proofs.Modified.{ok-unmodified}
use Rattle.slotted_rules.proofs.counting.apply_counted.Goals as goal

pub returns-clause-changed : goal.returns-clause-changed
returns-clause-changed g c =
    left-ok c.args.graph.now c.count_turn-turn.new.graph c.fail_if_short.new.graph c.count_turn-turn.result c.fail_if_short.result c.fail_if_short.ensures.same c.fail_if_short.ensures.short c.fail_if_short.ensures.other
    (λ t h. IsTrue t.changed ↔ HasProgressed c.args.graph.now.image h.image) c.count_turn-turn.ensures.changed

pub returns-clause-extends : goal.returns-clause-extends
returns-clause-extends g c =
    left-so (ExtendsTo c.args.graph.now) c.count_turn-turn.new.graph c.fail_if_short.new.graph c.count_turn-turn.result c.count_turn-turn.ensures.extends c.fail_if_short.ensures.short c.fail_if_short.ensures.other

pub returns-clause-failed : goal.returns-clause-failed
returns-clause-failed g c =
    let form = g.L.LanguageChildren.form in
    left-failed c.args.graph.now c.count_turn-turn.new.graph c.fail_if_short.new.graph c.count_turn-turn.result c.fail_if_short.result c.fail_if_short.ensures.same c.fail_if_short.ensures.short c.fail_if_short.ensures.other
    (AreRefusedBy (RefusesRule form g.C.Cond.refuses) c.args.rules.now) (no-rule_fails form g.C.Cond.refuses (λ k s x. g.met.C.Cond.never_failed k s x) c.args.rules.now)
    (sym c.is_failed.ensures.failed ∙ c.if-is_failed.false) c.count_turn-turn.ensures.err

pub returns-clause-fails : goal.returns-clause-fails
returns-clause-fails g c =
    let form = g.L.LanguageChildren.form in
    left-fails c.args.graph.now c.count_turn-turn.new.graph c.fail_if_short.new.graph c.count_turn-turn.result c.fail_if_short.result c.fail_if_short.ensures.same c.fail_if_short.ensures.short c.fail_if_short.ensures.other
    (AreRefusedBy (RefusesRule form g.C.Cond.refuses) c.args.rules.now) (no-rule_fails form g.C.Cond.refuses (λ k s x. g.met.C.Cond.never_failed k s x) c.args.rules.now)
    c.count_turn-turn.ensures.fails c.count_turn-turn.ensures.err

pub returns-clause-lowers : goal.returns-clause-lowers
returns-clause-lowers g c = left-so (LowersData g.N.Analysis.codes g.N.Analysis.meaning c.args.graph.now) c.count_turn-turn.new.graph c.fail_if_short.new.graph c.count_turn-turn.result c.count_turn-turn.ensures.lowers c.fail_if_short.ensures.short c.fail_if_short.ensures.other

pub returns-clause-refused : goal.returns-clause-refused
returns-clause-refused g c =
    left-err c.args.graph.now c.count_turn-turn.new.graph c.fail_if_short.new.graph c.count_turn-turn.result c.fail_if_short.result c.fail_if_short.ensures.same c.fail_if_short.ensures.short c.fail_if_short.ensures.other
    (λ e h. RefusesCounted g.L.LanguageChildren.form g.C.Cond.answers g.C.Cond.refuses c.args.rules.now c.args.graph.now h e) c.count_turn-turn.ensures.refused

pub returns-clause-counts : goal.returns-clause-counts
returns-clause-counts g c =
    let form = g.L.LanguageChildren.form in
    let modified = AreModified g.N.Analysis.codes g.N.Analysis.meaning g.N.Analysis.may_ask g.N.Analysis.modifies in
    ok-unmodified g.N.Analysis.codes g.N.Analysis.meaning g.N.Analysis.may_ask g.N.Analysis.modifies (λ (t : TurnCounts) e f. CountsRules form g.C.Cond.answers c.args.rules.now e t.rules.items f)
    c.args.graph.now c.fail_if_short.new.graph c.fail_if_short.result
    (left-ok c.args.graph.now c.count_turn-turn.new.graph c.fail_if_short.new.graph c.count_turn-turn.result c.fail_if_short.result c.fail_if_short.ensures.same c.fail_if_short.ensures.short c.fail_if_short.ensures.other
    (λ t h. CountsAndModifies form g.C.Cond.answers c.args.rules.now modified c.args.graph.now t.rules.items h) c.count_turn-turn.ensures.modified)
