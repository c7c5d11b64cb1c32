-- Once the graph has failed if memory or slots ran out.
use Rattle.std.proofs.Common.{◌∙◌, sym}
use Rattle.slotted_graph.specs.Extension.{ExtendsTo}
use Rattle.slotted_rules.specs.Applying.{AreModified, AreRefusedBy}
use Rattle.slotted_rules.specs.Counting.{RefusesRule}
use Rattle.slotted_rules.proofs.CountedRules.{no-rule_fails}
use Rattle.slotted_rules.proofs.LeftGraphs.{left-err, left-failed, left-fails, left-ok, left-so}
use Rattle.slotted_rules.specs.Counted.{BreaksTurns, TakesTurns}
use Rattle.slotted_graph.specs.Analysed.{LowersData}
use Rattle.slotted_rules.proofs.counted.run_counted.Goals as goal

pub returns-clause-turns : goal.returns-clause-turns
returns-clause-turns g c =
    left-ok c.args.graph.now c.take_counted-taken.new.graph c.fail_if_short.new.graph c.take_counted-taken.result c.fail_if_short.result c.fail_if_short.ensures.same c.fail_if_short.ensures.short c.fail_if_short.ensures.other
    (λ turns h. TakesTurns g.L.LanguageChildren.form g.C.Cond.answers c.args.rules.now (AreModified g.N.Analysis.codes g.N.Analysis.meaning g.N.Analysis.may_ask g.N.Analysis.modifies) c.args.turn_limit c.args.graph.now turns.items h) c.take_counted-taken.ensures.turns

pub returns-clause-extends : goal.returns-clause-extends
returns-clause-extends g c =
    left-so (ExtendsTo c.args.graph.now) c.take_counted-taken.new.graph c.fail_if_short.new.graph c.take_counted-taken.result c.take_counted-taken.ensures.extends c.fail_if_short.ensures.short c.fail_if_short.ensures.other

pub returns-clause-failed : goal.returns-clause-failed
returns-clause-failed g c =
    let form = g.L.LanguageChildren.form in
    left-failed c.args.graph.now c.take_counted-taken.new.graph c.fail_if_short.new.graph c.take_counted-taken.result c.fail_if_short.result c.fail_if_short.ensures.same c.fail_if_short.ensures.short c.fail_if_short.ensures.other
    (AreRefusedBy (RefusesRule form g.C.Cond.refuses) c.args.rules.now) (no-rule_fails form g.C.Cond.refuses (λ k s x. g.met.C.Cond.never_failed k s x) c.args.rules.now)
    (sym c.is_failed.ensures.failed ∙ c.if-is_failed.false) c.take_counted-taken.ensures.err

pub returns-clause-fails : goal.returns-clause-fails
returns-clause-fails g c =
    let form = g.L.LanguageChildren.form in
    left-fails c.args.graph.now c.take_counted-taken.new.graph c.fail_if_short.new.graph c.take_counted-taken.result c.fail_if_short.result c.fail_if_short.ensures.same c.fail_if_short.ensures.short c.fail_if_short.ensures.other
    (AreRefusedBy (RefusesRule form g.C.Cond.refuses) c.args.rules.now) (no-rule_fails form g.C.Cond.refuses (λ k s x. g.met.C.Cond.never_failed k s x) c.args.rules.now)
    c.take_counted-taken.ensures.fails c.take_counted-taken.ensures.err

pub returns-clause-lowers : goal.returns-clause-lowers
returns-clause-lowers g c = left-so (LowersData g.N.Analysis.codes g.N.Analysis.meaning c.args.graph.now) c.take_counted-taken.new.graph c.fail_if_short.new.graph c.take_counted-taken.result c.take_counted-taken.ensures.lowers c.fail_if_short.ensures.short c.fail_if_short.ensures.other

pub returns-clause-refused : goal.returns-clause-refused
returns-clause-refused g c =
    left-err c.args.graph.now c.take_counted-taken.new.graph c.fail_if_short.new.graph c.take_counted-taken.result c.fail_if_short.result c.fail_if_short.ensures.same c.fail_if_short.ensures.short c.fail_if_short.ensures.other
    (λ e h. BreaksTurns g.L.LanguageChildren.form g.C.Cond.answers g.C.Cond.refuses c.args.rules.now (AreModified g.N.Analysis.codes g.N.Analysis.meaning g.N.Analysis.may_ask g.N.Analysis.modifies) c.args.turn_limit c.args.graph.now h e) c.take_counted-taken.ensures.refused
