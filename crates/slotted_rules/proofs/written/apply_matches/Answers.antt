use Rattle.std.specs.Prelude.{ℕ, string_bytes}
use Rattle.slotted_patterns.specs.View.{tree_of}
use Rattle.slotted_rules.specs.Rewriting.{AreFromRule, BreaksOff, LeavesUnited}
use Rattle.slotted_operations.specs.Graph.{Graph}
use Rattle.slotted_rules.specs.Between.{AnswersBetween}
use Rattle.slotted_rules.specs.Carried.{CarriesAlong}
use Rattle.slotted_rules.proofs.LeftGraphs.{left-ok, left-so, left-err}
use Rattle.slotted_rules.proofs.written.apply_matches.Goals as goal

pub returns-clause-origin : goal.returns-clause-origin
returns-clause-origin g c =
    let form = g.L.LanguageChildren.form in
    left-so (AreFromRule (g.C.Cond.answers c.args.rule.now.condition) (tree_of form c.args.rule.now.left) (tree_of form c.args.rule.now.right) (string_bytes c.args.rule.now.name) c.args.found.now c.args.graph.now)
    c.apply_found-applied.new.graph c.fail_if_short.new.graph c.apply_found-applied.result c.apply_found-applied.ensures.origin c.fail_if_short.ensures.short c.fail_if_short.ensures.other

pub returns-clause-carries : goal.returns-clause-carries
returns-clause-carries g c = left-so (CarriesAlong g.N.Analysis.codes g.N.Analysis.meaning c.args.graph.now) c.apply_found-applied.new.graph c.fail_if_short.new.graph c.apply_found-applied.result c.apply_found-applied.ensures.carries c.fail_if_short.ensures.short c.fail_if_short.ensures.other

pub returns-clause-left : goal.returns-clause-left
returns-clause-left g c =
    let form = g.L.LanguageChildren.form in
    let a = c.apply_found-applied in
    left-err c.args.graph.now a.new.graph c.fail_if_short.new.graph a.result c.fail_if_short.result c.fail_if_short.ensures.same c.fail_if_short.ensures.short c.fail_if_short.ensures.other
    (λ e h. BreaksOff (g.C.Cond.answers c.args.rule.now.condition) (g.C.Cond.refuses c.args.rule.now.condition) (tree_of form c.args.rule.now.left) (tree_of form c.args.rule.now.right) (string_bytes c.args.rule.now.name) c.args.found.now c.args.graph.now h e)
    a.ensures.left

pub returns-clause-held : goal.returns-clause-held
returns-clause-held g c =
    let form = g.L.LanguageChildren.form in
    left-so (λ (h : Graph). AreFromRule (AnswersBetween g.N.Analysis.codes g.N.Analysis.meaning (g.C.Cond.answers c.args.rule.now.condition) c.args.graph.now h) (tree_of form c.args.rule.now.left) (tree_of form c.args.rule.now.right) (string_bytes c.args.rule.now.name) c.args.found.now c.args.graph.now h)
    c.apply_found-applied.new.graph c.fail_if_short.new.graph c.apply_found-applied.result c.apply_found-applied.ensures.held c.fail_if_short.ensures.short c.fail_if_short.ensures.other

pub returns-clause-between : goal.returns-clause-between
returns-clause-between g c =
    let form = g.L.LanguageChildren.form in
    let a = c.apply_found-applied in
    left-ok c.args.graph.now a.new.graph c.fail_if_short.new.graph a.result c.fail_if_short.result c.fail_if_short.ensures.same c.fail_if_short.ensures.short c.fail_if_short.ensures.other
    (λ (n : ℕ) (h : Graph). LeavesUnited (AnswersBetween g.N.Analysis.codes g.N.Analysis.meaning (g.C.Cond.answers c.args.rule.now.condition) c.args.graph.now h) (tree_of form c.args.rule.now.left) (tree_of form c.args.rule.now.right) (string_bytes c.args.rule.now.name) c.args.found.now c.args.graph.now h n)
    a.ensures.between
