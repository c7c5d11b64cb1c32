use Rattle.std.proofs.Common.{inr}
use Rattle.std.proofs.lemmas.Result.{IfErr-weaker, err_from_is_err_and}
use Rattle.slotted_patterns.specs.View.{tree_of}
use Rattle.slotted_explain.proofs.CallerLemmas.{reads_twice}
use Rattle.slotted_graph.proofs.Extending.{extends-read}
use Rattle.slotted_rules.specs.Reading.{tree_reads}
use Rattle.slotted_rules.specs.Written.{IsRefusedRule}
use Rattle.slotted_workspace.specs.Asked.{RuleRefused}
use Rattle.slotted_workspace.proofs.Rules.{left-refused, right-refused, rule-read, rule-refused, searchable}
use Rattle.slotted_workspace.proofs.Saying.{well-answered}
use Rattle.slotted_workspace.proofs.reading.read_rule.Goals as goal

pub returns-in_err-searched-clause-err : goal.returns-in_err-searched-clause-err
returns-in_err-searched-clause-err g c =
    let e = c.in_err-searched.ensures in
    let p = err_from_is_err_and c.from_residual.result c.from_residual.ensures.1 in
    rw (p.1, p.2) (left-refused g.L.LanguageChildren.form g.L.LanguageChildren.read c.args.graph.now c.parse_pattern.new.self c.args.left.now c.args.right.now e.reads c.in_err-searched.field-0.0 e.failed e.stays e.answer)

pub returns-in_err-searched-clause-extends : goal.returns-in_err-searched-clause-extends
returns-in_err-searched-clause-extends g c = inr (extends-read c.args.graph.now c.parse_pattern.new.self c.in_err-searched.ensures.reads)

pub returns-in_err-made-clause-err : goal.returns-in_err-made-clause-err
returns-in_err-made-clause-err g c =
    let one = c.in_ok-searched.ensures in
    let e = c.in_err-made.ensures in
    let p = err_from_is_err_and c.from_residual-in_err-made.result c.from_residual-in_err-made.ensures.1 in
    rw (p.1, p.2) (right-refused g.L.LanguageChildren.form g.L.LanguageChildren.read c.args.graph.now c.parse_pattern.new.self c.parse_pattern-2.new.self c.args.left.now c.args.right.now c.in_ok-searched.searched one.reads e.reads one.failed one.answer c.in_err-made.field-0.0 e.answer)

pub returns-in_err-made-clause-extends : goal.returns-in_err-made-clause-extends
returns-in_err-made-clause-extends g c =
    inr (extends-read c.args.graph.now c.parse_pattern-2.new.self (reads_twice c.args.graph.now c.parse_pattern.new.self c.parse_pattern-2.new.self c.in_ok-searched.ensures.reads c.in_err-made.ensures.reads))

pub returns-in_err-made-clause-stays : goal.returns-in_err-made-clause-stays
returns-in_err-made-clause-stays g c = well-answered c.args.graph.now c.in_ok-searched.searched c.in_ok-searched.ensures.failed

pub returns-clause-ok : goal.returns-clause-ok
returns-clause-ok g c =
    let form = g.L.LanguageChildren.form in
    let one = c.in_ok-searched.ensures in
    let two = c.in_ok-made.ensures in
    rule-read form g.L.LanguageChildren.read c.args.graph.now c.parse_pattern.new.self c.parse_pattern-2.new.self c.args.left.now c.args.right.now c.in_ok-searched.searched one.reads two.reads one.failed one.answer c.in_ok-made.made two.answer
    c.from_patterns.result c.args.name.now c.args.condition c.from_patterns.ensures.rule c.from_patterns.ensures.asked

pub returns-clause-searched : goal.returns-clause-searched
returns-clause-searched g c =
    let one = c.in_ok-searched.ensures in
    let two = c.in_ok-made.ensures in
    searchable g.L.LanguageChildren.form g.L.LanguageChildren.read c.args.graph.now c.parse_pattern.new.self c.parse_pattern-2.new.self c.args.left.now c.args.right.now c.in_ok-searched.searched one.reads two.reads one.failed one.answer c.in_ok-made.made two.answer one.known two.known
    c.from_patterns.result c.args.name.now c.args.condition c.from_patterns.ensures.rule c.from_patterns.ensures.searched c.from_patterns.ensures.known

pub returns-clause-err : goal.returns-clause-err
returns-clause-err g c =
    let form = g.L.LanguageChildren.form in
    let one = c.in_ok-searched.ensures in
    let two = c.in_ok-made.ensures in
    IfErr-weaker c.from_patterns.result (IsRefusedRule (tree_of form c.in_ok-searched.searched) (tree_of form c.in_ok-made.made) (tree_reads c.args.condition)) (RuleRefused form g.L.LanguageChildren.read c.args.graph.now c.parse_pattern-2.new.self c.args.left.now c.args.right.now c.args.condition)
    (rule-refused form g.L.LanguageChildren.read c.args.graph.now c.parse_pattern.new.self c.parse_pattern-2.new.self c.args.left.now c.args.right.now c.in_ok-searched.searched one.reads two.reads one.failed one.answer c.in_ok-made.made two.answer) c.from_patterns.ensures.err

pub returns-clause-extends : goal.returns-clause-extends
returns-clause-extends g c =
    inr (extends-read c.args.graph.now c.parse_pattern-2.new.self (reads_twice c.args.graph.now c.parse_pattern.new.self c.parse_pattern-2.new.self c.in_ok-searched.ensures.reads c.in_ok-made.ensures.reads))

pub returns-clause-stays : goal.returns-clause-stays
returns-clause-stays g c = well-answered c.args.graph.now c.in_ok-searched.searched c.in_ok-searched.ensures.failed
