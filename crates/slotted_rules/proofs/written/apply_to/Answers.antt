use Rattle.std.proofs.Common.{◌∙◌, subst, sym, inl, inr}
use Rattle.std.proofs.lemmas.Bool.{false≢true}
use Rattle.slotted_patterns.specs.Tree.{PatternTree}
use Rattle.slotted_patterns.specs.View.{tree_of}
use Rattle.slotted_rule_patterns.specs.Values.{values_of}
use Rattle.std.specs.Prelude.{string_bytes}
use Rattle.slotted_rules.proofs.Carrying.{carries-itself}
use Rattle.slotted_rules.proofs.Answering.{if-err-mapped}
use Rattle.slotted_rule_patterns.specs.PatternCode.{pattern_in}
use Rattle.slotted_rules.proofs.Settling.{if-asserted}
use Rattle.slotted_rules.proofs.UnitedAnswers.{none-of}
use Rattle.slotted_rules.proofs.written.apply_to.Goals as goal

pub returns-clause-applies : goal.returns-clause-applies
returns-clause-applies g c =
    let form = g.L.LanguageChildren.form in
    let p : PatternTree = tree_of form c.args.rule.now.left in
    let q : PatternTree = tree_of form c.args.rule.now.right in
    if-asserted (g.C.Cond.answers c.args.rule.now.condition) p q (string_bytes c.args.rule.now.name) (values_of c.args.subst.now) c.args.graph.now c.unite.new.graph c.unite.result
    (subst (g.C.Cond.answers c.args.rule.now.condition (values_of c.args.subst.now) c.args.graph.now) c.if-not-branch.false c.in_ok-holds.ensures.ok) c.unite.ensures.tested c.unite.ensures.unites

pub returns-in_err-holds-clause-carries : goal.returns-in_err-holds-clause-carries
returns-in_err-holds-clause-carries g c = inr (carries-itself g.N.Analysis.codes g.N.Analysis.meaning g.met.N.Analysis.is_merge c.args.graph.now)

pub returns-clause-err : goal.returns-clause-err
returns-clause-err g c = if-err-mapped c.unite.result c.unite.ensures.err (λ e k. inl k)

pub returns-then-not-branch-clause-carries : goal.returns-then-not-branch-clause-carries
returns-then-not-branch-clause-carries g c = inr (carries-itself g.N.Analysis.codes g.N.Analysis.meaning g.met.N.Analysis.is_merge c.args.graph.now)

pub returns-then-not-sides-clause-err : goal.returns-then-not-sides-clause-err
returns-then-not-sides-clause-err g c =
    let q : PatternTree = tree_of g.L.LanguageChildren.form c.args.rule.now.right in
    let held = subst (g.C.Cond.answers c.args.rule.now.condition (values_of c.args.subst.now) c.args.graph.now) c.if-not-branch.false c.in_ok-holds.ensures.ok in
    inr (inr (held, tt, none-of (pattern_in q) (λ w. false≢true (sym c.if-not-sides.true ∙ c.requires.right.1 w))))

pub returns-then-not-sides-clause-carries : goal.returns-then-not-sides-clause-carries
returns-then-not-sides-clause-carries g c = inr (carries-itself g.N.Analysis.codes g.N.Analysis.meaning g.met.N.Analysis.is_merge c.args.graph.now)
