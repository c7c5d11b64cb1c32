use Rattle.std.proofs.Common.{inr}
use Rattle.std.proofs.lemmas.List.Elements.{Contains-get_or}
use Rattle.std.specs.Prelude.{slice_index_or}
use Rattle.slotted_patterns.specs.View.{tree_of}
use Rattle.slotted_rule_patterns.specs.Values.{values_of}
use Rattle.slotted_rule_patterns.proofs.KnownVariables.{missing-lacking}
use Rattle.slotted_rules.proofs.Carrying.{carries-itself}
use Rattle.slotted_rules.proofs.UnitedAnswers.{ok-passed, short-fails}
use Rattle.slotted_rules.proofs.written.unite.Goals as goal

pub union_listed-requires-clause-values : goal.union_listed-requires-clause-values
union_listed-requires-clause-values g c =
    let s = values_of c.args.subst.now in
    λ k d l. c.requires.valid (slice_index_or s k d) (Contains-get_or s k d l)

pub union_listed-requires-clause-tested : goal.union_listed-requires-clause-tested
union_listed-requires-clause-tested g c =
    let s = values_of c.args.subst.now in
    let p = tree_of g.L.LanguageChildren.form c.args.rule.now.left in
    let q = tree_of g.L.LanguageChildren.form c.args.rule.now.right in
    ((c.requires.whole, c.requires.values), (c.requires.made, missing-lacking q p s c.requires.rule.none_lacking c.requires.values))

pub returns-clause-tested : goal.returns-clause-tested
returns-clause-tested g c =
    let s = values_of c.args.subst.now in
    let p = tree_of g.L.LanguageChildren.form c.args.rule.now.left in
    let q = tree_of g.L.LanguageChildren.form c.args.rule.now.right in
    ok-passed s p q c.union_listed.result c.requires.whole c.requires.made c.requires.values c.requires.rule.none_lacking

pub returns-clause-unchanged : goal.returns-clause-unchanged
returns-clause-unchanged g c = short-fails c.union_listed.result c.args.graph.now c.union_listed.new.graph c.union_listed.ensures.fails.1 c.union_listed.ensures.only

pub returns-in_err-name-clause-carries : goal.returns-in_err-name-clause-carries
returns-in_err-name-clause-carries g c = inr (carries-itself g.N.Analysis.codes g.N.Analysis.meaning g.met.N.Analysis.is_merge c.args.graph.now)
