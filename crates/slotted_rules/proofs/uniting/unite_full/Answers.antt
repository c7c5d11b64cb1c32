use Rattle.std.proofs.Common.{[], inr}
use Rattle.slotted_patterns.specs.View.{tree_of}
use Rattle.slotted_proofs.specs.Equations.{to_applied}
use Rattle.slotted_rule_patterns.specs.Values.{values_of}
use Rattle.slotted_classes.specs.Kept.{text_bytes}
use Rattle.slotted_graph.proofs.Extending.{extends-then}
use Rattle.slotted_rules.proofs.Carrying.{carries-now, carries-on, later-carries, written-carries}
use Rattle.slotted_rules.proofs.FilledValues.{fills-full, full-values-later, full-values-valid, takes-none}
use Rattle.slotted_rules.proofs.Parts.{known-later}
use Rattle.slotted_rules.proofs.UnitedInstances.{ok-united}
use Rattle.slotted_rules.proofs.uniting.unite_full.Goals as goal

pub build_stored_listed-requires-clause-values : goal.build_stored_listed-requires-clause-values
build_stored_listed-requires-clause-values g c = full-values-valid c.args.graph.now (values_of c.args.subst.now) c.requires.full

pub build_stored_listed-requires-2-clause-known : goal.build_stored_listed-requires-2-clause-known
build_stored_listed-requires-2-clause-known g c =
    known-later c.args.graph.now.table c.build_stored_listed.new.graph.table c.in_ok-left.ensures.ok.grows.extends.more (tree_of g.L.LanguageChildren.form c.args.b.now.pattern.now) c.requires.right

pub build_stored_listed-requires-2-clause-values : goal.build_stored_listed-requires-2-clause-values
build_stored_listed-requires-2-clause-values g c =
    full-values-valid c.build_stored_listed.new.graph (values_of c.args.subst.now)
    (full-values-later c.args.graph.now c.build_stored_listed.new.graph (values_of c.args.subst.now) c.in_ok-left.ensures.ok.grows.extends c.requires.full)

pub union_quietly-requires-clause-left : goal.union_quietly-requires-clause-left
union_quietly-requires-clause-left g c = inr (c.in_ok-right.ensures.ok.grows.extends.valid (to_applied c.in_ok-left.left) c.in_ok-left.ensures.ok.valid)

pub returns-clause-unites : goal.returns-clause-unites
returns-clause-unites g c =
    let form = g.L.LanguageChildren.form in
    let g0 = c.args.graph.now in
    let s = values_of c.args.subst.now in
    ok-united c.subst_method-method.result g0 g0 c.build_stored_listed.new.graph c.build_stored_listed-2.new.graph c.union_quietly.new.self s s
    (tree_of form c.args.a.now.pattern.now) (tree_of form c.args.b.now.pattern.now) c.in_ok-left.left c.in_ok-right.right (text_bytes c.args.text) c.requires.graph
    (takes-none g0) (fills-full g0 [] s c.requires.full) c.requires.full c.in_ok-left.ensures.ok c.in_ok-right.ensures.ok
    c.union_quietly.result c.union_quietly.ensures.rests c.union_quietly.ensures.fails.0 c.union_quietly.ensures.union c.union_quietly.ensures.text c.union_quietly.ensures.table

pub returns-in_err-right-clause-carries : goal.returns-in_err-right-clause-carries
returns-in_err-right-clause-carries g c =
    let g0 = c.args.graph.now in
    let e = c.build_stored_listed.new.graph in
    let left = c.in_ok-left.ensures.ok.grows in
    let first = carries-now g.N.Analysis.codes g.N.Analysis.meaning g0 e left.graph.well c.build_stored_listed.ensures.carries in
    later-carries g.N.Analysis.codes g.N.Analysis.meaning g.met.N.Analysis.is_merge g0 e c.build_stored_listed-2.new.graph left.extends first c.build_stored_listed-2.ensures.carries

pub returns-clause-carries : goal.returns-clause-carries
returns-clause-carries g c =
    let g0 = c.args.graph.now in
    let e = c.build_stored_listed.new.graph in
    let f = c.build_stored_listed-2.new.graph in
    let h = c.union_quietly.new.self in
    let left = c.in_ok-left.ensures.ok.grows in
    let right = c.in_ok-right.ensures.ok.grows in
    let first = carries-now g.N.Analysis.codes g.N.Analysis.meaning g0 e left.graph.well c.build_stored_listed.ensures.carries in
    let both = carries-on g.N.Analysis.codes g.N.Analysis.meaning g.met.N.Analysis.is_merge g0 e f left.extends first right.graph.well c.build_stored_listed-2.ensures.carries in
    later-carries g.N.Analysis.codes g.N.Analysis.meaning g.met.N.Analysis.is_merge g0 f h (extends-then g0 e f left.extends right.extends) both
    (written-carries g.N.Analysis.codes g.N.Analysis.meaning c.union_quietly.result f h c.union_quietly.ensures.fails.1 c.union_quietly.ensures.carries)
