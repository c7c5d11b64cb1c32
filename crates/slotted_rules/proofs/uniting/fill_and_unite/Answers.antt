use Rattle.slotted_graph.proofs.Extending.{extends-takes, extends-then}
use Rattle.slotted_graph.proofs.StatesLater.{graph-takes}
use Rattle.std.proofs.Common.{inr}
use Rattle.slotted_patterns.specs.View.{tree_of}
use Rattle.slotted_proofs.specs.Equations.{to_applied}
use Rattle.slotted_rule_patterns.specs.Values.{values_of}
use Rattle.slotted_classes.specs.Kept.{text_bytes}
use Rattle.slotted_rules.proofs.Carrying.{carries-on, carries-takes, later-carries, written-carries}
use Rattle.slotted_rules.proofs.FilledValues.{filled-given, full-values-later, full-values-valid}
use Rattle.slotted_rules.proofs.Parts.{known-later}
use Rattle.slotted_rules.proofs.UnitedInstances.{ok-united}
use Rattle.slotted_rules.proofs.uniting.fill_and_unite.Goals as goal

pub build_stored_listed-requires-clause-graph : goal.build_stored_listed-requires-clause-graph
build_stored_listed-requires-clause-graph g c = graph-takes c.args.graph.now c.full_values.new.graph c.requires.graph c.full_values.ensures.takes

pub build_stored_listed-requires-clause-known : goal.build_stored_listed-requires-clause-known
build_stored_listed-requires-clause-known g c =
    known-later c.args.graph.now.table c.full_values.new.graph.table c.full_values.ensures.takes.reads.more (tree_of g.L.LanguageChildren.form c.args.a.now.pattern.now) c.requires.left

pub build_stored_listed-requires-clause-values : goal.build_stored_listed-requires-clause-values
build_stored_listed-requires-clause-values g c = full-values-valid c.full_values.new.graph (values_of c.in_ok-filled.filled) c.in_ok-filled.ensures.full

pub build_stored_listed-requires-clause-given : goal.build_stored_listed-requires-clause-given
build_stored_listed-requires-clause-given g c =
    filled-given c.args.graph.now.table c.args.graph.now.image.canonical (values_of c.args.subst.now) (values_of c.in_ok-filled.filled) (tree_of g.L.LanguageChildren.form c.args.a.now.pattern.now) c.in_ok-filled.ensures.fills c.requires.given_left

pub build_stored_listed-requires-2-clause-known : goal.build_stored_listed-requires-2-clause-known
build_stored_listed-requires-2-clause-known g c =
    known-later c.args.graph.now.table c.build_stored_listed.new.graph.table (λ s k. c.in_ok-left.ensures.ok.grows.extends.more s (c.full_values.ensures.takes.reads.more s k)) (tree_of g.L.LanguageChildren.form c.args.b.now.pattern.now) c.requires.right

pub build_stored_listed-requires-2-clause-values : goal.build_stored_listed-requires-2-clause-values
build_stored_listed-requires-2-clause-values g c =
    full-values-valid c.build_stored_listed.new.graph (values_of c.in_ok-filled.filled)
    (full-values-later c.full_values.new.graph c.build_stored_listed.new.graph (values_of c.in_ok-filled.filled) c.in_ok-left.ensures.ok.grows.extends c.in_ok-filled.ensures.full)

pub build_stored_listed-requires-2-clause-given : goal.build_stored_listed-requires-2-clause-given
build_stored_listed-requires-2-clause-given g c =
    filled-given c.args.graph.now.table c.args.graph.now.image.canonical (values_of c.args.subst.now) (values_of c.in_ok-filled.filled) (tree_of g.L.LanguageChildren.form c.args.b.now.pattern.now) c.in_ok-filled.ensures.fills c.requires.given_right

pub union_quietly-requires-clause-left : goal.union_quietly-requires-clause-left
union_quietly-requires-clause-left g c = inr (c.in_ok-right.ensures.ok.grows.extends.valid (to_applied c.in_ok-left.left) c.in_ok-left.ensures.ok.valid)

pub returns-clause-unites : goal.returns-clause-unites
returns-clause-unites g c =
    let form = g.L.LanguageChildren.form in
    ok-united c.subst_method-method.result c.args.graph.now c.full_values.new.graph c.build_stored_listed.new.graph c.build_stored_listed-2.new.graph c.union_quietly.new.self (values_of c.args.subst.now) (values_of c.in_ok-filled.filled)
    (tree_of form c.args.a.now.pattern.now) (tree_of form c.args.b.now.pattern.now) c.in_ok-left.left c.in_ok-right.right (text_bytes c.args.text) c.requires.graph
    c.full_values.ensures.takes c.in_ok-filled.ensures.fills c.in_ok-filled.ensures.full c.in_ok-left.ensures.ok c.in_ok-right.ensures.ok
    c.union_quietly.result c.union_quietly.ensures.rests c.union_quietly.ensures.fails.0 c.union_quietly.ensures.union c.union_quietly.ensures.text c.union_quietly.ensures.table

-- where the values could not be filled, slots were taken alone
pub returns-in_err-filled-clause-carries : goal.returns-in_err-filled-clause-carries
returns-in_err-filled-clause-carries g c =
    inr (carries-takes g.N.Analysis.codes g.N.Analysis.meaning g.met.N.Analysis.is_merge c.args.graph.now c.full_values.new.graph c.full_values.ensures.takes)

pub returns-in_err-left-clause-carries : goal.returns-in_err-left-clause-carries
returns-in_err-left-clause-carries g c =
    let g0 = c.args.graph.now in
    let d = c.full_values.new.graph in
    later-carries g.N.Analysis.codes g.N.Analysis.meaning g.met.N.Analysis.is_merge g0 d c.build_stored_listed.new.graph (extends-takes g0 d c.full_values.ensures.takes)
    (carries-takes g.N.Analysis.codes g.N.Analysis.meaning g.met.N.Analysis.is_merge g0 d c.full_values.ensures.takes) c.build_stored_listed.ensures.carries

pub returns-in_err-right-clause-carries : goal.returns-in_err-right-clause-carries
returns-in_err-right-clause-carries g c =
    let g0 = c.args.graph.now in
    let d = c.full_values.new.graph in
    let e = c.build_stored_listed.new.graph in
    let left = c.in_ok-left.ensures.ok.grows in
    let taken = extends-takes g0 d c.full_values.ensures.takes in
    let first = carries-on g.N.Analysis.codes g.N.Analysis.meaning g.met.N.Analysis.is_merge g0 d e taken
    (carries-takes g.N.Analysis.codes g.N.Analysis.meaning g.met.N.Analysis.is_merge g0 d c.full_values.ensures.takes) left.graph.well c.build_stored_listed.ensures.carries in
    later-carries g.N.Analysis.codes g.N.Analysis.meaning g.met.N.Analysis.is_merge g0 e c.build_stored_listed-2.new.graph (extends-then g0 d e taken left.extends) first c.build_stored_listed-2.ensures.carries

pub returns-clause-carries : goal.returns-clause-carries
returns-clause-carries g c =
    let g0 = c.args.graph.now in
    let d = c.full_values.new.graph in
    let e = c.build_stored_listed.new.graph in
    let f = c.build_stored_listed-2.new.graph in
    let h = c.union_quietly.new.self in
    let left = c.in_ok-left.ensures.ok.grows in
    let right = c.in_ok-right.ensures.ok.grows in
    let taken = extends-takes g0 d c.full_values.ensures.takes in
    let start = carries-takes g.N.Analysis.codes g.N.Analysis.meaning g.met.N.Analysis.is_merge g0 d c.full_values.ensures.takes in
    let first = carries-on g.N.Analysis.codes g.N.Analysis.meaning g.met.N.Analysis.is_merge g0 d e taken start left.graph.well c.build_stored_listed.ensures.carries in
    let there = extends-then g0 d e taken left.extends in
    let both = carries-on g.N.Analysis.codes g.N.Analysis.meaning g.met.N.Analysis.is_merge g0 e f there first right.graph.well c.build_stored_listed-2.ensures.carries in
    later-carries g.N.Analysis.codes g.N.Analysis.meaning g.met.N.Analysis.is_merge g0 f h (extends-then g0 e f there right.extends) both
    (written-carries g.N.Analysis.codes g.N.Analysis.meaning c.union_quietly.result f h c.union_quietly.ensures.fails.1 c.union_quietly.ensures.carries)
