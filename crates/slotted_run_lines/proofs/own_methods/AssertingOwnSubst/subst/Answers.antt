use Rattle.std.proofs.Common.{inr}
use Rattle.std.specs.Prelude.{None}
use Rattle.slotted_proofs.specs.Equations.{to_applied}
use Rattle.slotted_graph.specs.Extension.{ExtendsTo}
use Rattle.slotted_graph.proofs.CallerLemmas.{full-valid}
use Rattle.slotted_graph.proofs.Extending.{extends-united}
use Rattle.slotted_rules.proofs.Carrying.{carried-along, carries-for}
use Rattle.slotted_run_lines.proofs.own_methods.AssertingOwnSubst.subst.Goals as goal

pub union_quietly-requires-clause-left : goal.union_quietly-requires-clause-left
union_quietly-requires-clause-left g c = inr (full-valid c.args.graph.now (to_applied c.args.x) c.requires.part)

pub union_quietly-requires-clause-right : goal.union_quietly-requires-clause-right
union_quietly-requires-clause-right g c = inr (full-valid c.args.graph.now (to_applied c.args.t) c.requires.value)

pub returns-clause-valid : goal.returns-clause-valid
returns-clause-valid g c =
    let extends : ExtendsTo c.args.graph.now c.union_quietly.new.self = extends-united c.args.graph.now c.union_quietly.new.self c.args.x c.args.t None c.in_ok-union_quietly.field-0 c.in_ok-union_quietly.ensures.union c.in_ok-union_quietly.ensures.text c.in_ok-union_quietly.ensures.table in
    extends.valid (to_applied c.args.b) (full-valid c.args.graph.now (to_applied c.args.b) c.requires.body)

pub returns-clause-extends : goal.returns-clause-extends
returns-clause-extends g c =
    inr (extends-united c.args.graph.now c.union_quietly.new.self c.args.x c.args.t None c.in_ok-union_quietly.field-0 c.in_ok-union_quietly.ensures.union c.in_ok-union_quietly.ensures.text c.in_ok-union_quietly.ensures.table)

pub returns-clause-carries : goal.returns-clause-carries
returns-clause-carries g c = inr (carries-for g.N.Analysis.codes g.N.Analysis.meaning {P = Unit {0}} c.args.graph.now c.union_quietly.new.self (λ k. tt) (carried-along g.N.Analysis.codes g.N.Analysis.meaning c.args.graph.now c.union_quietly.new.self c.in_ok-union_quietly.ensures.carries))
