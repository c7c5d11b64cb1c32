-- The graph's measure before and after.
use Rattle.std.proofs.Common.{◌≡◌, ◌∙◌, false, Result, Ok, ap, sym, subst, IfErr}
use Rattle.std.specs.Prelude.{IsErrAnd, ◌⊎◌, IsTrue}
use Rattle.slotted_lists.proofs.Booleans.{unless-true}
use Rattle.slotted_slots.specs.declared.error.Error.{Error}
use Rattle.slotted_slots.specs.Error.{IsShortage}
use Rattle.slotted_operations.specs.Graph.{Graph}
use Rattle.slotted_graph.specs.Analysed.{LowersData}
use Rattle.slotted_rules.specs.Applying.{RefusesRules}
use Rattle.slotted_languages.proofs.HandedOn.{handed_err}
use Rattle.slotted_rules.proofs.LeftGraphs.{left-err, left-so}
use Rattle.slotted_rules.proofs.AppliedRules.{ok-well}
use Rattle.slotted_rules.proofs.Progress.{progressed, same_measure}
use Rattle.slotted_rules.proofs.applying.apply_rewrites.Goals as goal

pub returns-clause-changed : goal.returns-clause-changed
unfolding same_measure
returns-clause-changed g c =
    let a = c.apply_and_modify-applied.new.graph in
    let ok : c.apply_and_modify-applied.result ≡ Ok c.in_ok-fail_if_short.field-0 = sym c.fail_if_short.ensures.same ∙ c.in_ok-fail_if_short.was in
    let well : a.failed ≡ false = ok-well _ a.failed c.apply_and_modify-applied.result c.in_ok-fail_if_short.field-0 ok c.apply_and_modify-applied.ensures.fails in
    let left : c.fail_if_short.new.graph ≡ a = c.fail_if_short.ensures.other (λ short. subst (λ (r : Result _ Error). IsErrAnd r IsShortage) ok short) in
    progressed c.args.graph.now.image c.fail_if_short.new.graph.image c.progress-before.result c.progress.result
    (unless-true c.args.graph.now.failed (sym c.is_failed.ensures.failed ∙ c.if-is_failed.false) c.progress-before.ensures.measure)
    (unless-true c.fail_if_short.new.graph.failed (ap (λ (x : Graph). x.failed) left ∙ well) c.progress.ensures.measure)
    c.ne.result c.ne.ensures

pub returns-in_err-fail_if_short-clause-lowers : goal.returns-in_err-fail_if_short-clause-lowers
returns-in_err-fail_if_short-clause-lowers g c = left-so (LowersData g.N.Analysis.codes g.N.Analysis.meaning c.args.graph.now) c.apply_and_modify-applied.new.graph c.fail_if_short.new.graph c.apply_and_modify-applied.result c.apply_and_modify-applied.ensures.lowers c.fail_if_short.ensures.short c.fail_if_short.ensures.other

pub returns-clause-lowers : goal.returns-clause-lowers
returns-clause-lowers g c = left-so (LowersData g.N.Analysis.codes g.N.Analysis.meaning c.args.graph.now) c.apply_and_modify-applied.new.graph c.fail_if_short.new.graph c.apply_and_modify-applied.result c.apply_and_modify-applied.ensures.lowers c.fail_if_short.ensures.short c.fail_if_short.ensures.other

pub returns-in_err-fail_if_short-clause-refused : goal.returns-in_err-fail_if_short-clause-refused
returns-in_err-fail_if_short-clause-refused g c =
    let e = c.in_err-fail_if_short.field-0.0 in
    let a = c.apply_and_modify-applied in
    let i = c.fail_if_short.new.graph in
    let Refused : Error → Graph → Type 0 = λ x h. RefusesRules g.R.RewriteT.searches g.R.RewriteT.gives_up g.R.RewriteT.applies g.R.RewriteT.breaks_off c.args.rules.now c.args.graph.now h x in
    handed_err c.from_residual.result e c.from_residual.ensures.1 (λ x. IsTrue i.failed ⊎ Refused x i)
    (subst (λ (r : Result _ Error). IfErr r (λ x. IsTrue i.failed ⊎ Refused x i)) c.in_err-fail_if_short.was
    (left-err c.args.graph.now a.new.graph i a.result c.fail_if_short.result c.fail_if_short.ensures.same c.fail_if_short.ensures.short c.fail_if_short.ensures.other Refused a.ensures.refused))
