use Rattle.std.proofs.Common.{◌≡◌, ◌⊎◌, inl, inr, refl}
use Rattle.slotted_slots.specs.Error.{IsShortage}
use Rattle.slotted_patterns.specs.View.{tree_of}
use Rattle.slotted_rule_patterns.specs.Values.{values_of}
use Rattle.slotted_rules.proofs.Carrying.{carries-itself}
use Rattle.slotted_rules.specs.Refusals.{AreMissing}
use Rattle.slotted_rules.proofs.Answering.{err-handed}
use Rattle.slotted_rules.proofs.uniting.test_and_unite.Goals as goal

pub returns-in_err-check_both-clause-err : goal.returns-in_err-check_both-clause-err
returns-in_err-check_both-clause-err g c =
    let form = g.L.LanguageChildren.form in
    let e = c.in_err-check_both.field-0.0 in
    let why : IsShortage e ⊎ (AreMissing (values_of c.args.subst.now) (tree_of form c.args.a.now) (tree_of form c.args.b.now) e × (c.args.graph.now ≡ c.args.graph.now)) =
    elim c.in_err-check_both.ensures.err [ inl s ↦ inl s | inr m ↦ inr (m, refl) ] in
    err-handed c.from_residual.result e _ c.from_residual.ensures.1 why

pub returns-in_err-check_both-clause-carries : goal.returns-in_err-check_both-clause-carries
returns-in_err-check_both-clause-carries g c = inr (carries-itself g.N.Analysis.codes g.N.Analysis.meaning g.met.N.Analysis.is_merge c.args.graph.now)
