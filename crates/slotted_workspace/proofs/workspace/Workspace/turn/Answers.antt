use Rattle.std.proofs.Common.{◌∙◌, ap, subst}
use Rattle.std.specs.Prelude.{map}
use Rattle.std.proofs.lemmas.Result.{err_from_is_err_and}
use Rattle.slotted_workspace.specs.Runs.{OfRules}
use Rattle.slotted_workspace.specs.Spaces.{Space, rule_of}
use Rattle.slotted_workspace.specs.Turns.{TakesTurn, TurnRefused}
use Rattle.slotted_workspace.proofs.Methods.{call-refused, can-run}
use Rattle.slotted_workspace.proofs.Staying.{sane-later}
use Rattle.slotted_workspace.proofs.workspace.Workspace.turn.Goals as goal

pub take_turn-requires : goal.take_turn-requires
take_turn-requires g c =
    let w = c.self.inside in
    can-run g.L.LanguageChildren.form w.graph w.kept.items w.rules.items c.deref.result.now c.deref.ensures.value c.self.invariant

pub invariant_of-self : goal.invariant_of-self
invariant_of-self g c =
    let w = c.self.inside in
    sane-later g.L.LanguageChildren.form w.graph c.take_turn.new.graph w.kept.items w.rules.items c.in_err-take_turn.ensures.extends c.in_err-take_turn.ensures.stays c.self.invariant

pub invariant_of-self-2 : goal.invariant_of-self-2
invariant_of-self-2 g c =
    let w = c.self.inside in
    sane-later g.L.LanguageChildren.form w.graph c.take_turn.new.graph w.kept.items w.rules.items c.in_ok-take_turn.ensures.extends c.in_ok-take_turn.ensures.stays c.self.invariant

pub returns-clause-ok : goal.returns-clause-ok
returns-clause-ok g c =
    let form = g.L.LanguageChildren.form in
    let rules = c.deref.result.now in
    let view = c.self.view_is in (
      rules,
      ap (map (rule_of form)) c.deref.ensures.value ∙ (λ i. (view i).rules),
      subst (λ (x : Space). TakesTurn form rules x.graph c.take_turn.new.graph c.in_ok-take_turn.field-0) view c.in_ok-take_turn.ensures.ok,
    )

pub returns-in_err-take_turn-clause-err : goal.returns-in_err-take_turn-clause-err
returns-in_err-take_turn-clause-err g c =
    let form = g.L.LanguageChildren.form in
    let w = c.self.inside in
    let s = c.args.self.now in
    let h = c.take_turn.new.graph in
    let view = c.self.view_is in
    let p = err_from_is_err_and c.from_residual.result c.from_residual.ensures.1 in
    rw (p.1, p.2) (call-refused form w.number w.graph w.kept.items w.rules.items w.sparing s view (λ x e. OfRules form s (λ rules. TurnRefused form rules x h e)) h c.in_err-take_turn.field-0.0
    (c.deref.result.now, ap (map (rule_of form)) c.deref.ensures.value ∙ (λ i. (view i).rules), c.in_err-take_turn.ensures.err))
