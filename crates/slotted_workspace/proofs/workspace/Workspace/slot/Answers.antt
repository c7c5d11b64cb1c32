use Rattle.std.proofs.lemmas.Result.{err_from_is_err_and}
use Rattle.slotted_workspace.specs.Asked.{NamingRefused}
use Rattle.slotted_workspace.proofs.Methods.{call-refused, sane-read}
use Rattle.slotted_workspace.proofs.Readings.{naming-refused}
use Rattle.slotted_workspace.proofs.workspace.Workspace.slot.Goals as goal

pub invariant_of-self : goal.invariant_of-self
invariant_of-self g c = sane-read g.L.LanguageChildren.form c.self.inside.graph c.named_slot.new.self c.self.inside.kept.items c.self.inside.rules.items c.in_err-named_slot.ensures.reads c.self.invariant

pub invariant_of-self-2 : goal.invariant_of-self-2
invariant_of-self-2 g c = sane-read g.L.LanguageChildren.form c.self.inside.graph c.named_slot.new.self c.self.inside.kept.items c.self.inside.rules.items c.in_ok-named_slot.ensures.reads c.self.invariant

pub returns-in_err-named_slot-clause-err : goal.returns-in_err-named_slot-clause-err
returns-in_err-named_slot-clause-err g c =
    let w = c.self.inside in
    let h = c.named_slot.new.self in
    let e = c.in_err-named_slot.field-0.0 in
    let refused = c.in_err-named_slot.ensures in
    let p = err_from_is_err_and c.from_residual.result c.from_residual.ensures.1 in
    rw (p.1, p.2) (call-refused g.L.LanguageChildren.form w.number w.graph w.kept.items w.rules.items w.sparing c.args.self.now c.self.view_is (λ x. NamingRefused x h) h e (naming-refused w.graph h e refused.failed refused.err refused.only))
