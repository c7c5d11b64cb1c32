use Rattle.std.proofs.Common.{ap, sym, subst}
use Rattle.slotted_hashcons.specs.FiledRows.{Rows, IsFiled}
use Rattle.slotted_hashcons.proofs.Together.{fit-pushed}
use Rattle.slotted_hashcons.proofs.hashcons.Hashcons.wait.Goals as goal

pub invariant_of-self-2 : goal.invariant_of-self-2
invariant_of-self-2 g c =
    fit-pushed c.self.inside.nodes c.self.inside.usages c.self.inside.waiting c.self.invariant c.args.class c.push.new.self
    (subst (λ v. IsFiled v c.args.class) (sym (ap (λ (s : Rows). s.filed) c.self.view_is)) c.requires)
    c.in_ok-push.ensures.ok
