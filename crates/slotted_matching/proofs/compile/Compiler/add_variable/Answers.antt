use Rattle.std.proofs.Common.{◌∙◌, ap, sym, subst, [], ◌∷◌, ◌++◌}
use Rattle.slotted_matching.specs.Compiled.{Compiling, Numbers}
use Rattle.slotted_match_machine.specs.declared.program.Step.TheVariants.{Variable}
use Rattle.slotted_matching.proofs.Compiling.{adds-variable}
use Rattle.slotted_matching.proofs.StepSlots.{held-same, held-variable}
use Rattle.slotted_matching.proofs.compile.Compiler.add_variable.Goals as goal

pub returns-clause-ok : goal.returns-clause-ok
returns-clause-ok c S =
    let view = c.self.view_is in
    let e = c.in_ok-number.ensures in
    adds-variable S c.args.self.now _ c.args.name.now c.in_ok-number.number c.args.from
    (subst (λ (m : Compiling). Numbers c.args.self.now.seen m.seen c.args.name.now c.in_ok-number.number) (sym view) e.ok)
    (ap (λ (m : Compiling). m.next) view ∙ e.next)
    (c.in_ok-push.ensures.items ∙ ap (λ l. l ++ Variable c.in_ok-number.number c.args.from ∷ []) (ap (λ (m : Compiling). m.steps) view ∙ e.steps))

pub invariant_of-self : goal.invariant_of-self
invariant_of-self c = held-same c.self.inside.next c.self.inside.steps.items c.push.new.self.items c.self.inside.slots.items c.in_err-push.ensures.items c.self.invariant

pub invariant_of-self-2 : goal.invariant_of-self-2
invariant_of-self-2 c = held-variable c.self.inside.next c.self.inside.steps.items c.push.new.self.items c.self.inside.slots.items c.in_ok-number.number c.args.from c.in_ok-push.ensures.items c.self.invariant
