use Rattle.std.proofs.Common.{◌∙◌, ap, sym, subst, [], ◌∷◌, ◌++◌, ◌+◌}
use Rattle.slotted_matching.specs.Compiled.{Compiling, Enters}
use Rattle.slotted_match_machine.specs.declared.program.Step.TheVariants.{Node}
use Rattle.slotted_matching.proofs.StepSlots.{held-same, held-begins, held-node}
use Rattle.slotted_matching.proofs.Compiling.{enters-node}
use Rattle.slotted_matching.proofs.compile.Compiler.enter.Goals as goal

pub returns-clause-ok : goal.returns-clause-ok
returns-clause-ok g c =
    let form = g.L.LanguageChildren.form in
    let view = c.self.view_is in
    subst (Enters c.args.skeletons.now c.args.self.now _ (form c.args.node.now) c.args.from) (ap (λ (m : Compiling). m.next) (sym view))
    (enters-node c.args.skeletons.now c.args.self.now _ (form c.args.node.now) c.args.from c.in_ok-outline.outline c.in_ok-slots.slots
    c.in_ok-outline.ensures.ok (c.in_ok-slots.ensures.ok ∙ (c.deref.ensures.value ∙ c.in_ok-owns.ensures.ok))
    (ap (λ (m : Compiling). m.seen) view) (ap (λ (m : Compiling). m.next + 1) view)
    (c.in_ok-push.ensures.items ∙ ap (λ (m : Compiling). m.steps ++ Node c.in_ok-outline.outline c.in_ok-slots.slots c.args.from ∷ []) view))

pub invariant_of-self : goal.invariant_of-self
invariant_of-self g c = held-begins c.self.inside.next c.self.inside.steps.items c.self.inside.slots.items c.raw_slots.new.all.items c.raw_slots.ensures.begins c.self.invariant

pub invariant_of-self-in_err-push : goal.invariant_of-self-in_err-push
invariant_of-self-in_err-push g c =
    held-begins c.self.inside.next c.push.new.self.items c.self.inside.slots.items c.raw_slots.new.all.items c.raw_slots.ensures.begins
    (held-same c.self.inside.next c.self.inside.steps.items c.push.new.self.items c.self.inside.slots.items c.in_err-push.ensures.items c.self.invariant)

pub invariant_of-self-2 : goal.invariant_of-self-2
invariant_of-self-2 g c =
    (held-node c.self.inside.next c.self.inside.steps.items c.push.new.self.items c.self.inside.slots.items c.raw_slots.new.all.items c.in_ok-outline.outline c.in_ok-slots.slots c.args.from c.in_ok-push.ensures.items
    (c.in_ok-slots.ensures.all ∙ ap (λ l. c.self.inside.slots.items ++ l) (sym c.in_ok-slots.ensures.ok)) c.self.invariant).1
