use Rattle.std.proofs.Common.{◌≡◌, ◌++◌, ℕ, List, [], ◌∷◌, ap, ◌∙◌, arith, get_or}
use Rattle.slotted_match_machine.specs.declared.names.Names.{Names}
use Rattle.slotted_match_machine.specs.Views.{IsIn, names_at}
use Rattle.slotted_match_machine.proofs.NewNames.{named-new, named-known, names-fit}
use Rattle.slotted_match_machine.proofs.Naming.{names_at-grown}
use Rattle.slotted_match_machine.proofs.names.name_numbers.Goals as goal
use Rattle.slotted_match_machine.proofs.names.name_numbers.Goals.{in-Some+in_ok-push-in-Some, in-None+in_ok-push-in-None}

pub overflow_add-count : goal.overflow_add-count
overflow_add-count c =
    omega (arith, names-fit c.args.frames.now.items _ c.args.slots.now c.args.count c.loop-slot.slot-index _ _ c.requires.count c.loop-slot.invariant)

-- the names of the class stay
known : (old more frames now : List ℕ) (n : Names) → frames ≡ old ++ more → now ≡ frames → IsIn old n.frame → names_at now n ≡ names_at old n
known old more frames now n e f h = ap (λ fs. names_at fs n) (f ∙ e) ∙ names_at-grown old more n h

pub loop-slot-preserved : goal.loop-slot-preserved
loop-slot-preserved c =
    let old = c.args.frames.now.items in
    let names = names_at old c.args.names.now in
    let slots = c.args.slots.now in
    let frames = c.loop-slot.frames.items in
    let count = c.loop-slot.count in
    let i = c.loop-slot.slot-index in
    elim c.match-checked_sub.branch [
      | in-Some+in_ok-push-in-Some w ↦
          let same = known old _ frames w.deref.result.now c.args.names.now c.loop-slot.invariant.given w.deref.ensures.value c.requires.names in
          let name = w.get.ensures ∙ ap (λ ns. get_or ns w.in-Some.position 0) same in
          let pushed = w.in_ok-push-in-Some.ensures.items ∙ ap (λ x. frames ++ x ∷ []) name in
          rw (w.frames-is, w.count-is)
          (named-known old names slots c.args.count i frames w.push.new.self.items count w.in-Some.position c.loop-slot-test.true w.in-Some.ensures.0 w.in-Some.ensures.1 c.loop-slot.invariant pushed)
      | in-None+in_ok-push-in-None w ↦
          rw (w.frames-is, w.count-is)
          (named-new old names slots c.args.count i frames w.push-in-None.new.self.items count c.loop-slot-test.true w.in-None.ensures c.loop-slot.invariant w.in_ok-push-in-None.ensures.items)
    ]
