use Rattle.std.proofs.Common.{◌≡◌, ◌≤◌, ◌+◌, ◌++◌, ℕ, Option, Some, None, length, arith, ap, ◌∙◌, sym, suc}
use Rattle.std.specs.Prelude.{cond, is_some}
use Rattle.slotted_slots.specs.Maps.{value_of}
use Rattle.slotted_model.specs.Applied.{keys}
use Rattle.slotted_proofs.specs.Equations.{named_after}
use Rattle.slotted_proofs.proofs.NumberedSides.{side-step}
use Rattle.slotted_proofs.proofs.numbering.name_slots.Goals as goal

-- at most one number is taken
at_most_one : (o : Option ℕ) (n m : ℕ) → m ≡ cond (is_some o) n (n + 1) → m ≤ n + 1
at_most_one None n m e = omega (arith, e)
at_most_one (Some x) n m e = omega (arith, e)

pub loop-slot-preserved : goal.loop-slot-preserved
loop-slot-preserved c =
    let rest = c.in-Some.ensures.steps in
    let name = c.name_or_next-name in
    record {
      whole = ap (λ m. m ++ named_after c.args.known.now name.new.next (keys c.next.new.self)) c.in_ok-insert.ensures.ok
          ∙ side-step c.args.known.now c.args.first (keys c.args.map.now) c.loop-slot.side c.loop-slot.next c.in-Some.slot name.result name.new.next (keys c.next.new.self) c.iter-slot-items.ensures.ascending name.ensures.name name.ensures.next
          (ap (λ m. c.loop-slot.side ++ named_after c.args.known.now c.loop-slot.next (keys m)) (sym rest) ∙ c.loop-slot.invariant.whole);
      few = let l : length c.loop-slot.slot-iterator ≡ suc (length c.next.new.self) = ap length rest in omega (arith, at_most_one (value_of c.args.known.now c.in-Some.slot) c.loop-slot.next name.new.next name.ensures.next, c.loop-slot.invariant.few);
    }
