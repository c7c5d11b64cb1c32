use Rattle.std.proofs.Common.{◌≤◌, length, sym, subst, arith}
use Rattle.std.specs.Prelude.{Contains}
use Rattle.std.proofs.lemmas.List.{take_all}
use Rattle.slotted_check.proofs.following.first_fault.Goals as goal

pub returns-clause-none : goal.returns-clause-none
returns-clause-none c =
    let le : length c.args.lines.now ≤ c.loop-place.place = omega arith in
    λ o E h e k. c.loop-place.invariant E h e (subst (λ z. Contains z e) (sym (take_all c.loop-place.place c.args.lines.now le)) k)
