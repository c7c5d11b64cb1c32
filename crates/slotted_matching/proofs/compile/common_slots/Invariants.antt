use Rattle.std.proofs.Common.{◌≡◌, take}
use Rattle.slotted_matching.specs.Compiled.{common_names}
use Rattle.slotted_matching.proofs.compile.common_slots.Given as goal

-- the common slots of the places so far
abbrev pub invariant-loop-i : goal.invariant-loop-i
invariant-loop-i g l =
    let form = g.L.LanguageChildren.form in
    l.slots.items ≡ common_names (take l.i (form l.first).names) (take l.i (form l.second).names)
