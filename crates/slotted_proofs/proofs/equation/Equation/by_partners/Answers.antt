use Rattle.slotted_model.specs.Applied.{keys}
use Rattle.slotted_proofs.proofs.Bridges.{slots-once}
use Rattle.std.proofs.Common.{◌+◌, length, refl, inr}
use Rattle.slotted_proofs.proofs.Refusals.{memory_short, slots_left, too_many, few_many}
use Rattle.slotted_slots.specs.Table.{slot_limit}
use Rattle.slotted_proofs.proofs.equation.Equation.by_partners.Goals as goal

pub number_sides-requires-clause-left_once : goal.number_sides-requires-clause-left_once
number_sides-requires-clause-left_once c = slots-once (keys c.args.l.now.m) c.is_short.ensures.left_ascends

pub number_sides-requires-clause-right_once : goal.number_sides-requires-clause-right_once
number_sides-requires-clause-right_once c = slots-once (keys c.args.r.now.m) c.is_short.ensures.right_ascends

pub number_sides-requires-clause-partners : goal.number_sides-requires-clause-partners
number_sides-requires-clause-partners c = c.requires

pub returns-clause-ok : goal.returns-clause-ok
returns-clause-ok c = c.number_sides.ensures.ok

pub returns-clause-full : goal.returns-clause-full
returns-clause-full c = (λ e. absurd (slots_left c.number_sides.result c.number_sides.ensures.err e), λ many. absurd (few_many (length c.args.l.now.m + length c.args.r.now.m) slot_limit (c.is_short.ensures.short.0 c.if-not-is_short.false) many))

pub returns-clause-err : goal.returns-clause-err
returns-clause-err c = memory_short c.number_sides.result c.number_sides.ensures.err

pub number_sides-requires-clause-few : goal.number_sides-requires-clause-few
number_sides-requires-clause-few c = c.is_short.ensures.short.0 c.if-not-is_short.false

pub returns-then-not-is_short-clause-full : goal.returns-then-not-is_short-clause-full
returns-then-not-is_short-clause-full c = (λ _. too_many c.is_short.result (length c.args.l.now.m + length c.args.r.now.m) slot_limit c.is_short.ensures.short.1 c.if-not-is_short.true, λ _. refl)

pub returns-then-not-is_short-clause-err : goal.returns-then-not-is_short-clause-err
returns-then-not-is_short-clause-err c = inr refl
