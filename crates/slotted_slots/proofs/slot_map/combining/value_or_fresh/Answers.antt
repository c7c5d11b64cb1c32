use Rattle.std.proofs.Common.{[], ◌∷◌, ◌++◌, ◌∙◌, subst}
use Rattle.std.specs.Prelude.{IfOk}
use Rattle.slotted_slots.specs.Maps.{IsInEither, values}
use Rattle.slotted_slots.specs.Table.{Takes}
use Rattle.slotted_slots.proofs.slot_map.combining.value_or_fresh.Goals as goal

pub returns-in-None-clause-taken : goal.returns-in-None-clause-taken
returns-in-None-clause-taken c =
    subst (λ m. IfOk c.fresh_apart.result (λ s. Takes c.args.table.now c.fresh_apart.new.table (IsInEither (s ∷ []) (values c.args.first.now ++ values m)))) (c.as_slice.ensures.value ∙ c.second.view_is) c.fresh_apart.ensures.taken
