use Rattle.std.proofs.Common.{◌++◌, [], ◌∷◌, ap, sym, ◌∙◌}
use Rattle.slotted_match_machine.proofs.NewNames.{range-push}
use Rattle.slotted_match_machine.proofs.names.name_slots.Goals as goal

pub loop-name-preserved : goal.loop-name-preserved
loop-name-preserved c =
    c.in_ok-push.ensures.items ∙ (ap (λ xs. xs ++ c.loop-name.name ∷ []) c.loop-name.invariant ∙ sym (range-push c.loop-name.name))
