use Rattle.std.proofs.Common.{◌∙◌}
use Rattle.slotted_match_machine.specs.Views.{names_at}
use Rattle.slotted_match_machine.proofs.Pairs.{paired_all-lengths}
use Rattle.slotted_match_machine.proofs.pairing.pair_all.Goals as goal

pub returns-then-len-slots-clause-paired : goal.returns-then-len-slots-clause-paired
returns-then-len-slots-clause-paired c =
    paired_all-lengths _ (names_at c.args.frames.now c.args.names.now) c.args.slots.now (λ e. c.if-len-slots.true (c.len.ensures c.args.frames.now c.requires ∙ e))
