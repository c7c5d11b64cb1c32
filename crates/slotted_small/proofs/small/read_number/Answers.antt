use Rattle.std.proofs.Common.{◌∙◌}
use Rattle.slotted_slots.proofs.NamingLaws.{reads_u32-parses}
use Rattle.slotted_small.proofs.small.read_number.Goals as goal

pub returns : goal.returns
returns c = c.ok.ensures.value ∙ reads_u32-parses c.args.text.now c.parse.result c.parse.ensures.value.0
