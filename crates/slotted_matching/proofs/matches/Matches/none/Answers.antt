use Rattle.std.proofs.Common.{map, string_bytes, ap}
use Rattle.slotted_proofs.specs.Equations.{to_applied}
use Rattle.slotted_matching.proofs.AnswersOver.{no-answers}
use Rattle.slotted_matching.proofs.matches.Matches.none.Goals as goal

pub new-requires-3 : goal.new-requires-3
new-requires-3 c = no-answers (map string_bytes c.new.result.items) (map to_applied c.new-2.result.items) (ap (map string_bytes) c.new.ensures.items) (ap (map to_applied) c.new-2.ensures.items)
