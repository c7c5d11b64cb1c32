use Rattle.std.proofs.Common.{sym, ◌∙◌, ap, length, map}
use Rattle.std.specs.Prelude.{string_bytes}
use Rattle.slotted_proofs.specs.Equations.{to_applied}
use Rattle.slotted_matching.proofs.AnswersOver.{length-answers_over}
use Rattle.slotted_matching.proofs.matches.Matches.len.Goals as goal

pub returns : goal.returns
returns c =
    let m = c.self.inside in
    sym (length-answers_over (map string_bytes m.variables.items) (map to_applied m.ids.items) m.count) ∙ ap length c.self.view_is
