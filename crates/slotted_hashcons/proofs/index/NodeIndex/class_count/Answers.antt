use Rattle.std.proofs.Common.{◌∙◌, length, ap, sym}
use Rattle.slotted_hashcons.proofs.JoinedNames.{length-joined}
use Rattle.slotted_hashcons.proofs.index.NodeIndex.class_count.Goals as goal

pub returns : goal.returns
returns g c = c.class_count.ensures ∙ sym (length-joined c.self.inside.keys c.self.inside.names c.self.invariant) ∙ ap length c.self.view_is
