use Rattle.std.proofs.Common.{◌∙◌}
use Rattle.slotted_reports.proofs.checking.is_same.Goals as goal

pub returns : goal.returns
returns g c e = c.eq.ensures ∙ (g.met.L.LanguageChildren.same c.args.left.now c.args.right.now).1 e
