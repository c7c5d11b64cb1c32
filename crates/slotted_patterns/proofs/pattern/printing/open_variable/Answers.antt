use Rattle.slotted_patterns.proofs.PieceTexts.{pushed, then}
use Rattle.slotted_patterns.proofs.pattern.printing.open_variable.Goals as goal

pub returns-clause-ok : goal.returns-clause-ok
returns-clause-ok g c =
    let w = g.L.LanguageChildren.shown in
    then w c.args.left.now.items c.push.new.self.items c.push-2.new.self.items
    (pushed w c.push.new.self.items c.push-2.new.self.items _ c.in_ok-push-2.ensures.items)
    (pushed w c.args.left.now.items c.push.new.self.items _ c.in_ok-push.ensures.items)
