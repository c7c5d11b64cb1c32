use Rattle.std.proofs.Common.{◌++◌, ap, ◌∙◌}
use Rattle.slotted_patterns.proofs.PieceTexts.{stacked}
use Rattle.slotted_patterns.proofs.pattern.printing.stack_up.Goals as goal

pub returns-clause-ok : goal.returns-clause-ok
returns-clause-ok g c =
    stacked g.L.LanguageChildren.shown c.args.left.now.items c.append.new.self.items c.args.pieces.items (c.in_ok-append.ensures.items ∙ ap (λ x. c.args.left.now.items ++ x) c.reverse.ensures.items)
