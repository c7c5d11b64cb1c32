use Rattle.std.proofs.Common.{refl, arith}
use Rattle.slotted_patterns.proofs.PieceTexts.{pushed, then, stacks_as}
use Rattle.slotted_patterns.proofs.pattern.printing.open_substitution.Goals as goal

pub returns-clause-ok : goal.returns-clause-ok
returns-clause-ok g c =
    let w = g.L.LanguageChildren.shown in
    stacks_as w (λ t. refl) (omega arith) (then w c.args.left.now.items c.push-5.new.self.items c.push-6.new.self.items (pushed w c.push-5.new.self.items c.push-6.new.self.items _ c.in_ok-push-6.ensures.items) (then w c.args.left.now.items c.push-4.new.self.items c.push-5.new.self.items (pushed w c.push-4.new.self.items c.push-5.new.self.items _ c.in_ok-push-5.ensures.items) (then w c.args.left.now.items c.push-3.new.self.items c.push-4.new.self.items (pushed w c.push-3.new.self.items c.push-4.new.self.items _ c.in_ok-push-4.ensures.items) (then w c.args.left.now.items c.push-2.new.self.items c.push-3.new.self.items (pushed w c.push-2.new.self.items c.push-3.new.self.items _ c.in_ok-push-3.ensures.items) (then w c.args.left.now.items c.push.new.self.items c.push-2.new.self.items (pushed w c.push.new.self.items c.push-2.new.self.items _ c.in_ok-push-2.ensures.items) (pushed w c.args.left.now.items c.push.new.self.items _ c.in_ok-push.ensures.items))))))
