-- A piece is written, or gives way to its pieces.
use Rattle.std.proofs.Common.{◌++◌, string_bytes, sym, ap, ◌∙◌, arith}
use Rattle.slotted_patterns.proofs.PieceTexts.{popped, popped_weight}
use Rattle.slotted_patterns.proofs.pattern.Pattern.text.Goals as goal

pub loop-piece-smaller : goal.loop-piece-smaller
loop-piece-smaller g c =
    omega (arith, c.in_ok-write_piece.ensures.less, popped_weight g.L.LanguageChildren.shown c.loop-piece.left.items c.pop.new.self.items c.pop.result c.in-Some.piece c.pop.ensures.items c.in-Some.is)

pub loop-piece-preserved : goal.loop-piece-preserved
loop-piece-preserved g c =
    c.in_ok-write_piece.ensures.ok
    ∙ (ap (λ x. string_bytes c.loop-piece.text ++ x) (sym (popped g.L.LanguageChildren.shown c.args.table.now c.loop-piece.left.items c.pop.new.self.items c.pop.result c.in-Some.piece c.pop.ensures.items c.in-Some.is)) ∙ c.loop-piece.invariant)
