use Rattle.std.proofs.Common.{sym, ◌∙◌, arith}
use Rattle.slotted_patterns.proofs.Shapes.{same_counts}
use Rattle.slotted_patterns.proofs.pattern.comparing.same_heads.Goals as goal

pub returns-then-eq : goal.returns-then-eq
returns-then-eq g c =
    same_counts g.L.PartialEq.eq c.args.one.now c.args.two.now c.in-ENode-ENode.one c.in-ENode-ENode.two c.in-ENode-ENode.ones c.in-ENode-ENode.twos c.in-ENode-ENode.is-0 c.in-ENode-ENode.is-1 c.len.result c.len-then-eq.result
    (omega (arith, c.len.ensures, c.in-ENode-ENode.ones.ok.0)) (omega (arith, c.len-then-eq.ensures, c.in-ENode-ENode.twos.ok.0)) (sym c.eq.ensures ∙ c.if-eq.true)
