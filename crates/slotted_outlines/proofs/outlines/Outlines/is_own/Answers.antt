use Rattle.std.proofs.Common.{arith}
use Rattle.slotted_outlines.proofs.Matched.{length-skeleton}
use Rattle.slotted_outlines.proofs.outlines.Outlines.is_own.Goals as goal

pub slot-requires : goal.slot-requires
slot-requires g c =
    omega (arith, c.requires.within, c.requires.matched.small, length-skeleton _ _ _ c.requires.matched (g.met.L.LanguageChildren.fits c.args.self.now.one))
