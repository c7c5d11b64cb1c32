use Rattle.std.proofs.Common.{arith, sym, ◌∙◌}
use Rattle.slotted_outlines.proofs.Matched.{length-outlined_outline, alike_outlines, alike_matched}
use Rattle.slotted_outlines.proofs.outlines.Outlines.new.Goals as goal

pub skeleton-requires : goal.skeleton-requires
skeleton-requires g c =
    let f = g.L.LanguageChildren.form c.in_ok-one.one in
    omega (arith, c.in_ok-one.ensures.small, length-outlined_outline f _ c.in_ok-one.ensures.ok (g.met.L.LanguageChildren.fits c.in_ok-one.one))

pub skeleton-requires-2 : goal.skeleton-requires-2
skeleton-requires-2 g c =
    let f = g.L.LanguageChildren.form c.in_ok-two.two in
    omega (arith, c.in_ok-two.ensures.small, length-outlined_outline f _ c.in_ok-two.ensures.ok (g.met.L.LanguageChildren.fits c.in_ok-two.two))

pub returns-then-eq-clause-outlines : goal.returns-then-eq-clause-outlines
returns-then-eq-clause-outlines g c =
    alike_outlines _ _ _ _ _ _ c.in_ok-one.ensures.ok c.in_ok-two.ensures.ok c.in_ok-common.ensures.ok c.in_ok-other.ensures.ok ((g.met.L.LanguageChildren.same c.in_ok-common.common c.in_ok-other.other).0 (sym c.eq.ensures ∙ c.if-eq.true))

pub returns-then-eq-clause-matched : goal.returns-then-eq-clause-matched
returns-then-eq-clause-matched g c =
    alike_matched _ _ _ _ _ _ c.in_ok-one.ensures.ok c.in_ok-two.ensures.ok c.in_ok-common.ensures.ok c.in_ok-other.ensures.ok c.in_ok-one.ensures.small ((g.met.L.LanguageChildren.same c.in_ok-common.common c.in_ok-other.other).0 (sym c.eq.ensures ∙ c.if-eq.true))
