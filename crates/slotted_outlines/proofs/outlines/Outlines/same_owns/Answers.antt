use Rattle.std.proofs.Common.{refl, arith}
use Rattle.slotted_outlines.specs.Seen.{lefts, rights}
use Rattle.slotted_outlines.proofs.Matched.{owns_same}
use Rattle.slotted_outlines.proofs.outlines.Outlines.same_owns.Goals as goal

pub returns-clause-same : goal.returns-clause-same
returns-clause-same g c =
    let f = g.L.LanguageChildren.form c.args.self.now.one in
    let n = g.L.LanguageChildren.form c.args.self.now.two in
    let s = g.L.LanguageChildren.form c.args.self.now.skeleton in
    let ps = c.args.binders.now.items in
    let fits = g.met.L.LanguageChildren.fits c.args.self.now.one in
    let e = owns_same f n s (lefts ps) (rights ps) c.requires fits (λ i h. c.loop-i.invariant.same i (omega (arith, c.loop-i-test.false, c.slot_count-i-end.ensures, c.requires.small))) in
    (λ _. e, λ _. refl)
