use Rattle.std.proofs.Common.{sym, refl, ◌∙◌}
use Rattle.std.proofs.lemmas.Bool.{false≢true}
use Rattle.slotted_outlines.specs.Seen.{lefts, rights, IsOwn}
use Rattle.slotted_outlines.proofs.Matched.{own_same, other_same, IfOk-same}
use Rattle.slotted_outlines.proofs.outlines.Outlines.same_place.Goals as goal

pub returns-then-is_own-clause-same : goal.returns-then-is_own-clause-same
returns-then-is_own-clause-same g c =
    let f = g.L.LanguageChildren.form c.args.self.now.one in
    let n = g.L.LanguageChildren.form c.args.self.now.two in
    let s = g.L.LanguageChildren.form c.args.self.now.skeleton in
    let ps = c.args.binders.now.items in
    IfOk-same _ (own_same f n s (lefts ps) (rights ps) c.args.i c.requires.matched (g.met.L.LanguageChildren.fits c.args.self.now.one) c.requires.within (c.is_own.ensures.0 c.if-is_own.true)) c.same_own.ensures.same

pub returns-else-is_own-clause-same : goal.returns-else-is_own-clause-same
returns-else-is_own-clause-same g c =
    let f = g.L.LanguageChildren.form c.args.self.now.one in
    let n = g.L.LanguageChildren.form c.args.self.now.two in
    let s = g.L.LanguageChildren.form c.args.self.now.skeleton in
    let ps = c.args.binders.now.items in
    let other : IsOwn f.tree c.args.i → ⊥ = λ h. false≢true (sym c.if-is_own.false ∙ c.is_own.ensures.1 h) in
    let e = other_same f n s (lefts ps) (rights ps) c.args.i c.requires.matched (g.met.L.LanguageChildren.fits c.args.self.now.one) c.requires.within other in
    (λ _. e, λ _. refl)
