-- A node that binds nothing gets its names place by place.
use Rattle.std.proofs.Common.{sym, subst}
use Rattle.slotted_slots.specs.Maps.{values}
use Rattle.slotted_languages.specs.NewNames.{IsRenamedBy, PutsIn}
use Rattle.slotted_languages.proofs.Unbound.{replaced-put, replaced-renamed}
use Rattle.slotted_languages.proofs.language.Language.apply_slotmap.Goals as goal

pub returns-then-binds_nothing-clause-renamed : goal.returns-then-binds_nothing-clause-renamed
returns-then-binds_nothing-clause-renamed g c =
    let f = g.Self.LanguageChildren.form c.args.self.now in
    subst (IsRenamedBy c.args.m.now f) (sym c.in_ok-renamed.ensures.ok)
    (replaced-renamed c.args.m.now f (g.met.Self.LanguageChildren.fits c.args.self.now) (c.binds_nothing.ensures.none c.if-binds_nothing.true) c.requires)

pub returns-then-binds_nothing-clause-known : goal.returns-then-binds_nothing-clause-known
returns-then-binds_nothing-clause-known g c =
    let f = g.Self.LanguageChildren.form c.args.self.now in
    subst (PutsIn c.args.table.now (values c.args.m.now) f) (sym c.in_ok-renamed.ensures.ok) (replaced-put c.args.table.now c.args.m.now f)
