use Rattle.std.proofs.Common.{◌∙◌, sym, subst, arith, rules}
use Rattle.std.specs.Prelude.{IfSome, IfNone}
use Rattle.indexmap.proofs.MapLemmas.{OnOk-map}
use Rattle.slotted_rebuilding.specs.Settling.{IsUnaligned, AreAligned}
use Rattle.slotted_rebuilding.proofs.SettlingSteps.{unaligned-within, unaligned-large, act-smaller, act-large}
use Rattle.slotted_rebuilding.specs.Filed.{SettlesFiled}
use Rattle.slotted_rebuilding.proofs.LargeClasses.{had-slots, same-error}
use Rattle.slotted_rebuilding.proofs.SymmetryActs.{settled-filed, found-aligned, acted-well, acted-then}
use Rattle.slotted_rebuilding.proofs.settling.+settle_all.Goals as goal

pub returns-then-not-is_dropped-clause-ok : goal.returns-then-not-is_dropped-clause-ok
returns-then-not-is_dropped-clause-ok g t c =
    settled-filed c.args.store.now c.args.nodes.now c.requires.good (sym c.is_dropped.ensures ∙ c.if-not-is_dropped.true)

pub returns-in_default-clause-ok : goal.returns-in_default-clause-ok
returns-in_default-clause-ok g t c =
    let k = c.args.store.now in
    found-aligned k c.settle.new.self c.args.nodes.now c.requires.good (subst (λ o. IfNone o (AreAligned k)) c.in_default.is c.in_ok-p.ensures.none) c.settle.ensures

pub unite-requires-clause-good : goal.unite-requires-clause-good
unite-requires-clause-good g t c = c.requires.good.stored

pub unite-requires-clause-count : goal.unite-requires-clause-count
unite-requires-clause-count g t c = c.requires.good.count

pub next_unaligned-requires : goal.next_unaligned-requires
next_unaligned-requires g t c = record { good = c.requires.good.stored }

pub unite-requires-clause-within : goal.unite-requires-clause-within
unite-requires-clause-within g t c =
    let k = c.args.store.now in
    unaligned-within k c.requires.good.stored c.in-Some.p (subst (λ o. IfSome o (IsUnaligned k)) c.in-Some.is c.in_ok-p.ensures.some)

pub settle_all-requires : goal.settle_all-requires
settle_all-requires g t c =
    let k = c.args.store.now in
    let u = subst (λ o. IfSome o (IsUnaligned k)) c.in-Some.is c.in_ok-p.ensures.some in
    let small = act-smaller k c.requires.good.stored c.in-Some.p u c.unite.new.store c.in_ok-unite.ensures.ok.by in
    let well = acted-well k c.args.nodes.now c.requires.good c.in-Some.p u c.unite.new.store c.unite.new.nodes c.in_ok-unite.ensures.ok in
    λ κs h. (omega (arith, small, c.decreases), (search rules, well))

pub returns-clause-ok : goal.returns-clause-ok
returns-clause-ok g t c =
    let k = c.args.store.now in
    let r = c.args.nodes.now in
    let u = subst (λ o. IfSome o (IsUnaligned k)) c.in-Some.is c.in_ok-p.ensures.some in
    OnOk-map c.settle_all.result (SettlesFiled c.unite.new.store c.unite.new.nodes c.settle_all.new.store c.settle_all.new.nodes) (SettlesFiled k r c.settle_all.new.store c.settle_all.new.nodes)
    (acted-then k r c.requires.good c.in-Some.p u c.unite.new.store c.unite.new.nodes c.in_ok-unite.ensures.ok c.settle_all.new.store c.settle_all.new.nodes)
    c.settle_all.ensures.ok

pub returns-in_err-p-clause-full : goal.returns-in_err-p-clause-full
returns-in_err-p-clause-full g t c h = absurd (had-slots c.from_residual.result c.in_err-p.field-0.0 c.from_residual.ensures.1 c.in_err-p.ensures.err h)

pub returns-in_err-unite-clause-full : goal.returns-in_err-unite-clause-full
returns-in_err-unite-clause-full g t c h =
    let k = c.args.store.now in
    let u = subst (λ o. IfSome o (IsUnaligned k)) c.in-Some.is c.in_ok-p.ensures.some in
    unaligned-large k c.requires.good.stored c.in-Some.p u (c.in_err-unite.ensures.full (same-error c.from_residual-in_err-unite.result c.in_err-unite.field-0.0 _ c.from_residual-in_err-unite.ensures.1 h))

pub returns-clause-full : goal.returns-clause-full
returns-clause-full g t c h =
    let k = c.args.store.now in
    let u = subst (λ o. IfSome o (IsUnaligned k)) c.in-Some.is c.in_ok-p.ensures.some in
    act-large k c.requires.good.stored c.in-Some.p u c.unite.new.store c.in_ok-unite.ensures.ok.by (c.settle_all.ensures.full h)
