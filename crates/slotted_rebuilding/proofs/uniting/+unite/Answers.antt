use Rattle.std.proofs.Common.{◌<◌, OnOk, subst, arith, rules, ◌∙◌, sym, ap, length}
use Rattle.indexmap.proofs.MapLemmas.{OnOk-map}
use Rattle.slotted_rebuilding.specs.Uniting.{StepsBy}
use Rattle.slotted_rebuilding.proofs.GrownRows.{grown-count}
use Rattle.slotted_rebuilding.proofs.UniteSteps.{lost-large}
use Rattle.slotted_hashcons.specs.FiledRows.{Rows}
use Rattle.slotted_rebuilding.specs.Filed.{UnitesFiled}
use Rattle.slotted_proofs.proofs.Refusals.{slots_left}
use Rattle.slotted_rebuilding.proofs.LargeClasses.{had-slots, same-error}
use Rattle.slotted_rebuilding.proofs.FiledUnions.{done-filed, touched-filed, dropped-filed}
use Rattle.slotted_rebuilding.proofs.uniting.+unite.Goals as goal

pub returns-in-Done-clause-ok : goal.returns-in-Done-clause-ok
returns-in-Done-clause-ok g t c =
    let k = c.args.store.now in
    let l = c.unite_once.new.store in
    done-filed c.args.p k l c.args.nodes.now (subst (StepsBy c.args.p k l) c.in-Done.is c.in_ok-unite_once.ensures.ok)

pub touch-requires : goal.touch-requires
touch-requires g t c =
    let s = subst (StepsBy c.args.p c.args.store.now c.unite_once.new.store) c.in-Linked.is c.in_ok-unite_once.ensures.ok in
    subst (λ n. c.in-Linked.class < n) (sym (ap (λ (r : Rows). length r.filed) c.move_nodes.ensures ∙ c.requires.count)) s.did.in_range

pub touch-requires-in-Dropped : goal.touch-requires-in-Dropped
touch-requires-in-Dropped g t c =
    let s = subst (StepsBy c.args.p c.args.store.now c.unite_once.new.store) c.in-Dropped.is c.in_ok-unite_once.ensures.ok in
    subst (λ n. c.in-Dropped.class < n) (sym c.requires.count) s.did.in_range

pub returns-in_err-unite_once-clause-full : goal.returns-in_err-unite_once-clause-full
returns-in_err-unite_once-clause-full g t c h = c.in_err-unite_once.ensures.full (same-error c.from_residual.result c.in_err-unite_once.field-0.0 _ c.from_residual.ensures.1 h)

pub returns-in_err-touch-in-Dropped-clause-full : goal.returns-in_err-touch-in-Dropped-clause-full
returns-in_err-touch-in-Dropped-clause-full g t c h = absurd (had-slots c.from_residual-in_err-touch-in-Dropped.result c.in_err-touch-in-Dropped.field-0.0 c.from_residual-in_err-touch-in-Dropped.ensures.1 c.in_err-touch-in-Dropped.ensures.err h)

pub entry-requires : goal.entry-requires
entry-requires g t c =
    let k = c.args.store.now in
    let l = c.unite_once.new.store in
    let s = subst (StepsBy c.args.p k l) c.in-Linked.is c.in_ok-unite_once.ensures.ok in
    omega (arith, s.did.in_range, grown-count k l s.grows)

pub returns-in-Linked-clause-ok : goal.returns-in-Linked-clause-ok
returns-in-Linked-clause-ok g t c =
    let k = c.args.store.now in
    let r = c.args.nodes.now in
    let l = c.unite_once.new.store in
    let q = c.touch.new.self in
    let s = subst (StepsBy c.args.p k l) c.in-Linked.is c.in_ok-unite_once.ensures.ok in
    subst (λ x. OnOk c.touch.result (UnitesFiled c.args.p k x l q)) c.move_nodes.ensures
    (touched-filed c.args.p k l c.move_nodes.new.self q c.in-Linked.class s c.touch.result c.touch.ensures.waiting c.touch.ensures.waits)

pub returns-in-Linked-clause-full : goal.returns-in-Linked-clause-full
returns-in-Linked-clause-full g t c h = absurd (slots_left c.touch.result c.touch.ensures.err h)

pub unite-requires : goal.unite-requires
unite-requires g t c =
    let k = c.args.store.now in
    let l = c.unite_once.new.store in
    let s = subst (StepsBy c.args.p k l) c.in-Dropped.is c.in_ok-unite_once.ensures.ok in
    let small = s.did.smaller in
    let count = ap length c.in_ok-touch-in-Dropped.ensures.waits.same ∙ (c.requires.count ∙ sym (grown-count k l s.grows)) in
    λ κs h. (omega (arith, small, c.decreases), (search rules, (s.stored, (s.within, count))))

pub returns-in_ok-touch-in-Dropped-clause-ok : goal.returns-in_ok-touch-in-Dropped-clause-ok
returns-in_ok-touch-in-Dropped-clause-ok g t c =
    let k = c.args.store.now in
    let l = c.unite_once.new.store in
    let s = subst (StepsBy c.args.p k l) c.in-Dropped.is c.in_ok-unite_once.ensures.ok in
    OnOk-map c.unite.result (UnitesFiled c.args.p l c.touch-in-Dropped.new.self c.unite.new.store c.unite.new.nodes) (UnitesFiled c.args.p k c.args.nodes.now c.unite.new.store c.unite.new.nodes)
    (dropped-filed c.args.p k l c.args.nodes.now c.touch-in-Dropped.new.self c.in-Dropped.class s c.in_ok-touch-in-Dropped.ensures.waiting c.in_ok-touch-in-Dropped.ensures.waits c.unite.new.store c.unite.new.nodes)
    c.unite.ensures.ok

pub returns-in_ok-touch-in-Dropped-clause-full : goal.returns-in_ok-touch-in-Dropped-clause-full
returns-in_ok-touch-in-Dropped-clause-full g t c h =
    let k = c.args.store.now in
    let l = c.unite_once.new.store in
    let s = subst (StepsBy c.args.p k l) c.in-Dropped.is c.in_ok-unite_once.ensures.ok in
    lost-large k l c.args.p c.in-Dropped.class s c.requires.good c.requires.within (c.unite.ensures.full h)
