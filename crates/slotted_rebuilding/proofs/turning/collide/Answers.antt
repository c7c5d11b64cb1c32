use Rattle.std.proofs.Common.{◌∙◌, ap, sym, subst, length}
use Rattle.slotted_hashcons.specs.FiledRows.{Rows}
use Rattle.slotted_classes.proofs.StoredFinds.{stored-finds}
use Rattle.slotted_rebuilding.specs.Filed.{UnitesFiled}
use Rattle.slotted_rebuilding.specs.Turns.{IsFirst}
use Rattle.slotted_rebuilding.proofs.Collisions.{found-shape}
use Rattle.slotted_rebuilding.proofs.CongruenceEntries.{proved-count, proved-large, proved-within}
use Rattle.slotted_rebuilding.proofs.FiledStates.{first-still}
use Rattle.slotted_rebuilding.proofs.LargeClasses.{same-error}
use Rattle.slotted_rebuilding.proofs.NormalNodes.{first-waits, waiting-within}
use Rattle.slotted_rebuilding.proofs.TurnEnds.{collides}
use Rattle.slotted_rebuilding.proofs.turning.collide.Goals as goal

pub find_class-owner-requires-clause-good : goal.find_class-owner-requires-clause-good
find_class-owner-requires-clause-good g c = stored-finds c.args.store.now c.requires.good.stored

pub find_class-owner-requires-clause-within : goal.find_class-owner-requires-clause-within
find_class-owner-requires-clause-within g c =
    let r = c.args.nodes.now in
    waiting-within c.args.store.now r c.args.class c.requires.good (first-waits r c.args.class c.requires.first)

pub collision-requires-clause-within : goal.collision-requires-clause-within
collision-requires-clause-within g c =
    let r = c.args.nodes.now in
    waiting-within c.args.store.now r c.args.class c.requires.good (first-waits r c.args.class c.requires.first)

pub unite-requires-clause-good : goal.unite-requires-clause-good
unite-requires-clause-good g c = c.in_ok-p.ensures.ok.only.stored

pub unite-requires-clause-within : goal.unite-requires-clause-within
unite-requires-clause-within g c = proved-within c.args.store.now c.collision.new.store c.args.class c.args.other c.in_ok-p.p c.in_ok-p.ensures.ok

pub unite-requires-clause-count : goal.unite-requires-clause-count
unite-requires-clause-count g c =
    proved-count c.args.store.now c.collision.new.store c.args.class c.args.other c.in_ok-p.p c.in_ok-p.ensures.ok c.uncount.new.self
    (ap (λ (r : Rows). length r.filed) c.uncount.ensures ∙ c.requires.good.count)

pub returns-in_err-p-clause-full : goal.returns-in_err-p-clause-full
returns-in_err-p-clause-full g c h = c.in_err-p.ensures.full (same-error c.from_residual.result c.in_err-p.field-0.0 _ c.from_residual.ensures.1 h)

pub returns-in_err-unite-clause-full : goal.returns-in_err-unite-clause-full
returns-in_err-unite-clause-full g c h =
    proved-large c.args.store.now c.collision.new.store c.args.class c.args.other c.in_ok-p.p c.in_ok-p.ensures.ok (c.in_err-unite.ensures.full (same-error c.from_residual-in_err-unite.result c.in_err-unite.field-0.0 _ c.from_residual-in_err-unite.ensures.1 h))

pub remove-requires : goal.remove-requires
remove-requires g c =
    first-still c.uncount.new.self c.unite.new.nodes c.args.class c.in_ok-unite.ensures.ok.waits (subst (λ r. IsFirst r c.args.class) (sym c.uncount.ensures) c.requires.first)

pub returns-clause-ok : goal.returns-clause-ok
returns-clause-ok g c =
    let k = c.args.store.now in
    let r = c.args.nodes.now in
    let s = c.requires.shape in
    collides k c.collision.new.store c.unite.new.store r c.unite.new.nodes c.remove.new.self c.args.class c.args.other c.in_ok-p.p c.requires.good (first-waits r c.args.class c.requires.first) c.requires.different
    (s.key, s.filed.0) s.filed.1 (found-shape k c.args.class s.key c.args.names.now s.node) c.in_ok-p.ensures.ok (subst (λ x. UnitesFiled c.in_ok-p.p c.collision.new.store x c.unite.new.store c.unite.new.nodes) c.uncount.ensures c.in_ok-unite.ensures.ok) c.remove.ensures
