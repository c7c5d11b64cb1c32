use Rattle.std.proofs.Common.{◌≡◌, ◌<◌, length, rules, subst, sym}
use Rattle.slotted_classes.specs.Kept.{Kept, find_at}
use Rattle.slotted_rebuilding.proofs.EnteredProofs.{entry-left, entry-right}
use Rattle.slotted_rebuilding.proofs.TurnedEntries.{still-large, still-within, after-stored, after-within, after-live, after-large}
use Rattle.slotted_rebuilding.proofs.TurnedEntries.{as-many-keeps, left-drops, after-drops, after-keeps, none-dropped}
use Rattle.slotted_rebuilding.proofs.WrittenEntries.{left-in_range, right-in_range}
use Rattle.slotted_rebuilding.specs.Uniting.{equation_in}
use Rattle.slotted_rebuilding.proofs.unions.uniting.drop_either.Goals as goal

pub turn-requires : goal.turn-requires
turn-requires g c =
    still-within c.args.store.now c.requires.good c.args.q c.requires.within c.requires.live c.drop_left.new.store
    c.in_ok-drop_left.field-0 c.if-branch.false c.in_ok-drop_left.ensures.ok

pub returns-in_err-turned-clause-full : goal.returns-in_err-turned-clause-full
returns-in_err-turned-clause-full g c h =
    still-large c.args.store.now c.requires.good c.args.q c.requires.within c.requires.live c.drop_left.new.store
    c.in_ok-drop_left.field-0 c.if-branch.false c.in_ok-drop_left.ensures.ok
    (c.in_err-turned.ensures.full (search rules))

pub drop_left-requires-2-clause-good : goal.drop_left-requires-2-clause-good
drop_left-requires-2-clause-good g c =
    after-stored c.args.store.now c.requires.good c.args.q c.requires.within c.requires.live c.drop_left.new.store
    c.in_ok-drop_left.field-0 c.if-branch.false c.in_ok-drop_left.ensures.ok
    c.turn.new.self c.in_ok-turned.turned c.in_ok-turned.ensures.ok

pub drop_left-requires-2-clause-within : goal.drop_left-requires-2-clause-within
drop_left-requires-2-clause-within g c =
    after-within c.args.store.now c.requires.good c.args.q c.requires.within c.requires.live c.drop_left.new.store
    c.in_ok-drop_left.field-0 c.if-branch.false c.in_ok-drop_left.ensures.ok
    c.turn.new.self c.in_ok-turned.turned c.in_ok-turned.ensures.ok

pub drop_left-requires-2-clause-live : goal.drop_left-requires-2-clause-live
drop_left-requires-2-clause-live g c =
    after-live c.args.store.now c.requires.good c.args.q c.requires.within c.requires.live c.drop_left.new.store
    c.in_ok-drop_left.field-0 c.if-branch.false c.in_ok-drop_left.ensures.ok
    c.turn.new.self c.in_ok-turned.turned c.in_ok-turned.ensures.ok

pub returns-in_err-drop_left-2-clause-full : goal.returns-in_err-drop_left-2-clause-full
returns-in_err-drop_left-2-clause-full g c h =
    after-large c.args.store.now c.requires.good c.args.q c.requires.within c.requires.live c.drop_left.new.store
    c.in_ok-drop_left.field-0 c.if-branch.false c.in_ok-drop_left.ensures.ok
    c.turn.new.self c.in_ok-turned.turned c.in_ok-turned.ensures.ok
    (c.in_err-drop_left-2.ensures.full (search rules))

pub returns-then-branch-clause-ok : goal.returns-then-branch-clause-ok
returns-then-branch-clause-ok g c =
    left-drops c.args.store.now c.requires.good c.args.q c.requires.within c.requires.live c.drop_left.new.store
    c.in_ok-drop_left.field-0 c.if-branch.true c.in_ok-drop_left.ensures.ok
    c.equ-equation.result.now.l.id.0 (entry-left c.args.store.now c.proofs.result.now c.args.q c.equ-equation.result.now c.proofs.ensures c.equ-equation.ensures)

pub returns-then-branch-2-clause-ok : goal.returns-then-branch-2-clause-ok
returns-then-branch-2-clause-ok g c =
    after-drops c.args.store.now c.requires.good c.args.q c.requires.within c.requires.live c.drop_left.new.store
    c.in_ok-drop_left.field-0 c.if-branch.false c.in_ok-drop_left.ensures.ok
    c.turn.new.self c.in_ok-turned.turned c.in_ok-turned.ensures.ok c.drop_left-2.new.store
    c.in_ok-drop_left-2.field-0 c.if-branch-2.true c.in_ok-drop_left-2.ensures.ok
    c.equ-equation.result.now.r.id.0 (entry-right c.args.store.now c.proofs.result.now c.args.q c.equ-equation.result.now c.proofs.ensures c.equ-equation.ensures)

pub returns-clause-ok : goal.returns-clause-ok
returns-clause-ok g c =
    after-keeps c.args.store.now c.requires.good c.args.q c.requires.within c.requires.live c.drop_left.new.store
    c.in_ok-drop_left.field-0 c.if-branch.false c.in_ok-drop_left.ensures.ok
    c.turn.new.self c.in_ok-turned.turned c.in_ok-turned.ensures.ok c.drop_left-2.new.store
    c.in_ok-drop_left-2.field-0 c.if-branch-2.false c.in_ok-drop_left-2.ensures.ok

pub have_as_many-requires-clause-left : goal.have_as_many-requires-clause-left
have_as_many-requires-clause-left g c =
    let k = c.args.store.now in
    let is = (none-dropped k c.drop_left.new.store (equation_in k c.args.q) c.in_ok-drop_left.field-0 c.if-branch.false c.in_ok-drop_left.ensures.ok).0 in
    subst (λ (x : Kept). c.equ-equation.result.now.l.id.0 < length x.classes) (sym is)
    (left-in_range k c.requires.good c.args.q c.requires.within c.proofs.result.now c.proofs.ensures c.equ-equation.result.now c.equ-equation.ensures)

pub have_as_many-requires-clause-right : goal.have_as_many-requires-clause-right
have_as_many-requires-clause-right g c =
    let k = c.args.store.now in
    let is = (none-dropped k c.drop_left.new.store (equation_in k c.args.q) c.in_ok-drop_left.field-0 c.if-branch.false c.in_ok-drop_left.ensures.ok).0 in
    subst (λ (x : Kept). c.equ-equation.result.now.r.id.0 < length x.classes) (sym is)
    (right-in_range k c.requires.good c.args.q c.requires.within c.proofs.result.now c.proofs.ensures c.equ-equation.result.now c.equ-equation.ensures)

pub returns-then-have_as_many-clause-ok : goal.returns-then-have_as_many-clause-ok
returns-then-have_as_many-clause-ok g c =
    let k = c.args.store.now in
    let l = c.drop_left.new.store in
    let left = entry-left k c.proofs.result.now c.args.q c.equ-equation.result.now c.proofs.ensures c.equ-equation.ensures in
    let right = entry-right k c.proofs.result.now c.args.q c.equ-equation.result.now c.proofs.ensures c.equ-equation.ensures in
    as-many-keeps k c.requires.good c.args.q c.requires.within c.requires.live l c.in_ok-drop_left.field-0 c.if-branch.false c.in_ok-drop_left.ensures.ok
    (subst (λ i. length (find_at l i).pairs ≡ length (find_at l (equation_in k c.args.q).right).pairs) left
    (subst (λ j. length (find_at l c.equ-equation.result.now.l.id.0).pairs ≡ length (find_at l j).pairs) right (c.have_as_many.ensures c.if-have_as_many.true)))
