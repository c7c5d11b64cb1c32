use Rattle.std.proofs.Common.{◌∙◌, sym, arith, rules}
use Rattle.std.proofs.lemmas.Bool.{false≢true}
use Rattle.std.proofs.lemmas.Result.{IfOk-weaker}
use Rattle.slotted_classes.proofs.StoredFinds.{stored-finds}
use Rattle.slotted_rebuilding.specs.Turns.{NarrowsTo}
use Rattle.slotted_rebuilding.proofs.FiledStates.{first-still}
use Rattle.slotted_rebuilding.proofs.LargeClasses.{large-grown, same-error}
use Rattle.slotted_rebuilding.proofs.NormalNodes.{first-waits, lacks-slot, narrowed-now, narrowed-then, waiting-within}
use Rattle.slotted_rebuilding.proofs.narrowing.+narrowed.Goals as goal

pub is_covered-requires-clause-good : goal.is_covered-requires-clause-good
is_covered-requires-clause-good g t c = stored-finds c.args.store.now c.requires.good.stored

pub is_covered-requires-clause-within : goal.is_covered-requires-clause-within
is_covered-requires-clause-within g t c =
    let r = c.args.nodes.now in
    waiting-within c.args.store.now r c.args.class c.requires.good (first-waits r c.args.class c.requires.first)

pub is_covered-requires-clause-names : goal.is_covered-requires-clause-names
is_covered-requires-clause-names g t c = c.in_ok-node.ensures.ok.slots

pub refound-requires-clause-good : goal.refound-requires-clause-good
refound-requires-clause-good g t c = c.requires.good

pub narrow-requires-clause-good : goal.narrow-requires-clause-good
narrow-requires-clause-good g t c = c.requires.good

pub narrow-requires-clause-first : goal.narrow-requires-clause-first
narrow-requires-clause-first g t c = c.requires.first

pub returns-in_err-node-clause-full : goal.returns-in_err-node-clause-full
returns-in_err-node-clause-full g t c h = c.in_err-node.ensures.full (same-error c.from_residual.result c.in_err-node.field-0.0 _ c.from_residual.ensures.1 h)

pub returns-in_err-narrow-clause-full : goal.returns-in_err-narrow-clause-full
returns-in_err-narrow-clause-full g t c h = c.in_err-narrow.ensures.full (same-error c.from_residual-in_err-narrow.result c.in_err-narrow.field-0.0 _ c.from_residual-in_err-narrow.ensures.1 h)

pub returns-clause-err : goal.returns-clause-err
returns-clause-err g t c = c.narrowed.ensures.err

pub narrow-requires-clause-node : goal.narrow-requires-clause-node
narrow-requires-clause-node g t c = (g.L.LanguageChildren.form c.in_ok-node.node.key, c.in_ok-node.ensures.ok)

pub returns-then-is_covered-clause-ok : goal.returns-then-is_covered-clause-ok
returns-then-is_covered-clause-ok g t c =
    narrowed-now c.args.store.now c.args.nodes.now c.args.class (g.L.LanguageChildren.form c.in_ok-node.node.key) c.in_ok-node.node.names c.requires.good c.in_ok-node.ensures.ok (c.is_covered.ensures.0 c.if-is_covered.true)

pub narrow-requires-clause-lacks : goal.narrow-requires-clause-lacks
narrow-requires-clause-lacks g t c =
    lacks-slot c.args.store.now c.args.class (λ h. false≢true (sym c.if-is_covered.false ∙ c.is_covered.ensures.1 h))

pub narrowed-requires : goal.narrowed-requires
narrowed-requires g t c =
    let once = c.in_ok-narrow.ensures.ok in
    let small = once.smaller in
    let first = first-still c.args.nodes.now c.narrow.new.nodes c.args.class once.waits c.requires.first in
    λ κs h. (omega (arith, small, c.decreases), (search rules, (once.filed, first)))

pub returns-clause-ok : goal.returns-clause-ok
returns-clause-ok g t c =
    let k = c.args.store.now in
    let r = c.args.nodes.now in
    let l = c.narrow.new.store in
    let q = c.narrow.new.nodes in
    let n = c.narrowed.new.store in
    let s = c.narrowed.new.nodes in
    IfOk-weaker c.narrowed.result (λ x. NarrowsTo l q c.args.class n s (g.L.LanguageChildren.form x.key) x.names) (λ x. NarrowsTo k r c.args.class n s (g.L.LanguageChildren.form x.key) x.names)
    (λ x. narrowed-then k r l q c.args.class n s (g.L.LanguageChildren.form x.key) x.names c.in_ok-narrow.ensures.ok)
    c.narrowed.ensures.ok

pub returns-clause-full : goal.returns-clause-full
returns-clause-full g t c h = large-grown c.args.store.now c.narrow.new.store c.in_ok-narrow.ensures.ok.grows (c.narrowed.ensures.full h)
