use Rattle.std.proofs.Common.{◌≡◌, ◌+◌, ◌∙◌, suc, map, take, refl, subst, arith}
use Rattle.std.specs.Prelude.{Contains}
use Rattle.slotted_classes.specs.Kept.{SymmetryEntry, symmetry_entry}
use Rattle.slotted_rebuilding.proofs.ListedSoFar.{contained-map}
use Rattle.slotted_operations.specs.Good.{image_of}
use Rattle.slotted_operations.specs.Image.{CountsOpen}
use Rattle.slotted_operations.proofs.Graphs.Finds.{good-finds}
use Rattle.slotted_operations.proofs.Unions.Symmetries.{counted-open, counted-closed, map-take, map-all, none-counted}
use Rattle.slotted_operations.proofs.uniting.open_symmetries.Goals as goal
use Rattle.slotted_operations.proofs.uniting.open_symmetries.Goals.{then-not-eq, else-not-eq}

pub loop-symmetry-init : goal.loop-symmetry-init
loop-symmetry-init g c = record { counts = none-counted c.args.store.now (map symmetry_entry (take 0 c.symmetries-symmetry-items.result.now)) refl; few = omega arith }

pub eq-requires-clause-good : goal.eq-requires-clause-good
eq-requires-clause-good g c = good-finds c.args.store.now c.requires

pub eq-requires-clause-left : goal.eq-requires-clause-left
eq-requires-clause-left g c =
    (c.requires.stored.sides (symmetry_entry c.symmetry-item.result)
    (contained-map symmetry_entry c.symmetries-symmetry-items.result.now c.args.store.now.symmetries c.symmetries-symmetry-items.ensures c.loop-symmetry.symmetry-index c.symmetry-item.result c.loop-symmetry-test.true c.symmetry-item.is)).left

pub eq-requires-clause-right : goal.eq-requires-clause-right
eq-requires-clause-right g c =
    (c.requires.stored.sides (symmetry_entry c.symmetry-item.result)
    (contained-map symmetry_entry c.symmetries-symmetry-items.result.now c.args.store.now.symmetries c.symmetries-symmetry-items.ensures c.loop-symmetry.symmetry-index c.symmetry-item.result c.loop-symmetry-test.true c.symmetry-item.is)).right

pub overflow_add-count : goal.overflow_add-count
overflow_add-count g c = omega (arith, c.loop-symmetry.invariant.few, c.loop-symmetry-test.true)

pub loop-symmetry-preserved : goal.loop-symmetry-preserved
loop-symmetry-preserved g c =
    let k = c.args.store.now in
    let items = c.symmetries-symmetry-items.result.now in
    let i = c.loop-symmetry.symmetry-index in
    let y : SymmetryEntry = symmetry_entry c.symmetry-item.result in
    let here : Contains k.symmetries y = contained-map symmetry_entry items k.symmetries c.symmetries-symmetry-items.ensures i c.symmetry-item.result c.loop-symmetry-test.true c.symmetry-item.is in
    let before : CountsOpen (image_of k) (map symmetry_entry (take i items)) c.loop-symmetry.count = c.loop-symmetry.invariant.counts in
    let next = map-take symmetry_entry items i c.symmetry-item.result c.loop-symmetry-test.true c.symmetry-item.is in
    elim c.if-not-eq.branch [
      | then-not-eq w ↦
          let n : suc c.loop-symmetry.count ≡ c.if-not-eq.count = omega (arith, w.count-is) in record {
            counts = subst (CountsOpen (image_of k) (map symmetry_entry (take (i + 1) items))) n
                (counted-open k c.requires y here (map symmetry_entry (take i items)) (map symmetry_entry (take (i + 1) items)) c.loop-symmetry.count before next c.eq.result c.eq.ensures w.if-not-eq.true);
            few = omega (arith, w.count-is, c.loop-symmetry.invariant.few);
          }
      | else-not-eq w ↦
          let n : c.loop-symmetry.count ≡ c.if-not-eq.count = omega (arith, w.count-is) in record {
            counts = subst (CountsOpen (image_of k) (map symmetry_entry (take (i + 1) items))) n
                (counted-closed k c.requires y here (map symmetry_entry (take i items)) (map symmetry_entry (take (i + 1) items)) c.loop-symmetry.count before next c.eq.result c.eq.ensures w.if-not-eq.false);
            few = omega (arith, w.count-is, c.loop-symmetry.invariant.few);
          }
    ]

pub returns : goal.returns
returns g c =
    let k = c.args.store.now in
    let items = c.symmetries-symmetry-items.result.now in
    subst (λ ys. CountsOpen (image_of k) ys c.loop-symmetry.count)
    (map-all symmetry_entry items c.loop-symmetry.symmetry-index (omega (arith, c.loop-symmetry-test.false)) ∙ c.symmetries-symmetry-items.ensures)
    c.loop-symmetry.invariant.counts
