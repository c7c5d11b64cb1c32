use Rattle.std.proofs.Common.{◌∙◌, refl, sym, arith}
use Rattle.std.proofs.lemmas.Bool.{false≢true}
use Rattle.slotted_lists.proofs.Contained.{Contains-map}
use Rattle.slotted_model.specs.Rest.{IsAligned}
use Rattle.slotted_classes.specs.Kept.{symmetry_entry}
use Rattle.slotted_classes.specs.StateOf.{state_of, symmetry_of_entry}
use Rattle.slotted_rebuilding.proofs.ListedSoFar.{so_far-next, contained-map, each-symmetry}
use Rattle.slotted_rebuilding.proofs.unions.settling.next_unaligned.Goals as goal

pub is_aligned-requires-clause-listed : goal.is_aligned-requires-clause-listed
is_aligned-requires-clause-listed g c =
    contained-map symmetry_entry c.symmetries-symmetry-items.result.now c.args.store.now.symmetries c.symmetries-symmetry-items.ensures c.loop-symmetry.symmetry-index c.symmetry-item.result c.loop-symmetry-test.true c.symmetry-item.is

pub returns-then-not-branch-clause-some : goal.returns-then-not-branch-clause-some
returns-then-not-branch-clause-some g c =
    let k = c.args.store.now in
    let e = symmetry_entry c.symmetry-item.result in record {
      symmetry = symmetry_of_entry e;
      listed = Contains-map symmetry_of_entry k.symmetries e (contained-map symmetry_entry c.symmetries-symmetry-items.result.now k.symmetries c.symmetries-symmetry-items.ensures c.loop-symmetry.symmetry-index c.symmetry-item.result c.loop-symmetry-test.true c.symmetry-item.is);
      proof = refl;
      unaligned = λ a. false≢true (sym c.if-not-branch.true ∙ c.in_ok-is_aligned.ensures.ok.1 a);
    }

pub loop-symmetry-preserved : goal.loop-symmetry-preserved
loop-symmetry-preserved g c =
    so_far-next (λ x. IsAligned (state_of c.args.store.now) (symmetry_of_entry (symmetry_entry x))) c.symmetries-symmetry-items.result.now c.loop-symmetry.symmetry-index c.symmetry-item.result c.loop-symmetry-test.true c.symmetry-item.is
    (c.in_ok-is_aligned.ensures.ok.0 c.if-not-branch.false) c.loop-symmetry.invariant

pub returns-clause-none : goal.returns-clause-none
returns-clause-none g c =
    each-symmetry symmetry_entry (IsAligned (state_of c.args.store.now)) c.symmetries-symmetry-items.result.now c.args.store.now.symmetries c.symmetries-symmetry-items.ensures
    (λ j d l. c.loop-symmetry.invariant j d (omega (arith, l, c.loop-symmetry-test.false, c.loop-symmetry.auto.symmetry-index-end)))
