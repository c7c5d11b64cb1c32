-- The laws of runs with data, as they are claimed.
use Rattle.std.proofs.Common.{◌≡◌, suc, ap, refl, inl, inr, arith}
use Rattle.slotted_model.specs.State.{State}
use Rattle.slotted_model.specs.Rest.{size, size_from}
use Rattle.slotted_model_analyses.specs.Analysis.{Absorbs}
use Rattle.slotted_model_analyses.specs.DataPart.{DataPart, Merges, absorbed, lowered, takes_turn, takes_data, takes_act, heights_from}
use Rattle.slotted_model_analyses.specs.RunClaims.{MergingAgainChangesNothing, UnionsCarryData, StepsAreThereWithData}
use Rattle.slotted_model_analyses.proofs.Merging.{HasMerged, merged}
use Rattle.slotted_model_analyses.proofs.Carrying.{HasCarried, carried}
use Rattle.slotted_model_analyses.proofs.Following.{data-followed, followed, acted-followed}
use Rattle.slotted_model_analyses.proofs.Counts.{HasRunWithData, run-with}
use Rattle.slotted_model_analyses.proofs.Reaching.{next-with}

pub merging-again : {D : Type 0} → MergingAgainChangesNothing D
merging-again {D} a law g s c v t m =
    let k : HasMerged a law g s c v t = merged a law m in
    (k.takes, k.down, λ h u n. again h n k.takes)
  where
    again : (h : State) {u : DataPart D} → Merges a h t c v u → Absorbs a (t.data_of c) v → u ≡ t
    again h (absorbed e) p = refl
    again h (lowered pending changed n touched noted) p = absurd (n p)

pub unions-carry : {D : Type 0} → UnionsCarryData D
unions-carry a law p g h u sane l s t has c =
    let k : HasCarried a law g s h t = carried a law p u sane l s t has c in (
      k.has,
      k.classes,
      k.down,
      elim k.falls [
        | inl f ↦ omega arith
        | inr e ↦
            let x : size h ≡ size g = ap (size_from 0) e.0 in
            let y : heights_from a t.data_of 0 h.found ≡ heights_from a s.data_of 0 g.found = λ i. heights_from a (e.2 i).data_of 0 (e.0 i) in
            omega arith
      ],
    )

pub steps-there : {D : Type 0} → StepsAreThereWithData D
steps-there a law f s n g t sane has r =
    let k : HasRunWithData a law f sane s n g t = run-with a law f sane has r in
    elim (next-with a law g k.rebuilt.sane t k.has) [
      | inl done ↦ inl done
      | inr step ↦ inr (elim step [
        | inl x ↦ (n, x.0, x.2, takes_act r x.1 x.3, (acted-followed a law x.1 k.rebuilt.sane t x.2 k.has x.3).0.falls)
        | inr more ↦ elim more [
          | inl x ↦ (suc n, x.0, x.2, takes_turn r x.1 x.3, (followed a law x.1 k.rebuilt.sane t x.2 k.has x.3).falls)
          | inr x ↦ (suc n, g, x.0, takes_data r x.1, (data-followed a law g k.rebuilt.sane t x.0 k.has x.1).falls)
        ]
      ])
    ]
