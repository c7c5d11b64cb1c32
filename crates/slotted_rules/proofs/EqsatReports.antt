-- Reports of runs without a runner, and what is left where a turn is refused.
use Rattle.std.proofs.Common.{◌≡◌, ◌∙◌, ℕ, suc, ◌+◌, ◌-◌, [], ◌∷◌, ◌++◌, length, length-append, Option, Result, Err, ap, sym, subst, inl, inr, arith}
use Rattle.std.specs.Prelude.{IsErrAnd, IsTrue}
use Rattle.slotted_slots.specs.Error.{IsShortage}
use Rattle.slotted_slots.specs.declared.error.Error.{Error}
use Rattle.slotted_operations.specs.Graph.{Graph}
use Rattle.slotted_operations.specs.Reports.{live_classes}
use Rattle.slotted_model_rules.specs.Runners.{EqsatRuns}
use Rattle.slotted_rules.specs.declared.report.StopReason.{StopReason}
use Rattle.slotted_rules.specs.Eqsat.{EqsatRefuses, HasBroken, HasEnded, HasEqsatReported, HasRefusedEqsat, eqsat_refused_later, eqsat_refused_now}
use Rattle.slotted_rules.specs.Seen.{stop_of}
use Rattle.slotted_rules.specs.Turning.{progress_of, reading_in}
use Rattle.slotted_rules.proofs.Readings.{reads-back, reads-front, reads-itself, tells-one, tells-then}
use Rattle.slotted_rules.proofs.RefusedRuns.{IsFailedBy, failed-or-same}

module _ {H T K : Type 0} (tells : K → ℕ → K → Type 0) (applies : Graph × H → Graph × H → Type 0) (hooks : Graph × H → ℕ → Graph × H → Option T → Type 0) (iterations seconds : ℕ) where
  -- the clock is read first, in turns, and last
  pub reported-eqsat : (s t : Graph × H) (k l m n : K) (start end : ℕ) → tells k start l → (counted : ℕ) (reason : StopReason T) → HasEnded tells applies hooks iterations seconds start s l t m counted (stop_of reason) → tells m end n →
      (nodes classes time : ℕ) → nodes ≡ length t.0.filed → classes ≡ length (live_classes t.0.image) → time ≡ end - start →
      HasEqsatReported tells applies hooks iterations seconds s k t n (record { iterations = counted; stop_reason = reason; egraph_nodes = nodes; egraph_classes = classes; total_time = time })
  reported-eqsat s t k l m n start end first counted reason ended final nodes classes time nodes_are classes_are time_is =
      let xs = ended.readings in
      let all = start ∷ (xs ++ end ∷ []) in
      let read = reads-itself all in
      let runs = ended.ends (reading_in all) 1 (reads-front (reading_in all) 1 xs (end ∷ []) read.1) in
      let back = (reads-back (reading_in all) 1 xs (end ∷ []) read.1).0 in
      let more : length (xs ++ end ∷ []) ≡ length xs + 1 = length-append xs (end ∷ []) in
      let length_is : suc (length (xs ++ end ∷ [])) ≡ suc (1 + length xs) = omega arith in
      let spent : time ≡ reading_in all (1 + length xs) - reading_in all 0 = time_is ∙ (λ i. sym back i - sym read.0 i) in
      record {
        readings = all;
        by_clock = (l, first, tells-then tells xs (end ∷ []) l m n ended.told (tells-one tells m end n final));
        by_turns = record {
          total = counted;
          last = 1 + length xs;
          reason = stop_of reason;
          runs = subst (λ x. EqsatRuns applies hooks (λ u. progress_of u.0.image) iterations seconds (reading_in all) x 0 1 s counted (1 + length xs) t (stop_of reason)) (sym read.0) runs;
          is = λ i. record { iterations = counted; stop_reason = stop_of reason; egraph_nodes = nodes_are i; egraph_classes = classes_are i; total_time = spent i };
        };
        count = length_is;
      }

  module _ (refuses : Graph × H → ℕ → Graph × H → Error → Type 0) (room : (s t u : Graph × H) (n : ℕ) (e : Error) → IsShortage e → IsTrue u.0.failed → refuses s n t e → refuses s n u e) (e : Error) where
    -- the last graph may fail
    worse : (clock : ℕ → ℕ) (start : ℕ) {counted from total : ℕ} {s : Graph × H} (t u : Graph × H) → IsShortage e → IsTrue u.0.failed → EqsatRefuses tells applies hooks iterations seconds (λ v i x. refuses v i x e) clock start counted from s total t →
        EqsatRefuses tells applies hooks iterations seconds (λ v i x. refuses v i x e) clock start counted from s total u
    worse clock start t u short failed (eqsat_refused_now spoils) = eqsat_refused_now (room _ t u _ e short failed spoils)
    worse clock start t u short failed (eqsat_refused_later turn more) = eqsat_refused_later turn (worse clock start t u short failed more)

    pub refused-eqsat : {A : Type 0} (r : Result A Error) → r ≡ Err e → (s t : Graph × H) (k l m : K) (start : ℕ) → tells k start l → HasBroken tells applies hooks iterations seconds refuses start s l t m e → (h : Graph) → IsFailedBy r t.0 h →
        HasRefusedEqsat tells applies hooks iterations seconds refuses s k (h, t.1) m e
    refused-eqsat {A} r was s t k l m start first broken h by =
        let all = start ∷ broken.readings in
        let read = reads-itself all in
        let breaks = subst (λ x. EqsatRefuses tells applies hooks iterations seconds (λ v i x. refuses v i x e) (reading_in all) x 0 1 s broken.total t) (sym read.0) (broken.breaks (reading_in all) 1 read.1) in
        record {
          readings = all;
          by_clock = (l, first, broken.told);
          total = broken.total;
          count = ap suc broken.count;
          by_turns = elim (failed-or-same r t.0 h by) [
            | inl short ↦ worse (reading_in all) (reading_in all 0) t (h, t.1) (subst (λ (q : Result A Error). IsErrAnd q IsShortage) was short.0) (ap (λ (x : Graph). x.failed) short.1) breaks
            | inr same ↦ subst (λ x. EqsatRefuses tells applies hooks iterations seconds (λ v i y. refuses v i y e) (reading_in all) (reading_in all 0) 0 1 s broken.total (x, t.1)) (sym same.1) breaks
          ];
        }
