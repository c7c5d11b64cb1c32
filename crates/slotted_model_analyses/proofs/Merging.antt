-- Merging a value into the data of a class, and what then waits.
use Rattle.std.proofs.Common.{◌≡◌, ◌≢◌, ℕ, ◌+◌, ◌<◌, List, [], ◌∷◌, length, sym, ◌∙◌, ap, refl, subst, inl, inr, arith}
use Rattle.std.specs.Prelude.{◌⊎◌, map, Contains}
use Rattle.std.proofs.lemmas.Bool.{cases_eq}
use Rattle.slotted_lists.proofs.Contained.{contains_head, contains_tail}
use Rattle.slotted_model.specs.Correspondence.{AllDifferent}
use Rattle.slotted_model.specs.Find.{Entry, entry_at, IsLive}
use Rattle.slotted_model.specs.State.{Row, State, sources, child_classes}
use Rattle.slotted_model.proofs.Rebuilding.Rows.{source-in}
use Rattle.slotted_model.proofs.Rebuilding.Touching.{with_waiting, waiting-has, waiting-keeps, waiting-from, waiting-once, touching, touched-is}
use Rattle.slotted_model_analyses.specs.Analysis.{Analysis, IsMerge, Absorbs}
use Rattle.slotted_model_analyses.specs.DataPart.{DataPart, with_data, made, with_pending, HasNoted, Merges, absorbed, lowered, heights_from, GoesDown}
use Rattle.slotted_model_analyses.proofs.Absorbing.{absorbs-same, absorbs-then, absorbs-both, merge-keeps, merge-absorbs, absorbs-cases}
use Rattle.slotted_model_analyses.proofs.Heights.{with_data-here, with_data-other, height_at, height-live, heights-with}

-- one more class that waits to be modified
pub noted-is : (c : ℕ) (changed : List ℕ) → AllDifferent changed → HasNoted c changed (with_waiting c changed)
noted-is c changed once = record {
  once = waiting-once c changed once;
  has = waiting-has c changed;
  kept = λ i k. waiting-keeps c i changed k;
  from = λ i k. elim (waiting-from c i changed k) [
    | inl e ↦ inr e
    | inr h ↦ inl h
  ];
}

module _ {D : Type 0} where
  -- other data of a class that is none of these
  pub others-same : (δ : ℕ → D) (c : ℕ) (v : D) (cs : List ℕ) → ¬ Contains cs c → map (with_data δ c v) cs ≡ map δ cs
  others-same δ c v [] n = refl
  others-same δ c v (x ∷ cs) n =
      let m : x ≢ c = λ e. n (subst (Contains (x ∷ cs)) e (contains_head x cs)) in
      λ i. with_data-other δ c v x m i ∷ others-same δ c v cs (λ k. n (contains_tail x cs c k)) i

  module _ (a : Analysis D) (law : IsMerge D a) where
    -- one after another
    pub down-then : (s t u : DataPart D) → GoesDown a s t → GoesDown a t u → GoesDown a s u
    down-then s t u p q = record {
      lower = λ i. absorbs-then a law (u.data_of i) (t.data_of i) (s.data_of i) (q.lower i) (p.lower i);
      once = λ d. q.once (p.once d);
      kept = λ i c. q.kept i (p.kept i c);
      noted = λ i n. elim (law.decided (u.data_of i) (t.data_of i)) [
        | inl e ↦ q.kept i (p.noted i (λ f. n (e ∙ f)))
        | inr m ↦ q.noted i m
      ];
      from = λ i c. elim (q.from i c) [
        | inl k ↦ elim (p.from i k) [
          | inl j ↦ inl j
          | inr m ↦ inr (λ e. m (absorbs-both a law (t.data_of i) (s.data_of i) (p.lower i) (subst (λ x. Absorbs a x (t.data_of i)) e (q.lower i))))
        ]
        | inr m ↦ inr (λ e. m (sym (absorbs-both a law (t.data_of i) (u.data_of i) (subst (Absorbs a (t.data_of i)) (sym e) (p.lower i)) (q.lower i))))
      ];
    }

    pub down-same : (s : DataPart D) (pending : List ℕ) → GoesDown a s (record s { pending = pending })
    down-same s pending = record {
      lower = λ i. absorbs-same a law (s.data_of i);
      once = λ d. d;
      kept = λ i c. c;
      noted = λ i n. absurd (n refl);
      from = λ i c. inl c;
    }

    -- what holds after a merge
    pub record HasMerged (g : State) (s : DataPart D) (c : ℕ) (v : D) (t : DataPart D) : Type 0 where
      pub down : GoesDown a s t
      pub takes : Absorbs a (t.data_of c) v
      pub once : AllDifferent s.pending → AllDifferent t.pending
      pub kept : (o : ℕ) → Contains s.pending o → Contains t.pending o
      pub from : (o : ℕ) → Contains t.pending o → Contains s.pending o ⊎ Contains (sources g.rows) o
      pub noted_from : (i : ℕ) → Contains t.changed i → Contains s.changed i ⊎ (i ≡ c)
      pub same_made : (r : Row) → Contains g.rows r → ¬ Contains t.pending r.source → made a t r.shape ≡ made a s r.shape
      pub falls : (found : List Entry) → c < length found → IsLive found c → (heights_from a t.data_of 0 found < heights_from a s.data_of 0 found) ⊎ (t ≡ s)

    pub merged : {g : State} {s : DataPart D} {c : ℕ} {v : D} {t : DataPart D} → Merges a g s c v t → HasMerged g s c v t
    merged {g} {s} {c} {v} (absorbed e) = record {
      down = down-same s s.pending;
      takes = e;
      once = λ d. d;
      kept = λ o k. k;
      from = λ o k. inl k;
      noted_from = λ i k. inl k;
      same_made = λ r h n. refl;
      falls = λ found h live. inr refl;
    }
    merged {g} {s} {c} {v} (lowered pending changed n touched noted) =
        let w : D = a.merge (s.data_of c) v in
        let δ : ℕ → D = with_data s.data_of c w in
        record {
          down = record {
            lower = λ i. elim (cases_eq i c) [
              | inl e ↦ subst (λ x. Absorbs a (δ x) (s.data_of x)) (sym e) (subst (λ x. Absorbs a x (s.data_of c)) (sym (with_data-here s.data_of c w)) (merge-keeps a law (s.data_of c) v))
              | inr m ↦ subst (λ x. Absorbs a x (s.data_of i)) (sym (with_data-other s.data_of c w i m)) (absorbs-same a law (s.data_of i))
            ];
            once = λ d. noted.once;
            kept = noted.kept;
            noted = λ i m. elim (cases_eq i c) [
              | inl e ↦ subst (Contains changed) (sym e) noted.has
              | inr k ↦ absurd (m (with_data-other s.data_of c w i k))
            ];
            from = λ i k. elim (noted.from i k) [
              | inl j ↦ inl j
              | inr e ↦ inr (λ q. n (sym (with_data-here s.data_of c w) ∙ subst (λ x. δ x ≡ s.data_of x) e q))
            ];
          };
          takes = subst (λ x. Absorbs a x v) (sym (with_data-here s.data_of c w)) (merge-absorbs a law (s.data_of c) v);
          once = λ d. touched.once;
          kept = touched.kept;
          from = λ o k. elim (touched.from o k) [
            | inl j ↦ inl j
            | inr j ↦ inr (subst (Contains (sources g.rows)) j.3 (source-in g.rows j.0 j.1))
          ];
          noted_from = noted.from;
          same_made = λ r h m. ap (a.make r.shape) (others-same s.data_of c w (child_classes r.shape.args) (λ k. m (touched.over r h k)));
          falls = λ found h live.
              let r : heights_from a δ 0 found + height_at a s.data_of c (entry_at found c) ≡ heights_from a s.data_of 0 found + height_at a δ c (entry_at found c) =
              heights-with a s.data_of c w 0 c found h (omega arith) in
              let p : height_at a s.data_of c (entry_at found c) ≡ a.height (s.data_of c) = height-live a s.data_of c (entry_at found c) live in
              let q : height_at a δ c (entry_at found c) ≡ a.height w = height-live a δ c (entry_at found c) live ∙ ap a.height (with_data-here s.data_of c w) in
              let l : a.height w < a.height (s.data_of c) = law.lowers (s.data_of c) v n in
              inl (omega arith);
        }

    -- a value can be merged
    pub merges-by : (g : State) (s : DataPart D) (c : ℕ) (v : D) → AllDifferent s.pending → AllDifferent s.changed → (t : DataPart D) × Merges a g s c v t
    merges-by g s c v once different = elim (absorbs-cases a law (s.data_of c) v) [
      | inl e ↦ (s, absorbed e)
      | inr n ↦ (_, lowered (touching (with_pending g s) c) (with_waiting c s.changed) n (touched-is (with_pending g s) once c) (noted-is c s.changed different))
    ]
