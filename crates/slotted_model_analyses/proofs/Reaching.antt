-- Data can go along each union, turn and act; and from each sane graph a run with data leads to where nothing is left to do.
use Rattle.std.proofs.Common.{◌≡◌, ℕ, zero, suc, ◌<◌, List, [], ◌∷◌, length, sym, refl, subst, inl, inr, arith}
use Rattle.std.specs.Prelude.{◌⊎◌, Contains, not, nat_eq}
use Rattle.slotted_lists.proofs.Contained.{contains_head, Contains-nil}
use Rattle.slotted_model.specs.Correspondence.{AllDifferent}
use Rattle.slotted_model.specs.Find.{find_class}
use Rattle.slotted_model.specs.State.{Symmetry, State, HasTouched}
use Rattle.slotted_model.specs.Rest.{IsAligned, Sane, Represents}
use Rattle.slotted_model.specs.Changes.{found_entry, Unites, finds_alike, proves, drops_left, drops_right, left_dies, right_dies, lists, is_listed}
use Rattle.slotted_model.specs.Rebuild.{row_for, refiled_state, Turn, enters, narrows, unites_parents, refiles, Acts, acts}
use Rattle.slotted_model.specs.Extraction.{row_class}
use Rattle.slotted_model.proofs.Correspondences.Listing.{different-filter}
use Rattle.slotted_model.proofs.Rebuilding.Ending.{next-step}
use Rattle.slotted_model.proofs.Rebuilding.Rows.{of_source}
use Rattle.slotted_model.proofs.Rebuilding.Touching.{touching, touched-is}
use Rattle.slotted_model_analyses.specs.Analysis.{Analysis, IsMerge}
use Rattle.slotted_model_analyses.specs.DataPart.{DataPart, made, with_pending, taken, CarriesLink, Carries, Follows, FollowsAct, TakesData, takes, RunsWithData, starts, takes_turn, takes_data, takes_act, HasData, size_with_data, HasNothingLeftWithData, RestsWithData}
use Rattle.slotted_model_analyses.proofs.Merging.{merges-by}
use Rattle.slotted_model_analyses.proofs.Following.{HasFollowed, data-followed, followed, acted-followed}
use Rattle.slotted_model_analyses.proofs.Counts.{HasRunWithData, run-with, ended-with}

module _ {D : Type 0} (a : Analysis D) (law : IsMerge D a) where
  carry-link : (g : State) (c d : ℕ) (s : DataPart D) → AllDifferent s.pending → AllDifferent s.changed → (t : DataPart D) × CarriesLink a g c d s t
  carry-link g c d s once different =
      let more : HasTouched (with_pending g s) c (touching (with_pending g s) c) = touched-is (with_pending g s) once c in
      let m = merges-by a law g (record s { pending = touching (with_pending g s) c }) d (s.data_of c) more.once different in
      (m.0, (touching (with_pending g s) c, more, m.1))

  -- along a union
  pub carry : (p : ℕ) {g h : State} (u : Unites p g h) (s : DataPart D) → AllDifferent s.pending → AllDifferent s.changed → (t : DataPart D) × Carries a u s t
  carry p (finds_alike l i) s once different = (s, refl)
  carry p (proves proofs grow u) s once different = carry p u s once different
  carry p (drops_left {g = g} n x w used lacks at touched u) s once different =
      let more = touched-is (with_pending g s) once (found_entry g p).left in
      let r = carry p u (record s { pending = touching (with_pending g s) (found_entry g p).left }) more.once different in
      (r.0, (touching (with_pending g s) (found_entry g p).left, more, r.1))
  carry p (drops_right {g = g} n x w all used lacks at touched u) s once different =
      let more = touched-is (with_pending g s) once (found_entry g p).right in
      let r = carry p u (record s { pending = touching (with_pending g s) (found_entry g p).right }) more.once different in
      (r.0, (touching (with_pending g s) (found_entry g p).right, more, r.1))
  carry p (left_dies {g = g} n moment w differ all at later touched) s once different = carry-link g (found_entry g p).left (found_entry g p).right s once different
  carry p (right_dies {g = g} n moment w differ all at later touched) s once different = carry-link g (found_entry g p).right (found_entry g p).left s once different
  carry p (lists n same all moves new at) s once different = (s, refl)
  carry p (is_listed y same all there is) s once different = (s, refl)

  -- along a turn, and an act
  pub follow : {g h : State} (k : Turn g h) (s : DataPart D) → AllDifferent s.pending → AllDifferent s.changed → (t : DataPart D) × Follows a k s t
  follow (enters proofs grow k) s once different = follow k s once different
  follow (narrows o p x waits used lacks c u) s once different = carry p u s once different
  follow (unites_parents o p r waits there differ same c u) s once different = let m = carry p u s once different in (taken m.0 o, (m.0, m.1, refl))
  follow (refiles {g = g} o waits covered alone) s once different =
      merges-by a law (refiled_state g o) (taken s o) (find_class g.found o) (made a s (row_for g o).shape) (different-filter (λ x. not (nat_eq x o)) s.pending once) different

  pub follow-act : {g h : State} (k : Acts g h) (s : DataPart D) → AllDifferent s.pending → AllDifferent s.changed → (t : DataPart D) × FollowsAct a k s t
  follow-act (acts y c n u) s once different = carry y.proof u s once different

  -- something is left to do, or nothing is, for data too
  abbrev pub NextStep : State → DataPart D → Type 0
  NextStep g s = HasNothingLeftWithData g s
      ⊎ (((h : State) × (k : Acts g h) × (t : DataPart D) × FollowsAct a k s t)
      ⊎ (((h : State) × (k : Turn g h) × (t : DataPart D) × Follows a k s t) ⊎ ((t : DataPart D) × TakesData a g s t)))

  pub next-with : (g : State) → Sane g → (s : DataPart D) → HasData a g s → NextStep g s
  next-with g sane s has = elim (next-step g sane) [
    | inl done ↦ go s.pending refl done
    | inr step ↦ elim step [
      | inl k ↦ let x = follow-act k.1 s has.waits_once has.changed_once in inr (inl (k.0, k.1, x.0, x.1))
      | inr k ↦ let x = follow k.1 s has.waits_once has.changed_once in inr (inr (inl (k.0, k.1, x.0, x.1)))
    ]
  ]
    where
      go : (w : List ℕ) → s.pending ≡ w → (g.waiting ≡ []) × ((y : Symmetry) → Contains g.symmetries y → IsAligned g y) → NextStep g s
      go [] e done = inl (done, e)
      go (o ∷ w) e done =
          let c : Contains s.pending o = subst (λ l. Contains l o) (sym e) (contains_head o w) in
          let r = of_source g.rows o (has.waits_for_row o c) in
          let waits : Contains s.pending r.0.source = subst (Contains s.pending) (sym r.2) c in
          let alone : ¬ Contains g.waiting r.0.source = λ k. Contains-nil r.0.source (subst (λ l. Contains l r.0.source) done.0 k) in
          let m = merges-by a law g (taken s r.0.source) (row_class g r.0) (made a s r.0.shape) (different-filter (λ x. not (nat_eq x r.0.source)) s.pending has.waits_once) has.changed_once in
          inr (inr (inr (m.0, takes r.0 r.1 waits alone m.1)))

  -- runs that have nothing left to do
  module _ (f : State) (sane : Sane f) (s : DataPart D) (has : HasData a f s) where
    abbrev pub DoneWithData : Type 0
    DoneWithData = (n : ℕ) × (h : State) × (t : DataPart D) × RunsWithData a f s n h t × HasNothingLeftWithData h t

    reach-by : (z : ℕ) → ((n : ℕ) (g : State) (t : DataPart D) → RunsWithData a f s n g t → size_with_data a g t < z → DoneWithData) →
        (w n : ℕ) (g : State) (t : DataPart D) → RunsWithData a f s n g t → size_with_data a g t < suc z → length t.pending < w → DoneWithData
    reach-by z falls zero n g t r l m = absurd (omega arith)
    reach-by z falls (suc w) n g t r l m =
        let k : HasRunWithData a law f sane s n g t = run-with a law f sane has r in
        let goes : (j : ℕ) (h : State) (u : DataPart D) → RunsWithData a f s j h u → HasFollowed a law g t h u → DoneWithData =
        λ j h u x y. elim y.falls [
          | inl b ↦ falls j h u x (omega (arith, b, l))
          | inr b ↦ reach-by z falls w j h u x (omega (arith, b.0, l)) (omega (arith, b.1, m))
        ] in
        elim (next-with g k.rebuilt.sane t k.has) [
          | inl done ↦ (n, g, t, r, done)
          | inr step ↦ elim step [
            | inl x ↦ goes n x.0 x.2 (takes_act r x.1 x.3) (acted-followed a law x.1 k.rebuilt.sane t x.2 k.has x.3).0
            | inr more ↦ elim more [
              | inl x ↦ goes (suc n) x.0 x.2 (takes_turn r x.1 x.3) (followed a law x.1 k.rebuilt.sane t x.2 k.has x.3)
              | inr x ↦ goes (suc n) g x.0 (takes_data r x.1) (data-followed a law g k.rebuilt.sane t x.0 k.has x.1)
            ]
          ]
        ]

    reach : (z n : ℕ) (g : State) (t : DataPart D) → RunsWithData a f s n g t → size_with_data a g t < z → DoneWithData
    reach zero n g t r l = absurd (omega arith)
    reach (suc z) n g t r l = reach-by z (reach z) (suc (length t.pending)) n g t r l (omega arith)

    pub reaching : DoneWithData
    reaching = reach (suc (size_with_data a f s)) 0 f s starts (omega arith)

    pub reaching-rest : Represents f → (n : ℕ) × (h : State) × (t : DataPart D) × RunsWithData a f s n h t × RestsWithData a h t
    reaching-rest represents = let d = reaching in (d.0, d.1, d.2, d.3, ended-with a law f sane has represents d.3 d.4)
