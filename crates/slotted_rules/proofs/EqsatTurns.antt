-- Turns without a runner, one after another.
use Rattle.std.proofs.Common.{◌≡◌, ◌∙◌, ℕ, suc, ◌+◌, ◌-◌, ◌*◌, ◌/◌, ◌<◌, ◌≤◌, [], ◌∷◌, ◌++◌, length, length-append, Option, Some, None, Bool, false, ap, refl, sym, subst, arith}
use Rattle.std.specs.Prelude.{cond}
use Rattle.slotted_slots.specs.declared.error.Error.{Error}
use Rattle.slotted_theory.specs.Decided.{numbers_eq}
use Rattle.std.proofs.lemmas.Bool.{lt-ltb}
use Rattle.slotted_operations.specs.Graph.{Graph}
use Rattle.slotted_graph.specs.Extension.{ExtendsTo}
use Rattle.slotted_graph.proofs.Extending.{extends-itself, extends-then}
use Rattle.slotted_model_rules.specs.Runners.{EqsatRuns, Stop, after_time, eqsat_goes_on, eqsat_stop, eqsat_stops, second, time_limit}
use Rattle.slotted_model_rules.proofs.Rules.Stopping.{eqsat-first}
use Rattle.slotted_rules.specs.Eqsat.{EqsatGoOn, EqsatRefuses, GivesEqsatReason, HasBroken, HasCounted, HasEnded, IsEqsatTurn, eqsat_refused_later, eqsat_refused_now, none_counted, one_counted}
use Rattle.slotted_rules.specs.RunLoops.{HasCalled}
use Rattle.slotted_rules.specs.Turning.{TellsAll, progress_of, reading_in}
use Rattle.slotted_rules.proofs.Readings.{more-readings, reads-back, reads-front, reads-itself, tells-then}

-- the clock is read for the limit of time, which is passed or not
module _ {K : Type 0} (tells : K → ℕ → K → Type 0) (iterations seconds start counted : ℕ) (same : Bool) (k l : K) (r : ℕ) (told : tells k r l) (going : same ≡ false) (more : counted < iterations) (elapsed : ℕ) (is : elapsed ≡ r - start) where
  reads-one : (T : Type 0) (n : ℕ) → n + length (r ∷ []) ≡ after_time {T = T} iterations None same counted n
  reads-one T n =
      let e : n + length (r ∷ []) ≡ suc n = omega arith in
      e ∙ sym (λ i. cond (going i) n (cond (lt-ltb counted iterations more i) (suc n) n))

  pub late : {T : Type 0} → seconds ≤ elapsed / 1000000000 → GivesEqsatReason {T = T} tells iterations seconds start counted same None k l (Some time_limit)
  late {T} past = record {
    readings = r ∷ [];
    told = (l, told, refl);
    stops = λ clock n reads.
        let e : clock n - start ≡ elapsed = ap (λ x. x - start) reads.0 ∙ sym is in
        let far : seconds * second ≤ elapsed = omega arith in
        ap (λ x. eqsat_stop iterations seconds None same counted x) e ∙ ((eqsat-first T iterations seconds None same counted elapsed).0 time_limit).1 (refl, going, more, far);
    reads = reads-one T;
  }

  pub early : {T : Type 0} → elapsed / 1000000000 < seconds → GivesEqsatReason {T = T} tells iterations seconds start counted same None k l None
  early {T} before = record {
    readings = r ∷ [];
    told = (l, told, refl);
    stops = λ clock n reads.
        let e : clock n - start ≡ elapsed = ap (λ x. x - start) reads.0 ∙ sym is in
        let near : elapsed < seconds * second = omega arith in
        ap (λ x. eqsat_stop iterations seconds None same counted x) e ∙ (eqsat-first T iterations seconds None same counted elapsed).1.1 (refl, going, more, near);
    reads = reads-one T;
  }

module _ {H T K : Type 0} (tells : K → ℕ → K → Type 0) (applies : Graph × H → Graph × H → Type 0) (hooks : Graph × H → ℕ → Graph × H → Option T → Type 0) (iterations seconds : ℕ) where
  -- the rules, the hook, and why it stops
  pub eqsat-turn-of : (start counted : ℕ) (s t : Graph × H) (same : Bool) (stop : Option T) → HasCalled applies hooks s counted t same stop → (k l : K) (reason : Option (Stop T)) →
      GivesEqsatReason tells iterations seconds start counted same stop k l reason → IsEqsatTurn tells applies hooks iterations seconds start counted s k t l reason
  eqsat-turn-of start counted s t same stop called k l reason why = record {
    readings = why.readings;
    told = why.told;
    turn = λ clock n reads. record {
      applied = called.applied;
      by_rules = called.by_rules;
      answer = stop;
      by_hook = called.by_hook;
      stops = ap (λ b. eqsat_stop iterations seconds stop b counted (clock n - start)) called.same_is ∙ why.stops clock n reads;
      reads = why.reads n ∙ ap (λ b. after_time iterations stop b counted n) (sym called.same_is);
    };
  }

  -- each run from where they lead is one from where they begin
  goes-runs : (clock : ℕ → ℕ) (start : ℕ) {k : ℕ} {s : Graph × H} {counted j total last : ℕ} {t u : Graph × H} {reason : Stop T} → EqsatGoOn tells applies hooks iterations seconds clock start k s counted j t →
      EqsatRuns applies hooks (λ x. progress_of x.0.image) iterations seconds clock start counted j t total last u reason → EqsatRuns applies hooks (λ x. progress_of x.0.image) iterations seconds clock start 0 k s total last u reason
  goes-runs clock start none_counted run = run
  goes-runs clock start (one_counted so_far turn) run = goes-runs clock start so_far (eqsat_goes_on turn run)

  goes-refuses : (clock : ℕ → ℕ) (start : ℕ) (spoils : Graph × H → ℕ → Graph × H → Type 0) {k : ℕ} {s : Graph × H} {counted j total : ℕ} {t u : Graph × H} → EqsatGoOn tells applies hooks iterations seconds clock start k s counted j t →
      EqsatRefuses tells applies hooks iterations seconds spoils clock start counted j t total u → EqsatRefuses tells applies hooks iterations seconds spoils clock start 0 k s total u
  goes-refuses clock start spoils none_counted refused = refused
  goes-refuses clock start spoils (one_counted so_far turn) refused = goes-refuses clock start spoils so_far (eqsat_refused_later turn refused)

  -- none yet
  pub counted-none : (start : ℕ) (s : Graph × H) (k : K) → s.0.failed ≡ false → HasCounted tells applies hooks iterations seconds start s k 0 s k
  counted-none start s k well = record {
    readings = [];
    told = refl;
    leads = λ clock n r.
        let e : n + 0 ≡ n = omega arith in
        subst (λ next. EqsatGoOn tells applies hooks iterations seconds clock start n s 0 next s) (sym e) none_counted;
    well = well;
    extends = extends-itself s.0;
    fits = omega arith;
    count = refl;
  }

  module _ (start : ℕ) (s : Graph × H) (k : K) (counted : ℕ) (t : Graph × H) (l : K) (so_far : HasCounted tells applies hooks iterations seconds start s k counted t l) where
    -- one more
    pub counted-more : (u : Graph × H) (m : K) → IsEqsatTurn tells applies hooks iterations seconds start counted t l u m None → u.0.failed ≡ false → ExtendsTo t.0 u.0 →
        (counted < iterations) × HasCounted tells applies hooks iterations seconds start s k (suc counted) u m
    counted-more u m turn well more = (
      within,
      record {
        readings = so_far.readings ++ turn.readings;
        told = tells-then tells so_far.readings turn.readings k l m so_far.told turn.told;
        leads = λ clock n reads.
            let j = n + length so_far.readings in
            let led = so_far.leads clock n (reads-front clock n so_far.readings turn.readings reads) in
            let one = turn.turn clock j (reads-back clock n so_far.readings turn.readings reads) in
            subst (λ next. EqsatGoOn tells applies hooks iterations seconds clock start n s (suc counted) next u) (sym (more-readings n so_far.readings turn.readings))
            (one_counted led one);
        well = well;
        extends = extends-then s.0 t.0 u.0 so_far.extends more;
        fits = omega (arith, within);
        count = omega (arith, so_far.count, once, length-append so_far.readings turn.readings);
      },
    )
      where
        within : counted < iterations
        within =
            let one = turn.turn (reading_in turn.readings) 0 (reads-itself turn.readings) in
            ((eqsat-first T iterations seconds one.answer _ counted _).1.0 one.stops).2

        -- the clock is read once
        once : length turn.readings ≡ 1
        once =
            let one = turn.turn (reading_in turn.readings) 0 (reads-itself turn.readings) in
            let first = (eqsat-first T iterations seconds one.answer _ counted _).1.0 one.stops in
            let reads : 0 + length turn.readings ≡ after_time iterations one.answer (numbers_eq (progress_of t.0.image) (progress_of one.applied.0.image)) counted 0 = one.reads in
            let going : after_time iterations one.answer (numbers_eq (progress_of t.0.image) (progress_of one.applied.0.image)) counted 0 ≡ 1 =
            (λ i. after_time iterations (first.0 i) (first.1 i) counted 0) ∙ (λ i. cond (lt-ltb counted iterations first.2 i) 1 0) in
            omega (arith, reads, going)

    -- one that stops
    pub counted-last : (u : Graph × H) (m : K) (reason : Stop T) → IsEqsatTurn tells applies hooks iterations seconds start counted t l u m (Some reason) → HasEnded tells applies hooks iterations seconds start s k u m counted reason
    counted-last u m reason turn = record {
      readings = so_far.readings ++ turn.readings;
      told = tells-then tells so_far.readings turn.readings k l m so_far.told turn.told;
      ends = λ clock n reads.
          let led = so_far.leads clock n (reads-front clock n so_far.readings turn.readings reads) in
          let one = turn.turn clock (n + length so_far.readings) (reads-back clock n so_far.readings turn.readings reads) in
          subst (λ next. EqsatRuns applies hooks (λ x. progress_of x.0.image) iterations seconds clock start 0 n s counted next u reason) (sym (more-readings n so_far.readings turn.readings)) (goes-runs clock start led (eqsat_stops one));
    }

    -- or one that is refused
    pub counted-broken : (refuses : Graph × H → ℕ → Graph × H → Error → Type 0) (e : Error) (u : Graph × H) (m : K) → m ≡ l → refuses t counted u e → HasBroken tells applies hooks iterations seconds refuses start s k u m e
    counted-broken refuses e u m same spoils = record {
      readings = so_far.readings;
      told = subst (TellsAll tells k so_far.readings) (sym same) so_far.told;
      total = counted;
      count = so_far.count;
      breaks = λ clock n reads. goes-refuses clock start (λ v i x. refuses v i x e) (so_far.leads clock n reads) (eqsat_refused_now spoils);
    }
