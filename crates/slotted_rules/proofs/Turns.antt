-- Turns, and turns one after another.
use Rattle.std.proofs.Common.{◌≡◌, ◌∙◌, ℕ, suc, ◌+◌, ◌-◌, ◌*◌, List, [], ◌∷◌, ◌++◌, length, length-append, Option, Some, None, Bool, ap, refl, sym, subst, arith}
use Rattle.std.specs.Prelude.{◌≤◌, false}
use Rattle.slotted_slots.specs.declared.error.Error.{Error}
use Rattle.slotted_operations.specs.Graph.{Graph}
use Rattle.slotted_graph.specs.Extension.{ExtendsTo}
use Rattle.slotted_graph.proofs.Extending.{extends-itself, extends-then}
use Rattle.slotted_model_rules.specs.Runners.{Iteration, Limits, Measures, RunnerRefuses, RunnerRuns, RunnerTurn, Stop, after_check, goes_on, refused_later, refused_now, runner_stop, stops_now}
use Rattle.slotted_model_rules.proofs.Rules.Stopping.{runner-first}
use Rattle.slotted_rules.specs.RunLoops.{GivesReason, GoOn, HasCalled, HasRefused, HasTaken, IsBegun, IsTurn, Leads, no_turns, one_more}
use Rattle.slotted_rules.specs.Seen.{Parts}
use Rattle.slotted_rules.specs.Turning.{IsStart, ReadsFrom, TellsAll, measures, reading_in}
use Rattle.slotted_rules.proofs.Readings.{more-readings, reads-back, reads-front, reads-itself, tells-one, tells-then}

abbrev record_of : {D : Type 0} → D → ℕ → ℕ → Iteration D
record_of d nodes end = record { made = d; num_nodes = nodes; finish_time = Some end }

module _ {H T D K : Type 0} (tells : K → ℕ → K → Type 0) (applies : Graph × H → Graph × H → Type 0) (hooks : Graph × H → ℕ → Graph × H → Option T → Type 0) (made : Graph → ℕ → D) (limits : Limits) (start : ℕ) where
  -- the rules, the hook, why it stops, and the reading at its end
  pub turn-of : (stored : ℕ) (s t : Graph × H) (same : Bool) (stop : Option T) → HasCalled applies hooks s stored t same stop → (nodes : ℕ) → nodes ≡ length t.0.filed → (k l m : K) (reason : Option (Stop T)) →
      GivesReason tells limits start stored nodes same stop k l reason → (d : D) → d ≡ made t.0 stored → (end : ℕ) → tells l end m →
      IsTurn tells applies hooks (measures made) limits start stored s k t m reason (record { made = d; num_nodes = nodes; finish_time = Some end })
  turn-of stored s t same stop called nodes count k l m reason why d is end told = record {
    readings = why.readings ++ end ∷ [];
    told = tells-then tells why.readings (end ∷ []) k l m why.told (tells-one tells l end m told);
    turn = λ clock n reads. record {
      applied = called.applied;
      by_rules = called.by_rules;
      answer = stop;
      by_hook = called.by_hook;
      stops = ap (λ b. runner_stop limits stop stored (length t.0.filed) (clock n - start) b) called.same_is ∙ (ap (λ x. runner_stop limits stop stored x (clock n - start) same) (sym count) ∙ why.stops clock n (reads-front clock n why.readings (end ∷ []) reads));
      keeps = kept (clock (after_check stop n)) (sym (reads-back clock n why.readings (end ∷ []) reads).0 ∙ ap clock (why.reads n));
      reads =
          let e : n + length why.readings ≡ after_check stop n = why.reads n in
          let f : n + length (why.readings ++ end ∷ []) ≡ n + length why.readings + length (end ∷ []) = more-readings n why.readings (end ∷ []) in
          omega arith;
    };
  }
    where
      kept : (r : ℕ) → end ≡ r → record_of d nodes end ≡ record_of (made t.0 stored) (length t.0.filed) r
      kept r e = λ i. record_of (is i) (count i) (e i)

-- where the cause is asked for the clock is read at most once
pub read-few : {T : Type 0} (o : Option T) (n : ℕ) → 0 + n ≡ after_check o 0 → n ≤ 1
read-few None n reads = omega (arith, reads)
read-few (Some x) n reads = omega (arith, reads)

-- the reading before the first turn
module _ {D T H K : Type 0} (tells : K → ℕ → K → Type 0) (p : Parts D T H K) where
  pub begun-before : (start : ℕ) → p.start ≡ Some start → IsBegun tells p p start
  begun-before start is = record {
    readings = [];
    told = refl;
    starts = λ clock r. subst (λ o. IsStart o clock start 0) (sym is) (refl, refl);
    rest = λ i. record p { start = is i };
  }

  pub begun-now : (start : ℕ) (clock : K) → p.start ≡ None → tells p.clock start clock → IsBegun tells p (record p { start = Some start; clock = clock }) start
  begun-now start clock is told = record {
    readings = start ∷ [];
    told = (clock, told, refl);
    starts = λ reading r. subst (λ o. IsStart o reading start 1) (sym is) (sym r.0, refl);
    rest = refl;
  }

-- one turn more
module _ {H T D K : Type 0} (tells : K → ℕ → K → Type 0) (applies : Graph × H → Graph × H → Type 0) (hooks : Graph × H → ℕ → Graph × H → Option T → Type 0) (m : Measures (Graph × H) D) (limits : Limits) (start : ℕ) where
  abbrev Goes : (ℕ → ℕ) → List (Iteration D) → ℕ → Graph × H → List (Iteration D) → ℕ → Graph × H → Type 0
  Goes clock stored k s more next t = GoOn tells applies hooks m limits start clock stored k s more next t

  -- each run from where they lead is one from where they begin
  goes-runs : (clock : ℕ → ℕ) {stored more all : List (Iteration D)} {k j last : ℕ} {s t h : Graph × H} {reason : Stop T} → Goes clock stored k s more j t → RunnerRuns applies hooks m limits clock start more j t all last h reason →
      RunnerRuns applies hooks m limits clock start stored k s all last h reason
  goes-runs clock no_turns run = run
  goes-runs clock (one_more so_far turn) run = goes-runs clock so_far (goes_on turn run)

  goes-refuses : (clock : ℕ → ℕ) (spoils : Graph × H → ℕ → Graph × H → Type 0) {stored more all : List (Iteration D)} {k j : ℕ} {s t h : Graph × H} → Goes clock stored k s more j t → RunnerRefuses applies hooks spoils m limits clock start more j t all h →
      RunnerRefuses applies hooks spoils m limits clock start stored k s all h
  goes-refuses clock spoils no_turns refused = refused
  goes-refuses clock spoils (one_more so_far turn) refused = goes-refuses clock spoils so_far (refused_later turn refused)

  leads-more : (clock : ℕ → ℕ) (stored more : List (Iteration D)) (k j next : ℕ) (s t u : Graph × H) (kept : Iteration D) (stop : Option (Stop T)) →
      Goes clock stored k s more j t → RunnerTurn applies hooks m limits clock start (length more) j t u stop kept next → Leads tells applies hooks m limits start clock stored k s (more ++ kept ∷ []) next u stop
  leads-more clock stored more k j next s t u kept (Some reason) so_far turn = goes-runs clock so_far (stops_now turn)
  leads-more clock stored more k j next s t u kept None so_far turn = one_more so_far turn

  abbrev Lead : (ℕ → ℕ) → Parts D T H K → ℕ → List (Iteration D) → ℕ → Graph × H → Option (Stop T) → Type 0
  Lead clock p n more next t stop = Leads tells applies hooks m limits start clock p.iterations n (p.graph, p.hook) more next t stop

  -- none yet
  pub taken-none : (p : Parts D T H K) → p.stop_reason ≡ None → p.graph.failed ≡ false → HasTaken tells applies hooks m limits start p p
  taken-none p on well = record {
    readings = [];
    told = refl;
    leads = λ clock n r.
        let e : n + 0 ≡ n = omega arith in
        subst (λ next. Lead clock p n p.iterations next (p.graph, p.hook) p.stop_reason) (sym e)
        (subst (Lead clock p n p.iterations n (p.graph, p.hook)) (sym on) no_turns);
    count = λ none. omega arith;
    rest = refl;
    well = well;
    extends = extends-itself p.graph;
  }

  -- a turn that goes on is within the limit
  pub within : (n : ℕ) (s t : Graph × H) (k l : K) (kept : Iteration D) → IsTurn tells applies hooks m limits start n s k t l None kept → n ≤ limits.iterations
  within n s t k l kept turn =
      let one = turn.turn (reading_in turn.readings) 0 (reads-itself turn.readings) in
      let first = (runner-first T limits one.answer n (m.nodes t) (reading_in turn.readings 0 - start) _).1.0 one.stops in
      first.1

  -- so often the clock is read in a turn
  pub read-at-most : (n : ℕ) (s t : Graph × H) (k l : K) (stop : Option (Stop T)) (kept : Iteration D) → (turn : IsTurn tells applies hooks m limits start n s k t l stop kept) → length turn.readings ≤ 2
  read-at-most n s t k l stop kept turn =
      let one = turn.turn (reading_in turn.readings) 0 (reads-itself turn.readings) in
      let few = checked one.answer in
      let reads : 0 + length turn.readings ≡ suc (after_check one.answer 0) = one.reads in
      omega arith
    where
      checked : (o : Option T) → after_check o 0 ≤ 1
      checked None = omega arith
      checked (Some x) = omega arith

  read-in-one : (n : ℕ) (s t : Graph × H) (k l : K) (kept : Iteration D) → (turn : IsTurn tells applies hooks m limits start n s k t l None kept) → length turn.readings ≡ 2
  read-in-one n s t k l kept turn =
      let one = turn.turn (reading_in turn.readings) 0 (reads-itself turn.readings) in
      let first = (runner-first T limits one.answer n (m.nodes t) (reading_in turn.readings 0 - start) _).1.0 one.stops in
      let two : suc (after_check one.answer 0) ≡ 2 = ap (λ o. suc (after_check o 0)) first.0 in
      let reads : 0 + length turn.readings ≡ suc (after_check one.answer 0) = one.reads in
      omega arith

  module _ (p q r : Parts D T H K) (taken : HasTaken tells applies hooks m limits start p q) (on : q.stop_reason ≡ None) where
    went : (clock : ℕ → ℕ) (n : ℕ) → ReadsFrom clock n taken.readings → Goes clock p.iterations n (p.graph, p.hook) q.iterations (n + length taken.readings) (q.graph, q.hook)
    went clock n reads = subst (Lead clock p n q.iterations (n + length taken.readings) (q.graph, q.hook)) on (taken.leads clock n reads)

    -- twice in each turn that goes on
    counted-on : (stop : Option (Stop T)) (kept : Iteration D) (turn : IsTurn tells applies hooks m limits start (length q.iterations) (q.graph, q.hook) q.clock (r.graph, r.hook) r.clock stop kept) → stop ≡ None →
        length (taken.readings ++ turn.readings) + 2 * length p.iterations ≡ 2 * length (q.iterations ++ kept ∷ [])
    counted-on None kept turn none =
        let two = read-in-one (length q.iterations) (q.graph, q.hook) (r.graph, r.hook) q.clock r.clock kept turn in
        let before = taken.count on in
        omega (arith, two, before, length-append taken.readings turn.readings, length-append q.iterations (kept ∷ []))
    counted-on (Some reason) kept turn none = absurd (none-some none)
      where
        none-some : Some reason ≡ None → ⊥
        none-some e = absurd (cc)

    pub taken-more : (stop : Option (Stop T)) (kept : Iteration D) → IsTurn tells applies hooks m limits start (length q.iterations) (q.graph, q.hook) q.clock (r.graph, r.hook) r.clock stop kept →
        r ≡ record q { graph = r.graph; hook = r.hook; iterations = q.iterations ++ kept ∷ []; stop_reason = stop; clock = r.clock } → r.graph.failed ≡ false → ExtendsTo q.graph r.graph →
        HasTaken tells applies hooks m limits start p r
    taken-more stop kept turn is well more = record {
      readings = taken.readings ++ turn.readings;
      told = tells-then tells taken.readings turn.readings p.clock q.clock r.clock taken.told turn.told;
      leads = λ clock n reads.
          let j = n + length taken.readings in
          let so_far = went clock n (reads-front clock n taken.readings turn.readings reads) in
          let one = turn.turn clock j (reads-back clock n taken.readings turn.readings reads) in
          subst (λ (x : Parts D T H K). Lead clock p n x.iterations (n + length (taken.readings ++ turn.readings)) (r.graph, r.hook) x.stop_reason) (sym is)
          (subst (λ next. Lead clock p n (q.iterations ++ kept ∷ []) next (r.graph, r.hook) stop) (sym (more-readings n taken.readings turn.readings))
          (leads-more clock p.iterations q.iterations n j (j + length turn.readings) (p.graph, p.hook) (q.graph, q.hook) (r.graph, r.hook) kept stop so_far one));
      count = λ none.
          counted-on stop kept turn (ap (λ (x : Parts D T H K). x.stop_reason) (sym is) ∙ none) ∙ ap (λ (x : Parts D T H K). 2 * length x.iterations) (sym is);
      rest = λ i. record r {
        roots = (ap (λ (x : Parts D T H K). x.roots) is ∙ ap (λ (x : Parts D T H K). x.roots) taken.rest) i;
        limits = (ap (λ (x : Parts D T H K). x.limits) is ∙ ap (λ (x : Parts D T H K). x.limits) taken.rest) i;
        start = (ap (λ (x : Parts D T H K). x.start) is ∙ ap (λ (x : Parts D T H K). x.start) taken.rest) i;
      };
      well = well;
      extends = extends-then p.graph q.graph r.graph taken.extends more;
    }

    -- or one turn is refused
    pub refused-more : (refuses : Graph × H → ℕ → Graph × H → Error → Type 0) (e : Error) → p.stop_reason ≡ None → (readings : List ℕ) → TellsAll tells q.clock readings r.clock → length readings ≤ 2 →
        refuses (q.graph, q.hook) (length q.iterations) (r.graph, r.hook) e → r ≡ record q { graph = r.graph; hook = r.hook; clock = r.clock } → HasRefused tells applies hooks m limits start refuses p r e
    refused-more refuses e begins readings told few spoils is = record {
      readings = taken.readings ++ readings;
      told = tells-then tells taken.readings readings p.clock q.clock r.clock taken.told told;
      refused = λ clock n reads.
          subst (λ (x : Parts D T H K). RunnerRefuses applies hooks (λ s i t. refuses s i t e) m limits clock start p.iterations n (p.graph, p.hook) x.iterations (r.graph, r.hook)) (sym is)
          (goes-refuses clock (λ s i t. refuses s i t e) (went clock n (reads-front clock n taken.readings readings reads)) (refused_now spoils));
      count =
          let before = taken.count on in
          let same : length r.iterations ≡ length q.iterations = ap (λ (x : Parts D T H K). length x.iterations) is in
          omega (arith, few, before, same, length-append taken.readings readings);
      rest = λ i. record r {
        roots = (ap (λ (x : Parts D T H K). x.roots) is ∙ ap (λ (x : Parts D T H K). x.roots) taken.rest) i;
        limits = (ap (λ (x : Parts D T H K). x.limits) is ∙ ap (λ (x : Parts D T H K). x.limits) taken.rest) i;
        start = (ap (λ (x : Parts D T H K). x.start) is ∙ ap (λ (x : Parts D T H K). x.start) taken.rest) i;
        stop_reason = (ap (λ (x : Parts D T H K). x.stop_reason) is ∙ (on ∙ sym begins)) i;
      };
    }
