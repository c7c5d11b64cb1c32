-- Runs that stop for each cause, computed. The graph is how often the rules were applied: the rule (app s ?a) to (app t (app s (app s ?a))) on
-- (app s a) makes 3 nodes 6, and then adds 2 each time, of which one class is united with another.
use Rattle.std.proofs.Common.{◌≡◌, ℕ, suc, zero, ◌+◌, ◌-◌, ◌*◌, List, [], ◌∷◌, ◌++◌, length, Option, Some, None, Bool, true, false, sym, ◌∙◌, ap, refl, subst, ◌≤◌, arith}
use Rattle.std.specs.Prelude.{cond, nat_eq, option_map}
use Rattle.slotted_lists.proofs.Options.{Some-same}
use Rattle.slotted_theory.specs.Decided.{numbers_eq}
use Rattle.slotted_model.proofs.Data.Options.{None-Some}
use Rattle.slotted_model_rules.specs.Runners.{none_searched, one_searched, none_applied, one_applied, AppliesRules, Stop, saturated, iteration_limit, time_limit, node_limit, other, Limits, usual_limits, runner_stop, eqsat_stop, second, Measures, Iteration, Report, after_check, RunnerTurn, RunnerRuns, stops_now, goes_on, RunnerRefuses, refused_now, refused_later, Runner, runner_report, RunnerAnswers, starts, after_time, EqsatTurn, EqsatRuns, eqsat_stops, eqsat_goes_on, eqsat_report, EqsatAnswers}
use Rattle.slotted_model_rules.specs.RunnerClaims.{EachExtends}
use Rattle.slotted_model_rules.proofs.Rules.Turns.{a-run, rules-extend}

-- a machine with one way to go: the rules, the hook, what is read off, and the clock
module _ (next : ℕ → ℕ) (hook : ℕ → Option (List ℕ)) (m : Measures ℕ ℕ) (clock : ℕ → ℕ) where
  abbrev Text : Type 0
  Text = List ℕ

  abbrev Step : ℕ → ℕ → Type 0
  Step g h = h ≡ next g

  abbrev Hooks : ℕ → ℕ → ℕ → Option Text → Type 0
  Hooks g n h answer = (h ≡ g) × (answer ≡ hook n)

  module _ (limits : Limits) (start : ℕ) where
    abbrev stop_after : ℕ → ℕ → ℕ → Option (Stop Text)
    stop_after stored k g = runner_stop limits (hook stored) stored (m.nodes (next g)) (clock k - start) (numbers_eq (m.progress g) (m.progress (next g)))

    abbrev kept_of : ℕ → ℕ → ℕ → Iteration ℕ
    kept_of stored k g = record { made = m.made (next g) stored; num_nodes = m.nodes (next g); finish_time = Some (clock (after_check (hook stored) k)) }

    -- a turn, and those after it, if it does not stop
    abbrev ran_on : (List (Iteration ℕ) → ℕ → ℕ → Option (Runner ℕ Text ℕ)) → List (Iteration ℕ) → ℕ → ℕ → Option (Stop Text) → Option (Runner ℕ Text ℕ)
    ran_on more stored k g (Some reason) = Some (record { graph = next g; stored = stored ++ kept_of (length stored) k g ∷ []; start = Some start; stop_reason = Some reason })
    ran_on more stored k g None = more (stored ++ kept_of (length stored) k g ∷ []) (suc (after_check (hook (length stored)) k)) (next g)

    -- the runner that is left, if at most n turns are enough
    abbrev ran : ℕ → List (Iteration ℕ) → ℕ → ℕ → Option (Runner ℕ Text ℕ)
    ran zero stored k g = None
    ran (suc n) stored k g = ran_on (ran n) stored k g (stop_after (length stored) k g)

    -- what is left by a run
    record HasRun (stored : List (Iteration ℕ)) (k g : ℕ) (r : Runner ℕ Text ℕ) : Type 0 where
      pub last : ℕ
      pub reason : Stop Text
      pub runs : RunnerRuns Step Hooks m limits clock start stored k g r.stored last r.graph reason
      pub is : r ≡ record { graph = r.graph; stored = r.stored; start = Some start; stop_reason = Some reason }

    turn : (stored k g : ℕ) (v : Option (Stop Text)) → stop_after stored k g ≡ v →
        RunnerTurn Step Hooks m limits clock start stored k g (next g) v (kept_of stored k g) (suc (after_check (hook stored) k))
    turn stored k g v e = record { applied = next g; by_rules = refl; answer = hook stored; by_hook = (refl, refl); stops = e; keeps = refl; reads = refl }

    ran_on-runs : (more : List (Iteration ℕ) → ℕ → ℕ → Option (Runner ℕ Text ℕ)) → ((stored : List (Iteration ℕ)) (k g : ℕ) (r : Runner ℕ Text ℕ) → more stored k g ≡ Some r → HasRun stored k g r) →
        (stored : List (Iteration ℕ)) (k g : ℕ) (v : Option (Stop Text)) → stop_after (length stored) k g ≡ v → (r : Runner ℕ Text ℕ) → ran_on more stored k g v ≡ Some r → HasRun stored k g r
    ran_on-runs more runs stored k g (Some reason) s r e =
        subst (HasRun stored k g) (Some-same _ r e) (record { last = _; reason = reason; runs = stops_now (turn (length stored) k g (Some reason) s); is = refl })
    ran_on-runs more runs stored k g None s r e =
        let all : HasRun (stored ++ kept_of (length stored) k g ∷ []) (suc (after_check (hook (length stored)) k)) (next g) r =
        runs (stored ++ kept_of (length stored) k g ∷ []) (suc (after_check (hook (length stored)) k)) (next g) r e in
        record { last = all.last; reason = all.reason; runs = goes_on (turn (length stored) k g None s) all.runs; is = all.is }

    ran-runs : (n : ℕ) (stored : List (Iteration ℕ)) (k g : ℕ) (r : Runner ℕ Text ℕ) → ran n stored k g ≡ Some r → HasRun stored k g r
    ran-runs zero stored k g r e = absurd (None-Some r e)
    ran-runs (suc n) stored k g r e = ran_on-runs (ran n) (ran-runs n) stored k g (stop_after (length stored) k g) refl r e

  -- a new runner
  abbrev fresh : ℕ → Runner ℕ Text ℕ
  fresh g = record { graph = g; stored = []; start = None; stop_reason = None }

  abbrev report_of : Option (Runner ℕ Text ℕ) → Option (Report Text)
  report_of None = None
  report_of (Some r) = option_map (runner_report m r) r.stop_reason

  -- what a new runner reports after at most n turns
  abbrev reported : Limits → ℕ → ℕ → Option (Report Text)
  reported limits n g = report_of (ran limits (clock 0) n [] 1 g)

  abbrev Reports : Limits → ℕ → Report Text → Type 0
  Reports limits g report = (after : Runner ℕ Text ℕ) × RunnerAnswers Step Hooks m limits clock 0 (fresh g) after report

  reports-of : (limits : Limits) (g : ℕ) (report : Report Text) (v : Option (Runner ℕ Text ℕ)) → ((r : Runner ℕ Text ℕ) → v ≡ Some r → HasRun limits (clock 0) [] 1 g r) → report_of v ≡ Some report → Reports limits g report
  reports-of limits g report None runs e = absurd (None-Some report e)
  reports-of limits g report (Some r) runs e =
      let h : HasRun limits (clock 0) [] 1 g r = runs r refl in
      let after : Runner ℕ Text ℕ = record { graph = r.graph; stored = r.stored; start = Some (clock 0); stop_reason = Some h.reason } in
      let same : Some (runner_report m after h.reason) ≡ Some report = sym (ap (λ q. report_of (Some q)) h.is) ∙ e in
      (after, subst (RunnerAnswers Step Hooks m limits clock 0 (fresh g) after) (Some-same (runner_report m after h.reason) report same) (starts refl refl h.runs))

  reports : (limits : Limits) (n g : ℕ) (report : Report Text) → reported limits n g ≡ Some report → Reports limits g report
  reports limits n g report e = reports-of limits g report (ran limits (clock 0) n [] 1 g) (λ r q. ran-runs limits (clock 0) n [] 1 g r q) e

-- no hook, one that says 9 when it is handed 2 turns, and clocks
abbrev no_hook : ℕ → Option (List ℕ)
no_hook n = None

abbrev pub enough : ℕ → Option (List ℕ)
enough n = cond (nat_eq n 2) (Some (9 ∷ [])) None

abbrev pub stands_still : ℕ → ℕ
stands_still n = 0

abbrev pub goes_by_seconds : ℕ → ℕ
goes_by_seconds n = n * second

-- the growing graph, and the empty one without rules
abbrev grown : ℕ → ℕ
grown zero = 3
grown (suc n) = 2 * n + 6

abbrev grown_live : ℕ → ℕ
grown_live zero = 3
grown_live (suc n) = n + 5

abbrev growing : Measures ℕ ℕ
growing = record { nodes = grown; classes = grown; live_classes = grown_live; progress = λ g. grown g ∷ grown_live g ∷ []; made = λ g n. n }

abbrev empty : Measures ℕ ℕ
empty = record { nodes = λ g. 0; classes = λ g. 0; live_classes = λ g. 0; progress = λ g. 0 ∷ 0 ∷ []; made = λ g n. n }

stops_by_iterations : Reports suc no_hook growing stands_still usual_limits 0 (record { iterations = 32; stop_reason = iteration_limit; egraph_nodes = 68; egraph_classes = 68; total_time = 0 })
stops_by_iterations = reports suc no_hook growing stands_still usual_limits 40 0 _ refl

stops_by_nodes : Reports suc no_hook growing stands_still (record { iterations = 30; nodes = 9; time = 60000000000 }) 0 (record { iterations = 3; stop_reason = node_limit; egraph_nodes = 10; egraph_classes = 10; total_time = 0 })
stops_by_nodes = reports suc no_hook growing stands_still (record { iterations = 30; nodes = 9; time = 60000000000 }) 40 0 _ refl

-- the limit itself is not past the limit
stops_past_nodes : Reports suc no_hook growing stands_still (record { iterations = 30; nodes = 10; time = 60000000000 }) 0 (record { iterations = 4; stop_reason = node_limit; egraph_nodes = 12; egraph_classes = 12; total_time = 0 })
stops_past_nodes = reports suc no_hook growing stands_still (record { iterations = 30; nodes = 10; time = 60000000000 }) 40 0 _ refl

-- after 61 seconds, and the last turn ends at 62
stops_by_time : Reports suc no_hook growing goes_by_seconds usual_limits 0 (record { iterations = 31; stop_reason = time_limit; egraph_nodes = 66; egraph_classes = 66; total_time = 62000000000 })
stops_by_time = reports suc no_hook growing goes_by_seconds usual_limits 40 0 _ refl

-- a turn that the hook stops is stored too, and reads the clock once: 5 readings after the first one, not 6
stops_by_hook : Reports suc enough growing goes_by_seconds usual_limits 0 (record { iterations = 3; stop_reason = other (9 ∷ []); egraph_nodes = 10; egraph_classes = 10; total_time = 5000000000 })
stops_by_hook = reports suc enough growing goes_by_seconds usual_limits 40 0 _ refl

stops_saturated : Reports (λ g. g) no_hook empty stands_still usual_limits 0 (record { iterations = 1; stop_reason = saturated; egraph_nodes = 0; egraph_classes = 0; total_time = 0 })
stops_saturated = reports (λ g. g) no_hook empty stands_still usual_limits 40 0 _ refl

-- `run_eqsat`: the same machine, computed
module _ (next : ℕ → ℕ) (hook : ℕ → Option (List ℕ)) (m : Measures ℕ ℕ) (clock : ℕ → ℕ) (iterations seconds start : ℕ) where
  abbrev eqsat_after : ℕ → ℕ → ℕ → Option (Stop (List ℕ))
  eqsat_after counted k g = eqsat_stop iterations seconds (hook counted) (numbers_eq (m.progress g) (m.progress (next g))) counted (clock k - start)

  abbrev next_reading : ℕ → ℕ → ℕ → ℕ
  next_reading counted k g = after_time iterations (hook counted) (numbers_eq (m.progress g) (m.progress (next g))) counted k

  -- counted turns, the next reading, the graph and the cause
  abbrev Outcome : Type 0
  Outcome = ℕ × ℕ × ℕ × Stop (List ℕ)

  abbrev eqsat_on : (ℕ → ℕ → ℕ → Option Outcome) → ℕ → ℕ → ℕ → Option (Stop (List ℕ)) → Option Outcome
  eqsat_on more counted k g (Some reason) = Some (counted, next_reading counted k g, next g, reason)
  eqsat_on more counted k g None = more (suc counted) (next_reading counted k g) (next g)

  abbrev eqsat_ran : ℕ → ℕ → ℕ → ℕ → Option Outcome
  eqsat_ran zero counted k g = None
  eqsat_ran (suc n) counted k g = eqsat_on (eqsat_ran n) counted k g (eqsat_after counted k g)

  abbrev IsOutcome : ℕ → ℕ → ℕ → Outcome → Type 0
  IsOutcome counted k g o = EqsatRuns (Step next hook m clock) (Hooks next hook m clock) m.progress iterations seconds clock start counted k g o.0 o.1 o.2 o.3

  eqsat-turn : (counted k g : ℕ) (v : Option (Stop (List ℕ))) → eqsat_after counted k g ≡ v →
      EqsatTurn (Step next hook m clock) (Hooks next hook m clock) m.progress iterations seconds clock start counted k g (next g) v (next_reading counted k g)
  eqsat-turn counted k g v e = record { applied = next g; by_rules = refl; answer = hook counted; by_hook = (refl, refl); stops = e; reads = refl }

  eqsat_on-runs : (more : ℕ → ℕ → ℕ → Option Outcome) → ((counted k g : ℕ) (o : Outcome) → more counted k g ≡ Some o → IsOutcome counted k g o) →
      (counted k g : ℕ) (v : Option (Stop (List ℕ))) → eqsat_after counted k g ≡ v → (o : Outcome) → eqsat_on more counted k g v ≡ Some o → IsOutcome counted k g o
  eqsat_on-runs more runs counted k g (Some reason) s o e = subst (IsOutcome counted k g) (Some-same _ o e) (eqsat_stops (eqsat-turn counted k g (Some reason) s))
  eqsat_on-runs more runs counted k g None s o e = eqsat_goes_on (eqsat-turn counted k g None s) (runs (suc counted) (next_reading counted k g) (next g) o e)

  eqsat-runs : (n counted k g : ℕ) (o : Outcome) → eqsat_ran n counted k g ≡ Some o → IsOutcome counted k g o
  eqsat-runs zero counted k g o e = absurd (None-Some o e)
  eqsat-runs (suc n) counted k g o e = eqsat_on-runs (eqsat_ran n) (eqsat-runs n) counted k g (eqsat_after counted k g) refl o e

module _ (next : ℕ → ℕ) (hook : ℕ → Option (List ℕ)) (m : Measures ℕ ℕ) (clock : ℕ → ℕ) (iterations seconds g : ℕ) where
  abbrev EqsatReports : ℕ → Report (List ℕ) → Type 0
  EqsatReports h report = EqsatAnswers (Step next hook m clock) (Hooks next hook m clock) m iterations seconds clock 0 g h report

  eqsat-reports : (n : ℕ) (o : ℕ × ℕ × ℕ × Stop (List ℕ)) → eqsat_ran next hook m clock iterations seconds (clock 0) n 0 1 g ≡ Some o → EqsatReports o.2 (eqsat_report m clock 0 o.0 o.1 o.2 o.3)
  eqsat-reports n o e = record { total = o.0; last = o.1; reason = o.3; runs = eqsat-runs next hook m clock iterations seconds (clock 0) n 0 1 g o e; is = refl }

-- a limit of none applies the rules once, and counts no turn
eqsat_stops_by_iterations : EqsatReports suc no_hook growing stands_still 0 60 0 1 (record { iterations = 0; stop_reason = iteration_limit; egraph_nodes = 6; egraph_classes = 5; total_time = 0 })
eqsat_stops_by_iterations = eqsat-reports suc no_hook growing stands_still 0 60 0 40 (0, 1, 1, iteration_limit) refl

-- the limit of seconds itself stops: the second turn is read at 2 seconds, and the report at 3
eqsat_stops_by_time : EqsatReports suc no_hook growing goes_by_seconds 9 2 0 2 (record { iterations = 1; stop_reason = time_limit; egraph_nodes = 8; egraph_classes = 6; total_time = 3000000000 })
eqsat_stops_by_time = eqsat-reports suc no_hook growing goes_by_seconds 9 2 0 40 (1, 3, 2, time_limit) refl

eqsat_stops_by_hook : EqsatReports suc enough growing stands_still 9 60 0 3 (record { iterations = 2; stop_reason = other (9 ∷ []); egraph_nodes = 10; egraph_classes = 7; total_time = 0 })
eqsat_stops_by_hook = eqsat-reports suc enough growing stands_still 9 60 0 40 (2, 3, 3, other (9 ∷ [])) refl

eqsat_stops_saturated : EqsatReports (λ g. g) no_hook empty stands_still 5 60 0 0 (record { iterations = 0; stop_reason = saturated; egraph_nodes = 0; egraph_classes = 0; total_time = 0 })
eqsat_stops_saturated = eqsat-reports (λ g. g) no_hook empty stands_still 5 60 0 40 (0, 1, 0, saturated) refl

-- the third turn is refused: two are stored, and the graph is what the refusal left
abbrev pub refused_third : ℕ → ℕ → ℕ → Type 0
refused_third g n h = (n ≡ 2) × (h ≡ g)

refused : RunnerRefuses (Step suc no_hook growing stands_still) (Hooks suc no_hook growing stands_still) refused_third growing usual_limits stands_still 0 [] 1 0
    (kept_of suc no_hook growing stands_still usual_limits 0 0 1 0 ∷ kept_of suc no_hook growing stands_still usual_limits 0 1 3 1 ∷ []) 2
refused =
    refused_later (turn suc no_hook growing stands_still usual_limits 0 0 1 0 None refl)
    (refused_later (turn suc no_hook growing stands_still usual_limits 0 1 3 1 None refl) (refused_now (refl, refl)))

-- two rules, which are both searched on the graph 3 before the first is applied: the one finds it and adds what it found, the other adds one
abbrev pub searches_for : Bool → ℕ → ℕ → ℕ → Type 0
searches_for rule g found h = (found ≡ g) × (h ≡ g)

abbrev pub adds_found : Bool → ℕ → ℕ → ℕ → Type 0
adds_found rule found g h = h ≡ cond rule (g + found) (suc g)

both_rules : AppliesRules searches_for adds_found (true ∷ true ∷ false ∷ []) 3 10
both_rules = record {
  searched = 3;
  found = 3 ∷ 3 ∷ 3 ∷ [];
  by_searches = one_searched (refl, refl) (one_searched (refl, refl) (one_searched (refl, refl) none_searched));
  by_applies = one_applied refl (one_applied refl (one_applied refl none_applied));
}

-- none of them makes the graph smaller, nor do turns and runs
abbrev pub no_smaller : ℕ → ℕ → Type 0
no_smaller g h = g ≤ h

abbrev never_stops : ℕ → ℕ → ℕ → Option (List ℕ) → Type 0
never_stops g n h answer = (h ≡ g) × (answer ≡ None)

pub grows : EachExtends ℕ (List ℕ) ℕ ℕ Bool searches_for adds_found never_stops refused_third no_smaller
grows = record {
  same = λ g. omega arith;
  joined = λ f g h a b. omega arith;
  by_search = λ rule g h found s. let e : h ≡ g = s.1 in omega arith;
  by_apply = λ rule found g h a. grown_by rule found g h a;
  by_hook = λ g h n answer s. let e : h ≡ g = s.0 in omega arith;
  by_refusal = λ g h n s. let e : h ≡ g = s.1 in omega arith;
}
  where
    grown_by : (rule : Bool) (found g h : ℕ) → adds_found rule found g h → g ≤ h
    grown_by true found g h e = let k : h ≡ g + found = e in omega arith
    grown_by false found g h e = let k : h ≡ suc g = e in omega arith

three_is_no_smaller : no_smaller 3 10
three_is_no_smaller = rules-extend ℕ (List ℕ) ℕ ℕ Bool searches_for adds_found never_stops refused_third no_smaller grows (true ∷ true ∷ false ∷ []) 3 10 both_rules

-- a run is there from each graph, also where one does not count its turns
a_run_is_there : (all : List (Iteration ℕ)) × (last : ℕ) × (h : ℕ) × (reason : Stop (List ℕ))
    × RunnerRuns (Step suc no_hook growing stands_still) (Hooks suc no_hook growing stands_still) growing usual_limits stands_still 0 [] 1 0 all last h reason
a_run_is_there =
    a-run ℕ (List ℕ) ℕ (Step suc no_hook growing stands_still) (Hooks suc no_hook growing stands_still) growing usual_limits stands_still 0 (λ g. (suc g, refl)) (λ g n. (g, no_hook n, (refl, refl))) [] 1 0
