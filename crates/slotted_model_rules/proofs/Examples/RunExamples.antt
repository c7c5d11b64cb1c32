-- Laws of runs held against two rules on a number: both are searched before the first is applied, which adds what was
-- found, and the second adds one. So a graph g becomes 2 g + 1; it is its own size, the clock goes by seconds, and the
-- hook stops with the text 9 when it is handed two turns.
use Rattle.std.proofs.Common.{◌≡◌, ◌≤◌, ℕ, suc, ◌+◌, ◌-◌, ◌*◌, List, [], ◌∷◌, ◌++◌, length, Option, Some, None, Bool}
use Rattle.std.proofs.Common.{true, false, refl, arith}
use Rattle.slotted_theory.specs.Decided.{numbers_eq}
use Rattle.slotted_model_rules.specs.Runners.{none_searched, one_searched, none_applied, one_applied, AppliesRules}
use Rattle.slotted_model_rules.specs.Runners.{Stop, saturated, iteration_limit, time_limit, node_limit, other, Limits}
use Rattle.slotted_model_rules.specs.Runners.{usual_limits, runner_stop, eqsat_stop, Measures, Iteration, Report}
use Rattle.slotted_model_rules.specs.Runners.{last_finish, after_check, RunnerTurn, RunnerRuns, stops_now, goes_on}
use Rattle.slotted_model_rules.specs.Runners.{RunnerRefuses, refused_now, refused_later, Runner}
use Rattle.slotted_model_rules.specs.Runners.{RunnerAnswers, again, starts, after_time, EqsatTurn, EqsatRuns}
use Rattle.slotted_model_rules.specs.Runners.{eqsat_stops, eqsat_goes_on}
use Rattle.slotted_model_rules.specs.RunnerClaims.{RunnerLaws, EachExtends}
use Rattle.slotted_model_rules.proofs.Laws.{runner-laws}
use Rattle.slotted_model_rules.proofs.Examples.RunnerExamples.{enough, goes_by_seconds, searches_for, adds_found, refused_third}
use Rattle.slotted_model_rules.proofs.Examples.RunnerExamples.{no_smaller, grows}

-- the rules, what they do in a turn, the hook, and what is read off
abbrev rules : List Bool
rules = true ∷ false ∷ []

abbrev Rules : ℕ → ℕ → Type 0
Rules = AppliesRules searches_for adds_found rules

-- both rules lead from g to 2 g + 1
applied : (g : ℕ) → Rules g (suc (g + g))
applied g = record {
  searched = g;
  found = g ∷ g ∷ [];
  by_searches = one_searched (refl, refl) (one_searched (refl, refl) none_searched);
  by_applies = one_applied refl (one_applied refl none_applied);
}

abbrev hooks : ℕ → ℕ → ℕ → Option (List ℕ) → Type 0
hooks g n h answer = (h ≡ g) × (answer ≡ enough n)

-- the hook ends in each graph
called : (g n : ℕ) → (h : ℕ) × (answer : Option (List ℕ)) × hooks g n h answer
called g n = (g, enough n, (refl, refl))

abbrev sized : Measures ℕ ℕ
sized = record {
  nodes = λ g. g;
  classes = λ g. g;
  live_classes = λ g. g;
  progress = λ g. g ∷ [];
  made = λ g n. n;
}

-- the laws for these steps
laws : RunnerLaws ℕ (List ℕ) ℕ ℕ Bool searches_for adds_found hooks refused_third no_smaller
laws = runner-laws ℕ (List ℕ) ℕ ℕ Bool searches_for adds_found hooks refused_third no_smaller

-- the first of the causes that hold is the one: the hook's, though all others hold
by_hook : runner_stop {T = List ℕ} usual_limits (Some (9 ∷ [])) 31 10001 62000000000 true ≡ Some (other (9 ∷ []))
by_hook =
    ((laws.runners_stop_for_the_first usual_limits (Some (9 ∷ [])) 31 10001 62000000000 true).0 (other (9 ∷ []))).1 refl

-- turns, though nodes and time are past their limits too, and nothing has changed
by_turns : runner_stop {T = List ℕ} usual_limits None 31 10001 62000000000 true ≡ Some iteration_limit
by_turns =
    ((laws.runners_stop_for_the_first usual_limits None 31 10001 62000000000 true).0 iteration_limit).1
    (refl, omega arith)

-- nodes, though time is past its limit too
by_nodes : runner_stop {T = List ℕ} usual_limits None 30 10001 62000000000 true ≡ Some node_limit
by_nodes =
    ((laws.runners_stop_for_the_first usual_limits None 30 10001 62000000000 true).0 node_limit).1
    (refl, omega arith, omega arith)

-- time, though nothing has changed
by_time : runner_stop {T = List ℕ} usual_limits None 30 10000 62000000000 true ≡ Some time_limit
by_time =
    ((laws.runners_stop_for_the_first usual_limits None 30 10000 62000000000 true).0 time_limit).1
    (refl, omega arith, omega arith, omega arith)

-- at each limit itself only that nothing has changed, and else nothing
by_no_change : runner_stop {T = List ℕ} usual_limits None 30 10000 60000000000 true ≡ Some saturated
by_no_change =
    ((laws.runners_stop_for_the_first usual_limits None 30 10000 60000000000 true).0 saturated).1
    (refl, omega arith, omega arith, omega arith, refl)

-- nothing stops where something has changed
by_nothing : runner_stop {T = List ℕ} usual_limits None 30 10000 60000000000 false ≡ None
by_nothing =
    (laws.runners_stop_for_the_first usual_limits None 30 10000 60000000000 false).1.1
    (refl, omega arith, omega arith, omega arith, refl)

-- `run_eqsat` asks whether something has changed before it asks for turns, and for turns before time; at the limit it
-- stops
eqsat_by_no_change : eqsat_stop {T = List ℕ} 30 60 None true 30 60000000000 ≡ Some saturated
eqsat_by_no_change = ((laws.eqsat_stops_for_the_first 30 60 None true 30 60000000000).0 saturated).1 (refl, refl)

-- turns, though time is at its limit too
eqsat_by_turns : eqsat_stop {T = List ℕ} 30 60 None false 30 60000000000 ≡ Some iteration_limit
eqsat_by_turns =
    ((laws.eqsat_stops_for_the_first 30 60 None false 30 60000000000).0 iteration_limit).1
    (refl, refl, omega arith)

-- time, at its limit
eqsat_by_time : eqsat_stop {T = List ℕ} 30 60 None false 29 60000000000 ≡ Some time_limit
eqsat_by_time =
    ((laws.eqsat_stops_for_the_first 30 60 None false 29 60000000000).0 time_limit).1
    (refl, refl, omega arith, omega arith)

-- and nothing below both limits
eqsat_by_nothing : eqsat_stop {T = List ℕ} 30 60 None false 29 59999999999 ≡ None
eqsat_by_nothing =
    (laws.eqsat_stops_for_the_first 30 60 None false 29 59999999999).1.1
    (refl, refl, omega arith, omega arith)

-- a turn of the runner, and what is stored of it
abbrev kept_of : ℕ → ℕ → ℕ → Iteration ℕ
kept_of stored k g = record {
  made = stored;
  num_nodes = suc (g + g);
  finish_time = Some (goes_by_seconds (after_check (enough stored) k));
}

-- such a turn is there where the causes answer `stop`
turn : (limits : Limits) (stored k g : ℕ) (stop : Option (Stop (List ℕ))) →
    runner_stop limits (enough stored) stored (suc (g + g)) (goes_by_seconds k - 0)
    (numbers_eq (g ∷ []) (suc (g + g) ∷ [])) ≡ stop →
    RunnerTurn Rules hooks sized limits goes_by_seconds 0 stored k g (suc (g + g)) stop (kept_of stored k g)
    (suc (after_check (enough stored) k))
turn limits stored k g stop e = record {
  applied = suc (g + g);
  by_rules = applied g;
  answer = enough stored;
  by_hook = (refl, refl);
  stops = e;
  keeps = refl;
  reads = refl;
}

-- from 3 over 7 and 15 to 31, where the hook stops the third turn
abbrev three_turns : List (Iteration ℕ)
three_turns = kept_of 0 1 3 ∷ kept_of 1 3 7 ∷ kept_of 2 5 15 ∷ []

-- two turns go on, and the third stops
stopped_by_hook : RunnerRuns Rules hooks sized usual_limits goes_by_seconds 0 [] 1 3 three_turns 6 31 (other (9 ∷ []))
stopped_by_hook =
    goes_on (turn usual_limits 0 1 3 None refl)
    (goes_on (turn usual_limits 1 3 7 None refl) (stops_now (turn usual_limits 2 5 15 (Some (other (9 ∷ []))) refl)))

-- with a limit of no turns two are stored
abbrev no_turns : Limits
no_turns = record { iterations = 0; nodes = 10000; time = 60000000000 }

abbrev two_turns : List (Iteration ℕ)
two_turns = kept_of 0 1 3 ∷ kept_of 1 3 7 ∷ []

-- the second turn is past the limit
stopped_by_turns : RunnerRuns Rules hooks sized no_turns goes_by_seconds 0 [] 1 3 two_turns 5 15 iteration_limit
stopped_by_turns =
    goes_on (turn no_turns 0 1 3 None refl) (stops_now (turn no_turns 1 3 7 (Some iteration_limit) refl))

-- there is a turn that stopped, with the hook's text
turn_that_stops : (earlier : List (Iteration ℕ)) × (kept : Iteration ℕ) × (f : ℕ) × (j : ℕ)
    × (three_turns ≡ earlier ++ kept ∷ [])
    × RunnerTurn Rules hooks sized usual_limits goes_by_seconds 0 (length earlier) j f 31 (Some (other (9 ∷ []))) kept 6
turn_that_stops =
    laws.runs_end_in_a_turn rules sized usual_limits goes_by_seconds 0 [] three_turns 1 6 3 31 (other (9 ∷ []))
    stopped_by_hook

-- so many as the limit and two more, since it is the cause; by another cause no more than that
just_two : length two_turns ≡ 2
just_two =
    (laws.runners_are_bounded rules sized no_turns goes_by_seconds 0 [] two_turns 1 5 3 15 iteration_limit
    stopped_by_turns (omega arith)).1 refl

-- the hook has stopped this one within the bound
at_most_limit : length three_turns ≤ 32
at_most_limit =
    (laws.runners_are_bounded rules sized usual_limits goes_by_seconds 0 [] three_turns 1 6 3 31 (other (9 ∷ []))
    stopped_by_hook (omega arith)).0

-- twice in each of two turns and once in the third, which the hook stopped: five readings after the first one
five_readings : 6 + 1 + 2 * 0 ≡ 1 + 2 * length three_turns
five_readings =
    laws.runners_read_twice rules sized usual_limits goes_by_seconds 0 [] three_turns 1 6 3 31 (other (9 ∷ []))
    stopped_by_hook

-- the last stored turn has 31 nodes, and finishes at the last reading
last_has_31 : (earlier : List (Iteration ℕ)) × (kept : Iteration ℕ) × (final : ℕ)
    × (three_turns ≡ earlier ++ kept ∷ []) × (kept.num_nodes ≡ 31) × (kept.made ≡ length earlier)
    × (6 ≡ suc final) × (last_finish three_turns ≡ Some (goes_by_seconds final))
last_has_31 =
    laws.last_turns_are_reported rules sized usual_limits goes_by_seconds 0 [] three_turns 1 6 3 31 (other (9 ∷ []))
    stopped_by_hook

-- from one stored turn on the second goes on and the third is refused: the stored ones are the first and one more
third_refused : RunnerRefuses Rules hooks refused_third sized usual_limits goes_by_seconds 0 (kept_of 0 1 3 ∷ []) 3 7
    two_turns 15
third_refused = refused_later (turn usual_limits 1 3 7 None refl) (refused_now (refl, refl))

-- the first is kept, and one more is stored
one_more : (more : List (Iteration ℕ)) × (f : ℕ) × (two_turns ≡ (kept_of 0 1 3 ∷ []) ++ more) × refused_third f 2 15
one_more =
    laws.refused_turns_are_not_stored rules sized usual_limits goes_by_seconds 0 (kept_of 0 1 3 ∷ []) two_turns 3 7 15
    third_refused

-- a new runner on 3, and what a call of `run` leaves of it and reports
abbrev new_runner : Runner ℕ (List ℕ) ℕ
new_runner = record { graph = 3; stored = []; start = None; stop_reason = None }

abbrev old_runner : Runner ℕ (List ℕ) ℕ
old_runner = record { graph = 31; stored = three_turns; start = Some 0; stop_reason = Some (other (9 ∷ [])) }

abbrev reported : Report (List ℕ)
reported = record {
  iterations = 3;
  stop_reason = other (9 ∷ []);
  egraph_nodes = 31;
  egraph_classes = 31;
  total_time = 5000000000;
}

-- the call makes the new runner the old one
first_call : RunnerAnswers Rules hooks sized usual_limits goes_by_seconds 0 new_runner old_runner reported
first_call = starts refl refl stopped_by_hook

-- a call after it leaves the same runner, and reports the same
second_call : (later : Runner ℕ (List ℕ) ℕ) (next : Report (List ℕ)) →
    RunnerAnswers Rules hooks sized usual_limits goes_by_seconds 6 old_runner later next →
    (later ≡ old_runner) × (next ≡ reported)
second_call =
    (laws.stopped_runners_report_again rules sized usual_limits goes_by_seconds 0 new_runner old_runner reported
    first_call).2 6

-- and there is such a call
called_again : RunnerAnswers Rules hooks sized usual_limits goes_by_seconds 6 old_runner old_runner reported
called_again = again (other (9 ∷ [])) refl

-- a run is there from 3, without counting its turns, and it stores at most 32
a_run : (all : List (Iteration ℕ)) × (last : ℕ) × (h : ℕ) × (reason : Stop (List ℕ))
    × RunnerRuns Rules hooks sized usual_limits goes_by_seconds 0 [] 1 3 all last h reason × (length all ≤ 32)
a_run =
    let r = laws.runners_end rules (λ g. (suc (g + g), applied g)) called sized usual_limits goes_by_seconds 0 [] 1 3 in
    let most = laws.runners_are_bounded rules sized usual_limits goes_by_seconds 0 [] r.0 1 r.1 3 r.2 r.3 r.4
    (omega arith) in
    (r.0, r.1, r.2, r.3, r.4, most.0)

-- a turn of `run_eqsat`, with the limits of one turn and of a minute
abbrev Eqsat : ℕ → ℕ → ℕ → ℕ → ℕ → ℕ → Stop (List ℕ) → Type 0
Eqsat = EqsatRuns Rules hooks sized.progress 1 60 goes_by_seconds 0

-- such a turn is there where its causes answer `stop`
eqsat-turn : (counted k g : ℕ) (stop : Option (Stop (List ℕ))) →
    eqsat_stop 1 60 (enough counted) (numbers_eq (g ∷ []) (suc (g + g) ∷ [])) counted (goes_by_seconds k - 0) ≡ stop →
    EqsatTurn Rules hooks sized.progress 1 60 goes_by_seconds 0 counted k g (suc (g + g)) stop
    (after_time 1 (enough counted) (numbers_eq (g ∷ []) (suc (g + g) ∷ [])) counted k)
eqsat-turn counted k g stop e = record {
  applied = suc (g + g);
  by_rules = applied g;
  answer = enough counted;
  by_hook = (refl, refl);
  stops = e;
  reads = refl;
}

-- from 3 over 7 to 15: the second turn stops by the limit, and is not counted
one_counted : Eqsat 0 1 3 1 2 15 iteration_limit
one_counted =
    eqsat_goes_on (eqsat-turn 0 1 3 None refl) (eqsat_stops (eqsat-turn 1 2 7 (Some iteration_limit) refl))

-- just as many as the limit, since it is the cause
just_one : 1 ≤ 1 × (◌≡◌ {A = Stop (List ℕ)} iteration_limit iteration_limit → ◌≡◌ {A = ℕ} 1 1)
just_one =
    laws.eqsat_is_bounded rules sized.progress 1 60 goes_by_seconds 0 0 1 1 2 3 15 iteration_limit one_counted
    (omega arith)

-- there is a turn that stopped, by the limit
eqsat_turn_that_stops : (f : ℕ) × (j : ℕ)
    × EqsatTurn Rules hooks sized.progress 1 60 goes_by_seconds 0 1 j f 15 (Some iteration_limit) 2
eqsat_turn_that_stops =
    laws.eqsat_ends_in_a_turn rules sized.progress 1 60 goes_by_seconds 0 0 1 1 2 3 15 iteration_limit one_counted

-- a run is there from 3, without counting its turns, and it counts one at most
an_eqsat : (total : ℕ) × (last : ℕ) × (h : ℕ) × (reason : Stop (List ℕ)) × Eqsat 0 1 3 total last h reason × (total ≤ 1)
an_eqsat =
    let r = laws.eqsat_ends rules (λ g. (suc (g + g), applied g)) called sized.progress 1 60 goes_by_seconds 0 0 1 3 in
    let most = laws.eqsat_is_bounded rules sized.progress 1 60 goes_by_seconds 0 0 1 r.0 r.1 3 r.2 r.3 r.4
    (omega arith) in
    (r.0, r.1, r.2, r.3, r.4, most.0)

-- no search, apply, hook or refusal makes the number smaller: so neither do the rules, both runs, and what is refused
each_grows : EachExtends ℕ (List ℕ) ℕ ℕ Bool searches_for adds_found hooks refused_third no_smaller
each_grows = record {
  same = grows.same;
  joined = grows.joined;
  by_search = grows.by_search;
  by_apply = grows.by_apply;
  by_hook = λ g h n answer s. let e : h ≡ g = s.0 in omega arith;
  by_refusal = grows.by_refusal;
}

-- the rules once
rules_grow : 3 ≤ 7
rules_grow = (laws.runs_extend each_grows).0 rules 3 7 (applied 3)

-- the run that the hook stops
runs_grow : 3 ≤ 31
runs_grow =
    (laws.runs_extend each_grows).1 rules sized usual_limits goes_by_seconds 0 [] three_turns 1 6 3 31 (other (9 ∷ []))
    stopped_by_hook

-- the run of `run_eqsat`
eqsat_grows : 3 ≤ 15
eqsat_grows =
    (laws.runs_extend each_grows).2 rules sized.progress 1 60 goes_by_seconds 0 0 1 1 2 3 15 iteration_limit one_counted

-- the turns up to the refused one
refusals_grow : 7 ≤ 15
refusals_grow =
    (laws.runs_extend each_grows).3 rules sized usual_limits goes_by_seconds 0 (kept_of 0 1 3 ∷ []) two_turns 3 7 15
    third_refused
