-- The laws of runs, all owed by `runner_laws_hold` in src/runner.rt. Rules are of the type Q, and their searches find F.
use Rattle.std.specs.Prelude.{◌≡◌, ◌↔◌, ℕ, suc, ◌+◌, ◌*◌, ◌<◌, ◌≤◌, List, [], ◌∷◌, ◌++◌, length, Option, Some, None}
use Rattle.std.specs.Prelude.{Bool, true, false}
use Rattle.slotted_model_rules.specs.Runners.{AppliesRules, Stop, saturated, iteration_limit, time_limit, node_limit}
use Rattle.slotted_model_rules.specs.Runners.{other, Limits, runner_stop, second, eqsat_stop, Measures, Iteration}
use Rattle.slotted_model_rules.specs.Runners.{Report, last_finish, RunnerTurn, RunnerRuns, RunnerRefuses, Runner}
use Rattle.slotted_model_rules.specs.Runners.{runner_report, RunnerAnswers, EqsatTurn, EqsatRuns}

-- the cause holds, and none before it
abbrev pub IsRunnerCause : {T : Type 0} → Limits → Option T → ℕ → ℕ → ℕ → Bool → Stop T → Type 0
IsRunnerCause limits hook stored nodes elapsed same (other t) = hook ≡ Some t
IsRunnerCause limits hook stored nodes elapsed same iteration_limit = (hook ≡ None) × (limits.iterations < stored)
IsRunnerCause limits hook stored nodes elapsed same node_limit = (hook ≡ None) × (stored ≤ limits.iterations)
    × (limits.nodes < nodes)
IsRunnerCause limits hook stored nodes elapsed same time_limit = (hook ≡ None) × (stored ≤ limits.iterations)
    × (nodes ≤ limits.nodes) × (limits.time < elapsed)
IsRunnerCause limits hook stored nodes elapsed same saturated = (hook ≡ None) × (stored ≤ limits.iterations)
    × (nodes ≤ limits.nodes) × (elapsed ≤ limits.time) × (same ≡ true)

-- the runner stops for the first cause that holds: hook, turns, nodes, time, saturation; and goes on if none does
abbrev pub RunnersStopForTheFirst : Type 0 → Type 0
RunnersStopForTheFirst T =
    (limits : Limits) (hook : Option T) (stored nodes elapsed : ℕ) (same : Bool) →
    ((reason : Stop T) →
    (runner_stop limits hook stored nodes elapsed same ≡ Some reason)
    ↔ IsRunnerCause limits hook stored nodes elapsed same reason)
    × ((runner_stop limits hook stored nodes elapsed same ≡ None) ↔ ((hook ≡ None) × (stored ≤ limits.iterations)
    × (nodes ≤ limits.nodes) × (elapsed ≤ limits.time) × (same ≡ false)))

abbrev pub IsEqsatCause : {T : Type 0} → ℕ → ℕ → Option T → Bool → ℕ → ℕ → Stop T → Type 0
IsEqsatCause iterations seconds hook same counted elapsed (other t) = hook ≡ Some t
IsEqsatCause iterations seconds hook same counted elapsed saturated = (hook ≡ None) × (same ≡ true)
IsEqsatCause iterations seconds hook same counted elapsed iteration_limit = (hook ≡ None) × (same ≡ false)
    × (iterations ≤ counted)
IsEqsatCause iterations seconds hook same counted elapsed time_limit = (hook ≡ None) × (same ≡ false)
    × (counted < iterations) × (seconds * second ≤ elapsed)
IsEqsatCause iterations seconds hook same counted elapsed node_limit = ⊥

-- so does `run_eqsat`: hook, saturation, turns, time
abbrev pub EqsatStopsForTheFirst : Type 0 → Type 0
EqsatStopsForTheFirst T =
    (iterations seconds : ℕ) (hook : Option T) (same : Bool) (counted elapsed : ℕ) →
    ((reason : Stop T) →
    (eqsat_stop iterations seconds hook same counted elapsed ≡ Some reason)
    ↔ IsEqsatCause iterations seconds hook same counted elapsed reason)
    × ((eqsat_stop iterations seconds hook same counted elapsed ≡ None) ↔ ((hook ≡ None) × (same ≡ false)
    × (counted < iterations) × (elapsed < seconds * second)))

-- where the hook has stopped the last turn the clock was read once less
abbrev pub unread : {T : Type 0} → Stop T → ℕ
unread saturated = 0
unread iteration_limit = 0
unread time_limit = 0
unread node_limit = 0
unread (other t) = 1

module _ (S T D F Q : Type 0) (searches : Q → S → F → S → Type 0) (applies : Q → F → S → S → Type 0)
    (hooks : S → ℕ → S → Option T → Type 0) (refuses : S → ℕ → S → Type 0) (extends : S → S → Type 0) where
  -- the rules once
  abbrev pub Step : List Q → S → S → Type 0
  Step rules = AppliesRules searches applies rules

  -- a run ends with a turn that stops; all others before it went on
  abbrev pub RunsEndInATurn : Type 0
  RunsEndInATurn =
      (rules : List Q) (m : Measures S D) (limits : Limits) (clock : ℕ → ℕ) (start : ℕ)
      (stored all : List (Iteration D)) (k last : ℕ) (g h : S) (reason : Stop T) →
      RunnerRuns (Step rules) hooks m limits clock start stored k g all last h reason →
      (earlier : List (Iteration D)) × (kept : Iteration D) × (f : S) × (j : ℕ)
      × (all ≡ earlier ++ kept ∷ [])
      × RunnerTurn (Step rules) hooks m limits clock start (length earlier) j f h (Some reason) kept last

  -- a limit of n turns lets n + 2 be stored at most, and just as many where it is the cause
  abbrev pub RunnersAreBounded : Type 0
  RunnersAreBounded =
      (rules : List Q) (m : Measures S D) (limits : Limits) (clock : ℕ → ℕ) (start : ℕ)
      (stored all : List (Iteration D)) (k last : ℕ) (g h : S) (reason : Stop T) →
      RunnerRuns (Step rules) hooks m limits clock start stored k g all last h reason →
      length stored ≤ suc limits.iterations →
      (length all ≤ suc (suc limits.iterations)) × (reason ≡ iteration_limit → length all ≡ suc (suc limits.iterations))

  -- the clock is read twice in each turn, but once in one that the hook stops
  abbrev pub RunnersReadTwice : Type 0
  RunnersReadTwice =
      (rules : List Q) (m : Measures S D) (limits : Limits) (clock : ℕ → ℕ) (start : ℕ)
      (stored all : List (Iteration D)) (k last : ℕ) (g h : S) (reason : Stop T) →
      RunnerRuns (Step rules) hooks m limits clock start stored k g all last h reason →
      last + unread reason + 2 * length stored ≡ k + 2 * length all

  -- the last turn that is stored has the nodes of the graph that is left, and the last reading
  abbrev pub LastTurnsAreReported : Type 0
  LastTurnsAreReported =
      (rules : List Q) (m : Measures S D) (limits : Limits) (clock : ℕ → ℕ) (start : ℕ)
      (stored all : List (Iteration D)) (k last : ℕ) (g h : S) (reason : Stop T) →
      RunnerRuns (Step rules) hooks m limits clock start stored k g all last h reason →
      (earlier : List (Iteration D)) × (kept : Iteration D) × (final : ℕ)
      × (all ≡ earlier ++ kept ∷ []) × (kept.num_nodes ≡ m.nodes h) × (kept.made ≡ m.made h (length earlier))
      × (last ≡ suc final) × (last_finish all ≡ Some (clock final))

  -- a refused turn is not stored: the stored turns are those before it, and nothing of them is lost
  abbrev pub RefusedTurnsAreNotStored : Type 0
  RefusedTurnsAreNotStored =
      (rules : List Q) (m : Measures S D) (limits : Limits) (clock : ℕ → ℕ) (start : ℕ)
      (stored all : List (Iteration D)) (k : ℕ) (g h : S) →
      RunnerRefuses (Step rules) hooks refuses m limits clock start stored k g all h →
      (more : List (Iteration D)) × (f : S) × (all ≡ stored ++ more) × refuses f (length all) h

  -- a runner that has stopped stays so, and reports the same again
  abbrev pub StoppedRunnersReportAgain : Type 0
  StoppedRunnersReportAgain =
      (rules : List Q) (m : Measures S D) (limits : Limits) (clock : ℕ → ℕ) (k : ℕ) (r after : Runner S T D)
      (report : Report T) →
      RunnerAnswers (Step rules) hooks m limits clock k r after report →
      (after.stop_reason ≡ Some report.stop_reason) × (report ≡ runner_report m after report.stop_reason)
      × ((j : ℕ) (later : Runner S T D) (next : Report T) →
      RunnerAnswers (Step rules) hooks m limits clock j after later next → (later ≡ after) × (next ≡ report))

  -- where the rules and the hook end in each graph, a run is there from each graph
  abbrev pub RunnersEnd : Type 0
  RunnersEnd =
      (rules : List Q) → ((g : S) → (h : S) × Step rules g h) →
      ((g : S) (n : ℕ) → (h : S) × (answer : Option T) × hooks g n h answer) →
      (m : Measures S D) (limits : Limits) (clock : ℕ → ℕ) (start : ℕ) (stored : List (Iteration D)) (k : ℕ) (g : S) →
      (all : List (Iteration D)) × (last : ℕ) × (h : S) × (reason : Stop T)
      × RunnerRuns (Step rules) hooks m limits clock start stored k g all last h reason

  -- a limit of n turns lets n be counted at most, and just as many where it is the cause
  abbrev pub EqsatIsBounded : Type 0
  EqsatIsBounded =
      (rules : List Q) (progress : S → List ℕ) (iterations seconds : ℕ) (clock : ℕ → ℕ) (start counted k total last : ℕ)
      (g h : S) (reason : Stop T) →
      EqsatRuns (Step rules) hooks progress iterations seconds clock start counted k g total last h reason →
      counted ≤ iterations →
      (total ≤ iterations) × (reason ≡ iteration_limit → total ≡ iterations)

  -- and it ends in a turn that stops
  abbrev pub EqsatEndsInATurn : Type 0
  EqsatEndsInATurn =
      (rules : List Q) (progress : S → List ℕ) (iterations seconds : ℕ) (clock : ℕ → ℕ) (start counted k total last : ℕ)
      (g h : S) (reason : Stop T) →
      EqsatRuns (Step rules) hooks progress iterations seconds clock start counted k g total last h reason →
      (f : S) × (j : ℕ)
      × EqsatTurn (Step rules) hooks progress iterations seconds clock start total j f h (Some reason) last

  -- where the rules and the hook end in each graph, a run is there from each graph
  abbrev pub EqsatEnds : Type 0
  EqsatEnds =
      (rules : List Q) → ((g : S) → (h : S) × Step rules g h) →
      ((g : S) (n : ℕ) → (h : S) × (answer : Option T) × hooks g n h answer) →
      (progress : S → List ℕ) (iterations seconds : ℕ) (clock : ℕ → ℕ) (start counted k : ℕ) (g : S) →
      (total : ℕ) × (last : ℕ) × (h : S) × (reason : Stop T)
      × EqsatRuns (Step rules) hooks progress iterations seconds clock start counted k g total last h reason

  -- what searches, applies and hooks keep: a relation that each graph has to itself, and that is handed on
  pub record EachExtends : Type 0 where
    pub same : (g : S) → extends g g
    pub joined : (f g h : S) → extends f g → extends g h → extends f h
    pub by_search : (rule : Q) (g h : S) (found : F) → searches rule g found h → extends g h
    pub by_apply : (rule : Q) (found : F) (g h : S) → applies rule found g h → extends g h
    pub by_hook : (g h : S) (n : ℕ) (answer : Option T) → hooks g n h answer → extends g h
    pub by_refusal : (g h : S) (n : ℕ) → refuses g n h → extends g h

  -- the rules, both runs, and what a runner makes of its graph keep it too
  abbrev pub RunsExtend : Type 0
  RunsExtend =
      EachExtends →
      ((rules : List Q) (g h : S) → Step rules g h → extends g h)
      × ((rules : List Q) (m : Measures S D) (limits : Limits) (clock : ℕ → ℕ) (start : ℕ)
      (stored all : List (Iteration D)) (k last : ℕ) (g h : S) (reason : Stop T) →
      RunnerRuns (Step rules) hooks m limits clock start stored k g all last h reason → extends g h)
      × ((rules : List Q) (progress : S → List ℕ) (iterations seconds : ℕ) (clock : ℕ → ℕ)
      (start counted k total last : ℕ) (g h : S) (reason : Stop T) →
      EqsatRuns (Step rules) hooks progress iterations seconds clock start counted k g total last h reason → extends g h)
      × ((rules : List Q) (m : Measures S D) (limits : Limits) (clock : ℕ → ℕ) (start : ℕ)
      (stored all : List (Iteration D)) (k : ℕ) (g h : S) →
      RunnerRefuses (Step rules) hooks refuses m limits clock start stored k g all h → extends g h)

-- all these laws
pub record RunnerLaws (S T D F Q : Type 0) (searches : Q → S → F → S → Type 0) (applies : Q → F → S → S → Type 0)
    (hooks : S → ℕ → S → Option T → Type 0) (refuses : S → ℕ → S → Type 0) (extends : S → S → Type 0) : Type 0 where
  pub runners_stop_for_the_first : RunnersStopForTheFirst T
  pub eqsat_stops_for_the_first : EqsatStopsForTheFirst T
  pub runs_end_in_a_turn : RunsEndInATurn S T D F Q searches applies hooks refuses extends
  pub runners_are_bounded : RunnersAreBounded S T D F Q searches applies hooks refuses extends
  pub runners_read_twice : RunnersReadTwice S T D F Q searches applies hooks refuses extends
  pub last_turns_are_reported : LastTurnsAreReported S T D F Q searches applies hooks refuses extends
  pub refused_turns_are_not_stored : RefusedTurnsAreNotStored S T D F Q searches applies hooks refuses extends
  pub stopped_runners_report_again : StoppedRunnersReportAgain S T D F Q searches applies hooks refuses extends
  pub runners_end : RunnersEnd S T D F Q searches applies hooks refuses extends
  pub eqsat_is_bounded : EqsatIsBounded S T D F Q searches applies hooks refuses extends
  pub eqsat_ends_in_a_turn : EqsatEndsInATurn S T D F Q searches applies hooks refuses extends
  pub eqsat_ends : EqsatEnds S T D F Q searches applies hooks refuses extends
  pub runs_extend : RunsExtend S T D F Q searches applies hooks refuses extends
