-- Runs: the turns of both runners, why they stop, and what they report. A graph is an S, a hook stops with a T, and a D is
-- kept of a turn.
--     SearchesAll, AppliesAll     all rules are searched, and then each is applied, in order
--     Stop T                      why a run stops
--     runner_stop, eqsat_stop     the first cause that holds after a turn, if there is one
--     Measures S D                what is read off a graph
--     RunnerTurn, RunnerRuns      a turn of the runner, and turns until one stops
--     RunnerRefuses               turns until one is refused
--     Runner, RunnerAnswers       what a runner keeps, and what a call of `run` makes of it
--     EqsatTurn, EqsatRuns        the same of `run_eqsat`
--     Report T                    what both answer
use Rattle.std.specs.Prelude.{◌≡◌, ℕ, suc, ◌-◌, ◌*◌, List, [], ◌∷◌, ◌++◌, length, Option, Some, None, Bool, cond, not}
use Rattle.std.proofs.Math.Dec.{ltb}
use Rattle.slotted_theory.specs.Decided.{numbers_eq}

-- a search for each rule, in order, of which the first sees the graph that is handed in
pub data SearchesAll {S F Rule : Type 0} (searches : Rule → S → F → S → Type 0) :
    List Rule → S → List F → S → Type 0 where
  none_searched : {g : S} → SearchesAll searches [] g [] g
  one_searched : {rule : Rule} {rules : List Rule} {g f h : S} {found : F} {more : List F} → searches rule g found f →
      SearchesAll searches rules f more h →
      SearchesAll searches (rule ∷ rules) g (found ∷ more) h

-- an apply for each rule, in order, of what its search has found
pub data AppliesAll {S F Rule : Type 0} (applies : Rule → F → S → S → Type 0) : List Rule → List F → S → S → Type 0 where
  none_applied : {g : S} → AppliesAll applies [] [] g g
  one_applied : {rule : Rule} {rules : List Rule} {g f h : S} {found : F} {more : List F} → applies rule found g f →
      AppliesAll applies rules more f h →
      AppliesAll applies (rule ∷ rules) (found ∷ more) g h

-- the rules once: all are searched before one is applied
pub record AppliesRules {S F Rule : Type 0} (searches : Rule → S → F → S → Type 0) (applies : Rule → F → S → S → Type 0)
    (rules : List Rule) (g h : S) : Type 0 where
  pub searched : S
  pub found : List F
  pub by_searches : SearchesAll searches rules g found searched
  pub by_applies : AppliesAll applies rules found searched h

-- why a run stops
pub data Stop (T : Type 0) : Type 0 where
  saturated : Stop T
  iteration_limit : Stop T
  time_limit : Stop T
  node_limit : Stop T
  other : (t : T) → Stop T

-- of turns, of filed nodes, and of nanoseconds
pub record Limits : Type 0 where
  pub iterations : ℕ
  pub nodes : ℕ
  pub time : ℕ

abbrev pub usual_limits : Limits
usual_limits = record { iterations = 30; nodes = 10000; time = 60000000000 }

-- the first of these causes whose test is yes
abbrev pub first_of : {T : Type 0} → List (Bool × Stop T) → Option (Stop T)
first_of [] = None
first_of (c ∷ causes) = cond c.0 (Some c.1) (first_of causes)

-- the hook's own cause comes before these
abbrev pub hook_or : {T : Type 0} → Option T → List (Bool × Stop T) → Option (Stop T)
hook_or (Some t) causes = Some (other t)
hook_or None causes = first_of causes

-- the causes of the runner, where so many turns are stored, the graph has so many nodes, so much time has passed, and
-- progress is the same or not
abbrev pub runner_stop : {T : Type 0} → Limits → Option T → ℕ → ℕ → ℕ → Bool → Option (Stop T)
runner_stop limits hook stored nodes elapsed same =
    hook_or hook ((ltb limits.iterations stored, iteration_limit) ∷
    (ltb limits.nodes nodes, node_limit) ∷ (ltb limits.time elapsed, time_limit) ∷ (same, saturated) ∷ [])

abbrev pub second : ℕ
second = 1000000000

-- those of `run_eqsat`, where so many turns are counted; its limit of time is in whole seconds
abbrev pub eqsat_stop : {T : Type 0} → ℕ → ℕ → Option T → Bool → ℕ → ℕ → Option (Stop T)
eqsat_stop iterations seconds hook same counted elapsed =
    hook_or hook ((same, saturated) ∷ (not (ltb counted iterations), iteration_limit) ∷
    (not (ltb elapsed (seconds * second)), time_limit) ∷ [])

-- what is read off a graph: filed nodes, classes ever made, live classes, the progress measure, and what is kept of a
-- turn, by how many came before
pub record Measures (S D : Type 0) : Type 0 where
  pub nodes : S → ℕ
  pub classes : S → ℕ
  pub live_classes : S → ℕ
  pub progress : S → List ℕ
  pub made : S → ℕ → D

-- what is stored of a turn
pub record Iteration (D : Type 0) : Type 0 where
  pub made : D
  pub num_nodes : ℕ
  pub finish_time : Option ℕ

pub record Report (T : Type 0) : Type 0 where
  pub iterations : ℕ
  pub stop_reason : Stop T
  pub egraph_nodes : ℕ
  pub egraph_classes : ℕ
  pub total_time : ℕ

-- the last finish, if a turn is stored
abbrev pub last_finish : {D : Type 0} → List (Iteration D) → Option ℕ
last_finish [] = None
last_finish (i ∷ []) = i.finish_time
last_finish (i ∷ j ∷ more) = last_finish (j ∷ more)

-- a difference of readings is never below 0, and is 0 where one is missing
abbrev pub time_between : Option ℕ → Option ℕ → ℕ
time_between None b = 0
time_between (Some a) None = 0
time_between (Some a) (Some b) = b - a

-- the clock is not read where the hook has stopped the turn
abbrev pub after_check : {T : Type 0} → Option T → ℕ → ℕ
after_check (Some t) k = k
after_check None k = suc k

-- a turn: the rules, the hook, the check of limits with the reading k, if the hook goes on, and what is stored, with
-- the reading after it
pub record RunnerTurn {S T D : Type 0} (applies : S → S → Type 0) (hooks : S → ℕ → S → Option T → Type 0)
    (m : Measures S D) (limits : Limits) (clock : ℕ → ℕ) (start : ℕ)
    (stored k : ℕ) (g h : S) (stop : Option (Stop T)) (kept : Iteration D) (next : ℕ) : Type 0 where
  pub applied : S
  pub by_rules : applies g applied
  pub answer : Option T
  pub by_hook : hooks applied stored h answer
  pub stops : runner_stop limits answer stored (m.nodes h) (clock k - start)
      (numbers_eq (m.progress g) (m.progress applied)) ≡ stop
  pub keeps : kept
      ≡ record { made = m.made h stored; num_nodes = m.nodes h; finish_time = Some (clock (after_check answer k)) }
  pub reads : next ≡ suc (after_check answer k)

-- turns until one stops: from the stored ones and the reading k to all that are stored and the reading after them
pub data RunnerRuns {S T D : Type 0} (applies : S → S → Type 0) (hooks : S → ℕ → S → Option T → Type 0)
    (m : Measures S D) (limits : Limits) (clock : ℕ → ℕ) (start : ℕ) :
    List (Iteration D) → ℕ → S → List (Iteration D) → ℕ → S → Stop T → Type 0 where
  stops_now : {stored : List (Iteration D)} {k next : ℕ} {g h : S} {kept : Iteration D} {reason : Stop T} →
      RunnerTurn applies hooks m limits clock start (length stored) k g h (Some reason) kept next →
      RunnerRuns applies hooks m limits clock start stored k g (stored ++ kept ∷ []) next h reason
  goes_on : {stored all : List (Iteration D)} {k next last : ℕ} {g f h : S} {kept : Iteration D} {reason : Stop T} →
      RunnerTurn applies hooks m limits clock start (length stored) k g f None kept next →
      RunnerRuns applies hooks m limits clock start (stored ++ kept ∷ []) next f all last h reason →
      RunnerRuns applies hooks m limits clock start stored k g all last h reason

-- turns that go on, and one in which the rules or the hook, after so many stored turns, are refused: that one is not stored
pub data RunnerRefuses {S T D : Type 0} (applies : S → S → Type 0) (hooks : S → ℕ → S → Option T → Type 0)
    (refuses : S → ℕ → S → Type 0) (m : Measures S D) (limits : Limits) (clock : ℕ → ℕ) (start : ℕ) :
    List (Iteration D) → ℕ → S → List (Iteration D) → S → Type 0 where
  refused_now : {stored : List (Iteration D)} {k : ℕ} {g h : S} → refuses g (length stored) h →
      RunnerRefuses applies hooks refuses m limits clock start stored k g stored h
  refused_later : {stored all : List (Iteration D)} {k next : ℕ} {g f h : S} {kept : Iteration D} →
      RunnerTurn applies hooks m limits clock start (length stored) k g f None kept next →
      RunnerRefuses applies hooks refuses m limits clock start (stored ++ kept ∷ []) next f all h →
      RunnerRefuses applies hooks refuses m limits clock start stored k g all h

-- a runner: its graph, the stored turns, the reading before the first one, and why it has stopped
pub record Runner (S T D : Type 0) : Type 0 where
  pub graph : S
  pub stored : List (Iteration D)
  pub start : Option ℕ
  pub stop_reason : Option (Stop T)

abbrev pub runner_report : {S T D : Type 0} → Measures S D → Runner S T D → Stop T → Report T
runner_report m r reason = record {
  iterations = length r.stored;
  stop_reason = reason;
  egraph_nodes = m.nodes r.graph;
  egraph_classes = m.classes r.graph;
  total_time = time_between r.start (last_finish r.stored);
}

-- what a call of `run` leaves and reports, from the reading k on: one that has stopped reports again, and the clock is
-- read once before the first turn
pub data RunnerAnswers {S T D : Type 0} (applies : S → S → Type 0) (hooks : S → ℕ → S → Option T → Type 0)
    (m : Measures S D) (limits : Limits) (clock : ℕ → ℕ) :
    ℕ → Runner S T D → Runner S T D → Report T → Type 0 where
  again : {k : ℕ} {r : Runner S T D} (reason : Stop T) → r.stop_reason ≡ Some reason →
      RunnerAnswers applies hooks m limits clock k r r (runner_report m r reason)
  starts : {k last : ℕ} {r : Runner S T D} {all : List (Iteration D)} {h : S} {reason : Stop T} → r.stop_reason ≡ None →
      r.start ≡ None →
      RunnerRuns applies hooks m limits clock (clock k) r.stored (suc k) r.graph all last h reason →
      RunnerAnswers applies hooks m limits clock k r (record {
        graph = h;
        stored = all;
        start = Some (clock k);
        stop_reason = Some reason;
      })
      (runner_report m (record { graph = h; stored = all; start = Some (clock k); stop_reason = Some reason }) reason)
  takes_up : {k last start : ℕ} {r : Runner S T D} {all : List (Iteration D)} {h : S} {reason : Stop T} →
      r.stop_reason ≡ None → r.start ≡ Some start →
      RunnerRuns applies hooks m limits clock start r.stored k r.graph all last h reason →
      RunnerAnswers applies hooks m limits clock k r (record {
        graph = h;
        stored = all;
        start = Some start;
        stop_reason = Some reason;
      })
      (runner_report m (record { graph = h; stored = all; start = Some start; stop_reason = Some reason }) reason)

-- `run_eqsat` reads the clock only where no cause before time holds
abbrev pub after_time : {T : Type 0} → ℕ → Option T → Bool → ℕ → ℕ → ℕ
after_time iterations (Some t) same counted k = k
after_time iterations None same counted k = cond same k (cond (ltb counted iterations) (suc k) k)

-- a turn: the rules, the hook, and the causes; no count and no reading is stored
pub record EqsatTurn {S T : Type 0} (applies : S → S → Type 0) (hooks : S → ℕ → S → Option T → Type 0)
    (progress : S → List ℕ) (iterations seconds : ℕ) (clock : ℕ → ℕ) (start : ℕ)
    (counted k : ℕ) (g h : S) (stop : Option (Stop T)) (next : ℕ) : Type 0 where
  pub applied : S
  pub by_rules : applies g applied
  pub answer : Option T
  pub by_hook : hooks applied counted h answer
  pub stops : eqsat_stop iterations seconds answer (numbers_eq (progress g)
      (progress applied)) counted (clock k - start) ≡ stop
  pub reads : next ≡ after_time iterations answer (numbers_eq (progress g) (progress applied)) counted k

-- turns until one stops; that one is not counted
pub data EqsatRuns {S T : Type 0} (applies : S → S → Type 0) (hooks : S → ℕ → S → Option T → Type 0)
    (progress : S → List ℕ) (iterations seconds : ℕ) (clock : ℕ → ℕ) (start : ℕ) :
    ℕ → ℕ → S → ℕ → ℕ → S → Stop T → Type 0 where
  eqsat_stops : {counted k next : ℕ} {g h : S} {reason : Stop T} →
      EqsatTurn applies hooks progress iterations seconds clock start counted k g h (Some reason) next →
      EqsatRuns applies hooks progress iterations seconds clock start counted k g counted next h reason
  eqsat_goes_on : {counted k next total last : ℕ} {g f h : S} {reason : Stop T} →
      EqsatTurn applies hooks progress iterations seconds clock start counted k g f None next →
      EqsatRuns applies hooks progress iterations seconds clock start (suc counted) next f total last h reason →
      EqsatRuns applies hooks progress iterations seconds clock start counted k g total last h reason

-- the report, in which the reading `last` is one more
abbrev pub eqsat_report : {S T D : Type 0} → Measures S D → (ℕ → ℕ) → ℕ → ℕ → ℕ → S → Stop T → Report T
eqsat_report m clock first total last h reason = record {
  iterations = total;
  stop_reason = reason;
  egraph_nodes = m.nodes h;
  egraph_classes = m.live_classes h;
  total_time = clock last - clock first;
}

-- what a call of `run_eqsat` reports, from the reading k on
pub record EqsatAnswers {S T D : Type 0} (applies : S → S → Type 0) (hooks : S → ℕ → S → Option T → Type 0)
    (m : Measures S D) (iterations seconds : ℕ) (clock : ℕ → ℕ)
    (k : ℕ) (g h : S) (report : Report T) : Type 0 where
  pub total : ℕ
  pub last : ℕ
  pub reason : Stop T
  pub runs : EqsatRuns applies hooks m.progress iterations seconds clock (clock k) 0 (suc k) g total last h reason
  pub is : report ≡ eqsat_report m clock k total last h reason
