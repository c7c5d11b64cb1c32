-- What loops of turns keep.
--     HasCalled       the rules were applied once, edits were made, and then the hook was called
--     GivesReason     why a turn stops the run, with what the clock was read for it
--     ReadsClock tells k l    the clock k was read at most once, and is l
--     IsTurn          a turn, whatever was read before it
--     IsBegun         the reading before the first turn is there
--     turns_left      the most turns that may come
--     HasTurned p q   from p to q a runner takes a turn
--     GoOn            turns that go on, one after another
--     Leads           turns that go on, or of which the last one stops the run
--     HasTaken p q    from p to q a runner took some turns
--     HasRefused refuses p q e    from p to q it took some, and one was refused
--     HasStopped p q  the runner has stopped, or it had before
--     IsRefusedWithin a turn was refused, or a report
--     IsReportOf      the report of a runner that has stopped
use Rattle.std.specs.Prelude.{◌≡◌, ℕ, suc, ◌+◌, ◌-◌, ◌*◌, ◌≤◌, ◌++◌, List, [], ◌∷◌, length, Option, Some, None, Bool, false, option_map}
use Rattle.slotted_theory.specs.Decided.{numbers_eq}
use Rattle.slotted_operations.specs.Graph.{Graph}
use Rattle.slotted_graph.specs.Extension.{ExtendsTo}
use Rattle.slotted_model_rules.specs.Runners.{Stop, Limits, Measures, Iteration, runner_stop, after_check, RunnerTurn, RunnerRuns, RunnerRefuses, runner_report}
use Rattle.slotted_slots.specs.declared.error.Error.{Error}
use Rattle.slotted_slots.specs.declared.error.Error.TheVariants.{OutOfMemory}
use Rattle.slotted_rules.specs.Runs.{HasRefusedTurn, HasRun}
use Rattle.slotted_rules.specs.declared.report.Report.{Report}
use Rattle.slotted_rules.specs.Seen.{Parts, iteration_of, seen, stop_of}
use Rattle.slotted_rules.specs.declared.turning.Turn.{Turn}
use Rattle.slotted_rules.specs.Turning.{IsReportClone, IsStart, ReadsFrom, TellsAll, progress_of}

pub record HasCalled {H T : Type 0} (applies : Graph × H → Graph × H → Type 0) (hooks : Graph × H → ℕ → Graph × H → Option T → Type 0) (s : Graph × H) (n : ℕ) (t : Graph × H) (same : Bool) (stop : Option T) : Type 0 where
  pub applied : Graph × H
  pub by_rules : applies s applied
  pub by_hook : hooks applied n t stop
  pub same_is : numbers_eq (progress_of s.0.image) (progress_of applied.0.image) ≡ same

pub record GivesReason {K T : Type 0} (tells : K → ℕ → K → Type 0) (limits : Limits) (start stored nodes : ℕ) (same : Bool) (answer : Option T) (k l : K) (reason : Option (Stop T)) : Type 0 where
  pub readings : List ℕ
  pub told : TellsAll tells k readings l
  pub stops : (clock : ℕ → ℕ) (n : ℕ) → ReadsFrom clock n readings → runner_stop limits answer stored nodes (clock n - start) same ≡ reason
  pub reads : (n : ℕ) → n + length readings ≡ after_check answer n

pub record ReadsClock {K : Type 0} (tells : K → ℕ → K → Type 0) (k l : K) : Type 0 where
  pub readings : List ℕ
  pub told : TellsAll tells k readings l
  pub few : length readings ≤ 1

pub record IsBegun {D T H K : Type 0} (tells : K → ℕ → K → Type 0) (p q : Parts D T H K) (start : ℕ) : Type 0 where
  pub readings : List ℕ
  pub told : TellsAll tells p.clock readings q.clock
  pub starts : (clock : ℕ → ℕ) → ReadsFrom clock 0 readings → IsStart p.start clock start (length readings)
  pub rest : q ≡ record p { start = Some start; clock = q.clock }

-- how many turns may come, where so many are stored
abbrev pub turns_left : {T : Type 0} → Option T → ℕ → ℕ → ℕ
turns_left (Some t) limit stored = 0
turns_left None limit stored = suc (suc limit - stored)

module _ {H T D K : Type 0} (tells : K → ℕ → K → Type 0) (applies : Graph × H → Graph × H → Type 0) (hooks : Graph × H → ℕ → Graph × H → Option T → Type 0) (m : Measures (Graph × H) D) (limits : Limits) (start : ℕ) where
  pub record IsTurn (stored : ℕ) (s : Graph × H) (k : K) (t : Graph × H) (l : K) (stop : Option (Stop T)) (kept : Iteration D) : Type 0 where
    pub readings : List ℕ
    pub told : TellsAll tells k readings l
    pub turn : (clock : ℕ → ℕ) (n : ℕ) → ReadsFrom clock n readings → RunnerTurn applies hooks m limits clock start stored n s t stop kept (n + length readings)

  pub data GoOn (clock : ℕ → ℕ) : List (Iteration D) → ℕ → Graph × H → List (Iteration D) → ℕ → Graph × H → Type 0 where
    no_turns : {stored : List (Iteration D)} {k : ℕ} {s : Graph × H} → GoOn clock stored k s stored k s
    one_more : {stored more : List (Iteration D)} {k j next : ℕ} {s t u : Graph × H} {kept : Iteration D} → GoOn clock stored k s more j t → RunnerTurn applies hooks m limits clock start (length more) j t u None kept next →
        GoOn clock stored k s (more ++ kept ∷ []) next u

  abbrev pub Leads : (ℕ → ℕ) → List (Iteration D) → ℕ → Graph × H → List (Iteration D) → ℕ → Graph × H → Option (Stop T) → Type 0
  Leads clock stored k s more next t None = GoOn clock stored k s more next t
  Leads clock stored k s more next t (Some reason) = RunnerRuns applies hooks m limits clock start stored k s more next t reason

  pub record HasTaken (p q : Parts D T H K) : Type 0 where
    pub readings : List ℕ
    pub told : TellsAll tells p.clock readings q.clock
    pub leads : (clock : ℕ → ℕ) (n : ℕ) → ReadsFrom clock n readings → Leads clock p.iterations n (p.graph, p.hook) q.iterations (n + length readings) (q.graph, q.hook) q.stop_reason
    pub count : q.stop_reason ≡ None → length readings + 2 * length p.iterations ≡ 2 * length q.iterations
    pub rest : q ≡ record p { graph = q.graph; hook = q.hook; iterations = q.iterations; stop_reason = q.stop_reason; clock = q.clock }
    pub well : q.graph.failed ≡ false
    pub extends : ExtendsTo p.graph q.graph

  pub record HasRefused (refuses : Graph × H → ℕ → Graph × H → Error → Type 0) (p q : Parts D T H K) (e : Error) : Type 0 where
    pub readings : List ℕ
    pub told : TellsAll tells p.clock readings q.clock
    pub refused : (clock : ℕ → ℕ) (n : ℕ) → ReadsFrom clock n readings → RunnerRefuses applies hooks (λ s n t. refuses s n t e) m limits clock start p.iterations n (p.graph, p.hook) q.iterations (q.graph, q.hook)
    pub count : length readings + 2 * length p.iterations ≤ 2 * length q.iterations + 2
    pub rest : q ≡ record p { graph = q.graph; hook = q.hook; iterations = q.iterations; clock = q.clock }

-- from p to q the runner takes a turn, where so many turns are stored
abbrev pub HasTurned : {H T D K : Type 0} → (K → ℕ → K → Type 0) → (Graph × H → Graph × H → Type 0) → (Graph × H → ℕ → Graph × H → Option T → Type 0) → Measures (Graph × H) D → ℕ → ℕ → Parts D T H K → Parts D T H K → Turn D T → Type 0
HasTurned tells applies hooks m start stored p q turn =
    IsTurn tells applies hooks m p.limits start stored (p.graph, p.hook) p.clock (q.graph, q.hook) q.clock (option_map stop_of turn.stop) (iteration_of turn.kept)

-- from p to q the runner has stopped, or it had before
pub record HasStopped {H T D K : Type 0} (tells : K → ℕ → K → Type 0) (applies : Graph × H → Graph × H → Type 0) (hooks : Graph × H → ℕ → Graph × H → Option T → Type 0) (m : Measures (Graph × H) D) (p q : Parts D T H K) : Type 0 where
  pub reason : Stop T
  pub stopped : q.stop_reason ≡ Some reason
  pub run : HasRun tells applies hooks m p q (runner_report m (seen q) reason)
  pub well : q.graph.failed ≡ false
  pub extends : ExtendsTo p.graph q.graph

-- a turn was refused, or the runner has stopped and there was no memory for the report
pub data IsRefusedWithin {H T D K : Type 0} (tells : K → ℕ → K → Type 0) (applies : Graph × H → Graph × H → Type 0) (hooks : Graph × H → ℕ → Graph × H → Option T → Type 0) (m : Measures (Graph × H) D) (refuses : Graph × H → ℕ → Graph × H → Error → Type 0) (p q : Parts D T H K) (e : Error) : Type 0 where
  turn_refused_within : HasRefusedTurn tells applies hooks m refuses p q e → IsRefusedWithin tells applies hooks m refuses p q e
  report_refused_within : HasStopped tells applies hooks m p q → e ≡ OutOfMemory → IsRefusedWithin tells applies hooks m refuses p q e

-- the report of a runner that has stopped
pub record IsReportOf {H T D K : Type 0} (is_clone : T → T → Type 0) (m : Measures (Graph × H) D) (p : Parts D T H K) (r : Report T) : Type 0 where
  pub reason : Stop T
  pub stopped : p.stop_reason ≡ Some reason
  pub cloned : IsReportClone is_clone (runner_report m (seen p) reason) r
