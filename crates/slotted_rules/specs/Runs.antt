-- What a call of a runner's `run` answers and leaves.
--     CountsReadings     how often the clock is read
--     HasRun p q told    from p to q the runner has run, or it had stopped before, and this is to be reported
--     HasReported p q r  it has, and r is the report
--     HasRefusedTurn refuses p q e    from p to q it took turns, and one was refused, which is not stored. `refuses` says why, and what that one leaves
--     IsRefused refuses p q e    that, or all turns were taken, there was no memory for the report, and the graph has failed
--     MayRefuse          which refusals beside shortages are answered: those of the rules, of the hook, and of what is kept of turns
use Rattle.std.specs.Prelude.{◌≡◌, ◌⊎◌, ℕ, ◌+◌, ◌*◌, ◌≤◌, List, length, Option, Some, None, true}
use Rattle.slotted_slots.specs.declared.error.Error.{Error}
use Rattle.slotted_slots.specs.declared.error.Error.TheVariants.{OutOfMemory}
use Rattle.slotted_operations.specs.Graph.{Graph}
use Rattle.slotted_rules.specs.Applying.{AreRefusedBy}
use Rattle.slotted_model_rules.specs.RunnerClaims.{unread}
use Rattle.slotted_model_rules.specs.Runners.{Measures, RunnerAnswers, RunnerRefuses, Stop}
use Rattle.slotted_model_rules.specs.Runners as model
use Rattle.slotted_rules.specs.declared.report.Report.{Report}
use Rattle.slotted_rules.specs.Seen.{Parts, seen}
use Rattle.slotted_rules.specs.Turning.{IsReportClone, IsStart, TellsAll, reading_in}

-- never of a runner that had stopped, once for the start if there was none, and twice in a turn, but once in one that the hook stops
abbrev pub CountsReadings : {T : Type 0} → Option (Stop T) → Option ℕ → ℕ → ℕ → Stop T → ℕ → Type 0
CountsReadings (Some r) start stored all reason count = count ≡ 0
CountsReadings None (Some start) stored all reason count = count + unread reason + 2 * stored ≡ 2 * all
CountsReadings None None stored all reason count = count + unread reason + 2 * stored ≡ 1 + 2 * all

abbrev pub MayRefuse : {Q : Type 0} → (Q → Error → Type 0) → List Q → (Error → Type 0) → (Error → Type 0) → Error → Type 0
MayRefuse rule rules hook kept e = AreRefusedBy rule rules e ⊎ hook e ⊎ kept e

module _ {H T D K : Type 0} (tells : K → ℕ → K → Type 0) (applies : Graph × H → Graph × H → Type 0) (hooks : Graph × H → ℕ → Graph × H → Option T → Type 0) (m : Measures (Graph × H) D) where
  pub record HasRun (p q : Parts D T H K) (told : model.Report T) : Type 0 where
    pub readings : List ℕ
    pub by_clock : TellsAll tells p.clock readings q.clock
    pub by_turns : RunnerAnswers applies hooks m p.limits (reading_in readings) 0 (seen p) (seen q) told
    pub count : CountsReadings p.stop_reason p.start (length p.iterations) (length q.iterations) told.stop_reason (length readings)
    pub roots : q.roots ≡ p.roots
    pub limits : q.limits ≡ p.limits

  pub record HasReported (is_clone : T → T → Type 0) (p q : Parts D T H K) (r : Report T) : Type 0 where
    pub told : model.Report T
    pub run : HasRun p q told
    pub cloned : IsReportClone is_clone told r

  -- so often was the clock read as for each stored turn, and at most twice in the refused one
  pub record HasRefusedTurn (refuses : Graph × H → ℕ → Graph × H → Error → Type 0) (p q : Parts D T H K) (e : Error) : Type 0 where
    pub readings : List ℕ
    pub by_clock : TellsAll tells p.clock readings q.clock
    pub start : ℕ
    pub first : ℕ
    pub starts : IsStart p.start (reading_in readings) start first
    pub by_turns : RunnerRefuses applies hooks (λ s n t. refuses s n t e) m p.limits (reading_in readings) start p.iterations first (p.graph, p.hook) q.iterations (q.graph, q.hook)
    pub count : length readings + 2 * length p.iterations ≤ first + 2 * length q.iterations + 2
    pub had_not_stopped : p.stop_reason ≡ None
    pub rest : q ≡ record p { graph = q.graph; hook = q.hook; iterations = q.iterations; clock = q.clock; start = Some start }

  pub data IsRefused (refuses : Graph × H → ℕ → Graph × H → Error → Type 0) (p q : Parts D T H K) (e : Error) : Type 0 where
    turn_refused : HasRefusedTurn refuses p q e → IsRefused refuses p q e
    report_refused : (r : Parts D T H K) (told : model.Report T) → HasRun p r told → q ≡ record r { graph = record r.graph { failed = true } } → e ≡ OutOfMemory → IsRefused refuses p q e
