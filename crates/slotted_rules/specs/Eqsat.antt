-- What `run_eqsat` answers and leaves.
--     report_of r        the report as the model has it
--     EqsatRefuses       turns that go on, and one that is refused, after so many: `spoils` says what that one leaves
--     HasEqsatReported   it has run, and r is the report
--     HasRefusedEqsat    a turn was refused
--     GivesEqsatReason   why a turn stops the run, with what the clock was read for it
--     IsEqsatTurn        a turn, whatever was read before it
--     EqsatGoOn          turns that go on, one after another
--     HasCounted         so many turns were counted
--     HasEnded           the run has ended
--     HasBroken          a turn was refused, whatever was read before
use Rattle.std.specs.Prelude.{◌≡◌, ℕ, suc, ◌+◌, ◌-◌, ◌≤◌, List, length, Option, None, Bool, false}
use Rattle.slotted_slots.specs.declared.error.Error.{Error}
use Rattle.slotted_operations.specs.Graph.{Graph}
use Rattle.slotted_graph.specs.Extension.{ExtendsTo}
use Rattle.slotted_model_rules.specs.Runners.{EqsatAnswers, EqsatRuns, EqsatTurn, Measures, Stop, after_time, eqsat_stop}
use Rattle.slotted_model_rules.specs.Runners as model
use Rattle.slotted_rules.specs.declared.report.Report.{Report}
use Rattle.slotted_rules.specs.Seen.{stop_of}
use Rattle.slotted_rules.specs.Turning.{ReadsFrom, TellsAll, measures, progress_of, reading_in}

abbrev pub report_of : {T : Type 0} → Report T → model.Report T
report_of r = record {
  iterations = r.iterations;
  stop_reason = stop_of r.stop_reason;
  egraph_nodes = r.egraph_nodes;
  egraph_classes = r.egraph_classes;
  total_time = r.total_time;
}

abbrev pub counts_of : {H : Type 0} → Measures (Graph × H) (Unit {0})
counts_of = measures (λ g n. tt)

pub record GivesEqsatReason {K T : Type 0} (tells : K → ℕ → K → Type 0) (iterations seconds start counted : ℕ) (same : Bool) (answer : Option T) (k l : K) (reason : Option (Stop T)) : Type 0 where
  pub readings : List ℕ
  pub told : TellsAll tells k readings l
  pub stops : (clock : ℕ → ℕ) (n : ℕ) → ReadsFrom clock n readings → eqsat_stop iterations seconds answer same counted (clock n - start) ≡ reason
  pub reads : (n : ℕ) → n + length readings ≡ after_time iterations answer same counted n

module _ {H T K : Type 0} (tells : K → ℕ → K → Type 0) (applies : Graph × H → Graph × H → Type 0) (hooks : Graph × H → ℕ → Graph × H → Option T → Type 0) (iterations seconds : ℕ) where
  abbrev Turn : (ℕ → ℕ) → ℕ → ℕ → ℕ → Graph × H → Graph × H → Option (Stop T) → ℕ → Type 0
  Turn clock start counted k s t stop next = EqsatTurn applies hooks (λ u. progress_of u.0.image) iterations seconds clock start counted k s t stop next

  abbrev Runs : (ℕ → ℕ) → ℕ → ℕ → ℕ → Graph × H → ℕ → ℕ → Graph × H → Stop T → Type 0
  Runs clock start counted k s total last t reason = EqsatRuns applies hooks (λ u. progress_of u.0.image) iterations seconds clock start counted k s total last t reason

  pub data EqsatRefuses (spoils : Graph × H → ℕ → Graph × H → Type 0) (clock : ℕ → ℕ) (start : ℕ) : ℕ → ℕ → Graph × H → ℕ → Graph × H → Type 0 where
    eqsat_refused_now : {counted k : ℕ} {s t : Graph × H} → spoils s counted t → EqsatRefuses spoils clock start counted k s counted t
    eqsat_refused_later : {counted k next total : ℕ} {s t u : Graph × H} → Turn clock start counted k s t None next → EqsatRefuses spoils clock start (suc counted) next t total u → EqsatRefuses spoils clock start counted k s total u

  -- the clock is read as often as the report says
  pub record HasEqsatReported (s : Graph × H) (k : K) (t : Graph × H) (l : K) (r : Report T) : Type 0 where
    pub readings : List ℕ
    pub by_clock : TellsAll tells k readings l
    pub by_turns : EqsatAnswers applies hooks counts_of iterations seconds (reading_in readings) 0 s t (report_of r)
    pub count : length readings ≡ suc by_turns.last

  -- the clock is read once before the turns, and once in each that was counted
  pub record HasRefusedEqsat (refuses : Graph × H → ℕ → Graph × H → Error → Type 0) (s : Graph × H) (k : K) (t : Graph × H) (l : K) (e : Error) : Type 0 where
    pub readings : List ℕ
    pub by_clock : TellsAll tells k readings l
    pub total : ℕ
    pub count : length readings ≡ suc total
    pub by_turns : EqsatRefuses (λ u n v. refuses u n v e) (reading_in readings) (reading_in readings 0) 0 1 s total t

  pub record IsEqsatTurn (start counted : ℕ) (s : Graph × H) (k : K) (t : Graph × H) (l : K) (stop : Option (Stop T)) : Type 0 where
    pub readings : List ℕ
    pub told : TellsAll tells k readings l
    pub turn : (clock : ℕ → ℕ) (n : ℕ) → ReadsFrom clock n readings → Turn clock start counted n s t stop (n + length readings)

  pub data EqsatGoOn (clock : ℕ → ℕ) (start k : ℕ) (s : Graph × H) : ℕ → ℕ → Graph × H → Type 0 where
    none_counted : EqsatGoOn clock start k s 0 k s
    one_counted : {counted j next : ℕ} {t u : Graph × H} → EqsatGoOn clock start k s counted j t → Turn clock start counted j t u None next → EqsatGoOn clock start k s (suc counted) next u

  pub record HasCounted (start : ℕ) (s : Graph × H) (k : K) (counted : ℕ) (t : Graph × H) (l : K) : Type 0 where
    pub readings : List ℕ
    pub told : TellsAll tells k readings l
    pub leads : (clock : ℕ → ℕ) (n : ℕ) → ReadsFrom clock n readings → EqsatGoOn clock start n s counted (n + length readings) t
    pub well : t.0.failed ≡ false
    pub extends : ExtendsTo s.0 t.0
    pub fits : counted ≤ iterations
    pub count : length readings ≡ counted

  pub record HasEnded (start : ℕ) (s : Graph × H) (k : K) (t : Graph × H) (l : K) (total : ℕ) (reason : Stop T) : Type 0 where
    pub readings : List ℕ
    pub told : TellsAll tells k readings l
    pub ends : (clock : ℕ → ℕ) (n : ℕ) → ReadsFrom clock n readings → Runs clock start 0 n s total (n + length readings) t reason

  pub record HasBroken (refuses : Graph × H → ℕ → Graph × H → Error → Type 0) (start : ℕ) (s : Graph × H) (k : K) (t : Graph × H) (l : K) (e : Error) : Type 0 where
    pub readings : List ℕ
    pub told : TellsAll tells k readings l
    pub total : ℕ
    pub count : length readings ≡ total
    pub breaks : (clock : ℕ → ℕ) (n : ℕ) → ReadsFrom clock n readings → EqsatRefuses (λ u i v. refuses u i v e) clock start 0 n s total t
