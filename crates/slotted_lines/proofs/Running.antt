-- What a run of a runner over a graph says of the session that has the graph before and after.
use Rattle.std.proofs.Common.{◌≡◌, ◌⊎◌, ◌↔◌, ◌∙◌, ℕ, List, Result, Ok, Err, IfOk, IfErr, IsErrOf, ap, refl, sym, subst, inl, inr}
use Rattle.std.specs.Prelude.{All, Bool, true, false, IsErrAnd, IsTrue}
use Rattle.std.proofs.lemmas.Bool.{false≢true}
use Rattle.std.specs.declared.convert.Infallible.{Infallible}
use Rattle.slotted_slots.specs.declared.error.Error.{Error}
use Rattle.slotted_slots.specs.declared.error.Error.TheVariants.{Failed}
use Rattle.slotted_slots.specs.Error.{IsShortage}
use Rattle.slotted_nodes.specs.Form.{Form}
use Rattle.slotted_languages.proofs.HandedOn.{error_or}
use Rattle.slotted_operations.specs.Graph.{Graph}
use Rattle.slotted_graph.specs.Extension.{ExtendsTo}
use Rattle.slotted_model_rules.specs.Runners.{Stop, saturated, iteration_limit, time_limit, node_limit, other}
use Rattle.slotted_rules.specs.Applying.{NeverModified}
use Rattle.slotted_rules.specs.Written.{CanBeSearched}
use Rattle.slotted_rules.specs.declared.condition.Always.{Always}
use Rattle.slotted_rules.specs.declared.rewrite.Rewrite.{Rewrite}
use Rattle.slotted_rules.specs.Runs.{HasReported, MayRefuse}
use Rattle.slotted_rules.specs.Seen.{new_parts}
use Rattle.slotted_rules.specs.Turning.{Calls, IsStopClone, RulesOnce, measures}
use Rattle.slotted_rules.specs.declared.hook.NoHook.{NoHook}
use Rattle.slotted_rules.specs.declared.report.Report.{Report}
use Rattle.slotted_lines.specs.AnsweredIn.{RunAnswers, RunRefused, run_failed, turn_refused}
use Rattle.slotted_lines.specs.RunsOver.{HasRefusedRules, RunnerState, TellsZero, applies_by, leaves_all, refuses_by, runner_over, searches_by}
use Rattle.slotted_lines.specs.States.{AreSearchable}
use Rattle.slotted_lines.specs.declared.still.StillClock.{StillClock}
use Rattle.slotted_lines.proofs.Knowing.{kept-rules}
use Rattle.slotted_lines.proofs.ReadTexts.{unfailed}

same-stop : (is_clone : Infallible → Infallible → Type 0) (a b : Stop Infallible) → IsStopClone is_clone a b → b ≡ a
same-stop is_clone saturated b e = e
same-stop is_clone iteration_limit b e = e
same-stop is_clone time_limit b e = e
same-stop is_clone node_limit b e = e
same-stop is_clone (other never) b e = elim never [ ]

-- all that `run` says, of a runner that is p before and q after
pub record RunSays {L : Type 0} (form : L → Form) (rules : List (Rewrite L Always)) (is_clone : Infallible → Infallible → Type 0) (p q : RunnerState) (o : Result (Report Infallible) Error) : Type 0 where
  pub ok : IfOk o (HasReported TellsZero (RulesOnce (searches_by form) (applies_by form) (NeverModified L) rules) (Calls leaves_all) (measures (λ _ _. tt)) is_clone p q)
  pub refused : IfErr o (λ e. IsTrue p.graph.failed ⊎ HasRefusedRules form rules p q e)
  pub extends : IsTrue q.graph.failed ⊎ ExtendsTo p.graph q.graph
  pub stays : IsTrue p.graph.failed → q.graph ≡ p.graph
  pub failed : IsErrOf o Failed ↔ IsTrue p.graph.failed
  pub fails : IsTrue q.graph.failed ↔ IsErrAnd o (λ e. (e ≡ Failed) ⊎ IsShortage e)
  pub err : IfErr o (λ e. (e ≡ Failed) ⊎ IsShortage e ⊎ MayRefuse (refuses_by form) rules (λ _. ⊥) (λ _. ⊥) e)

not_yet : (b : Bool) → (IsTrue b → ⊥) → b ≡ false
not_yet true h = absurd (h refl)
not_yet false h = refl

module _ {L : Type 0} (form : L → Form) (rules : List (Rewrite L Always)) (limit : ℕ) (is_clone : Infallible → Infallible → Type 0) (hook : NoHook) (clock : StillClock) (g : Graph) (q : RunnerState) where
  -- the session is left with the runner's graph, and with its rules
  pub run-answers : (o : Result (Report Infallible) Error) → RunSays form rules is_clone (runner_over g limit hook clock) q o →
      RunAnswers form limit (record { graph = g; rules = rules }) (record { graph = q.graph; rules = rules }) o
  run-answers (Ok r) says = (
    record {
      hook = hook;
      clock = clock;
      last = q;
      told = says.ok.told;
      run = says.ok.run;
      graph_is = refl;
      turns_are = says.ok.cloned.iterations;
      reason_is = same-stop is_clone says.ok.told.stop_reason _ says.ok.cloned.stop_reason;
      nodes_are = says.ok.cloned.egraph_nodes;
      was_sound = unfailed r g.failed says.failed;
      sound = not_yet q.graph.failed (λ f. says.fails.0 f);
      extends = by says.extends;
    },
    refl,
  )
    where
      by : IsTrue q.graph.failed ⊎ ExtendsTo g q.graph → ExtendsTo g q.graph
      by (inl f) = absurd (says.fails.0 f)
      by (inr e) = e
  run-answers (Err e) says = (by g.failed refl, refl)
    where
      not_failed : g.failed ≡ false → ¬ (e ≡ Failed)
      not_failed well same = false≢true (sym well ∙ says.failed.0 (ap Err same))

      refused : g.failed ≡ false → IsTrue g.failed ⊎ HasRefusedRules form rules (runner_over g limit hook clock) q e → HasRefusedRules form rules (runner_over g limit hook clock) q e
      refused well (inl f) = absurd (false≢true (sym well ∙ f))
      refused well (inr r) = r

      other_cause : g.failed ≡ false → {P : Type 0} → (e ≡ Failed) ⊎ P → P
      other_cause well (inl same) = absurd (not_failed well same)
      other_cause well (inr p) = p

      by : (b : Bool) → g.failed ≡ b → RunRefused form rules limit g q.graph e
      by true f = run_failed f (says.stays f) (ap (error_or Failed) (says.failed.1 f))
      by false well = turn_refused (record {
        hook = hook;
        clock = clock;
        last = q;
        refused = refused well says.refused;
        graph_is = refl;
        was_sound = well;
        extends = says.extends;
        fails = (λ f. other_cause well (says.fails.0 f), λ short. says.fails.1 (inr short));
        cause = other_cause well says.err;
      })

-- a new runner with this limit, and then with this graph
pub starts-over : (new_one : Graph) (clock : StillClock) (hook : NoHook) (limit : ℕ) (g x : Graph) (a b : RunnerState) → a ≡ new_parts new_one clock hook → b ≡ record a { limits = record a.limits { iterations = limit } } → x ≡ g →
    record b { graph = x } ≡ runner_over g limit hook clock
starts-over new_one clock hook limit g x a b new limited same =
    (λ i. let c : RunnerState = limited i in record c { graph = x }) ∙ ((λ i. let c : RunnerState = new i in record c { graph = x; limits = record c.limits { iterations = limit } }) ∙ (λ i. runner_over (same i) limit hook clock))

pub run-answered-by : {L : Type 0} (form : L → Form) (rules read : List (Rewrite L Always)) (limit : ℕ) (is_clone : Infallible → Infallible → Type 0) (hook : NoHook) (clock : StillClock) (g h : Graph) (p q : RunnerState) (o : Result (Report Infallible) Error) →
    read ≡ rules → p ≡ runner_over g limit hook clock → h ≡ q.graph → RunSays form read is_clone p q o → RunAnswers form limit (record { graph = g; rules = rules }) (record { graph = h; rules = rules }) o
run-answered-by form rules read limit is_clone hook clock g h p q o same starts left says =
    subst (λ (k : Graph). RunAnswers form limit (record { graph = g; rules = rules }) (record { graph = k; rules = rules }) o) (sym left)
    (run-answers form rules limit is_clone hook clock g q o (subst (λ r. RunSays form rules is_clone r q o) starts (subst (λ l. RunSays form l is_clone p q o) same says)))

-- where the runner has the session's graph, the rules can be searched in it
pub run-needs : {L : Type 0} (form : L → Form) (g x : Graph) (rules read : List (Rewrite L Always)) → x ≡ g → read ≡ rules → AreSearchable form (record { graph = g; rules = rules }) → IsTrue x.failed ⊎ All (CanBeSearched form x.table) read
run-needs form g x rules read e same v = subst (λ (y : Graph). IsTrue y.failed ⊎ All (CanBeSearched form y.table) read) (sym e) (subst (λ l. IsTrue g.failed ⊎ All (CanBeSearched form g.table) l) (sym same) v)

-- and in the graph that the run leaves
pub run-keeps : {L : Type 0} (form : L → Form) (g h : Graph) (rules : List (Rewrite L Always)) → IsTrue h.failed ⊎ ExtendsTo g h → (IsTrue g.failed → h ≡ g) → AreSearchable form (record { graph = g; rules = rules }) → AreSearchable form (record { graph = h; rules = rules })
run-keeps form g h rules (inl f) stays v = inl f
run-keeps form g h rules (inr e) stays v = kept-rules form g h rules e.more (λ f. subst (λ (x : Graph). IsTrue x.failed) (sym (stays f)) f) v

pub run-keeps-by : {L : Type 0} (form : L → Form) (g h x k : Graph) (rules : List (Rewrite L Always)) → x ≡ g → h ≡ k → IsTrue k.failed ⊎ ExtendsTo x k → (IsTrue x.failed → k ≡ x) → AreSearchable form (record { graph = g; rules = rules }) → AreSearchable form (record { graph = h; rules = rules })
run-keeps-by form g h x k rules same left extends stays v =
    subst (λ (y : Graph). AreSearchable form (record { graph = y; rules = rules })) (sym left)
    (run-keeps form x k rules extends stays (subst (λ (y : Graph). AreSearchable form (record { graph = y; rules = rules })) (sym same) v))
