-- Refusals of runs, once the graph has failed where memory or slots were lacking.
use Rattle.std.proofs.Common.{◌≡◌, ◌∙◌, ℕ, List, Option, true, Result, Ok, Err, IfErr, ap, refl, sym, subst, inl, inr, arith}
use Rattle.std.specs.Prelude.{◌⊎◌, IsErrAnd, IsTrue}
use Rattle.slotted_lists.proofs.Options.{Some-same}
use Rattle.slotted_slots.specs.declared.error.Error.{Error}
use Rattle.slotted_slots.specs.declared.error.Error.TheVariants.{OutOfMemory, OutOfSlots}
use Rattle.slotted_slots.specs.Error.{IsShortage, number_of}
use Rattle.slotted_operations.specs.Graph.{Graph}
use Rattle.slotted_model_rules.specs.Runners.{Iteration, Limits, Measures, RunnerRefuses, refused_later, refused_now, runner_report}
use Rattle.slotted_rules.specs.declared.report.Report.{Report}
use Rattle.slotted_rules.specs.RunLoops.{HasStopped, IsRefusedWithin, IsReportOf, report_refused_within, turn_refused_within}
use Rattle.slotted_rules.specs.Runs.{HasRefusedTurn, HasReported, IsRefused, report_refused, turn_refused}
use Rattle.slotted_rules.specs.Seen.{Parts, seen}
use Rattle.slotted_rules.specs.Turning.{IsReportClone, RefusesTurn, data_refused, hook_refused, no_room, rules_refused}

-- a refusal is a shortage or not
pub short-or-not : (e : Error) → IsShortage e ⊎ (¬ IsShortage e)
short-or-not OutOfMemory = inl (inl refl)
short-or-not OutOfSlots = inl (inr refl)
short-or-not e = inr (λ s. not-short s)
  where
    not-short : IsShortage e → ⊥
    not-short (inl is) = let same : number_of e ≡ 1 = ap number_of is in absurd (omega (arith, same))
    not-short (inr is) = let same : number_of e ≡ 2 = ap number_of is in absurd (omega (arith, same))

abbrev pub IsFailedBy : {A : Type 0} → Result A Error → Graph → Graph → Type 0
IsFailedBy r g h = (IsErrAnd r IsShortage → h ≡ record g { failed = true }) × ((¬ IsErrAnd r IsShortage) → h ≡ g)

-- what is left of a graph
pub failed-or-same : {A : Type 0} (r : Result A Error) (g h : Graph) → IsFailedBy r g h → (IsErrAnd r IsShortage × (h ≡ record g { failed = true })) ⊎ ((¬ IsErrAnd r IsShortage) × (h ≡ g))
failed-or-same (Ok x) g h by = inr (λ s. s, by.1 (λ s. s))
failed-or-same (Err e) g h by = elim (short-or-not e) [
  | inl short ↦ inl (short, by.0 short)
  | inr other ↦ inr (other, by.1 other)
]

pub if-err-so : {A : Type 0} (r s : Result A Error) (P Q : Error → Type 0) → s ≡ r → ((e : Error) → P e → Q e) → IfErr r P → IfErr s Q
if-err-so {A} (Ok x) s P Q same f p = subst (λ (t : Result A Error). IfErr t Q) (sym same) tt
if-err-so {A} (Err e) s P Q same f p = subst (λ (t : Result A Error). IfErr t Q) (sym same) (f e p)

module _ {H T D K : Type 0} (tells : K → ℕ → K → Type 0) (applies : Graph × H → Graph × H → Type 0) (hooks : Graph × H → ℕ → Graph × H → Option T → Type 0) (m : Measures (Graph × H) D) where
  -- the report of one that has stopped
  pub reported : (is_clone : T → T → Type 0) (p q : Parts D T H K) → HasStopped tells applies hooks m p q → (r : Report T) → IsReportOf is_clone m q r → HasReported tells applies hooks m is_clone p q r
  reported is_clone p q stopped r report = record {
    told = runner_report m (seen q) stopped.reason;
    run = stopped.run;
    cloned = subst (λ reason. IsReportClone is_clone (runner_report m (seen q) reason) r) (Some-same report.reason stopped.reason (sym report.stopped ∙ stopped.stopped)) report.cloned;
  }

  module _ (refuses : Graph × H → ℕ → Graph × H → Error → Type 0) (room : (s t u : Graph × H) (n : ℕ) (e : Error) → IsShortage e → IsTrue u.0.failed → refuses s n t e → refuses s n u e) (e : Error) where
    -- the last graph may fail
    worse : (limits : Limits) (clock : ℕ → ℕ) (start : ℕ) {stored all : List (Iteration D)} {k : ℕ} {s : Graph × H} (t u : Graph × H) → IsShortage e → IsTrue u.0.failed →
        RunnerRefuses applies hooks (λ v i x. refuses v i x e) m limits clock start stored k s all t → RunnerRefuses applies hooks (λ v i x. refuses v i x e) m limits clock start stored k s all u
    worse limits clock start t u short failed (refused_now spoils) = refused_now (room _ t u _ e short failed spoils)
    worse limits clock start t u short failed (refused_later turn more) = refused_later turn (worse limits clock start t u short failed more)

    turn-worse : (p q : Parts D T H K) (h : Graph) → IsShortage e → IsTrue h.failed → HasRefusedTurn tells applies hooks m refuses p q e → HasRefusedTurn tells applies hooks m refuses p (record q { graph = h }) e
    turn-worse p q h short failed refused = record {
      readings = refused.readings;
      by_clock = refused.by_clock;
      start = refused.start;
      first = refused.first;
      starts = refused.starts;
      by_turns = worse p.limits _ refused.start (q.graph, q.hook) (h, q.hook) short failed refused.by_turns;
      count = refused.count;
      had_not_stopped = refused.had_not_stopped;
      rest = λ i. record (refused.rest i) { graph = h };
    }

    -- what is left of a runner whose run is refused
    left-refused : (A : Type 0) (p q : Parts D T H K) (h : Graph) → IsFailedBy {A = A} (Err e) q.graph h → IsRefusedWithin tells applies hooks m refuses p q e → IsRefused tells applies hooks m refuses p (record q { graph = h }) e
    left-refused A p q h by (turn_refused_within refused) = elim (failed-or-same {A = A} (Err e) q.graph h by) [
      | inl short ↦ turn_refused (turn-worse p q h short.0 (ap (λ (x : Graph). x.failed) short.1) refused)
      | inr same ↦ subst (λ x. IsRefused tells applies hooks m refuses p (record q { graph = x }) e) (sym same.1) (turn_refused refused)
    ]
    left-refused A p q h by (report_refused_within stopped memory) =
        report_refused q (runner_report m (seen q) stopped.reason) stopped.run (λ i. record q { graph = by.0 (inl memory) i }) memory

  pub refused-out : {A : Type 0} (refuses : Graph × H → ℕ → Graph × H → Error → Type 0) → ((s t u : Graph × H) (n : ℕ) (e : Error) → IsShortage e → IsTrue u.0.failed → refuses s n t e → refuses s n u e) → (r : Result A Error) (p q : Parts D T H K) (h : Graph) → IsFailedBy r q.graph h →
      IfErr r (IsRefusedWithin tells applies hooks m refuses p q) → IfErr r (IsRefused tells applies hooks m refuses p (record q { graph = h }))
  refused-out {A} refuses room (Ok x) p q h by refused = tt
  refused-out {A} refuses room (Err e) p q h by refused = left-refused refuses room e A p q h by refused

-- where memory or slots ran out the turn may have failed the graph
pub spoiled : {H T : Type 0} (rules : Graph → Graph → Error → Type 0) (applies : Graph × H → Graph × H → Type 0) (hook : H → Graph → ℕ → H → Graph → Error → Type 0) (hooks : Graph × H → ℕ → Graph × H → Option T → Type 0) (kept : Error → Type 0) →
    (s t u : Graph × H) (n : ℕ) (e : Error) → IsShortage e → IsTrue u.0.failed → RefusesTurn rules applies hook hooks kept s n t e → RefusesTurn rules applies hook hooks kept s n u e
spoiled rules applies hook hooks kept s t u n e short failed refused = no_room short (inl failed)

-- what is kept of a turn may be refused, too
pub turn-kept : {H T : Type 0} (rules : Graph → Graph → Error → Type 0) (applies : Graph × H → Graph × H → Type 0) (hook : H → Graph → ℕ → H → Graph → Error → Type 0) (hooks : Graph × H → ℕ → Graph × H → Option T → Type 0) (kept : Error → Type 0) →
    (s t : Graph × H) (n : ℕ) (e : Error) → RefusesTurn rules applies hook hooks (λ _. ⊥) s n t e → RefusesTurn rules applies hook hooks kept s n t e
turn-kept rules applies hook hooks kept s t n e (no_room short spoils) = no_room short spoils
turn-kept rules applies hook hooks kept s t n e (rules_refused r same) = rules_refused r same
turn-kept rules applies hook hooks kept s t n e (hook_refused applied by_rules gone) = hook_refused applied by_rules gone
turn-kept rules applies hook hooks kept s t n e (data_refused applied stop by_rules by_hook never) = absurd never
