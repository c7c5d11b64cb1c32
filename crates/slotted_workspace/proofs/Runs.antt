-- What a run over a graph says of the graph before and after.
use Rattle.std.proofs.Common.{◌≡◌, ◌⊎◌, ◌↔◌, ◌∙◌, ℕ, List, Result, Ok, Err, IfOk, IfErr, IsErrOf, ap, refl, sym, inl, inr}
use Rattle.std.specs.Prelude.{Bool, true, false, IsErrAnd, IsTrue, String}
use Rattle.std.specs.declared.alloc.Global.{Global}
use Rattle.std.proofs.lemmas.Bool.{false≢true}
use Rattle.slotted_slots.specs.declared.error.Error.{Error}
use Rattle.slotted_slots.specs.declared.error.Error.TheVariants.{Failed}
use Rattle.slotted_slots.specs.Error.{IsShortage}
use Rattle.slotted_nodes.specs.Form.{Form}
use Rattle.slotted_languages.proofs.HandedOn.{error_or}
use Rattle.slotted_operations.specs.Graph.{Graph}
use Rattle.slotted_graph.specs.Extension.{ExtendsTo}
use Rattle.slotted_rules.specs.Applying.{AreRefusedBy, NeverModified}
use Rattle.slotted_rules.specs.Counting.{RefusesRule}
use Rattle.slotted_rules.specs.declared.rewrite.Rewrite.{Rewrite}
use Rattle.slotted_rules.specs.Eqsat.{HasEqsatReported, HasRefusedEqsat}
use Rattle.slotted_rules.specs.Turning.{Calls, RulesOnce}
use Rattle.slotted_rules.specs.declared.report.Report.{Report}
use Rattle.slotted_commands.proofs.Steps.{not_true, sound_graph}
use Rattle.slotted_workspace.specs.Runs.{RunAnswers, RunRefused, TellsZero, applies_by, endless, leaves_by, refuses_by, searches_by}
use Rattle.slotted_workspace.specs.declared.running.NoClock.{NoClock}
use Rattle.slotted_workspace.specs.declared.running.NodeLimit.{NodeLimit}
use Rattle.slotted_workspace.specs.declared.sparing.RuleCondition.{RuleCondition}
use Rattle.slotted_workspace.specs.Sparing.{RuleRefuses}

module _ {L : Type 0} (form : L → Form) (rules : List (Rewrite L (RuleCondition L))) (turns : ℕ) (hook last : NodeLimit) (clock later : NoClock) (g h : Graph) (extends : IsTrue h.failed ⊎ ExtendsTo g h) (stays : IsTrue g.failed → h ≡ g) where
  abbrev Reported : Report (String Global) → Type 0
  Reported r = HasEqsatReported TellsZero (RulesOnce (searches_by form) (applies_by form) (NeverModified L) rules) (Calls leaves_by) turns endless (g, hook) clock (h, last) later r

  abbrev Broken : Error → Type 0
  Broken e = HasRefusedEqsat TellsZero (RulesOnce (searches_by form) (applies_by form) (NeverModified L) rules) (Calls leaves_by) turns endless (refuses_by form rules) (g, hook) clock (h, last) later e

  abbrev Refused : Error → Type 0
  Refused e = AreRefusedBy (RefusesRule form (λ c s _. RuleRefuses c s)) rules e

  pub run-answers : (o : Result (Report (String Global)) Error) → IfOk o Reported → IfErr o (λ e. IsTrue g.failed ⊎ Broken e) → IsErrOf o Failed ↔ IsTrue g.failed → IsTrue h.failed ↔ IsErrAnd o (λ e. (e ≡ Failed) ⊎ IsShortage e) → IfErr o (λ e. (e ≡ Failed) ⊎ IsShortage e ⊎ Refused e ⊎ ⊥) → RunAnswers form rules turns hook.nodes g h o
  run-answers (Ok r) ok refused failed fails err = record {
    well = sound_graph g.failed (Ok r) r refl failed.1;
    sound = not_true h.failed (λ f. fails.0 f);
    extends = elim extends [ inl f ↦ absurd (fails.0 f) | inr e ↦ e ];
    hook = hook;
    limit = refl;
    last = last;
    clock = clock;
    later = later;
    reported = ok;
  }
  run-answers (Err e) ok refused failed fails err = by g.failed refl
    where
      broken : g.failed ≡ false → IsTrue g.failed ⊎ Broken e → Broken e
      broken well (inl f) = absurd (false≢true (sym well ∙ f))
      broken well (inr b) = b

      other : g.failed ≡ false → {P : Type 0} → e ≡ Failed → P
      other well is = absurd (false≢true (sym well ∙ failed.0 (ap Err is)))

      short : g.failed ≡ false → (e ≡ Failed) ⊎ IsShortage e → IsShortage e
      short well (inl is) = other well is
      short well (inr s) = s

      cause : g.failed ≡ false → (e ≡ Failed) ⊎ IsShortage e ⊎ Refused e ⊎ ⊥ → IsShortage e ⊎ Refused e
      cause well (inl is) = other well is
      cause well (inr (inl s)) = inl s
      cause well (inr (inr (inl r))) = inr r
      cause well (inr (inr (inr n))) = absurd n

      by : (b : Bool) → g.failed ≡ b → RunRefused form rules turns hook.nodes g h e
      by true f = inl (f, stays f, ap (error_or Failed) (failed.1 f))
      by false well = inr (record { well = well; extends = extends; fails = (λ f. short well (fails.0 f), λ s. fails.1 (inr s)); cause = cause well err; hook = hook; limit = refl; last = last; clock = clock; later = later; refused = broken well refused })
