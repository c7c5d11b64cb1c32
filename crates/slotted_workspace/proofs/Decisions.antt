-- What calls that decide say of two kept terms.
use Rattle.std.proofs.Common.{◌≡◌, ◌⊎◌, ◌↔◌, ◌∙◌, ℕ, List, Result, Ok, Err, IfErr, IfOk, IsErrOf, OnOk, ap, refl, sym, subst, inl, inr}
use Rattle.std.specs.Prelude.{Bool, true, false, IsErr, IsTrue, map}
use Rattle.std.proofs.lemmas.Bool.{false≢true}
use Rattle.slotted_slots.specs.declared.error.Error.{Error}
use Rattle.slotted_slots.specs.declared.error.Error.TheVariants.{Failed}
use Rattle.slotted_slots.specs.Syntax.{Element}
use Rattle.slotted_theory.specs.Derives.{Derives, Equal, nameless_pair}
use Rattle.slotted_theory.proofs.Forward.{Derives-equal}
use Rattle.slotted_theory.specs.Nameless.{DTerm, nameless}
use Rattle.slotted_theory.specs.Term.{Term}
use Rattle.slotted_nodes.specs.Form.{Form}
use Rattle.slotted_languages.proofs.HandedOn.{error_or}
use Rattle.slotted_model.specs.Applied.{Applied}
use Rattle.slotted_model.specs.Classes.{term_of}
use Rattle.slotted_proofs.specs.Equations.{to_applied}
use Rattle.slotted_operations.specs.Graph.{Graph, OnlyTakesSlots}
use Rattle.slotted_operations.specs.Image.{Image, asserted_in}
use Rattle.slotted_graph.specs.Extension.{ExtendsTo}
use Rattle.slotted_operations.proofs.CallerLemmas.{fills-itself}
use Rattle.slotted_explain.specs.Printed.{IsProofText}
use Rattle.slotted_graph.proofs.Extending.{extends-itself}
use Rattle.slotted_rules.specs.Applying.{AreRefusedBy, NeverModified}
use Rattle.slotted_rules.specs.Counting.{RefusesRule}
use Rattle.slotted_rules.specs.declared.rewrite.Rewrite.{Rewrite}
use Rattle.slotted_rules.proofs.Modified.{never-changed}
use Rattle.slotted_deciding.specs.Equality.{IsDecidedGraph}
use Rattle.slotted_deciding.specs.Asking.{IsJudged, IsProved}
use Rattle.slotted_deciding.specs.Steps.{CanRefuse, GoesTo}
use Rattle.slotted_deciding.specs.declared.asking.Verdict.{Verdict}
use Rattle.slotted_deciding.specs.declared.asking.Verdict.TheVariants.{No, Open, Yes}
use Rattle.slotted_workspace.specs.Asked.{FollowsIn, HadFailed}
use Rattle.slotted_decided.specs.Turns.{HasRunDecided}
use Rattle.slotted_decided.specs.declared.running.DecidedLimits.{DecidedLimits}
use Rattle.slotted_decided.specs.declared.running.DecidedRun.{DecidedRun}
use Rattle.slotted_decided.proofs.Origins.{decided-rules}
use Rattle.slotted_commands.proofs.Steps.{sound_graph}
use Rattle.slotted_workspace.specs.Decided.{DecideRefused, DecidedRunRefused, DecidesGraph, IsPrintedProof, JudgesTerms, RunsDecided, NeverFollows, SaysOfTerms}
use Rattle.slotted_workspace.specs.Keeping.{IsKept}
use Rattle.slotted_workspace.specs.declared.kept.Kept.{Kept}
use Rattle.slotted_workspace.proofs.Saying.{follows, kept-answered, terms-equal}
use Rattle.slotted_workspace.proofs.Staying.{kept-later}
use Rattle.slotted_workspace.specs.declared.sparing.RuleCondition.{RuleCondition}
use Rattle.slotted_workspace.specs.Sparing.{AnswersRule, RuleRefuses}

pub goes-well : {A : Type 0} (g h : Graph) (r : Result A Error) (x : A) → r ≡ Ok x → IsTrue h.failed ⊎ GoesTo g h → (IsTrue h.failed ↔ IsErr r) → GoesTo g h
goes-well g h r x is (inl failed) fails = absurd (false≢true (subst (λ (s : Result _ Error). IsErr s) is (fails.0 failed)))
goes-well g h r x is (inr goes) fails = goes

-- a refusal: the graph had failed, or memory or slots ran out, or a step did not fit
pub decide-refused : {A : Type 0} (g h : Graph) (r : Result A Error) → (IsErrOf r Failed ↔ IsTrue g.failed) → (IsTrue g.failed → h ≡ g) → IfErr r (λ e. (e ≡ Failed) ⊎ CanRefuse e) → IfErr r (DecideRefused g h)
decide-refused g h (Ok x) failed stays only = tt
decide-refused {A} g h (Err e) failed stays only = by g.failed refl
  where
    other : g.failed ≡ false → (e ≡ Failed) ⊎ CanRefuse e → DecideRefused g h e
    other well (inl is) = absurd (false≢true (sym well ∙ failed.0 (ap Err is)))
    other well (inr c) = inr (well, c)

    by : (b : Bool) → g.failed ≡ b → DecideRefused g h e
    by true f = inl (f, stays f, ap (error_or Failed) (failed.1 f))
    by false well = other well only

-- terms that are not equal by what is asserted are derivable from no equations that are that
pub never-follows : (g : Image) (t u : Term) → ¬ Equal (asserted_in g) (nameless t) (nameless u) → NeverFollows g t u
never-follows g t u apart E is d = apart (subst (λ (A : List (DTerm × DTerm)). Equal A (nameless t) (nameless u)) is (Derives-equal d))

-- kept terms that are judged
module _ {L : Type 0} (g h : Graph) (k l : Kept L) (one : IsKept g k) (two : IsKept g l) (well : g.failed ≡ false) (goes : GoesTo g h) where
  later-one : IsKept h k
  later-one = kept-later g h goes.extends k one

  later-two : IsKept h l
  later-two = kept-later g h goes.extends l two

  of-ids : (E : List (DTerm × DTerm)) → Equal E (nameless k.term) (nameless l.term) → Equal E (term_of h.image.canonical (to_applied k.id)) (term_of h.image.canonical (to_applied l.id))
  of-ids E e = subst (λ (d : DTerm). Equal E d (term_of h.image.canonical (to_applied l.id))) (sym later-one.term) (subst (Equal E (nameless k.term)) (sym later-two.term) e)

  says : (v : Verdict) → IsJudged h.image (to_applied k.id) (to_applied l.id) v → SaysOfTerms h.image k.term l.term v
  says Yes judged =
      follows h.image k.term l.term (terms-equal h k l later-one later-two (asserted_in h.image) (judged (to_applied k.id) (to_applied l.id) (fills-itself h.image (to_applied k.id) later-one.full.full) (fills-itself h.image (to_applied l.id) later-two.full.full)).0)
  says No judged = never-follows h.image k.term l.term
      (λ e. judged (to_applied k.id) (to_applied l.id) (fills-itself h.image (to_applied k.id) later-one.full.full) (fills-itself h.image (to_applied l.id) later-two.full.full) (of-ids (asserted_in h.image) e))
  says Open judged = record {
    left = to_applied k.id;
    right = to_applied l.id;
    left_full = later-one.full.full;
    right_full = later-two.full.full;
    left_term = later-one.term;
    right_term = later-two.term;
    apart = judged;
  }

  pub judges : (v : Verdict) → IsJudged h.image (to_applied k.id) (to_applied l.id) v → JudgesTerms g h k.term l.term v
  judges v judged = record { well = well; goes = goes; says = says v judged }

-- a proof that is printed
pub proof-printed : (written : Term → List Element) (g k h : Graph) (t u : Term) (p : ℕ) (text : List ℕ) → GoesTo g k → IsProved k.image t u p → IsProofText written k h p text → OnlyTakesSlots k h → IsPrintedProof written g h t u text
proof-printed written g k h t u p text goes proved printed takes = record { number = p; between = k; goes = goes; proved = proved; follows = follows k.image t u proved.equal; printed = printed; takes = takes }

-- answers of calls that decide
module _ {L : Type 0} (g h : Graph) (k l : Kept L) (one : IsTrue g.failed ⊎ IsKept g k) (two : IsTrue g.failed ⊎ IsKept g l) where
  pub judged-ok : (r : Result Verdict Error) → (IsErrOf r Failed ↔ IsTrue g.failed) → IsTrue h.failed ⊎ GoesTo g h → (IsTrue h.failed ↔ IsErr r) → IfOk r (IsJudged h.image (to_applied k.id) (to_applied l.id)) → IfOk r (JudgesTerms g h k.term l.term)
  judged-ok (Err e) failed goes fails judged = tt
  judged-ok (Ok v) failed goes fails judged =
      judges g h k l (kept-answered g v failed one) (kept-answered g v failed two) (sound_graph g.failed (Ok v) v refl failed.1) (goes-well g h (Ok v) v refl goes fails) v judged

pub decided-ok : (g h : Graph) (r : Result Bool Error) → (IsErrOf r Failed ↔ IsTrue g.failed) → IsTrue h.failed ⊎ GoesTo g h → (IsTrue h.failed ↔ IsErr r) → IfOk r (λ y. IsTrue y → IsDecidedGraph h) →
    (IsDecidedGraph g → OnOk r (OnlyTakesSlots g h)) → IfOk r (DecidesGraph g h)
decided-ok g h (Err e) failed goes fails decided kept = tt
decided-ok g h (Ok y) failed goes fails decided kept = record { well = sound_graph g.failed (Ok y) y refl failed.1; goes = goes-well g h (Ok y) y refl goes fails; decided = decided; kept = kept }

-- a run of rules
module _ {L : Type 0} (form : L → Form) (rules : List (Rewrite L (RuleCondition L))) (limits : DecidedLimits) (g h : Graph) where
  abbrev Refused : Error → Type 0
  Refused e = AreRefusedBy (RefusesRule form (λ c s _. RuleRefuses c s)) rules e

  never-extends : (a b : Graph) → NeverModified L a b → ExtendsTo a b
  never-extends a b m = subst (ExtendsTo a) (sym (never-changed L a b m)) (extends-itself a)

  pub run-decided : (r : Result DecidedRun Error) → (IsErrOf r Failed ↔ IsTrue g.failed) → IfOk r (HasRunDecided form (AnswersRule form) rules (NeverModified L) limits g h) → IfOk r (RunsDecided form rules limits g h)
  run-decided (Err e) failed run = tt
  run-decided (Ok r) failed run = record {
    well = sound_graph g.failed (Ok r) r refl failed.1;
    run = run;
    origins = decided-rules form (AnswersRule form) rules (NeverModified L) never-extends g h r.turns.items (never-changed L) run.turns;
  }

  pub run-refused : (r : Result DecidedRun Error) → (IsErrOf r Failed ↔ IsTrue g.failed) → (IsTrue g.failed → h ≡ g) → IsTrue h.failed ⊎ ExtendsTo g h → IfErr r (λ e. (e ≡ Failed) ⊎ CanRefuse e ⊎ Refused e) → IfErr r (DecidedRunRefused form rules g h)
  run-refused (Ok r) failed stays extends err = tt
  run-refused (Err e) failed stays extends err = by g.failed refl
    where
      other : g.failed ≡ false → (e ≡ Failed) ⊎ CanRefuse e ⊎ Refused e → DecidedRunRefused form rules g h e
      other well (inl is) = absurd (false≢true (sym well ∙ failed.0 (ap Err is)))
      other well (inr c) = inr (well, extends, c)

      by : (b : Bool) → g.failed ≡ b → DecidedRunRefused form rules g h e
      by true f = inl (f, stays f, ap (error_or Failed) (failed.1 f))
      by false well = other well err
