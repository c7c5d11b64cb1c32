-- Turns that decide, one after another.
use Rattle.std.proofs.Common.{◌≡◌, ◌≢◌, ◌⊎◌, ◌≤◌, ◌<◌, ◌∙◌, ◌++◌, ◌∷◌, [], ℕ, List, true, false, length, length-append, ap, refl, sym, subst, inl, inr, arith}
use Rattle.std.specs.Prelude.{◌↔◌, Bool, IfErr, IsErr, IsErrOf, IsTrue, Err, None, Ok, Option, Result, Some, is_err, is_some, map}
use Rattle.std.proofs.lemmas.Bool.{false≢true}
use Rattle.std.proofs.lemmas.List.{length-map}
use Rattle.slotted_slots.specs.declared.error.Error.{Error}
use Rattle.slotted_slots.specs.declared.error.Error.TheVariants.{Failed}
use Rattle.slotted_slots.specs.Error.{IsShortage}
use Rattle.slotted_nodes.specs.Form.{Form}
use Rattle.slotted_model_rules.specs.Conditions.{Values}
use Rattle.slotted_model.specs.Applied.{Applied}
use Rattle.slotted_operations.specs.Graph.{Graph}
use Rattle.slotted_operations.specs.ValidIds.{IsValidId}
use Rattle.std.specs.Coded.{Coded}
use Rattle.slotted_lists.proofs.Options.{Some-same}
use Rattle.slotted_data.specs.Meaning.{IsMergeOf, Meaning}
use Rattle.slotted_graph.specs.Analysed.{LowersData}
use Rattle.slotted_graph.specs.Extension.{ExtendsTo}
use Rattle.slotted_graph.proofs.Saying.{lowers-then}
use Rattle.slotted_deciding.specs.Equality.{IsDecidedGraph}
use Rattle.slotted_rules.specs.Applying.{HasProgressed}
use Rattle.slotted_rules.specs.Counting.{CountsAndModifies}
use Rattle.slotted_rules.specs.declared.counting.TurnCounts.{TurnCounts}
use Rattle.slotted_rules.specs.declared.rewrite.Rewrite.{Rewrite}
use Rattle.slotted_deciding.specs.Steps.{CanRefuse, GoesTo}
use Rattle.slotted_deciding.proofs.Growing.{goes-then}
use Rattle.slotted_deciding.proofs.Refusals.{never-failed}
use Rattle.slotted_decided.specs.declared.running.DecidedLimits.{DecidedLimits}
use Rattle.slotted_decided.specs.declared.running.DecidedRun.{DecidedRun}
use Rattle.slotted_decided.specs.declared.running.DecidedStop.{DecidedStop}
use Rattle.slotted_decided.specs.declared.running.DecidedStop.TheVariants.{NodeLimit, Saturated, TurnLimit, Undecided}
use Rattle.slotted_decided.proofs.SaturatedMatches.{turn-matches}
use Rattle.slotted_decided.specs.Turns.{EndsStill, GoesDecided, HasRunDecided, IsDecidedTurn, IsStillTurn, is_decided, turn_then}

-- so it is of data
pub later-lowers : {N D : Type 0} (codes : Coded N × Coded D) (meaning : N → Meaning D) (law : (n : N) → IsMergeOf (meaning n)) (g f h : Graph) → ExtendsTo g f → LowersData codes meaning g f → IsTrue h.failed ⊎ LowersData codes meaning f h →
    IsTrue h.failed ⊎ LowersData codes meaning g h
later-lowers codes meaning law g f h extends first (inl failed) = inl failed
later-lowers codes meaning law g f h extends first (inr more) = inr (lowers-then codes meaning law g f h extends first more)

pub goes-extends : (g h : Graph) → IsTrue h.failed ⊎ GoesTo g h → IsTrue h.failed ⊎ ExtendsTo g h
goes-extends g h (inl failed) = inl failed
goes-extends g h (inr goes) = inr goes.extends

module _ {L C : Type 0} (form : L → Form) (holds : C → Values → Graph → Bool → Type 0) (rules : List (Rewrite L C)) (after : Graph → Graph → Type 0) (g f h : Graph) (t : TurnCounts) where
  pub decided-turn : CountsAndModifies form holds rules after g t.rules.items f → (IsTrue t.changed ↔ HasProgressed g.image f.image) → GoesTo f h → IsDecidedTurn form holds rules after g t h
  decided-turn counts changed goes = record { applied = f; turn = record { counts = counts; changed = changed }; goes = goes }

  pub still-turn : CountsAndModifies form holds rules after g t.rules.items f → (IsTrue t.changed ↔ HasProgressed g.image f.image) → GoesTo f h → t.changed ≡ false → length f.image.symmetries ≡ length g.image.symmetries →
      IsStillTurn form holds rules after g t h
  still-turn counts changed goes still listed = record {
    applied = f;
    turn = record { counts = counts; changed = changed };
    still = λ p. false≢true (sym still ∙ changed.1 p);
    listed = listed;
    goes = goes;
  }

module _ {L C : Type 0} (form : L → Form) (holds : C → Values → Graph → Bool → Type 0) (rules : List (Rewrite L C)) (after : Graph → Graph → Type 0) (g : Graph) where
  pub no-turns : (h : Graph) (turns : List TurnCounts) → turns ≡ [] → GoesTo g h → GoesDecided form holds rules after g turns h
  no-turns h turns none goes = subst (λ ts. GoesDecided form holds rules after g ts h) (sym none) (is_decided goes)

  pub turn-more : (f h : Graph) (turns new : List TurnCounts) (t : TurnCounts) → GoesDecided form holds rules after g turns f → IsDecidedTurn form holds rules after f t h → new ≡ turns ++ t ∷ [] → GoesDecided form holds rules after g new h
  turn-more f h turns new t goes turn is = subst (λ ts. GoesDecided form holds rules after g ts h) (sym is) (turn_then goes turn)

  pub ends-still : ((a b : Graph) → after a b → ExtendsTo a b) → (f h : Graph) (turns new : List TurnCounts) (t : TurnCounts) → GoesDecided form holds rules after g turns f → IsDecidedGraph f → IsStillTurn form holds rules after f t h → IsDecidedGraph h → new ≡ turns ++ t ∷ [] →
      EndsStill form holds rules after g new h
  ends-still modified f h turns new t goes decided still known is = record {
    before = turns;
    last = t;
    from = f;
    turns = is;
    goes = goes;
    decided = decided;
    still = still;
    matches = turn-matches form holds rules after modified f h t still known;
  }

-- a refusal of a turn over a graph that has not failed
pub refused-rules : (R : Error → Type 0) (e : Error) → e ≢ Failed → (e ≡ Failed) ⊎ IsShortage e ⊎ R e → CanRefuse e ⊎ R e
refused-rules R e well (inl failed) = absurd (well failed)
refused-rules R e well (inr (inl s)) = inl (inr (inr s))
refused-rules R e well (inr (inr r)) = inr r

pub refused-decision : (R : Error → Type 0) (e : Error) → e ≢ Failed → (e ≡ Failed) ⊎ CanRefuse e → CanRefuse e ⊎ R e
refused-decision R e well (inl failed) = absurd (well failed)
refused-decision R e well (inr c) = inl c

-- as many symmetries are listed as were met
pub listed-same : {X Y : Type 0} (f : X → Y) (xs more : List X) (ys now : List Y) → map f xs ≡ ys → map f more ≡ now → length more ≡ length xs → length now ≡ length ys
listed-same f xs more ys now e n same = sym (ap length n) ∙ length-map more f ∙ same ∙ sym (length-map xs f) ∙ ap length e

-- an id of the graph before is valid in the one after, unless the one before had failed
pub valid-decided : (g h : Graph) (a : Applied) → GoesTo g h → g.failed ≡ false → IsTrue g.failed ⊎ IsValidId g a → IsTrue h.failed ⊎ IsValidId h a
valid-decided g h a goes well (inl f) = absurd (false≢true (sym well ∙ f))
valid-decided g h a goes well (inr v) = inr (goes.extends.valid a v)

-- whether a run has saturated the graph
abbrev is_saturated : DecidedStop → Bool
is_saturated Saturated = true
is_saturated TurnLimit = false
is_saturated NodeLimit = false
is_saturated Undecided = false

undecided-not_saturated : ¬ (Undecided ≡ Saturated)
undecided-not_saturated e = false≢true (ap is_saturated e)

-- whether the limit of turns stopped a run
abbrev is_limit : DecidedStop → Bool
is_limit TurnLimit = true
is_limit Saturated = false
is_limit NodeLimit = false
is_limit Undecided = false

undecided-not_limit : ¬ (Undecided ≡ TurnLimit)
undecided-not_limit e = false≢true (ap is_limit e)

-- whether the limit of e-nodes did
abbrev is_cut : DecidedStop → Bool
is_cut NodeLimit = true
is_cut Saturated = false
is_cut TurnLimit = false
is_cut Undecided = false

undecided-not_cut : ¬ (Undecided ≡ NodeLimit)
undecided-not_cut e = false≢true (ap is_cut e)

limit-not_cut : ¬ (TurnLimit ≡ NodeLimit)
limit-not_cut e = false≢true (ap is_cut e)

limit-not_saturated : ¬ (TurnLimit ≡ Saturated)
limit-not_saturated e = false≢true (ap is_saturated e)

module _ {L C : Type 0} (form : L → Form) (holds : C → Values → Graph → Bool → Type 0) (rules : List (Rewrite L C)) (after : Graph → Graph → Type 0) where
  -- a decision in front of other turns
  begins : (g f : Graph) → GoesTo g f → {turns : List TurnCounts} {h : Graph} → GoesDecided form holds rules after f turns h → GoesDecided form holds rules after g turns h
  begins g f first {h = h} (is_decided goes) = is_decided (goes-then g f h first goes)
  begins g f first (turn_then goes turn) = turn_then (begins g f first goes) turn

  module _ (limits : DecidedLimits) where
    pub run-begins : (g f h : Graph) (r : DecidedRun) → GoesTo g f → HasRunDecided form holds rules after limits f h r → HasRunDecided form holds rules after limits g h r
    run-begins g f h r first run = record {
      turns = begins g f first run.turns;
      few = run.few;
      full = run.full;
      cut = run.cut;
      decided = run.decided;
      saturated = λ s. let e = run.saturated s in record { before = e.before; last = e.last; from = e.from; turns = e.turns; goes = begins g f first e.goes; decided = e.decided; still = e.still; matches = e.matches };
    }

    pub run-undecided : (g h : Graph) (r : DecidedRun) → GoesTo g h → r.turns.items ≡ [] → r.stop ≡ Undecided → HasRunDecided form holds rules after limits g h r
    run-undecided g h r goes none is = record {
      turns = no-turns form holds rules after g h r.turns.items none goes;
      few = subst (λ (ts : List TurnCounts). length ts ≤ limits.turns) (sym none) (omega arith);
      full = λ s. absurd (undecided-not_limit (sym is ∙ s));
      cut = λ s. absurd (undecided-not_cut (sym is ∙ s));
      decided = λ other. absurd (other is);
      saturated = λ s. absurd (undecided-not_saturated (sym is ∙ s));
    }

    -- a turn that stops the run
    pub run-stopped : ((a b : Graph) → after a b → ExtendsTo a b) → (g f h : Graph) (turns : List TurnCounts) (t : TurnCounts) (r : DecidedRun) → GoesDecided form holds rules after g turns f → IsDecidedGraph f → IsDecidedTurn form holds rules after f t h → r.turns.items ≡ turns ++ t ∷ [] →
        length turns < limits.turns → (r.stop ≢ Undecided → IsDecidedGraph h) → (r.stop ≡ Saturated → IsStillTurn form holds rules after f t h) → r.stop ≢ TurnLimit → (r.stop ≡ NodeLimit → limits.nodes < length h.filed) → HasRunDecided form holds rules after limits g h r
    run-stopped modified g f h turns t r goes decided turn is few known still other past = record {
      turns = turn-more form holds rules after g f h turns r.turns.items t goes turn is;
      few = omega (arith, few, ap length is, length-append turns (t ∷ []));
      full = λ s. absurd (other s);
      cut = past;
      decided = known;
      saturated = λ s. ends-still form holds rules after g modified f h turns r.turns.items t goes decided (still s) (known (λ other. undecided-not_saturated (sym other ∙ s))) is;
    }

    -- the limit of turns
    pub run-limited : (g h : Graph) (r : DecidedRun) → GoesDecided form holds rules after g r.turns.items h → length r.turns.items ≡ limits.turns → IsDecidedGraph h → r.stop ≡ TurnLimit → HasRunDecided form holds rules after limits g h r
    run-limited g h r goes full decided is = record { turns = goes; few = omega (arith, full); full = λ s. full; cut = λ s. absurd (limit-not_cut (sym is ∙ s)); decided = λ other. decided; saturated = λ s. absurd (limit-not_saturated (sym is ∙ s)) }

-- of why a turn stops the run
pub stop-known : (o : Option DecidedStop) (s : DecidedStop) → o ≡ Some s → s ≢ Undecided → o ≢ Some Undecided
stop-known o s is other e = other (Some-same s Undecided (sym is ∙ e))

pub never-undecided : (o : Option DecidedStop) → o ≡ None → o ≢ Some Undecided
never-undecided o is e = false≢true (sym (ap is_some is) ∙ ap is_some e)

not_true : (b : Bool) → ¬ IsTrue b → b ≡ false
not_true true n = absurd (n refl)
not_true false n = refl

-- a turn that was taken leaves a graph that has not failed, and that extends the one before
pub well-extends : {A : Type 0} (f h : Graph) (r : Result A Error) (x : A) → r ≡ Ok x → IsTrue h.failed ⊎ ExtendsTo f h → (IsTrue h.failed → IsErr r) → (h.failed ≡ false) × ExtendsTo f h
well-extends f h r x is extends fails = (not_true h.failed bad, elim extends [ inl b ↦ absurd (bad b) | inr e ↦ e ])
  where
    bad : ¬ IsTrue h.failed
    bad b = false≢true (sym (ap is_err is) ∙ fails b)

-- a call that ended well had a graph that had not failed
pub started-well : {A : Type 0} (g : Graph) (r : Result A Error) (x : A) → r ≡ Ok x → (IsErrOf r Failed ↔ IsTrue g.failed) → g.failed ≡ false
started-well g r x is failed = not_true g.failed (λ f. false≢true (sym (ap is_err is) ∙ ap is_err (failed.1 f)))

pub no-refusal_fails : {A : Type 0} (R : Error → Type 0) → ¬ R Failed → (g : Graph) → g.failed ≡ false → (r : Result A Error) → IfErr r (λ e. CanRefuse e ⊎ R e) → IsErrOf r Failed ↔ IsTrue g.failed
no-refusal_fails {A} R never g well r err = (λ is. absurd (none r is err), λ f. absurd (false≢true (sym well ∙ f)))
  where
    none : (r : Result A Error) → r ≡ Err Failed → IfErr r (λ e. CanRefuse e ⊎ R e) → ⊥
    none r is err = elim (subst (λ (s : Result A Error). IfErr s (λ e. CanRefuse e ⊎ R e)) is err) [
      | inl c ↦ never-failed c
      | inr b ↦ never b
    ]
