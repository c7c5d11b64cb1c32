-- Substitutions that read the machine's answers read the states of the matcher, one by one.
use Rattle.std.proofs.Common.{ℕ, ◌<◌, List, [], ◌∷◌, length, refl, inl, inr}
use Rattle.std.specs.List.{flat_map}
use Rattle.slotted_lists.proofs.Members.{In, Contains-In}
use Rattle.slotted_theory.specs.Renaming.{IsInjective}
use Rattle.slotted_model.specs.Find.{IsLive, used_slots}
use Rattle.slotted_model.specs.State.{Row, State}
use Rattle.slotted_model.specs.Rest.{AtRest}
use Rattle.slotted_model_rules.specs.Conditions.{Values}
use Rattle.slotted_model_rules.specs.Matcher.{MatchState, Gives, Reads}
use Rattle.slotted_model_rules.specs.Patterns.{Pattern}
use Rattle.slotted_model_rules.specs.Rules.{valued}
use Rattle.slotted_match_machine.specs.declared.index.RowIndex.{RowIndex}
use Rattle.slotted_match_machine.specs.declared.program.Step.{Step}
use Rattle.slotted_match_machine.specs.Index.{OneByOne, IsIndexOf, IsOutlineIn}
use Rattle.slotted_match_machine.specs.Machine.{Answer, answers_at, all_answers}
use Rattle.slotted_match_machine.specs.Programs.{IsProgram}
use Rattle.slotted_match_machine.specs.Readings.{IsReadAs, ReadsAnswer, name_at}
use Rattle.slotted_match_machine.proofs.Lists.{one_by_one-parts}
use Rattle.slotted_match_machine.proofs.Searched.{state-read, to}
use Rattle.slotted_match_machine.proofs.Starting.{class-answers, f-injective}
use Rattle.slotted_matching.specs.Found.{AreReadings, AreReadInTurn}

-- what reads an answer reads the state that the answer is
reads-states : (g : State) (f : ℕ → ℕ) → IsInjective f → (variables : List (List ℕ)) (outs : List MatchState) (found : List Values) (xs : List Answer) →
    OneByOne (IsReadAs g f variables) outs xs → OneByOne (ReadsAnswer g variables) found xs → OneByOne (λ (out : MatchState) (s : Values). (h : ℕ → ℕ) × Reads g h (valued s) out) outs found
reads-states g f inj variables [] [] [] is reads = tt
reads-states g f inj variables [] [] (x ∷ xs) is reads = absurd is
reads-states g f inj variables [] (s ∷ found) [] is reads = absurd reads
reads-states g f inj variables [] (s ∷ found) (x ∷ xs) is reads = absurd is
reads-states g f inj variables (out ∷ outs) found [] is reads = absurd is
reads-states g f inj variables (out ∷ outs) [] (x ∷ xs) is reads = absurd reads
reads-states g f inj variables (out ∷ outs) (s ∷ found) (x ∷ xs) is reads =
    ((to g f inj variables out x s is.0 reads.0, state-read g f inj variables out x s is.0 reads.0), reads-states g f inj variables outs found xs is.1 reads.1)

module _ (g : State) (rest : AtRest g) (order : List Row) (index : RowIndex) (is : IsIndexOf g order index) (variables : List (List ℕ)) (p : Pattern) (steps : List Step) (program : IsProgram (IsOutlineIn g order index) variables p steps) where
  pub readings-at : (c : ℕ) → c < length g.nodes → IsLive g.found c → (found : List Values) → OneByOne (ReadsAnswer g variables) found (answers_at index.classes.items steps c) → AreReadings g order p c found
  readings-at c h live found all =
      let r = class-answers g rest c h live order index is variables p steps program in
      record {
        outs = r.0;
        run = r.1;
        read = reads-states g (name_at (used_slots g.found c)) (f-injective g rest c h live) variables r.0 found (answers_at index.classes.items steps c) r.2 all;
      }

  readings-of : (live : List ℕ) → ((c : ℕ) → In c live → (c < length g.nodes) × IsLive g.found c) → (found : List Values) →
      OneByOne (ReadsAnswer g variables) found (flat_map (answers_at index.classes.items steps) live) → Gives (AreReadings g order p) live found
  readings-of [] lives [] all = refl
  readings-of [] lives (s ∷ found) all = absurd all
  readings-of (c ∷ live) lives found all =
      let parts = one_by_one-parts (ReadsAnswer g variables) found (answers_at index.classes.items steps c) (flat_map (answers_at index.classes.items steps) live) all in
      let here = lives c (inl refl) in
      (parts.0, parts.1, parts.2, readings-at c here.0 here.1 parts.0 parts.3, readings-of live (λ d i. lives d (inr i)) parts.1 parts.4)

  pub read-in-turn : (found : List Values) → OneByOne (ReadsAnswer g variables) found (all_answers index steps) → AreReadInTurn g order p found
  read-in-turn found all = record {
    live = index.live.items;
    ascending = is.ascending;
    classes = λ c. ((λ h. (is.live c).0 h), (λ h. (is.live c).1 h));
    readings = readings-of index.live.items (λ c i. (is.live c).0 (Contains-In index.live.items c i)) found all;
  }
