-- The laws of the machine, all owed by `machine_laws_hold` in src/laws.rt.
use Rattle.std.specs.Prelude.{◌≡◌, ◌↔◌, ℕ, ◌<◌, List, [], length, Contains, slice_index_or}
use Rattle.slotted_model.specs.Correspondence.{IsInjectiveOn}
use Rattle.slotted_model.specs.Find.{IsLive, used_slots, find}
use Rattle.slotted_model.specs.State.{Row, State}
use Rattle.slotted_model.specs.Rest.{IsValidIn, AtRest}
use Rattle.slotted_model_rules.specs.Conditions.{Values}
use Rattle.slotted_model_rules.specs.Patterns.{Pattern}
use Rattle.slotted_model_rules.specs.Matcher.{MatchState, Found, class_id, start_at}
use Rattle.slotted_model_rules.specs.Rules.{Searches}
use Rattle.slotted_match_machine.specs.declared.index.RowIndex.{RowIndex}
use Rattle.slotted_match_machine.specs.declared.program.Step.{Step}
use Rattle.slotted_match_machine.specs.Index.{OneByOne, IsIndexOf, IsOutlineIn, LacksRow}
use Rattle.slotted_match_machine.specs.Machine.{Occurrence, Answer, answers_at, all_answers}
use Rattle.slotted_match_machine.specs.Programs.{variables_of, IsProgram}
use Rattle.slotted_match_machine.specs.Readings.{name_at, read_id, IsWholeId, IsReadAs, ReadsAnswer, IsWholeAnswer}

-- at rest the machine answers at each live class, one by one, the states in which the matcher finds the pattern there
abbrev pub AnswersAreFound : Type 0
AnswersAreFound =
    (g : State) → AtRest g → (order : List Row) (index : RowIndex) → IsIndexOf g order index →
    (variables : List (List ℕ)) (p : Pattern) (steps : List Step) → IsProgram (IsOutlineIn g order index) variables p steps →
    (c : ℕ) → c < length g.nodes → IsLive g.found c →
    (outs : List MatchState) × Found g order p (start_at g c) (class_id g c) outs ×
    OneByOne (IsReadAs g (name_at (used_slots g.found c)) variables) outs (answers_at index.classes.items steps c)

-- each answer has an id for each variable, with different numbers for just the slots of a live class, and pairs numbers with slots one to one
abbrev pub AnswersAreWhole : Type 0
AnswersAreWhole =
    (g : State) → AtRest g → (order : List Row) (index : RowIndex) → IsIndexOf g order index →
    (variables : List (List ℕ)) (p : Pattern) (steps : List Step) → IsProgram (IsOutlineIn g order index) variables p steps →
    (x : Answer) → Contains (all_answers index steps) x → IsWholeAnswer g variables x

-- with different names for its numbers such an id is valid, and in normal form
abbrev pub WholeIdsAreValid : Type 0
WholeIdsAreValid =
    (g : State) → AtRest g → (o : Occurrence) → IsWholeId g o → (name : ℕ → ℕ) → IsInjectiveOn name o.names →
    IsValidIn g (read_id g name o) × (find g.found (read_id g name o) ≡ read_id g name o)

-- so substitutions that read all its answers, one by one, are what a search finds
abbrev pub AnswersAreSearched : Type 0
AnswersAreSearched =
    (g : State) → AtRest g → (order : List Row) (index : RowIndex) → IsIndexOf g order index →
    (variables : List (List ℕ)) (p : Pattern) (steps : List Step) → IsProgram (IsOutlineIn g order index) variables p steps →
    (found : List Values) → OneByOne (ReadsAnswer g variables) found (all_answers index steps) → Searches g order p found

-- a search finds nothing where a node of the pattern has no row: then no program is needed
abbrev pub PatternsNeedRows : Type 0
PatternsNeedRows = (g : State) → AtRest g → (order : List Row) → ((r : Row) → Contains g.rows r ↔ Contains order r) → (p : Pattern) → LacksRow g.rows p → Searches g order p []

-- a program numbers the variables of its pattern, each once
pub record ProgramsNumberVariables : Type 0 where
  pub same : (g : State) (order : List Row) (index : RowIndex) (variables : List (List ℕ)) (p : Pattern) (steps : List Step) →
      IsProgram (IsOutlineIn g order index) variables p steps → (v : List ℕ) → Contains variables v ↔ Contains (variables_of p) v
  pub once : (g : State) (order : List Row) (index : RowIndex) (variables : List (List ℕ)) (p : Pattern) (steps : List Step) →
      IsProgram (IsOutlineIn g order index) variables p steps →
      (i j : ℕ) → i < length variables → j < length variables → slice_index_or variables i [] ≡ slice_index_or variables j [] → i ≡ j

-- all these laws
pub record MachineLaws : Type 0 where
  pub answers_are_found : AnswersAreFound
  pub answers_are_whole : AnswersAreWhole
  pub whole_ids_are_valid : WholeIdsAreValid
  pub answers_are_searched : AnswersAreSearched
  pub patterns_need_rows : PatternsNeedRows
  pub programs_number_variables : ProgramsNumberVariables
