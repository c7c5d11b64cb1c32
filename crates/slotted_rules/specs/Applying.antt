-- Rules applied one after another, and rounds of edits after them.
--     CanApplyAll can rules founds g    each rule can apply what it found, in the graph g
--     AreRefusedBy refuses rules e      one of the rules may refuse so
--     HasProgressed g h                 the progress measures of the graphs differ
--     AreModified .. g h                classes were modified, or nothing was done where classes are never modified
--     NeverModified L g h               so it is of the analysis that keeps nothing, by which no graph changes
--     StopsSearching .. g h e           from g to h some rules were searched, and the next one was refused
--     StopsApplying .. g h e            some were applied to what was found, and the next one was refused
--     RefusesRules .. g h e             one was refused, when it was searched or applied
--     ThenModifies rules after g h      the rules lead from g to a graph from which `after` leads to h
use Rattle.std.specs.Prelude.{◌≢◌, ◌≡◌, List, [], ◌∷◌, ◌++◌, Bool, Contains, false}
use Rattle.std.specs.Coded.{Coded}
use Rattle.slotted_slots.specs.declared.error.Error.{Error}
use Rattle.slotted_reports.specs.declared.measure.ProgressMeasure.{ProgressMeasure}
use Rattle.slotted_model_rules.specs.Runners.{AppliesAll, SearchesAll}
use Rattle.slotted_operations.specs.Graph.{Graph}
use Rattle.slotted_operations.specs.Image.{Image}
use Rattle.slotted_data.specs.Meaning.{Meaning, no_data, unit_code}
use Rattle.slotted_graph.specs.Asked.{Asks}
use Rattle.slotted_graph.specs.Measure.{IsProgress}
use Rattle.slotted_graph.specs.Rounds.{IsModified}

abbrev pub CanApplyAll : {R F : Type 0} → (R → F → Graph → Type 0) → List R → List F → Graph → Type 0
CanApplyAll can [] [] g = Unit {0}
CanApplyAll can [] (f ∷ founds) g = ⊥
CanApplyAll can (r ∷ rules) [] g = ⊥
CanApplyAll can (r ∷ rules) (f ∷ founds) g = can r f g × CanApplyAll can rules founds g

abbrev pub AreRefusedBy : {R : Type 0} → (R → Error → Type 0) → List R → Error → Type 0
AreRefusedBy {R} refuses rules e = (r : R) × Contains rules r × refuses r e

abbrev pub HasProgressed : Image → Image → Type 0
HasProgressed g h = (m n : ProgressMeasure) → IsProgress g m → IsProgress h n → m ≢ n

-- whether anything was asked is not said
abbrev pub AreModified : {L N D : Type 0} → Coded N × Coded D → (N → Meaning D) → Asks L N D → Bool → Graph → Graph → Type 0
AreModified codes meaning ask modifies g h = (asked : Bool) × IsModified codes meaning ask modifies g h asked

abbrev pub NeverModified : Type 0 → Graph → Graph → Type 0
NeverModified L g h = AreModified {L = L} (unit_code, unit_code) (λ _. no_data) (λ _ _ _ _. ⊥) false g h

pub record ThenModifies (rules after : Graph → Graph → Type 0) (g h : Graph) : Type 0 where
  pub applied : Graph
  pub by_rules : rules g applied
  pub by_edits : after applied h

pub record StopsSearching {R F : Type 0} (searches : R → Graph → F → Graph → Type 0) (gives_up : R → Graph → Graph → Error → Type 0) (rules : List R) (g h : Graph) (e : Error) : Type 0 where
  pub before : List R
  pub rule : R
  pub after : List R
  pub whole : rules ≡ before ++ rule ∷ after
  pub founds : List F
  pub moment : Graph
  pub searched : SearchesAll searches before g founds moment
  pub refused : gives_up rule moment h e

pub record StopsApplying {R F : Type 0} (applies : R → F → Graph → Graph → Type 0) (breaks_off : R → F → Graph → Graph → Error → Type 0) (rules : List R) (founds : List F) (g h : Graph) (e : Error) : Type 0 where
  pub before : List R
  pub rule : R
  pub after : List R
  pub whole : rules ≡ before ++ rule ∷ after
  pub done : List F
  pub found : F
  pub left : List F
  pub all_found : founds ≡ done ++ found ∷ left
  pub moment : Graph
  pub applied : AppliesAll applies before done g moment
  pub refused : breaks_off rule found moment h e

pub data RefusesRules {R F : Type 0} (searches : R → Graph → F → Graph → Type 0) (gives_up : R → Graph → Graph → Error → Type 0) (applies : R → F → Graph → Graph → Type 0) (breaks_off : R → F → Graph → Graph → Error → Type 0)
    (rules : List R) (g h : Graph) (e : Error) : Type 0 where
  search_refused : StopsSearching searches gives_up rules g h e → RefusesRules searches gives_up applies breaks_off rules g h e
  apply_refused : (founds : List F) (searched : Graph) → SearchesAll searches rules g founds searched → StopsApplying applies breaks_off rules founds searched h e → RefusesRules searches gives_up applies breaks_off rules g h e
