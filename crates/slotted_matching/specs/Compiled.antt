-- Patterns as programs of the machine.
--     common_names xs ys        the names that stand in both lists at the same place
--     pattern_names f           the own names and binders of the node f
--     IsPlaceOutline S ..       a number is the place of the skeleton of a node that has these arguments over child patterns
--     IsNumber seen v o         o is a number of the variable v, if it was seen
--     Numbers seen more v k     the number k is that of v in `more`, which are the variables seen before and v if it is new
--     Compiling, nothing        what was compiled, with the register that the next node fills
--     HasWideNode t             a node of the pattern has too many places and children
--     HoldsSlots steps slots    the own names of nodes in the steps are among these slots
--     AddsSlots old new t       the slots that were added stand in the pattern t
--     Adds S c d goals          from c to d the steps are added that find these goals
--     Enters S c d f from k     the step is added that finds the node f and fills the register k with it
--     IsCompiled S t steps vs   the steps are the program of the pattern t, where outlines are places in S
use Rattle.std.specs.Prelude.{◌≡◌, ◌⊎◌, ◌<◌, ◌≤◌, ◌+◌, IsTrue, Vec, ℕ, suc, List, [], ◌∷◌, ◌++◌, length, map, filter, nat_eq, slice_index_or, Contains, Option, Some, None}
use Rattle.std.specs.List.{zip}
use Rattle.std.specs.declared.alloc.Global.{Global}
use Rattle.slotted_slots.specs.Table.{Table, is_known}
use Rattle.slotted_nodes.specs.Form.{Form}
use Rattle.slotted_languages.specs.Outline.{outlined_names, skeleton_form}
use Rattle.slotted_patterns.specs.Known.{HasKnownNames}
use Rattle.slotted_patterns.specs.Tree.{PatternTree, enode, pvar, substitution, PatternRow, no_more, one_more}
use Rattle.slotted_model_rules.specs.Patterns.{Pattern, PatternArgs, pattern_node}
use Rattle.slotted_rule_patterns.specs.PatternCode.{pattern_in, pattern_over}
use Rattle.slotted_match_machine.specs.declared.program.Source.{Source}
use Rattle.slotted_match_machine.specs.declared.program.Step.{Step}
use Rattle.slotted_match_machine.specs.declared.program.Step.TheVariants.{Node}
use Rattle.slotted_match_machine.specs.Programs.{IsProgram, IsProgramFor, placed}
use Rattle.slotted_matching.specs.Skeletons.{HasManyPlaces, IsPlaceOf}

abbrev pub common_names : List ℕ → List ℕ → List ℕ
common_names xs ys = map (λ e. e.0) (filter (λ (e : ℕ × ℕ). nat_eq e.0 e.1) (zip xs ys))

-- the names of two outlines agree just there
abbrev pub pattern_names : Form → List ℕ
pattern_names f = common_names (outlined_names 0 f.tree f.names) (outlined_names 4 f.tree f.names)

abbrev pub IsPlaceOutline : List Form → ℕ → ℕ → List (List ℕ) → PatternArgs → Type 0
IsPlaceOutline S n op payloads args = (f : Form) × (ps : List Pattern) × (pattern_over f ps ≡ Some (pattern_node op payloads args)) × IsPlaceOf S (skeleton_form f) n

abbrev pub IsNumber : List (List ℕ) → List ℕ → Option ℕ → Type 0
IsNumber seen v (Some k) = (k < length seen) × (slice_index_or seen k [] ≡ v)
IsNumber seen v None = ¬ Contains seen v

abbrev pub Numbers : List (List ℕ) → List (List ℕ) → List ℕ → ℕ → Type 0
Numbers seen more v k =
    ((more ≡ seen) × (k < length seen) × (slice_index_or seen k [] ≡ v))
    ⊎ ((more ≡ seen ++ v ∷ []) × (k ≡ length seen) × (¬ Contains seen v))

abbrev pub Goal : Type 0
Goal = Pattern × Source

abbrev mutual
  -- a node of the pattern has as many places and children as there are numeric slots, or more
  pub HasWideNode : PatternTree → Type 0
  HasWideNode (enode f row) = HasManyPlaces f ⊎ HaveWideNode row
  HasWideNode (pvar v) = ⊥
  HasWideNode (substitution b x t) = HasWideNode b ⊎ (HasWideNode x ⊎ HasWideNode t)

  pub HaveWideNode : PatternRow → Type 0
  HaveWideNode no_more = ⊥
  HaveWideNode (one_more p rest) = HasWideNode p ⊎ HaveWideNode rest

-- what was compiled: its steps, its variables, and the register that the next node fills
pub record Compiling : Type 0 where
  pub steps : List Step
  pub seen : List (List ℕ)
  pub slots : List ℕ
  pub next : ℕ

-- there are fewer registers than steps, but for the first
abbrev pub AreFewer : ℕ → ℕ → Type 0
AreFewer next steps = next ≤ steps + 1

-- the own names of nodes in the steps are among these slots
abbrev pub HoldsSlots : List Step → List ℕ → Type 0
HoldsSlots steps slots = (outline : ℕ) (owns : Vec ℕ Global) (from : Source) → Contains steps (Node outline owns from) → (y : ℕ) → Contains owns.items y → Contains slots y

abbrev pub BeginsWith : List ℕ → List ℕ → Type 0
BeginsWith xs ys = (more : List ℕ) × (ys ≡ xs ++ more)

-- the table knows each of these slots
abbrev pub KnowsEach : Table → List ℕ → Type 0
KnowsEach t slots = (y : ℕ) → Contains slots y → IsTrue (is_known t y)

-- the slots that were added stand in the pattern
abbrev pub AddsSlots : List ℕ → List ℕ → PatternTree → Type 0
AddsSlots old new q = (t : Table) → HasKnownNames t q → KnowsEach t old → KnowsEach t new

-- nothing yet, where the first register holds the class
abbrev pub nothing : Compiling
nothing = record { steps = []; seen = []; slots = []; next = 1 }

-- the steps that come after others find these goals before all that the next steps find
pub record Adds (S : List Form) (c d : Compiling) (goals : List Goal) : Type 0 where
  pub more : List Step
  pub steps : d.steps ≡ c.steps ++ more
  pub finds : (variables : List (List ℕ)) (rest : List Step) (others : List Goal) →
      IsProgramFor (IsPlaceOutline S) variables d.next d.seen rest others → IsProgramFor (IsPlaceOutline S) variables c.next c.seen (more ++ rest) (goals ++ others)

abbrev pub AddsPattern : List Form → Compiling → Compiling → PatternTree → Source → Type 0
AddsPattern S c d t from = (p : Pattern) → pattern_in t ≡ Some p → Adds S c d ((p, from) ∷ [])

-- a node was entered: its child patterns are found next, from this register
pub record Enters (S : List Form) (c d : Compiling) (f : Form) (from : Source) (register : ℕ) : Type 0 where
  pub seen : d.seen ≡ c.seen
  pub register_is : register ≡ c.next
  pub next : d.next ≡ suc c.next
  pub finds : (ps : List Pattern) (p : Pattern) → pattern_over f ps ≡ Some p → (e : Compiling) (others : List Goal) → Adds S d e (placed register 0 ps ++ others) → Adds S c e ((p, from) ∷ others)

-- the variables of the program in the order of their numbers
abbrev pub IsCompiled : List Form → PatternTree → List Step → List (List ℕ) → Type 0
IsCompiled S t steps variables = (p : Pattern) → pattern_in t ≡ Some p → IsProgram (IsPlaceOutline S) variables p steps
