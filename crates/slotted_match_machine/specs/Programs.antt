-- When a list of steps is the program of a pattern.
--     variables_of p           the variables of a pattern, as often as they stand there
--     child_patterns args      the child patterns of a node, from the left
--     placed register k ps     these patterns as goals, each at a child of the register, from the child k on
--     IsProgramFor ..          the steps find the goals, in preorder
--     IsProgram .. p steps     they find the pattern at the class at which the machine starts
use Rattle.std.specs.Prelude.{◌≡◌, ℕ, suc, ◌<◌, List, [], ◌∷◌, ◌++◌, length, Contains, slice_index_or, Vec}
use Rattle.std.specs.declared.alloc.Global.{Global}
use Rattle.slotted_model_rules.specs.Patterns.{Pattern, PatternArgs, pattern_node, variable, replacing, no_argument, own_name, child_pattern, binding}
use Rattle.slotted_model_rules.specs.Goals.{own_slots}
use Rattle.slotted_match_machine.specs.declared.program.Source.{Source}
use Rattle.slotted_match_machine.specs.declared.program.Step.{Step}
use Rattle.slotted_match_machine.specs.declared.program.Step.TheVariants.{Node, Variable}

abbrev mutual
  -- from the left, each as often as it stands there
  pub variables_of : Pattern → List (List ℕ)
  variables_of (pattern_node op payloads args) = variables_in args
  variables_of (variable v) = v ∷ []
  variables_of (replacing body part value) = variables_of body ++ variables_of part ++ variables_of value

  pub variables_in : PatternArgs → List (List ℕ)
  variables_in no_argument = []
  variables_in (own_name x rest) = variables_in rest
  variables_in (child_pattern p rest) = variables_of p ++ variables_in rest
  variables_in (binding x inner rest) = variables_in inner ++ variables_in rest

-- in the order in which the matcher goes through them
abbrev pub child_patterns : PatternArgs → List Pattern
child_patterns no_argument = []
child_patterns (own_name x rest) = child_patterns rest
child_patterns (child_pattern p rest) = p ∷ child_patterns rest
child_patterns (binding x inner rest) = child_patterns inner ++ child_patterns rest

abbrev pub placed : ℕ → ℕ → List Pattern → List (Pattern × Source)
placed register k [] = []
placed register k (p ∷ ps) = (p, record { register = register; child = k }) ∷ placed register (suc k) ps

-- IsOutline says which number the outline of a node has. `next` is the register that the next node fills, and `seen` are the variables
-- that have a number; those of the whole pattern are `variables`, each at its number
pub data IsProgramFor (IsOutline : ℕ → ℕ → List (List ℕ) → PatternArgs → Type 0) (variables : List (List ℕ)) : ℕ → List (List ℕ) → List Step → List (Pattern × Source) → Type 0 where
  -- nothing is left to find
  ends : {next : ℕ} → IsProgramFor IsOutline variables next variables [] []
  -- a variable that was seen before
  compares : {next k : ℕ} {seen : List (List ℕ)} {v : List ℕ} {from : Source} {steps : List Step} {goals : List (Pattern × Source)} →
      k < length seen → slice_index_or seen k [] ≡ v → IsProgramFor IsOutline variables next seen steps goals →
      IsProgramFor IsOutline variables next seen (Variable k from ∷ steps) ((variable v, from) ∷ goals)
  -- a new one, which has the next number
  takes : {next k : ℕ} {seen : List (List ℕ)} {v : List ℕ} {from : Source} {steps : List Step} {goals : List (Pattern × Source)} →
      k ≡ length seen → ¬ Contains seen v → IsProgramFor IsOutline variables next (seen ++ v ∷ []) steps goals →
      IsProgramFor IsOutline variables next seen (Variable k from ∷ steps) ((variable v, from) ∷ goals)
  -- a node, whose child patterns come first
  enters : {next outline op : ℕ} {payloads : List (List ℕ)} {args : PatternArgs} {slots : Vec ℕ Global} {seen : List (List ℕ)} {from : Source} {steps : List Step} {goals : List (Pattern × Source)} →
      IsOutline outline op payloads args → slots.items ≡ own_slots args → IsProgramFor IsOutline variables (suc next) seen steps (placed next 0 (child_patterns args) ++ goals) →
      IsProgramFor IsOutline variables next seen (Node outline slots from ∷ steps) ((pattern_node op payloads args, from) ∷ goals)

abbrev pub root : Source
root = record { register = 0; child = 0 }

-- the first register holds the class alone, and the next node fills the register after it
abbrev pub IsProgram : (ℕ → ℕ → List (List ℕ) → PatternArgs → Type 0) → List (List ℕ) → Pattern → List Step → Type 0
IsProgram IsOutline variables p steps = IsProgramFor IsOutline variables 1 [] steps ((p, root) ∷ [])
