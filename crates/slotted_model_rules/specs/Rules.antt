-- Rules: what an apply does, and what it leaves.
--     IsExtension older newer      the lists of the newer graph begin with those of the older one, and finds go on
--     IsBetween g h m              m is a graph at rest between g and h
--     Calls A g h                  structural writes lead from g to h; A says which equations are asked for
--     Rule                         a pattern, another, and a condition
--     Searches g order p found     what the search of a rule with the left side p finds
--     IsEquationOfInstances ..     the equation is of instances of both sides of a rule
--     AssertsInstances ..          both sides are built, and asserted to be equal
--     Applies ..                   each substitution whose condition holds just then is asserted, one after another
--     progress g                   how many classes, live classes, and slots of these there are
use Rattle.std.specs.Prelude.{◌≡◌, ℕ, ◌<◌, ◌≤◌, List, [], ◌∷◌, ◌++◌, length, Contains, Option, Some, None, Bool, true}
use Rattle.std.specs.Prelude.{false}
use Rattle.slotted_theory.specs.Nameless.{DTerm}
use Rattle.slotted_model.specs.Applied.{Applied, values}
use Rattle.slotted_model.specs.Classes.{term_of, IsFull}
use Rattle.slotted_model.specs.Filling.{IsFilling}
use Rattle.slotted_model.specs.Growth.{IsNew, Extends}
use Rattle.slotted_model.specs.ProofList.{Equation, explicit, equation_of, equation_at, step_at}
use Rattle.slotted_model.specs.Find.{IsLive}
use Rattle.slotted_model.specs.State.{Row, State}
use Rattle.slotted_model.specs.Rest.{AtRest, UpToSymmetries, lives_from, slots_from}
use Rattle.slotted_model.specs.Changes.{GoesOn, GrowsAtEnds}
use Rattle.slotted_model.specs.Adding.{Adds, Asserts, SameAnswers}
use Rattle.slotted_model_rules.specs.Patterns.{Pattern}
use Rattle.slotted_model_rules.specs.Instances.{IsInstance, IsAnswer}
use Rattle.slotted_model_rules.specs.Matcher.{MatchState, value_at, Found, class_id, start_at, Reads}
use Rattle.slotted_model_rules.specs.Conditions.{Values, Condition, holds}

-- all that the older graph has stands first in the newer one, and finds go on from what they found
pub record IsExtension (older newer : State) : Type 0 where
  pub goes_on : GoesOn older newer
  pub grows : GrowsAtEnds older newer
  pub later : List DTerm
  pub nodes : newer.nodes ≡ older.nodes ++ later
  pub terms : Extends older.nodes newer.nodes

-- at rest, an extension of g, and h is one of it
pub record IsBetween (g h m : State) : Type 0 where
  pub rest : AtRest m
  pub after : IsExtension g m
  pub before : IsExtension m h

-- nothing more is asserted, and nothing that is asked has another answer: as after explanations and shortcuts
pub record KeepsAll (g h : State) : Type 0 where
  pub same : SameAnswers g h
  pub grows : GrowsAtEnds g h
  pub nodes : h.nodes ≡ g.nodes
  pub same_lives : lives_from 0 h.found ≡ lives_from 0 g.found
  pub asserts_nothing : (p : ℕ) → p < length h.proofs → step_at h.proofs p ≡ explicit → p < length g.proofs

-- structural writes: a class is made, an equation for which A asks is asserted, or nothing that shows is done
pub data Calls (A : State → Applied → Applied → Type 0) : State → State → Type 0 where
  no_call : {g : State} → Calls A g g
  adds : {g f h : State} (c : DTerm) → IsNew g.nodes c → Adds g c f → Calls A f h → Calls A g h
  asserts : {g f h : State} (a b : Applied) → IsFull g.nodes a → IsFull g.nodes b → A g a b → Asserts g a b f →
      Calls A f h → Calls A g h
  keeps : {g f h : State} → KeepsAll g f → Calls A f h → Calls A g h

-- an explicit entry of h that g has not
pub record IsNewEntry (g h : State) (p : ℕ) : Type 0 where
  pub later : length g.proofs ≤ p
  pub in_range : p < length h.proofs
  pub explicit : step_at h.proofs p ≡ explicit

-- the equation is that of two ids for which A asks in a graph between
pub record IsAskedFor (A : State → Applied → Applied → Type 0) (g h : State) (e : Equation) : Type 0 where
  pub moment : State
  pub between : IsBetween g h moment
  pub left : Applied
  pub right : Applied
  pub asks : A moment left right
  pub equation : equation_of left right ≡ e

-- what is matched, what is equal to it, and where
pub record Rule : Type 0 where
  pub left : Pattern
  pub right : Pattern
  pub condition : Condition

-- the id of a variable; one that has none is not asked for
abbrev pub id_or_none : Option Applied → Applied
id_or_none (Some a) = a
id_or_none None = (0, [])

abbrev pub valued : Values → List ℕ → Applied
valued s v = id_or_none (value_at s v)

-- the substitution reads a state in which the matcher finds the pattern at a live class, with the names of some function
pub record IsMatch (g : State) (order : List Row) (p : Pattern) (s : Values) : Type 0 where
  pub class : ℕ
  pub in_range : class < length g.nodes
  pub lives : IsLive g.found class
  pub outs : List MatchState
  pub run : Found g order p (start_at g class) (class_id g class) outs
  pub out : MatchState
  pub is_out : Contains outs out
  pub names : ℕ → ℕ
  pub reads : Reads g names (valued s) out

-- the matcher has a run at this class, each state of which is read by a substitution that is found
pub record IsRead (g : State) (order : List Row) (p : Pattern) (found : List Values) (c : ℕ) : Type 0 where
  pub outs : List MatchState
  pub run : Found g order p (start_at g c) (class_id g c) outs
  pub read : (out : MatchState) → Contains outs out →
      (s : Values) × Contains found s × (f : ℕ → ℕ) × Reads g f (valued s) out

-- a search: the matcher is run at each live class, and what is found are readings of its states
pub record Searches (g : State) (order : List Row) (p : Pattern) (found : List Values) : Type 0 where
  pub runs : (c : ℕ) → c < length g.nodes → IsLive g.found c → IsRead g order p found c
  pub matches : (s : Values) → Contains found s → IsMatch g order p s

-- two ids, the terms of which are instances of the two sides, have this equation
pub record IsEquationOfInstances (R : DTerm → DTerm → Bool) (given : List ℕ) (nodes : List DTerm) (rule : Rule)
    (s : Values) (e : Equation) : Type 0 where
  pub left : Applied
  pub right : Applied
  pub left_full : IsFull nodes left
  pub right_full : IsFull nodes right
  pub equation : equation_of left right ≡ e
  pub left_instance : IsInstance R nodes given (valued s) (λ y. y) rule.left (term_of nodes left)
  pub right_instance : IsInstance R nodes given (valued s) (λ y. y) rule.right (term_of nodes right)

-- answers for both sides are there in a graph m, to which building leads, and each with its missing names is asserted
-- to equal the other
pub record AssertsInstances (A : State → Applied → Applied → Type 0) (R : DTerm → DTerm → Bool) (given : List ℕ)
    (rule : Rule) (s : Values) (g h : State) : Type 0 where
  pub built : State
  pub builds : Calls A g built
  pub left : Applied
  pub right : Applied
  pub left_answers : IsAnswer R built.nodes given (valued s) rule.left left
  pub right_answers : IsAnswer R built.nodes given (valued s) rule.right right
  pub left_filled : Applied
  pub right_filled : Applied
  pub left_fills : IsFilling built.nodes (values right.1 ++ given) left left_filled
  pub right_fills : IsFilling built.nodes (values left_filled.1 ++ given) right right_filled
  pub asserts : Asserts built left_filled right_filled h

-- the substitutions in order: the condition of each is asked just before, and where it holds an equation of instances
-- is asserted
pub data Applies (A : State → Applied → Applied → Type 0) (R : DTerm → DTerm → Bool) (given : List ℕ)
    (rule : Rule) : List Values → State → State → Type 0 where
  all_done : {g : State} → Applies A R given rule [] g g
  does_not_hold : {s : Values} {rest : List Values} {g h : State} → holds rule.condition s g ≡ Some false →
      Applies A R given rule rest g h → Applies A R given rule (s ∷ rest) g h
  does_hold : {s : Values} {rest : List Values} {g f h : State} → holds rule.condition s g ≡ Some true →
      AssertsInstances A R given rule s g f → Applies A R given rule rest f h →
      Applies A R given rule (s ∷ rest) g h

-- in the graph h an entry of the proof list is an equation of instances of both sides, which are equal up to listed
-- symmetries
pub record IsApplied (R : DTerm → DTerm → Bool) (given : List ℕ) (rule : Rule) (h : State) (s : Values) : Type 0 where
  pub number : ℕ
  pub in_range : number < length h.proofs
  pub instances : IsEquationOfInstances R given h.nodes rule s (equation_at h.proofs number)
  pub equal : UpToSymmetries h instances.left instances.right

-- the equation is of instances under one of these substitutions, whose condition holds in a graph between
pub record ComesFromRule (R : DTerm → DTerm → Bool) (given : List ℕ) (rule : Rule) (found : List Values) (g h : State)
    (e : Equation) : Type 0 where
  pub substitution : Values
  pub is_found : Contains found substitution
  pub moment : State
  pub between : IsBetween g h moment
  pub held : holds rule.condition substitution moment ≡ Some true
  pub instances : IsEquationOfInstances R given h.nodes rule substitution e

-- in the graph m one of these substitutions, whose condition held in a graph from g on, asks for an equation of instances
pub record IsAskedByRule (R : DTerm → DTerm → Bool) (given : List ℕ) (rule : Rule) (found : List Values) (g m : State)
    (a b : Applied) : Type 0 where
  pub substitution : Values
  pub is_found : Contains found substitution
  pub moment : State
  pub moment_rests : AtRest moment
  pub after : IsExtension g moment
  pub before : IsExtension moment m
  pub held : holds rule.condition substitution moment ≡ Some true
  pub instances : IsEquationOfInstances R given m.nodes rule substitution (equation_of a b)

-- how far a graph is. Listed symmetries are not counted
pub record Progress : Type 0 where
  pub classes : ℕ
  pub live_classes : ℕ
  pub slots : ℕ

abbrev pub progress : State → Progress
progress g = record { classes = length g.nodes; live_classes = lives_from 0 g.found; slots = slots_from 0 g.found }
