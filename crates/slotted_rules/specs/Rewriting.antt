-- What a written rule finds, and what its apply leaves. A condition is given by its answers, and a rule by the trees of both sides and its name.
--     IsSearched t g found h           from g to h these answers are what a search for the pattern t finds
--     LacksSlots t g h                 why slots run out in such a search
--     CanBeApplied t found g           each answer has valid values of g, one for each variable of t
--     IsEquationFor g h p q s e        e is the equation of instances of p and q by one substitution of full ids that fill s, whatever names are given that g knew
--     HasEquationFor g h p q s         an entry of h is such an equation
--     IsSettled holds p q g h s          so it is under s, or the condition is no in a graph between g and h
--     ComesFromRule ..                 an entry of h is such an equation, of an answer for which the condition is yes in a graph between, with the rule's name
--     AreFromRule ..                   so is each explicit entry that g has not
--     LeavesApplied ..                 what an apply leaves
--     AppliesOne holds p q name s g h y    what it leaves for one answer, and whether that united what was not found equal
--     AppliesEach holds p q name found n g h    and for one after another, of which n did
--     LeavesUnited .. n                what an apply leaves, in which n answers did
--     IsRefusedRewrite ..              why an apply is refused
--     RefusesOne ..                    why it is refused for one answer
--     BreaksOff ..                     what an apply leaves that is refused
use Rattle.std.specs.Prelude.{◌≡◌, ◌⊎◌, ◌<◌, ◌≤◌, ◌+◌, ℕ, List, [], ◌∷◌, length, Contains, Bool, true, false, Some, None, IsSome, slice_index_or, take}
use Rattle.std.specs.Int.{from_bool}
use Rattle.slotted_slots.specs.declared.error.Error.{Error}
use Rattle.slotted_slots.specs.declared.error.Error.TheVariants.{NotATerm}
use Rattle.slotted_theory.specs.Nameless.{DTerm}
use Rattle.slotted_slots.specs.Table.{AllKnown}
use Rattle.slotted_patterns.specs.Tree.{PatternTree}
use Rattle.slotted_model.specs.ProofList.{Equation, equation_at, explicit, step_at}
use Rattle.slotted_proofs.specs.Entries.{proven_at}
use Rattle.slotted_model_rules.specs.Conditions.{Values}
use Rattle.slotted_model_rules.specs.Rules.{IsEquationOfInstances, Rule}
use Rattle.slotted_rule_patterns.specs.PatternCode.{pattern_in}
use Rattle.slotted_rule_patterns.specs.Variables.{first_missing}
use Rattle.slotted_matching.specs.Found.{HaveFreshNames, HaveVariables, RunsOutFor, name_count}
use Rattle.slotted_matching.specs.Compiled.{HasWideNode}
use Rattle.slotted_operations.specs.Graph.{Graph, MakesAtMost, OnlyTakesSlots}
use Rattle.slotted_graph.specs.declared.method.SubstMethod.{SubstMethod}
use Rattle.slotted_graph.specs.Extension.{ExtendsTo, IsBetween}
use Rattle.slotted_graph.specs.Matching.{AreFoundValid, FindsAll, FindsAllOf, FindsEachOf, FindsLookedUp, HasWideRow}
use Rattle.slotted_graph.specs.States.{IsGraph}
use Rattle.slotted_rules.specs.Filled.{FillsValues}
use Rattle.slotted_rules.specs.Methods.{AreRepresentatives, method_of, represented}
use Rattle.slotted_rules.specs.Refusals.{HavePassed}
use Rattle.slotted_rules.specs.Uniting.{UnitesInstances}

-- all that the matcher finds over the filed nodes is found; each answer makes the pattern one that is looked up; and where no class has dropped a slot,
-- each substitution that is looked up is found. Names are those of the pattern, or fresh ones, of which no more are made than answers have names
pub record IsSearched (t : PatternTree) (g : Graph) (found : List Values) (h : Graph) : Type 0 where
  pub takes : OnlyTakesSlots g h
  pub finds : FindsAllOf h t found
  pub looked_up : FindsLookedUp h t found
  pub each : FindsEachOf h t found
  pub none : ¬ IsSome (pattern_in t) → found ≡ []
  pub valid : AreFoundValid h found
  pub variables : HaveVariables t found
  pub fresh : HaveFreshNames g.table t found
  pub count : MakesAtMost (name_count found) g.table h.table

-- fewer slots were left than what can be found has names, or a filed node or one of the pattern has too many places
abbrev pub LacksSlots : PatternTree → Graph → Graph → Type 0
LacksSlots t g h = HasWideRow h ⊎ (HasWideNode t ⊎ RunsOutFor t (FindsAll h) g.table h.table)

pub record CanBeApplied (t : PatternTree) (found : List Values) (g : Graph) : Type 0 where
  pub valid : AreFoundValid g found
  pub whole : (s : Values) → Contains found s → IsSome (pattern_in t)
  pub values : (s : Values) → Contains found s → first_missing t s ≡ None

-- both patterns have as many child patterns at each node as it has places; each value has got its missing names once, for both sides; what
-- represents the bodies of substitutions is said by one of the methods that a graph can be made with
pub record IsEquationFor (g h : Graph) (p q : PatternTree) (s : Values) (e : Equation) : Type 0 where
  pub whole_left : IsSome (pattern_in p)
  pub whole_right : IsSome (pattern_in q)
  pub filled : Values
  pub fills : FillsValues g.table h.image.canonical [] s filled
  pub method : SubstMethod
  pub pairs : List (DTerm × DTerm)
  pub are : AreRepresentatives g h pairs
  pub each : (rule : Rule) → pattern_in p ≡ Some rule.left → pattern_in q ≡ Some rule.right → (given : List ℕ) → AllKnown g.table given →
      IsEquationOfInstances (represented (method_of method) pairs) given h.image.canonical rule filled e

pub record HasEntryFor (R : DTerm → DTerm → Bool) (given : List ℕ) (h : Graph) (rule : Rule) (s : Values) : Type 0 where
  pub number : ℕ
  pub in_range : number < length h.image.entries
  pub instances : IsEquationOfInstances R given h.image.canonical rule s (equation_at h.image.entries number)

pub record HasEquationFor (g h : Graph) (p q : PatternTree) (s : Values) : Type 0 where
  pub whole_left : IsSome (pattern_in p)
  pub whole_right : IsSome (pattern_in q)
  pub filled : Values
  pub fills : FillsValues g.table h.image.canonical [] s filled
  pub method : SubstMethod
  pub pairs : List (DTerm × DTerm)
  pub are : AreRepresentatives g h pairs
  pub each : (rule : Rule) → pattern_in p ≡ Some rule.left → pattern_in q ≡ Some rule.right → (given : List ℕ) → AllKnown g.table given →
      HasEntryFor (represented (method_of method) pairs) given h rule filled

abbrev pub IsSettled : (Values → Graph → Bool → Type 0) → PatternTree → PatternTree → Graph → Graph → Values → Type 0
IsSettled holds p q g h s = HasEquationFor g h p q s ⊎ ((m : Graph) × IsBetween g h m × holds s m false)

pub record ComesFromRule (holds : Values → Graph → Bool → Type 0) (p q : PatternTree) (name : List ℕ) (found : List Values) (g h : Graph) (n : ℕ) : Type 0 where
  pub answer : Values
  pub is_found : Contains found answer
  pub moment : Graph
  pub between : IsBetween g h moment
  pub held : holds answer moment true
  pub equation : IsEquationFor g h p q answer (equation_at h.image.entries n)
  pub text : (proven_at h.image.stored n).text ≡ Some name

abbrev pub AreFromRule : (Values → Graph → Bool → Type 0) → PatternTree → PatternTree → List ℕ → List Values → Graph → Graph → Type 0
AreFromRule holds p q name found g h = (n : ℕ) → length g.image.entries ≤ n → n < length h.image.entries → step_at h.image.entries n ≡ explicit →
    ComesFromRule holds p q name found g h n

-- the condition is asked in the graph as it is; y says that a union was made, and that its sides were not found equal before
pub data AppliesOne (holds : Values → Graph → Bool → Type 0) (p q : PatternTree) (name : List ℕ) (s : Values) (g h : Graph) (y : Bool) : Type 0 where
  passes_over : holds s g false → h ≡ g → y ≡ false → AppliesOne holds p q name s g h y
  asserts : holds s g true → HavePassed s p q → UnitesInstances g h s p q (Some name) y → AppliesOne holds p q name s g h y

-- the answers in order, each in the graph that the ones before it left, and for how many of them y was said
pub data AppliesEach (holds : Values → Graph → Bool → Type 0) (p q : PatternTree) (name : List ℕ) : List Values → ℕ → Graph → Graph → Type 0 where
  no_answer : {g : Graph} → AppliesEach holds p q name [] 0 g g
  next_answer : {s : Values} {found : List Values} {y : Bool} {n : ℕ} {g f h : Graph} → AppliesOne holds p q name s g f y →
      AppliesEach holds p q name found n f h → AppliesEach holds p q name (s ∷ found) (from_bool y + n) g h

pub record LeavesApplied (holds : Values → Graph → Bool → Type 0) (p q : PatternTree) (name : List ℕ) (found : List Values) (g h : Graph) : Type 0 where
  pub graph : IsGraph h
  pub extends : ExtendsTo g h
  pub settled : (s : Values) → Contains found s → IsSettled holds p q g h s
  pub origin : AreFromRule holds p q name found g h
  pub united : ℕ
  pub in_turn : AppliesEach holds p q name found united g h

-- so many of the answers united what was not found equal before
abbrev pub LeavesUnited : (Values → Graph → Bool → Type 0) → PatternTree → PatternTree → List ℕ → List Values → Graph → Graph → ℕ → Type 0
LeavesUnited holds p q name found g h n = (l : LeavesApplied holds p q name found g h) × (l.united ≡ n)

abbrev pub IsNotATerm : Error → Type 0
IsNotATerm NotATerm = Unit {0}
IsNotATerm e = ⊥

-- the right side has a wrong number of child patterns at some node, or the condition is refused for some answer
abbrev pub IsRefusedRewrite : (Values → Graph → Error → Type 0) → PatternTree → Error → Type 0
IsRefusedRewrite refuses q e = (IsNotATerm e × (pattern_in q ≡ None)) ⊎ ((s : Values) × (g : Graph) × refuses s g e)

-- the condition is refused, or it is yes and the right side has a wrong number of child patterns at some node
abbrev pub RefusesOne : (Values → Graph → Bool → Type 0) → (Values → Graph → Error → Type 0) → PatternTree → Values → Graph → Error → Type 0
RefusesOne holds refuses q s g e = refuses s g e ⊎ (holds s g true × IsNotATerm e × (pattern_in q ≡ None))

-- the answers before one were applied in turn, and that one was refused in the graph that they left
pub record BreaksOff (holds : Values → Graph → Bool → Type 0) (refuses : Values → Graph → Error → Type 0) (p q : PatternTree) (name : List ℕ) (found : List Values) (g h : Graph) (e : Error) : Type 0 where
  pub graph : IsGraph h
  pub extends : ExtendsTo g h
  pub origin : AreFromRule holds p q name found g h
  pub answer : ℕ
  pub within : answer < length found
  pub united : ℕ
  pub in_turn : AppliesEach holds p q name (take answer found) united g h
  pub refused : RefusesOne holds refuses q (slice_index_or found answer []) h e
