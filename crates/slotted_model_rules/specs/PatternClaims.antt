-- The laws of look-ups and instances of patterns, all owed by `pattern_laws_hold` in src/pattern.rt.
use Rattle.std.specs.Prelude.{◌≡◌, ◌↔◌, ℕ, List, Contains, Some, option_map, Bool, IsTrue}
use Rattle.slotted_theory.specs.Term.{Term}
use Rattle.slotted_theory.specs.Nameless.{DArgs, DTerm, nameless_by, moved}
use Rattle.slotted_theory.specs.Renaming.{IsInjective}
use Rattle.slotted_theory.specs.Derives.{Equal}
use Rattle.slotted_theory.proofs.Values.{node}
use Rattle.slotted_model.specs.Applied.{Applied, renamed_id}
use Rattle.slotted_model.specs.Classes.{term_of, layer_of, IsFull, Canonical}
use Rattle.slotted_model.specs.Filling.{IsValid, IsFilling, FillsArgs}
use Rattle.slotted_model.specs.Find.{find}
use Rattle.slotted_model.specs.Growth.{Extends}
use Rattle.slotted_model.specs.ProofList.{asserted}
use Rattle.slotted_model.specs.State.{State, look_up_tree}
use Rattle.slotted_model.specs.Rest.{IsValidIn, AtRest}
use Rattle.slotted_model_rules.specs.Substitution.{substituted}
use Rattle.slotted_model_rules.specs.Patterns.{Pattern, PatternArgs, pattern_node, replacing, EachVariable, look_up_pattern, pattern_of, Matches}
use Rattle.slotted_model_rules.specs.Instances.{IsInstance, is_itself, IsAnswer, HasAnswers}

-- with other numbers for the names outside a pattern is looked up as the id with the other names
abbrev pub PatternLookUpsMoveWithNames : Type 0
PatternLookUpsMoveWithNames =
    (g : State) → AtRest g → (ρ f : ℕ → ℕ) → IsInjective f → (σ : List ℕ → Applied) (p : Pattern) →
    look_up_pattern g (λ x. f (ρ x)) σ p ≡ option_map (renamed_id f) (look_up_pattern g ρ σ p)

-- a term as a pattern is looked up as the term
abbrev pub TermsAreLookedUpAsPatterns : Type 0
TermsAreLookedUpAsPatterns = (g : State) (ρ : ℕ → ℕ) (σ : List ℕ → Applied) (t : Term) →
    look_up_pattern g ρ σ (pattern_of t) ≡ look_up_tree g (nameless_by ρ t)

-- at rest a pattern is looked up as what an id finds exactly if it matches the id by rows, whether symmetries are open or not
abbrev pub MatchesAreLookUps : Type 0
MatchesAreLookUps =
    (g : State) → AtRest g → (ρ : ℕ → ℕ) → IsInjective ρ → (σ : List ℕ → Applied) (p : Pattern) →
    EachVariable (λ v. IsValidIn g (σ v)) p → (a : Applied) →
    (look_up_pattern g ρ σ p ≡ Some (find g.found a)) ↔ Matches g ρ σ p a

-- the test R moves with names
abbrev pub MovesWithNames : (DTerm → DTerm → Bool) → Type 0
MovesWithNames R = (f : ℕ → ℕ) → IsInjective f → (u r : DTerm) → IsTrue (R u r) → IsTrue (R (moved f u) (moved f r))

-- an instance with other names is an instance with other numbers for the names outside, if each given name comes from a given one
abbrev pub InstancesMoveWithNames : Type 0
InstancesMoveWithNames =
    (R : DTerm → DTerm → Bool) → MovesWithNames R → (nodes : List DTerm) → Canonical nodes →
    (given other : List ℕ) (σ : List ℕ → Applied) (ρ f : ℕ → ℕ) → IsInjective f →
    ((z : ℕ) → Contains other (f z) → Contains given z) →
    (p : Pattern) (t : DTerm) → IsInstance R nodes given σ ρ p t → IsInstance R nodes other σ (λ x. f (ρ x)) p (moved f t)

-- new classes leave instances what they are
abbrev pub InstancesStay : Type 0
InstancesStay =
    (R : DTerm → DTerm → Bool) (older newer : List DTerm) → Extends older newer →
    (given : List ℕ) (σ : List ℕ → Applied) (ρ : ℕ → ℕ) (p : Pattern) (t : DTerm) →
    IsInstance R older given σ ρ p t → IsInstance R newer given σ ρ p t

-- where the values are valid and each term is represented there is an instance, whatever the names given
abbrev pub InstancesExist : Type 0
InstancesExist =
    (R : DTerm → DTerm → Bool) → ((u : DTerm) → (r : DTerm) × IsTrue (R u r)) →
    (nodes : List DTerm) (slots : ℕ → List ℕ) (given : List ℕ) (σ : List ℕ → Applied) (ρ : ℕ → ℕ) → IsInjective ρ →
    (p : Pattern) → EachVariable (λ v. IsValid slots nodes (σ v)) p → (t : DTerm) × IsInstance R nodes given σ ρ p t

-- where no value lacks a name and each term is represented by itself there is just one
abbrev pub FullValuesHaveOneInstance : Type 0
FullValuesHaveOneInstance =
    (nodes : List DTerm) (given more_given : List ℕ) (σ : List ℕ → Applied) (ρ : ℕ → ℕ) → IsInjective ρ → (p : Pattern) →
    EachVariable (λ v. IsFull nodes (σ v)) p →
    (t u : DTerm) → IsInstance is_itself nodes given σ ρ p t → IsInstance is_itself nodes more_given σ ρ p u → t ≡ u

-- the only instance of a term as a pattern is the term
abbrev pub TermsAreTheirInstances : Type 0
TermsAreTheirInstances =
    (R : DTerm → DTerm → Bool) (nodes : List DTerm) (given : List ℕ) (σ : List ℕ → Applied) (ρ : ℕ → ℕ) (t : Term) (u : DTerm) →
    IsInstance R nodes given σ ρ (pattern_of t) u ↔ (u ≡ nameless_by ρ t)

-- a node over answers for the child patterns, each filled by names that are not given, stands for an instance of the pattern: so
-- a full id of this term is an answer again
abbrev pub BuiltNodesAreInstances : Type 0
BuiltNodesAreInstances =
    (R : DTerm → DTerm → Bool) → MovesWithNames R → (nodes : List DTerm) → Canonical nodes →
    (given : List ℕ) (σ : List ℕ → Applied) (op : ℕ) (payloads : List (List ℕ)) (args : PatternArgs) →
    (d e : DArgs) → HasAnswers R nodes given σ (λ y. y) args d → FillsArgs nodes given d e → (a : Applied) → IsFull nodes a →
    term_of nodes a ≡ layer_of nodes (node op payloads e) →
    IsAnswer R nodes given σ (pattern_node op payloads args) a

-- each filling of an answer stands for an instance
abbrev pub AnswersStandForInstances : Type 0
AnswersStandForInstances =
    (R : DTerm → DTerm → Bool) (nodes : List DTerm) (given : List ℕ) (σ : List ℕ → Applied) (p : Pattern) (a : Applied) →
    IsAnswer R nodes given σ p a →
    (b : Applied) → IsFilling nodes given a b → IsInstance R nodes given σ (λ y. y) p (term_of nodes b)

-- where b, x and y are fillings of answers for the three parts, and r represents the term of b, a full id of r with the term of y for that of x is an answer
abbrev pub ReplacedAreInstances : Type 0
ReplacedAreInstances =
    (R : DTerm → DTerm → Bool) (nodes : List DTerm) (given : List ℕ) (σ : List ℕ → Applied) (body part value : Pattern) (for_body for_part for_value b x y : Applied) (r : DTerm) →
    IsAnswer R nodes given σ body for_body → IsAnswer R nodes given σ part for_part → IsAnswer R nodes given σ value for_value →
    IsFilling nodes given for_body b → IsFilling nodes given for_part x → IsFilling nodes given for_value y →
    IsTrue (R (term_of nodes b) r) →
    (a : Applied) → IsFull nodes a → term_of nodes a ≡ substituted (term_of nodes x) (term_of nodes y) r →
    IsAnswer R nodes given σ (replacing body part value) a

-- at rest each instance of a pattern that is looked up as an id is equal by what was asserted to the id's term, whatever names fill it
abbrev pub InstancesAreEqual : Type 0
InstancesAreEqual =
    (g : State) → AtRest g → (R : DTerm → DTerm → Bool) (σ : List ℕ → Applied) (given more_given : List ℕ) (ρ : ℕ → ℕ) →
    IsInjective ρ → (p : Pattern) → EachVariable (λ v. IsValidIn g (σ v)) p →
    (x b : Applied) → look_up_pattern g ρ σ p ≡ Some x → IsFilling g.nodes more_given x b →
    (t : DTerm) → IsInstance R g.nodes given σ ρ p t → Equal (asserted g.nodes g.proofs) (term_of g.nodes b) t

-- all these laws
pub record PatternLaws : Type 0 where
  pub pattern_look_ups_move_with_names : PatternLookUpsMoveWithNames
  pub terms_are_looked_up_as_patterns : TermsAreLookedUpAsPatterns
  pub matches_are_look_ups : MatchesAreLookUps
  pub instances_move_with_names : InstancesMoveWithNames
  pub instances_stay : InstancesStay
  pub instances_exist : InstancesExist
  pub full_values_have_one_instance : FullValuesHaveOneInstance
  pub terms_are_their_instances : TermsAreTheirInstances
  pub built_nodes_are_instances : BuiltNodesAreInstances
  pub answers_stand_for_instances : AnswersStandForInstances
  pub replaced_are_instances : ReplacedAreInstances
  pub instances_are_equal : InstancesAreEqual
