-- The laws of conditions and of rules, owed by `condition_laws_hold` and `rule_laws_hold` in src/rule.rt.
use Rattle.std.specs.Prelude.{◌≡◌, ◌⊎◌, ℕ, ◌≤◌, List, ◌++◌, Contains, Some, None, option_map, Bool, true, false, not}
use Rattle.slotted_theory.specs.Nameless.{DTerm}
use Rattle.slotted_theory.specs.Renaming.{Bijection}
use Rattle.slotted_theory.specs.Derives.{Equal}
use Rattle.slotted_model.specs.Applied.{Applied, values, renamed_id}
use Rattle.slotted_model.specs.Classes.{term_of}
use Rattle.slotted_model.specs.Filling.{IsFilling}
use Rattle.slotted_model.specs.Find.{find_class, find}
use Rattle.slotted_model.specs.ProofList.{Equation, equation_at, asserted}
use Rattle.slotted_model.specs.State.{Row, State}
use Rattle.slotted_model.specs.Rest.{IsValidIn, HasNoOpenSymmetry, Sane, AtRest}
use Rattle.slotted_model_rules.specs.Patterns.{Pattern, EachVariable, look_up_pattern}
use Rattle.slotted_model_rules.specs.Instances.{IsInstance}
use Rattle.slotted_model_rules.specs.Matcher.{value_at, EachSlot, class_id}
use Rattle.slotted_model_rules.specs.Complete.{HasAllSlots, HasOwnBinders}
use Rattle.slotted_model_rules.specs.Conditions.{Values, Condition, always, slot_free_in, either, each_of, opposite}
use Rattle.slotted_model_rules.specs.Conditions.{holds, asked, IsOfValues}
use Rattle.slotted_model_rules.specs.Rules.{IsExtension, IsBetween, Calls, IsNewEntry, IsAskedFor, Rule, valued}
use Rattle.slotted_model_rules.specs.Rules.{IsMatch, Searches, IsEquationOfInstances, IsApplied, Applies, ComesFromRule}
use Rattle.slotted_model_rules.specs.Rules.{IsAskedByRule, progress}

-- what each kind of condition answers; and the second of two is asked only where the first leaves it open
pub record TruthTables : Type 0 where
  pub always_holds : (s : Values) (g : State) → holds always s g ≡ Some true
  pub free_slots : (slot : ℕ) (v : List ℕ) (s : Values) (g : State) (a : Applied) → value_at s v ≡ Some a →
      ((holds (slot_free_in slot v) s g ≡ Some false) × Contains (values a.1) slot)
      ⊎ ((holds (slot_free_in slot v) s g ≡ Some true) × (¬ Contains (values a.1) slot))
  pub missing_values : (slot : ℕ) (v : List ℕ) (s : Values) (g : State) → value_at s v ≡ None →
      holds (slot_free_in slot v) s g ≡ None
  pub either_yes : (x y : Condition) (s : Values) (g : State) → holds x s g ≡ Some true →
      (holds (either x y) s g ≡ Some true) × (asked (either x y) s g ≡ asked x s g)
  pub either_no : (x y : Condition) (s : Values) (g : State) → holds x s g ≡ Some false →
      (holds (either x y) s g ≡ holds y s g) × (asked (either x y) s g ≡ asked x s g ++ asked y s g)
  pub either_refused : (x y : Condition) (s : Values) (g : State) → holds x s g ≡ None →
      (holds (either x y) s g ≡ None) × (asked (either x y) s g ≡ asked x s g)
  pub each_yes : (x y : Condition) (s : Values) (g : State) → holds x s g ≡ Some true →
      (holds (each_of x y) s g ≡ holds y s g) × (asked (each_of x y) s g ≡ asked x s g ++ asked y s g)
  pub each_no : (x y : Condition) (s : Values) (g : State) → holds x s g ≡ Some false →
      (holds (each_of x y) s g ≡ Some false) × (asked (each_of x y) s g ≡ asked x s g)
  pub each_refused : (x y : Condition) (s : Values) (g : State) → holds x s g ≡ None →
      (holds (each_of x y) s g ≡ None) × (asked (each_of x y) s g ≡ asked x s g)
  pub opposites : (x : Condition) (s : Values) (g : State) → (holds (opposite x) s g ≡ option_map not (holds x s g))
      × (asked (opposite x) s g ≡ asked x s g)

-- what is asked decides alone: where all of it answers alike for another substitution in another graph, the condition
-- does, and asks the same there
abbrev pub AskedDecides : Type 0
AskedDecides =
    (c : Condition) (s t : Values) (g h : State) →
    ((x : Condition) → Contains (asked c s g) x → holds x s g ≡ holds x t h) →
    (holds c s g ≡ holds c t h) × (asked c s g ≡ asked c t h)

-- a condition in which none of the caller's own takes part answers the same in each graph
abbrev pub ConditionsOfValuesStay : Type 0
ConditionsOfValuesStay = (c : Condition) → IsOfValues c → (s : Values) (g h : State) → holds c s g ≡ holds c s h

-- all these laws
pub record ConditionLaws : Type 0 where
  pub truth_tables : TruthTables
  pub asked_decides : AskedDecides
  pub conditions_of_values_stay : ConditionsOfValuesStay

-- a sane graph extends itself, and what extends an extension of it extends it
abbrev pub ExtensionsCompose : Type 0
ExtensionsCompose =
    ((g : State) → Sane g → IsExtension g g)
    × ((f g h : State) → Sane f → IsExtension f g → IsExtension g h → IsExtension f h)

-- structural writes lead from rest to rest, and extend the graph
abbrev pub CallsExtend : (State → Applied → Applied → Type 0) → Type 0
CallsExtend A = (g h : State) → AtRest g → Calls A g h → AtRest h × IsExtension g h

-- each explicit entry that they leave is one that was asked for
abbrev pub CallsEnterWhatIsAskedFor : (State → Applied → Applied → Type 0) → Type 0
CallsEnterWhatIsAskedFor A =
    (g h : State) → AtRest g → Calls A g h → (p : ℕ) → IsNewEntry g h p → IsAskedFor A g h (equation_at h.proofs p)

-- one list of them after another is one
abbrev pub CallsCompose : (State → Applied → Applied → Type 0) → Type 0
CallsCompose A = (f g h : State) → Calls A f g → Calls A g h → Calls A f h

-- never fewer classes than before; while there are as many, no more live classes, and while these are as many too, no
-- more slots
abbrev pub CallsKeepCounts : (State → Applied → Applied → Type 0) → Type 0
CallsKeepCounts A =
    (g h : State) → AtRest g → Calls A g h →
    ((progress g).classes ≤ (progress h).classes)
    × ((progress h).classes ≡ (progress g).classes → (progress h).live_classes ≤ (progress g).live_classes)
    × ((progress h).classes ≡ (progress g).classes → (progress h).live_classes ≡ (progress g).live_classes →
    (progress h).slots ≤ (progress g).slots)

-- where progress has not changed the classes are the same, and each id finds what it found
abbrev pub NoProgressIsNoChange : (State → Applied → Applied → Type 0) → Type 0
NoProgressIsNoChange A =
    (g h : State) → AtRest g → Calls A g h → progress h ≡ progress g →
    (h.nodes ≡ g.nodes) × ((a : Applied) → IsValidIn g a → find h.found a ≡ find g.found a)

-- so does an apply of a rule: it leads from rest to rest, and extends the graph
abbrev pub AppliesExtend : (State → Applied → Applied → Type 0) → Type 0
AppliesExtend A =
    (R : DTerm → DTerm → Bool) (given : List ℕ) (rule : Rule) (found : List Values) (g h : State) → AtRest g →
    Applies A R given rule found g h → AtRest h × IsExtension g h

-- after it each substitution whose condition holds in every graph between has an equation of instances of both sides in
-- the proof list, which are equal up to listed symmetries
abbrev pub HeldSubstitutionsAreApplied : (State → Applied → Applied → Type 0) → Type 0
HeldSubstitutionsAreApplied A =
    (R : DTerm → DTerm → Bool) (given : List ℕ) (rule : Rule) (found : List Values) (g h : State) → AtRest g →
    Applies A R given rule found g h → (s : Values) → Contains found s →
    ((m : State) → IsBetween g h m → holds rule.condition s m ≡ Some true) → IsApplied R given rule h s

-- each new explicit entry is an equation of instances under one of the substitutions, whose condition held in a graph
-- between; or it was asked for besides, in a graph between
abbrev pub NewEntriesComeFromRules : (State → Applied → Applied → Type 0) → Type 0
NewEntriesComeFromRules A =
    (R : DTerm → DTerm → Bool) (given : List ℕ) (rule : Rule) (found : List Values) (g h : State) → AtRest g →
    Applies A R given rule found g h → (p : ℕ) → IsNewEntry g h p →
    ComesFromRule R given rule found g h (equation_at h.proofs p) ⊎ IsAskedFor A g h (equation_at h.proofs p)

-- at rest each substitution that a search finds is looked up, as the live class at which it was found
abbrev pub SearchesFindMatches : Type 0
SearchesFindMatches =
    (g : State) → AtRest g → (order : List Row) (p : Pattern) (found : List Values) → Searches g order p found →
    (s : Values) → Contains found s → (m : IsMatch g order p s)
    × (look_up_pattern g (λ y. y) (valued s) p ≡ Some (renamed_id m.names (find g.found (class_id g m.class))))

-- where no class has dropped a slot it finds all: each substitution of valid ids that is looked up, if each binder has a
-- name of its own that stands in its scope alone, up to one renaming that leaves the pattern's slots
abbrev pub SearchesFindAll : Type 0
SearchesFindAll =
    (g : State) → AtRest g → HasAllSlots g → (order : List Row) → ((r : Row) → Contains g.rows r → Contains order r) →
    (p : Pattern) (found : List Values) → Searches g order p found →
    (σ : List ℕ → Applied) → EachVariable (λ v. IsValidIn g (σ v)) p → HasOwnBinders σ p → (x : Applied) →
    look_up_pattern g (λ y. y) σ p ≡ Some x →
    (s : Values) × Contains found s × (π : Bijection) × EachSlot (λ t. π.to t ≡ t) p
    × EachVariable (λ v. find g.found (valued s v) ≡ renamed_id π.to (find g.found (σ v))) p

-- what is derivable from what a graph asserts is so from what an extension of it asserts
abbrev pub ExtensionsKeepDerivations : Type 0
ExtensionsKeepDerivations =
    (g h : State) → AtRest g → AtRest h → IsExtension g h → (d e : DTerm) →
    Equal (asserted g.nodes g.proofs) d e → Equal (asserted h.nodes h.proofs) d e

-- what is added is equal to what was matched: where the left side is looked up before the apply, and the condition holds
-- in every graph between, the term of what it was looked up as is equal to an instance of the right side
abbrev pub RewritesAreEqual : (State → Applied → Applied → Type 0) → Type 0
RewritesAreEqual A =
    (R : DTerm → DTerm → Bool) (given more_given : List ℕ) (rule : Rule) (found : List Values) (g h : State) → AtRest g →
    Applies A R given rule found g h → (s : Values) → Contains found s →
    ((m : State) → IsBetween g h m → holds rule.condition s m ≡ Some true) →
    EachVariable (λ v. IsValidIn g (valued s v)) rule.left → (x b : Applied) →
    look_up_pattern g (λ y. y) (valued s) rule.left ≡ Some x → IsFilling g.nodes more_given x b →
    (t : DTerm) × IsInstance R h.nodes given (valued s) (λ y. y) rule.right t
    × Equal (asserted h.nodes h.proofs) (term_of g.nodes b) t

-- so an apply is a list of structural writes that ask for just that
abbrev pub AppliesAreCalls : (State → Applied → Applied → Type 0) → Type 0
AppliesAreCalls A =
    (R : DTerm → DTerm → Bool) (given : List ℕ) (rule : Rule) (found : List Values) (g h : State) → AtRest g →
    Applies A R given rule found g h → Calls (λ m a b. A m a b ⊎ IsAskedByRule R given rule found g m a b) g h

-- an apply that leaves progress as it was found both sides equal already, for each substitution whose condition holds
-- throughout: in one class, and alike where no symmetry of it is open
abbrev pub SaturatedIsClosed : (State → Applied → Applied → Type 0) → Type 0
SaturatedIsClosed A =
    (R : DTerm → DTerm → Bool) (given : List ℕ) (rule : Rule) (found : List Values) (g h : State) → AtRest g →
    Applies A R given rule found g h → progress h ≡ progress g →
    (s : Values) → Contains found s → ((m : State) → IsBetween g h m → holds rule.condition s m ≡ Some true) →
    (e : Equation) × (i : IsEquationOfInstances R given g.nodes rule s e)
    × (find_class g.found i.left.0 ≡ find_class g.found i.right.0)
    × (HasNoOpenSymmetry h (find_class g.found i.left.0) → find g.found i.left ≡ find g.found i.right)

-- all these laws, where A says for which equations the caller's own code asks
pub record RuleLaws (A : State → Applied → Applied → Type 0) : Type 0 where
  pub extensions_compose : ExtensionsCompose
  pub calls_extend : CallsExtend A
  pub calls_enter_what_is_asked_for : CallsEnterWhatIsAskedFor A
  pub calls_compose : CallsCompose A
  pub calls_keep_counts : CallsKeepCounts A
  pub no_progress_is_no_change : NoProgressIsNoChange A
  pub applies_extend : AppliesExtend A
  pub held_substitutions_are_applied : HeldSubstitutionsAreApplied A
  pub new_entries_come_from_rules : NewEntriesComeFromRules A
  pub searches_find_matches : SearchesFindMatches
  pub searches_find_all : SearchesFindAll
  pub extensions_keep_derivations : ExtensionsKeepDerivations
  pub rewrites_are_equal : RewritesAreEqual A
  pub applies_are_calls : AppliesAreCalls A
  pub saturated_is_closed : SaturatedIsClosed A
