-- When the matcher finds all: no class has dropped a slot, and the binders of the pattern have names of their own.
--     HasAllSlots g            each class still uses all slots of its canonical node
--     binders_of p             the names of the binders of a pattern, each as often as it is bound
--     IsFreeInPattern σ y p    the name y stands in the pattern, or in the value of a variable, where no binder binds it
use Rattle.std.specs.Prelude.{◌≡◌, ◌≢◌, ◌⊎◌, ℕ, ◌<◌, List, [], ◌∷◌, ◌++◌, length, Contains}
use Rattle.slotted_model.specs.Applied.{Applied, values}
use Rattle.slotted_model.specs.Classes.{canonical_slots}
use Rattle.slotted_model.specs.Correspondence.{AllDifferent}
use Rattle.slotted_model.specs.Find.{used_slots}
use Rattle.slotted_model.specs.State.{State}
use Rattle.slotted_model_rules.specs.Patterns.{Pattern, PatternArgs, pattern_node, variable, replacing, no_argument, own_name, child_pattern, binding}

-- no class has dropped a slot
abbrev pub HasAllSlots : State → Type 0
HasAllSlots g = (i : ℕ) → i < length g.nodes → used_slots g.found i ≡ canonical_slots g.nodes i

-- the binders of a node alone
abbrev pub own_binders : PatternArgs → List ℕ
own_binders no_argument = []
own_binders (own_name x rest) = own_binders rest
own_binders (child_pattern p rest) = own_binders rest
own_binders (binding x inner rest) = x ∷ (own_binders inner ++ own_binders rest)

abbrev mutual
  -- the binders of a pattern: those of its node, and those of its child patterns
  pub binders_of : Pattern → List ℕ
  binders_of (pattern_node op payloads args) = own_binders args ++ child_binders args
  binders_of (variable v) = []
  binders_of (replacing body part value) = []

  pub child_binders : PatternArgs → List ℕ
  child_binders no_argument = []
  child_binders (own_name x rest) = child_binders rest
  child_binders (child_pattern p rest) = binders_of p ++ child_binders rest
  child_binders (binding x inner rest) = child_binders inner ++ child_binders rest

abbrev mutual
  -- y is free in the pattern, where σ gives ids to its variables
  pub IsFreeInPattern : (List ℕ → Applied) → ℕ → Pattern → Type 0
  IsFreeInPattern σ y (pattern_node op payloads args) = IsFreeInArguments σ y args
  IsFreeInPattern σ y (variable v) = Contains (values (σ v).1) y
  IsFreeInPattern σ y (replacing body part value) = ⊥

  pub IsFreeInArguments : (List ℕ → Applied) → ℕ → PatternArgs → Type 0
  IsFreeInArguments σ y no_argument = ⊥
  IsFreeInArguments σ y (own_name x rest) = (y ≡ x) ⊎ IsFreeInArguments σ y rest
  IsFreeInArguments σ y (child_pattern p rest) = IsFreeInPattern σ y p ⊎ IsFreeInArguments σ y rest
  IsFreeInArguments σ y (binding x inner rest) = ((y ≢ x) × IsFreeInArguments σ y inner) ⊎ IsFreeInArguments σ y rest

-- each binder has a name of its own, which stands, in the pattern and in values, in the binder's scope alone
pub record HasOwnBinders (σ : List ℕ → Applied) (p : Pattern) : Type 0 where
  pub differ : AllDifferent (binders_of p)
  pub in_scope : (y : ℕ) → Contains (binders_of p) y → ¬ IsFreeInPattern σ y p
