-- The laws of substitution, all owed by `substitution_laws_hold` in src/substitution.rt.
use Rattle.std.specs.Prelude.{◌≡◌, ◌≢◌, ◌⊎◌, ℕ, List, Contains}
use Rattle.slotted_theory.specs.Term.{Term}
use Rattle.slotted_theory.specs.Nameless.{DArgs, DTerm, stop, place, scope, nameless, moved, Alpha}
use Rattle.slotted_theory.specs.Renaming.{IsInjective}
use Rattle.slotted_theory.specs.Derives.{Equal}
use Rattle.slotted_theory.specs.Shape.{free_names}
use Rattle.slotted_theory.proofs.Values.{node, child_before}
use Rattle.slotted_model.specs.Trees.{IsTree}
use Rattle.slotted_model_rules.specs.Substitution.{seen_inside, substituted_args, substituted, StandsIn, replaced, HasOthersBound}

-- x itself becomes t, and t is not searched: x may stand in it
abbrev pub WholeIsReplaced : Type 0
WholeIsReplaced = (x t : DTerm) → substituted x t x ≡ t

-- any other term keeps its operator and payloads, over what its arguments become
abbrev pub OthersAreSearched : Type 0
OthersAreSearched = (x t b : DTerm) → b ≢ x → substituted x t b ≡ node b.op b.payloads (substituted_args x t b.args)

-- what arguments become: names stay, each child becomes what it becomes by itself, and under a binder x and t are seen from there
pub record ArgumentsAreSearched : Type 0 where
  pub ends : (x t : DTerm) → substituted_args x t stop ≡ stop
  pub own_names : (x t : DTerm) (y : ℕ) (rest : DArgs) → substituted_args x t (place y rest) ≡ place y (substituted_args x t rest)
  pub children : (x t c : DTerm) (rest : DArgs) →
      substituted_args x t (child_before c rest) ≡ child_before (substituted x t c) (substituted_args x t rest)
  pub binders : (x t : DTerm) (inner rest : DArgs) →
      substituted_args x t (scope inner rest) ≡ scope (substituted_args (seen_inside x) (seen_inside t) inner) (substituted_args x t rest)

-- where x stands nowhere nothing changes
abbrev pub NothingIsReplaced : Type 0
NothingIsReplaced = (x t b : DTerm) → ¬ StandsIn x b → substituted x t b ≡ b

-- with itself in its place nothing changes
abbrev pub ReplacedByItself : Type 0
ReplacedByItself = (x b : DTerm) → substituted x x b ≡ b

-- a term with other names, in which what becomes of x is replaced by what becomes of t
abbrev pub SubstitutionMovesWithNames : Type 0
SubstitutionMovesWithNames = (f : ℕ → ℕ) → IsInjective f → (x t b : DTerm) →
    moved f (substituted x t b) ≡ substituted (moved f x) (moved f t) (moved f b)

-- each free name of the result is one of b or of t
abbrev pub NamesComeFromBoth : Type 0
NamesComeFromBoth =
    (x t b : DTerm) (y : ℕ) → Contains (free_names (substituted x t b).args) y → Contains (free_names b.args) y ⊎
    Contains (free_names t.args) y

-- nothing is captured: where something is replaced each free name of t is free in the result, whatever binders of b it stands under
abbrev pub NothingIsCaptured : Type 0
NothingIsCaptured = (x t b : DTerm) → StandsIn x b → (y : ℕ) → Contains (free_names t.args) y →
    Contains (free_names (substituted x t b).args) y

-- on terms with names it is replacing as it is written, where the binders of b have names that are free in neither x nor t
abbrev pub ReplacingIsSubstitution : Type 0
ReplacingIsSubstitution = (x t b : Term) → HasOthersBound x t b →
    nameless (replaced x t b) ≡ substituted (nameless x) (nameless t) (nameless b)

-- and each term has bound names of that kind
abbrev pub BindersCanBeOthers : Type 0
BindersCanBeOthers = (x t b : Term) → (c : Term) × Alpha b c × HasOthersBound x t c

-- where x and t are equal by some equations, what is made by replacing is equal to what was
abbrev pub SubstitutionKeepsEquality : Type 0
SubstitutionKeepsEquality = (E : List (DTerm × DTerm)) (x t b : DTerm) → Equal E x t → Equal E b (substituted x t b)

-- trees become trees
abbrev pub TreesBecomeTrees : Type 0
TreesBecomeTrees = (x t b : DTerm) → IsTree t → IsTree b → IsTree (substituted x t b)

-- all these laws
pub record SubstitutionLaws : Type 0 where
  pub whole_is_replaced : WholeIsReplaced
  pub others_are_searched : OthersAreSearched
  pub arguments_are_searched : ArgumentsAreSearched
  pub nothing_is_replaced : NothingIsReplaced
  pub replaced_by_itself : ReplacedByItself
  pub substitution_moves_with_names : SubstitutionMovesWithNames
  pub names_come_from_both : NamesComeFromBoth
  pub nothing_is_captured : NothingIsCaptured
  pub replacing_is_substitution : ReplacingIsSubstitution
  pub binders_can_be_others : BindersCanBeOthers
  pub substitution_keeps_equality : SubstitutionKeepsEquality
  pub trees_become_trees : TreesBecomeTrees
