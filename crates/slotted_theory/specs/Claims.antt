-- The laws of these definitions, all owed by `laws_hold` in src/lib.rt.
use Rattle.std.specs.Prelude.{◌≡◌, ◌↔◌, ℕ, List, [], map, Some, Contains, ◌⊎◌, ◌<◌, length, get_or, IsTrue}
use Rattle.slotted_theory.specs.Term.{Args, Term, done, bind}
use Rattle.slotted_theory.specs.Nameless.{DArgs, DTerm, nameless, moved, Alpha, under, opened}
use Rattle.slotted_theory.specs.Literal.{literal}
use Rattle.slotted_theory.specs.Renaming.{Bijection, IsInjective, swapped, renamed_args, renamed}
use Rattle.slotted_theory.specs.Derives.{Derives, Equal, nameless_pair}
use Rattle.slotted_theory.specs.Shape.{outside, free_names, IsFreeIn, shape, SameUpToNames}
use Rattle.slotted_theory.specs.FiniteMaps.{value_of, IsInjectiveMap, filled}
use Rattle.slotted_theory.specs.Decided.{args_eq}
use Rattle.slotted_theory.specs.Flat.{places, number_of, numbers}

-- two terms are derivably equal exactly if they are equal without bound names
abbrev pub DerivableIsEqual : Type 0
DerivableIsEqual =
    (E : List (Term × Term)) (t u : Term) →
    Derives E t u ↔ Equal (map nameless_pair E) (nameless t) (nameless u)

-- each nameless term is the nameless form of some term
abbrev pub NamelessIsOnto : Type 0
NamelessIsOnto = (d : DTerm) → (t : Term) × (nameless t ≡ d)

-- from no equation exactly the alpha-equal terms are derivable
abbrev pub NothingDerivesAlpha : Type 0
NothingDerivesAlpha = (t u : Term) → Derives [] t u ↔ Alpha t u

-- more equations derive more
abbrev pub MoreDeriveMore : Type 0
MoreDeriveMore =
    (E F : List (Term × Term)) → ((p : Term × Term) → Contains E p → Contains F p) →
    (t u : Term) → Derives E t u → Derives F t u

-- equations that are derivable themselves derive nothing new
abbrev pub DerivableAddsNothing : Type 0
DerivableAddsNothing =
    (E F : List (Term × Term)) → ((t u : Term) → Contains E (t, u) → Derives F t u) →
    (t u : Term) → Derives E t u → Derives F t u

-- where t equals u, the names that are not free in u may be changed in t by any bijection
abbrev pub OneSidedNamesMayBeSwapped : Type 0
OneSidedNamesMayBeSwapped =
    (E : List (Term × Term)) (t u : Term) (π : Bijection) → ((x : ℕ) → IsFreeIn x u.args → π.to x ≡ x) →
    Derives E t u → Derives E t (renamed π.to t)

-- two terms are alpha-equal exactly if their literal nameless forms are equal
abbrev pub AlphaIsLiteral : Type 0
AlphaIsLiteral = (t u : Term) → Alpha t u ↔ (literal t ≡ literal u)

-- renaming all names of a term by an injective function, so by a bijection too, moves its nameless form
abbrev pub RenamingMoves : Type 0
RenamingMoves = (π : ℕ → ℕ) → IsInjective π → (t : Term) → nameless (renamed π t) ≡ moved π (nameless t)

-- an injective function on the free names keeps different terms different
abbrev pub MovingIsInjective : Type 0
MovingIsInjective = (f : ℕ → ℕ) → IsInjective f → (d e : DTerm) → moved f d ≡ moved f e → d ≡ e

-- two functions move a term to one term exactly if they agree on its free names
abbrev pub FreeNamesMatter : Type 0
FreeNamesMatter =
    (f g : ℕ → ℕ) (d : DTerm) →
    (moved f d ≡ moved g d) ↔ ((x : ℕ) → Contains (free_names d.args) x → f x ≡ g x)

-- two terms have one shape exactly if a bijection of names takes the one to the other
abbrev pub ShapesDecide : Type 0
ShapesDecide = (d e : DTerm) → (shape d ≡ shape e) ↔ SameUpToNames d e

-- a bound name x may become z, if z is x or is not free where x is bound: under the binder the two change places
abbrev pub BinderMayBeRenamed : Type 0
BinderMayBeRenamed =
    (t : Term) (x z : ℕ) (a rest : Args) → (z ≡ x) ⊎ (¬ IsFreeIn z (bind x a done)) →
    Alpha (record t { args = bind x a rest }) (record t { args = bind z (renamed_args (swapped x z) a) rest })

-- two terms are equal exactly if they are equal under a binder of any name
abbrev pub BindingKeepsEquality : Type 0
BindingKeepsEquality =
    (E : List (DTerm × DTerm)) (x : ℕ) (d e : DTerm) →
    Equal E d e ↔ Equal E (under x d) (under x e)

-- two terms under a binder are equal exactly if they are equal with a fresh name in its place: whether some or every fresh name is tried does not matter
abbrev pub OpeningKeepsEquality : Type 0
OpeningKeepsEquality =
    (E : List (DTerm × DTerm)) (z : ℕ) (d e : DTerm) →
    ¬ Contains (outside (free_names d.args)) z → ¬ Contains (outside (free_names e.args)) z →
    Equal E d e ↔ Equal E (opened z d) (opened z e)

-- a finite map as a function has the map's value at each of its keys
abbrev pub FilledAgrees : Type 0
FilledAgrees = (m : List (ℕ × ℕ)) (k v : ℕ) → value_of m k ≡ Some v → filled m k ≡ v

-- a finite map with no value twice is injective as a function on all names
abbrev pub FilledIsInjective : Type 0
FilledIsInjective = (m : List (ℕ × ℕ)) → IsInjectiveMap m → IsInjective (filled m)

-- the test of nameless arguments answers yes exactly at equal ones
abbrev pub EqualityIsDecided : Type 0
EqualityIsDecided = (a b : DArgs) → IsTrue (args_eq a b) ↔ (a ≡ b)

-- the number of a name can be read off the row of places
abbrev pub NumbersArePlaced : Type 0
NumbersArePlaced =
    (a : Args) (i : ℕ) → i < length (places a) →
    number_of (places a) [] i ≡ get_or (numbers [] a) i 0

-- all these laws
pub record Laws : Type 0 where
  pub derivable_is_equal : DerivableIsEqual
  pub nameless_is_onto : NamelessIsOnto
  pub nothing_derives_alpha : NothingDerivesAlpha
  pub more_derive_more : MoreDeriveMore
  pub derivable_adds_nothing : DerivableAddsNothing
  pub one_sided_names_may_be_swapped : OneSidedNamesMayBeSwapped
  pub alpha_is_literal : AlphaIsLiteral
  pub renaming_moves : RenamingMoves
  pub moving_is_injective : MovingIsInjective
  pub free_names_matter : FreeNamesMatter
  pub shapes_decide : ShapesDecide
  pub binder_may_be_renamed : BinderMayBeRenamed
  pub binding_keeps_equality : BindingKeepsEquality
  pub opening_keeps_equality : OpeningKeepsEquality
  pub filled_agrees : FilledAgrees
  pub filled_is_injective : FilledIsInjective
  pub equality_is_decided : EqualityIsDecided
  pub numbers_are_placed : NumbersArePlaced
