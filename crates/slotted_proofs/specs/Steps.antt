-- When a step proves an equation: its parts match what it says, up to renaming.
--     Matches a b c d        one injective map of names takes the equation a = b to c = d
--     IsEntry list p a b     what stands at p matches a = b
use Rattle.std.specs.Prelude.{◌≡◌, ◌⊎◌, ℕ, ◌+◌, ◌<◌, ◌≤◌, List, length, None, Contains, slice_index_or}
use Rattle.slotted_slots.specs.declared.error.Error.{Error}
use Rattle.slotted_slots.specs.declared.error.Error.TheVariants.{BadStep}
use Rattle.slotted_slots.specs.Error.{IsShortage}
use Rattle.slotted_slots.specs.Table.{slot_limit}
use Rattle.slotted_theory.specs.FiniteMaps.{IsInjectiveMap}
use Rattle.slotted_model.specs.Applied.{Applied, keys}
use Rattle.slotted_model.specs.Correspondence.{IsFullMap, IsMatch, CanJoin, composite, same_names}
use Rattle.slotted_model.specs.ProofList.{Step}
use Rattle.slotted_proofs.specs.declared.equation.Equation.{Equation as Sides}
use Rattle.slotted_proofs.specs.Equations.{Statement, to_applied, statement_of, pairs_of, AreSides}
use Rattle.slotted_proofs.specs.Entries.{Proven, statement_at, Enters}

-- the same classes, and one injective map of names that takes the one equation to the other on both sides
pub record Matches (a b c d : Applied) : Type 0 where
  pub left : a.0 ≡ c.0
  pub right : b.0 ≡ d.0
  pub names : IsMatch a.1 b.1 c.1 d.1

-- the entry with the number p, whose sides in written form are left and right, matches a = b
pub record IsEntry (list : List Proven) (p : ℕ) (a b : Applied) : Type 0 where
  pub in_range : p < length list
  pub left : Applied
  pub right : Applied
  pub written : AreSides (statement_at list p) left right
  pub matches : Matches a b left right

-- both sides are equal
abbrev pub IsReflexiveStep : Sides → Type 0
IsReflexiveStep e = to_applied e.l ≡ to_applied e.r

-- the part, turned round, matches
abbrev pub IsSymmetricStep : List Proven → Sides → ℕ → Type 0
IsSymmetricStep list e p = IsEntry list p (to_applied e.r) (to_applied e.l)

-- for some middle, whose names are different, the first part matches from the left side to it, and the second one from it to the right side
pub record IsTransitiveStep (list : List Proven) (e : Sides) (p q : ℕ) : Type 0 where
  pub middle : Applied
  pub injective : IsInjectiveMap middle.1
  pub first : IsEntry list p (to_applied e.l) middle
  pub second : IsEntry list q middle (to_applied e.r)

-- the halves begin, meet and end at the classes of the whole, over the same slots
pub record GoesOver (whole first second : Statement) : Type 0 where
  pub begins : (whole.equation.left ≡ first.equation.left) × (whole.left_slots ≡ first.left_slots)
  pub meets : (first.equation.right ≡ second.equation.left) × (first.right_slots ≡ second.left_slots)
  pub ends : (whole.equation.right ≡ second.equation.right) × (whole.right_slots ≡ second.right_slots)

-- the halves go over, and can be joined in the middle
abbrev pub IsJoined : Statement → Statement → Statement → Type 0
IsJoined whole first second = GoesOver whole first second × CanJoin whole.equation.pairs first.equation.pairs second.equation.pairs

-- the same of three equations of the code
abbrev pub HalvesGoOver : Sides → Sides → Sides → Type 0
HalvesGoOver whole first second = GoesOver (statement_of whole) (statement_of first) (statement_of second)

abbrev pub HalvesJoin : Sides → Sides → Sides → Type 0
HalvesJoin whole first second = IsJoined (statement_of whole) (statement_of first) (statement_of second)

-- names for the middle can be chosen by which the halves give what the whole says
abbrev pub PairsJoin : Sides → Sides → Sides → Type 0
PairsJoin whole first second = CanJoin (pairs_of whole) (pairs_of first) (pairs_of second)

-- what the two halves say, one after the other
abbrev pub middle_pairs : Sides → Sides → List (ℕ × ℕ)
middle_pairs first second = composite (pairs_of first) (pairs_of second)

-- what the asked pairs say of the slots that the first half knows
abbrev pub known_pairs : Sides → List (ℕ × ℕ) → List (ℕ × ℕ)
known_pairs first asked = composite (composite (pairs_of first) (same_names first.r.m first.l.m)) asked

-- what they say of the slots that the second half reaches
abbrev pub reached_pairs : List (ℕ × ℕ) → Sides → List (ℕ × ℕ)
reached_pairs asked second = composite (composite asked (same_names second.r.m second.l.m)) (pairs_of second)

-- these pairs are what the asked ones say of the slots that the first half knows, and of those that the second one reaches
abbrev pub IsAsked : List (ℕ × ℕ) → Sides → Sides → List (ℕ × ℕ) → Type 0
IsAsked over first second asked = (over ≡ known_pairs first asked) × (over ≡ reached_pairs asked second)

-- the halves, one after the other, say what the asked pairs say of the slots that the first one knows, and of those that the second one reaches
abbrev pub AreAsked : Sides → Sides → List (ℕ × ℕ) → Type 0
AreAsked first second asked = (middle_pairs first second ≡ known_pairs first asked) ×
    (middle_pairs first second ≡ reached_pairs asked second)

-- the two sides have a name of its own for each of their slots
pub record AreFull (e : Sides) : Type 0 where
  pub left : IsFullMap (keys e.l.m) e.l.m
  pub right : IsFullMap (keys e.r.m) e.r.m

-- an entry by a step, which has no text
abbrev pub by_step : Statement → Step → Proven
by_step s step = record { statement = s; step = step; text = None }

-- an equation of the code is entered by a step: it stands at the number p
abbrev pub EntersStep : List Proven → List Proven → Sides → Step → ℕ → Type 0
EntersStep old new e step p = Enters old new (by_step (statement_of e) step) p

-- each part matches the equation of its children, and there are as many of the one as of the other
pub record AreEntries (list : List Proven) (parts : List ℕ) (children : List Sides) : Type 0 where
  pub count : length parts ≡ length children
  pub each : (k n : ℕ) (d : Sides) → k < length parts →
      IsEntry list (slice_index_or parts k n) (to_applied (slice_index_or children k d).l) (to_applied (slice_index_or children k d).r)

-- no name stands twice on a side
pub record HasInjectiveSides (e : Sides) : Type 0 where
  pub left : IsInjectiveMap e.l.m
  pub right : IsInjectiveMap e.r.m

-- how many names stand on both sides
abbrev pub name_count : Sides → ℕ
name_count e = length e.l.m + length e.r.m

-- some equation of the list has too many names
pub record IsLarge (children : List Sides) : Type 0 where
  pub child : Sides
  pub among : Contains children child
  pub large : slot_limit ≤ name_count child

-- the step does not fit, or something ran out
abbrev pub IsRefusal : Error → Type 0
IsRefusal x = (x ≡ BadStep) ⊎ IsShortage x

-- a side is over the given slots of its class, with different names
abbrev pub IsSideOver : Applied → List ℕ → Type 0
IsSideOver a slots = IsInjectiveMap a.1 × (keys a.1 ≡ slots)

-- both sides are
abbrev pub IsOver : Sides → List ℕ → List ℕ → Type 0
IsOver e left right = IsSideOver (to_applied e.l) left × IsSideOver (to_applied e.r) right

-- the equation is over the given slots of its two classes, and a reflexive step fits it
abbrev pub FitsReflexive : Sides → List ℕ → List ℕ → Type 0
FitsReflexive e left right = IsOver e left right × IsReflexiveStep e

-- and a symmetric one
abbrev pub FitsSymmetric : List Proven → Sides → List ℕ → List ℕ → ℕ → Type 0
FitsSymmetric list e left right p = IsOver e left right × IsSymmetricStep list e p

-- and a transitive one
abbrev pub FitsTransitive : List Proven → Sides → List ℕ → List ℕ → ℕ → ℕ → Type 0
FitsTransitive list e left right p q = IsOver e left right × IsTransitiveStep list e p q
