-- Equations whose names are sent on by a map, and become fresh slots where the map lacks them.
use Rattle.std.specs.Prelude.{◌≡◌, ◌⊎◌, ℕ, List, ◌++◌, true}
use Rattle.std.specs.Ordering.{nat_cmp}
use Rattle.slotted_theory.specs.FiniteMaps.{IsInjectiveMap}
use Rattle.slotted_slots.specs.Combining.{IsCompleted, TakesForLacked, LacksForLacked}
use Rattle.slotted_slots.specs.Maps.{HasDifferentValues, composed, doubled, is_among, values}
use Rattle.slotted_slots.specs.Sets.{set_of}
use Rattle.slotted_slots.specs.Table.{Table, TakesAmong, is_known}
use Rattle.slotted_proofs.specs.declared.equation.Equation.{Equation as Sides}
use Rattle.slotted_proofs.specs.Equations.{to_applied}

-- the names on both sides, each as often as it stands
abbrev pub side_names : Sides → List ℕ
side_names e = values e.l.m ++ values e.r.m

-- the names that stand on either side, each once
abbrev pub names_of : Sides → List ℕ
names_of e = set_of nat_cmp (side_names e)

-- the names of both sides are sent on by a map
pub record IsSentBy (names : List (ℕ × ℕ)) (e s : Sides) : Type 0 where
  pub left : to_applied s.l ≡ (e.l.id.0, composed e.l.m names)
  pub right : to_applied s.r ≡ (e.r.id.0, composed e.r.m names)

-- one map sends the names of both sides on: a name to what m has for it, and each that m lacks to a new slot of its own
pub record IsSentOn (old new : Table) (m : List (ℕ × ℕ)) (e s : Sides) : Type 0 where
  pub names : List (ℕ × ℕ)
  pub completed : IsCompleted old new (doubled (names_of e)) m names
  pub left : to_applied s.l ≡ (e.l.id.0, composed e.l.m names)
  pub right : to_applied s.r ≡ (e.r.id.0, composed e.r.m names)

-- the side has a name of its own for each slot, and m keeps apart those that it knows
abbrev pub StaysInjective : List (ℕ × ℕ) → List (ℕ × ℕ) → Type 0
StaysInjective a m = IsInjectiveMap a × HasDifferentValues (composed a m)

-- each of the names is known to the table, or one of these
abbrev pub AreKnownOr : Table → List ℕ → List ℕ → Type 0
AreKnownOr t these xs = (z : ℕ) → is_among z xs ≡ true → (is_known t z ≡ true) ⊎ (is_among z these ≡ true)

-- what the table knows in addition is one of these, or a name of the equation or of the map
abbrev pub TakesFor : Table → Table → Sides → List (ℕ × ℕ) → List ℕ → Type 0
TakesFor old new e m these = TakesAmong old new these (side_names e ++ values m)

-- a slot was made at most for each name of the equation that m lacks, beside the names of both
abbrev pub TakesToSend : Sides → List (ℕ × ℕ) → Table → Table → Type 0
TakesToSend e m old new = TakesForLacked m (names_of e) (names_of e ++ values m) old new

-- fewer slots are left than m lacks of the names
abbrev pub LacksToSend : Sides → List (ℕ × ℕ) → Table → Type 0
LacksToSend e m t = LacksForLacked m (names_of e) (names_of e ++ values m) t
