-- The steps of a union by an entry, as the mathematics has them.
--     IsOfLive k e         the equation is one of live classes, over slots that they have
--     HasDropped k l e     the left class of the equation has dropped the slots without a partner
--     HasLinked k l e      the left class of the equation leads to the right one
--     HasListed k l e      the equation is listed as a symmetry
--     DropsSide, LinksEither, ActsOn     what a step of a union does, on either side
--     UnitesBy p k l       the union by the entry p leads from k to l
--     StepsBy p k l step   so does one step of it, whatever rows there are and whatever waits
use Rattle.std.specs.Prelude.{◌≡◌, ◌≢◌, ◌⊎◌, ◌<◌, ℕ, List, [], length, Contains, Bool, true, false, Option, Some, None}
use Rattle.std.specs.Map.{keys_of, values_of}
use Rattle.slotted_model.specs.Applied.{Applied}
use Rattle.slotted_model.specs.Changes.{Unites, PairsAll, IsSymmetryOf, StandsAt, dropped_state, linked_state, with_symmetry, symmetry_of}
use Rattle.slotted_model.specs.Classes.{canonical_slots}
use Rattle.slotted_model.specs.Correspondence.{turned, identity}
use Rattle.slotted_model.specs.Find.{IsLive, find_class, used_slots}
use Rattle.slotted_model.specs.Link.{kept_equation}
use Rattle.slotted_model.specs.ProofList.{Equation, turned_equation}
use Rattle.slotted_model.specs.Rest.{size}
use Rattle.slotted_model.specs.State.{State, Symmetry, Row, HasTouched}
use Rattle.slotted_proofs.specs.Entries.{statement_at}
use Rattle.slotted_classes.specs.declared.store.Symmetry.{Symmetry as SymmetryOfCode}
use Rattle.slotted_classes.specs.Kept.{Kept, nodes_of, entries_of, symmetry_entry}
use Rattle.slotted_rebuilding.specs.Proving.{OnlyProves}
use Rattle.slotted_rebuilding.specs.declared.unions.uniting.UnionStep.{UnionStep}
use Rattle.slotted_rebuilding.specs.declared.unions.uniting.UnionStep.TheVariants.{Done, Dropped, Linked}
use Rattle.slotted_classes.specs.StateOf.{state_of, state_with, symmetry_of_entry}
use Rattle.slotted_classes.specs.Stored.{Stored, IsOverOneClass}
use Rattle.slotted_rebuilding.specs.Grows.{Grows}

-- the equation of an entry
abbrev pub equation_in : Kept → ℕ → Equation
equation_in k q = (statement_at k.proofs q).equation

-- an equation between live classes, over slots that both of them have: what an entry says of the classes that its sides find is one
pub record IsOfLive (k : Kept) (e : Equation) : Type 0 where
  pub left_lives : IsLive (entries_of k) e.left
  pub right_lives : IsLive (entries_of k) e.right
  pub left : (s : ℕ) → Contains (keys_of e.pairs) s → Contains (used_slots (entries_of k) e.left) s
  pub right : (t : ℕ) → Contains (values_of e.pairs) t → Contains (used_slots (entries_of k) e.right) t

-- the slot is one that the class has, and has no partner
pub record IsLackedBy (k : Kept) (e : Equation) (s : ℕ) : Type 0 where
  pub used : Contains (used_slots (entries_of k) e.left) s
  pub alone : ¬ Contains (keys_of e.pairs) s

-- each slot that the left class has has a partner
abbrev pub PairsLeft : Kept → Equation → Type 0
PairsLeft k e = (s : ℕ) → Contains (used_slots (entries_of k) e.left) s → Contains (keys_of e.pairs) s

-- entries were made, of which one says what the equation says of its left class alone, and then the class keeps the slots with a partner
pub record HasDropped (k l : Kept) (e : Equation) : Type 0 where
  pub middle : Kept
  pub only : OnlyProves k middle
  pub number : ℕ
  pub stands : StandsAt (state_of middle) number (kept_equation e)
  pub slot : ℕ
  pub lacks : IsLackedBy k e slot
  pub state : state_of l ≡ dropped_state (state_of middle) e.left (keys_of e.pairs) number []
  pub stored : Stored l
  pub grows : Grows k l

-- the left class of the equation, which stands at the number, has died and leads to the right one
pub record HasLinked (k l : Kept) (e : Equation) (number : ℕ) : Type 0 where
  pub state : state_of l ≡ linked_state (state_of k) e number k.moment []
  pub stored : Stored l
  pub grows : Grows k l

-- the equation, which stands at the number, is listed as a symmetry, if it was not
pub record HasListed (k l : Kept) (e : Equation) (number : ℕ) : Type 0 where
  pub state : state_of l ≡ with_symmetry (state_of k) (symmetry_of (state_of k) e number)
  pub stored : Stored l
  pub grows : Grows k l

abbrev pub IsListedAlready : Kept → Equation → Type 0
IsListedAlready k e = (y : Symmetry) × Contains (state_of k).symmetries y × IsSymmetryOf (state_of k) e y

-- the union by the entry p leads from k to l
pub record UnitesBy (p : ℕ) (k l : Kept) : Type 0 where
  pub unites : Unites p (state_of k) (state_of l)
  pub stored : Stored l
  pub grows : Grows k l

-- whether the left class of the equation drops slots: nothing changes if each has a partner
abbrev pub DropsLeft : Kept → Kept → Equation → Bool → Type 0
DropsLeft k l e true = HasDropped k l e
DropsLeft k l e false = (l ≡ k) × PairsLeft k e

-- the same of the left class and, where each of its slots has a partner, of the right one
pub record DropsRight (k l : Kept) (e : Equation) : Type 0 where
  pub middle : Kept
  pub only : OnlyProves k middle
  pub pairs_left : PairsLeft k e
  pub dropped : HasDropped middle l (turned_equation (nodes_of k) e)

pub record DropsNothing (k l : Kept) (e : Equation) : Type 0 where
  pub only : OnlyProves k l
  pub pairs_all : PairsAll (state_of l) e

-- which class did, if one did
abbrev pub DropsSide : Kept → Kept → Equation → Option ℕ → Type 0
DropsSide k l e (Some c) = ((c ≡ e.left) × HasDropped k l e) ⊎ ((c ≡ e.right) × DropsRight k l e)
DropsSide k l e None = DropsNothing k l e

-- what the left class of the equation leads to once it is dead
abbrev pub heir_in : Kept → Equation → Applied
heir_in k e = (e.right, turned (canonical_slots (nodes_of k) e.right) e.pairs)

-- the right class has died instead, by the equation turned round
pub record LinksTurned (k l : Kept) (e : Equation) : Type 0 where
  pub middle : Kept
  pub only : OnlyProves k middle
  pub number : ℕ
  pub stands : StandsAt (state_of middle) number (turned_equation (nodes_of k) e)
  pub linked : HasLinked middle l (turned_equation (nodes_of k) e) number

abbrev pub LinksLeft : Kept → Kept → Equation → Type 0
LinksLeft k l e = (n : ℕ) × StandsAt (state_of k) n e × HasLinked k l e n

-- the class c has died, the left or the right one
abbrev pub LinksEither : Kept → Kept → Equation → ℕ → Type 0
LinksEither k l e c = ((c ≡ e.left) × LinksLeft k l e) ⊎ ((c ≡ e.right) × LinksTurned k l e)

-- the symmetry of the code says what the entry q says of its class
pub record IsSymmetryBy (k : Kept) (q : ℕ) (y : SymmetryOfCode) : Type 0 where
  pub is : symmetry_of_entry (symmetry_entry y) ≡ symmetry_of (state_of k) (equation_in k q) q
  pub sides : IsOverOneClass k (symmetry_entry y)

-- it stood in the list, and nothing has changed, or it stands there now
abbrev pub ListsOnce : Kept → Kept → Equation → ℕ → Type 0
ListsOnce k l e q = (IsListedAlready k e × (l ≡ k)) ⊎ ((¬ IsListedAlready k e) × HasListed k l e q)

-- the equation is of one class, and gives each slot that the class has itself
abbrev pub SaysNothing : Kept → Equation → Type 0
SaysNothing k e = (e.left ≡ e.right) × (e.pairs ≡ identity (used_slots (entries_of k) e.left))

-- of two classes one has died; of one class a symmetry is listed
abbrev pub ActsOn : Kept → Kept → Equation → ℕ → UnionStep → Type 0
ActsOn k l e q Done = (e.left ≡ e.right) × ListsOnce k l e q
ActsOn k l e q (Dropped c) = ⊥
ActsOn k l e q (Linked c) = (e.left ≢ e.right) × LinksEither k l e c

-- the union is done, and no class has changed
abbrev pub IsDone : ℕ → Kept → Kept → Type 0
IsDone p k l = (rows : List Row) (w : List ℕ) → Unites p (state_with k rows w) (state_with l rows w)

-- the class c has died, and the union is done once the rows over the class wait
pub record HasDied (p : ℕ) (k l : Kept) (c : ℕ) : Type 0 where
  pub in_range : c < length k.classes
  pub unites : (rows : List Row) (w v : List ℕ) → HasTouched (state_with k rows w) c v →
      Unites p (state_with k rows w) (state_with l rows v)

-- the class c has lost slots, and the union goes on once the rows over the class wait; each class finds the class that it found
pub record HasLost (p : ℕ) (k l : Kept) (c : ℕ) : Type 0 where
  pub in_range : c < length k.classes
  pub goes_on : (rows : List Row) (w v : List ℕ) (h : State) → HasTouched (state_with k rows w) c v →
      Unites p (state_with l rows v) h → Unites p (state_with k rows w) h
  pub smaller : size (state_of l) < size (state_of k)
  pub finds : (i : ℕ) → i < length k.classes → find_class (entries_of l) i ≡ find_class (entries_of k) i

-- what a step did
abbrev pub IsStep : ℕ → Kept → Kept → UnionStep → Type 0
IsStep p k l Done = IsDone p k l
IsStep p k l (Dropped c) = HasLost p k l c
IsStep p k l (Linked c) = HasDied p k l c

-- a step of the union by the entry p leads from k to l
pub record StepsBy (p : ℕ) (k l : Kept) (step : UnionStep) : Type 0 where
  pub did : IsStep p k l step
  pub stored : Stored l
  pub grows : Grows k l
  pub within : p < length l.proofs
