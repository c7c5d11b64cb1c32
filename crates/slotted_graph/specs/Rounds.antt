-- Rounds: the classes that wait are taken, and what is asked for each is done.
--     ModifiesClass .. g c h y    what is asked for the class c was done, y says that anything was
--     Modifies .. g cs h y        so it was for these classes in turn, y says that anything was asked
--     TakesRound .. g h y         one round
--     TakesRounds .. n g h y      n rounds, each while a live class waits
--     MakesRounds .. limit g h y  rounds until no live class waits, and no more than the limit
--     LeavesModified .. g h       what edits and rounds leave of a graph
--     IsModified .. g h y         rounds were made, unless classes are never modified, y says that anything was asked
use Rattle.std.specs.Prelude.{◌≡◌, ◌⊎◌, ◌≤◌, ℕ, suc, List, [], ◌∷◌, ◌++◌, All, length, Bool, IsTrue, false, ◌||◌, nat_eq, not}
use Rattle.std.specs.Coded.{Coded}
use Rattle.slotted_data.specs.declared.edit.Edit.{Edit}
use Rattle.slotted_data.specs.Edits.{AsksNothing}
use Rattle.slotted_data.specs.Meaning.{Meaning}
use Rattle.slotted_operations.specs.LookUp.{HasSameClasses}
use Rattle.slotted_graph.specs.Analysed.{CountsPending, HasRounds, IsAnalysisOf, LowersData, TakesPending}
use Rattle.slotted_graph.specs.Extension.{ExtendsTo}
use Rattle.slotted_operations.specs.Graph.{Graph}
use Rattle.slotted_operations.specs.Reports.{names_slots}
use Rattle.slotted_graph.specs.States.{IsGraph}
use Rattle.slotted_graph.specs.Asked.{Asks, IsAskedBetween, IsAskedIn, IsLiveIn}
use Rattle.slotted_graph.specs.Edited.{AssertsMore, MakesEdits}

-- a class that died is passed over; of a live one the edits that the analysis answers are made, each of which it may ask
pub data ModifiesClass {L N D : Type 0} (codes : Coded N × Coded D) (meaning : N → Meaning D) (ask : Asks L N D) (g : Graph) (c : ℕ) (h : Graph) (y : Bool) : Type 0 where
  passed_over : ¬ IsLiveIn g c → h ≡ g → y ≡ false → ModifiesClass codes meaning ask g c h y
  modified : IsGraph g → IsLiveIn g c → (edits : List (Edit L)) → All (IsAskedIn codes ask g c) edits →
      MakesEdits codes meaning g (names_slots g.image c) edits h → y ≡ not (nat_eq (length edits) 0) → ModifiesClass codes meaning ask g c h y

pub data Modifies {L N D : Type 0} (codes : Coded N × Coded D) (meaning : N → Meaning D) (ask : Asks L N D) (g : Graph) : List ℕ → Graph → Bool → Type 0 where
  all_modified : Modifies codes meaning ask g [] g false
  then_modified : {cs : List ℕ} {c : ℕ} {f h : Graph} {y z : Bool} → Modifies codes meaning ask g cs f y → ModifiesClass codes meaning ask f c h z →
      Modifies codes meaning ask g (cs ++ c ∷ []) h (z || y)

-- the live classes that wait, by ascending id; what changes meanwhile waits for the next round
pub record TakesRound {L N D : Type 0} (codes : Coded N × Coded D) (meaning : N → Meaning D) (ask : Asks L N D) (g h : Graph) (y : Bool) : Type 0 where
  pub classes : List ℕ
  pub left : Graph
  pub graph : IsGraph left
  pub takes : TakesPending codes g left classes
  pub same : HasSameClasses g left
  pub modifies : Modifies codes meaning ask left classes h y

pub data TakesRounds {L N D : Type 0} (codes : Coded N × Coded D) (meaning : N → Meaning D) (ask : Asks L N D) (g : Graph) : ℕ → Graph → Bool → Type 0 where
  no_rounds : TakesRounds codes meaning ask g 0 g false
  one_round : {n : ℕ} {f h : Graph} {y z : Bool} → TakesRounds codes meaning ask g n f y → ¬ CountsPending codes f 0 → TakesRound codes meaning ask f h z →
      TakesRounds codes meaning ask g (suc n) h (z || y)

-- what waits after so many rounds as the limit says waits on
pub record MakesRounds {L N D : Type 0} (codes : Coded N × Coded D) (meaning : N → Meaning D) (ask : Asks L N D) (limit : ℕ) (g h : Graph) (y : Bool) : Type 0 where
  pub taken : ℕ
  pub within : taken ≤ limit
  pub rounds : TakesRounds codes meaning ask g taken h y
  pub ends : (taken ≡ limit) ⊎ CountsPending codes h 0

-- what was there stays, nothing is asserted but what edits say that were asked between, and nothing changes where nothing may be asked
pub record LeavesModified {L N D : Type 0} (codes : Coded N × Coded D) (meaning : N → Meaning D) (ask : Asks L N D) (g h : Graph) : Type 0 where
  pub graph : IsGraph h
  pub extends : ExtendsTo g h
  pub asserts : AssertsMore (IsAskedBetween codes meaning ask g h) g h
  pub lowers : LowersData codes meaning g h
  pub alone : (n : N) → IsAnalysisOf codes g n → AsksNothing (ask n) → HasSameClasses g h

-- rounds were made up to the graph's own limit, or nothing was done where classes are never modified
pub record IsModified {L N D : Type 0} (codes : Coded N × Coded D) (meaning : N → Meaning D) (ask : Asks L N D) (modifies : Bool) (g h : Graph) (y : Bool) : Type 0 where
  pub leaves : LeavesModified codes meaning ask g h
  pub still : modifies ≡ false → (h ≡ g) × (y ≡ false)
  pub rounds : IsTrue modifies → (limit : ℕ) → HasRounds codes g limit → MakesRounds codes meaning ask limit g h y

-- what loops keep
abbrev pub HasModified : {L N D : Type 0} → Coded N × Coded D → (N → Meaning D) → Asks L N D → Graph → List ℕ → Graph → Bool → Type 0
HasModified codes meaning ask g cs h y = IsGraph h × Modifies codes meaning ask g cs h y

abbrev pub HasTakenRounds : {L N D : Type 0} → Coded N × Coded D → (N → Meaning D) → Asks L N D → Graph → ℕ → Graph → Bool → Type 0
HasTakenRounds codes meaning ask g n h y = IsGraph g × IsGraph h × TakesRounds codes meaning ask g n h y
