-- The laws by which a graph that enters equations keeps its proof list proved, all owed by `proof_list_laws_hold` in src/laws.rt.
use Rattle.std.specs.Prelude.{◌≡◌, ◌≢◌, ◌⊎◌, ℕ, ◌<◌, List, [], ◌∷◌, ◌++◌, length, Option}
use Rattle.slotted_theory.specs.Nameless.{DTerm}
use Rattle.slotted_model.specs.Applied.{Applied}
use Rattle.slotted_model.specs.Classes.{canonical_slots, IsFull}
use Rattle.slotted_model.specs.Find.{Entry}
use Rattle.slotted_model.specs.Growth.{Extends}
use Rattle.slotted_model.specs.Link.{CanEnter, reflexive_equation}
use Rattle.slotted_model.specs.ProofList.{explicit, turned_equation, equation_at, asserted, term_pair}
use Rattle.slotted_model.specs.Sound.{Sound}
use Rattle.slotted_proofs.specs.Equations.{Meets}
use Rattle.slotted_proofs.specs.Entries.{Proven, entry_of, entries_of, statement_at, IsNew, Enters, asserted_entry, reflexive_entry, turned_entry, composite_entry}
use Rattle.slotted_proofs.specs.Proving.{IsProvable, IsProved}

-- the list without entries is proved
abbrev pub NothingIsProved : Type 0
NothingIsProved = (nodes : List DTerm) → IsProved nodes []

-- full ids may be asserted to be equal
abbrev pub AssertedIsProvable : Type 0
AssertedIsProvable =
    (nodes : List DTerm) (list : List Proven) (a b : Applied) (text : Option (List ℕ)) → IsFull nodes a → IsFull nodes b →
    IsProvable nodes list (asserted_entry a b text)

-- each class equals itself
abbrev pub ReflexiveIsProvable : Type 0
ReflexiveIsProvable =
    (nodes : List DTerm) (list : List Proven) (i : ℕ) → i < length nodes →
    IsProvable nodes list (reflexive_entry i (canonical_slots nodes i)) ×
    ((reflexive_entry i (canonical_slots nodes i)).statement.equation ≡ reflexive_equation nodes i)

-- each entry can be turned round
abbrev pub TurnedIsProvable : Type 0
TurnedIsProvable =
    (nodes : List DTerm) (list : List Proven) → IsProved nodes list → (p : ℕ) → p < length list →
    IsProvable nodes list (turned_entry list p) ×
    ((turned_entry list p).statement.equation ≡ turned_equation nodes (statement_at list p).equation)

-- entries that meet can be put together, and they meet where their classes do
abbrev pub CompositeIsProvable : Type 0
CompositeIsProvable =
    (nodes : List DTerm) (list : List Proven) → IsProved nodes list → (p q : ℕ) → p < length list → q < length list →
    (statement_at list p).equation.right ≡ (statement_at list q).equation.left →
    IsProvable nodes list (composite_entry list p q) × Meets (statement_at list p) (statement_at list q)

-- what is new and provable can be entered
abbrev pub NewCanEnter : Type 0
NewCanEnter =
    (nodes : List DTerm) (list : List Proven) (x : Proven) → IsProved nodes list → IsProvable nodes list x → IsNew list x.statement →
    CanEnter nodes (entries_of list) (entry_of x)

-- a list stays proved when what is provable is entered
abbrev pub EnteringKeepsProved : Type 0
EnteringKeepsProved =
    (nodes : List DTerm) (old new : List Proven) (x : Proven) (p : ℕ) → IsProved nodes old → IsProvable nodes old x →
    Enters old new x p → IsProved nodes new

-- and storage stays sound
abbrev pub EnteringKeepsSound : Type 0
EnteringKeepsSound =
    (nodes : List DTerm) (found : List Entry) (old new : List Proven) (x : Proven) (p : ℕ) →
    Sound nodes found (entries_of old) → IsProved nodes old → IsProvable nodes old x → Enters old new x p →
    Sound nodes found (entries_of new)

-- the equation stands at the answered number, and the earlier ones stand where they stood
abbrev pub EnteredStands : Type 0
EnteredStands =
    (old new : List Proven) (x : Proven) (p : ℕ) → Enters old new x p →
    (p < length (entries_of new)) × (equation_at (entries_of new) p ≡ x.statement.equation)
    × ((q : ℕ) → q < length old → (q < length new) × (statement_at new q ≡ statement_at old q))

-- what was entered is what is asserted, if it was explicit and new; else nothing more is asserted
abbrev pub EnteringAsserts : Type 0
EnteringAsserts =
    (nodes : List DTerm) (old new : List Proven) (x : Proven) (p : ℕ) → Enters old new x p →
    (asserted nodes (entries_of new) ≡ asserted nodes (entries_of old))
    ⊎ ((x.step ≡ explicit) × IsNew old x.statement × (asserted nodes (entries_of new) ≡ asserted nodes (entries_of old) ++ term_pair nodes x.statement.equation ∷ []))

-- more is asserted by explicit entries alone
abbrev pub OthersAssertNothing : Type 0
OthersAssertNothing =
    (nodes : List DTerm) (old new : List Proven) (x : Proven) (p : ℕ) → Enters old new x p → x.step ≢ explicit →
    asserted nodes (entries_of new) ≡ asserted nodes (entries_of old)

-- new classes leave a proved list as it is, over the same slots
abbrev pub NewClassesKeepSlots : Type 0
NewClassesKeepSlots =
    (nodes newer : List DTerm) (list : List Proven) → Extends nodes newer → IsProved nodes list → IsProved newer list

-- all these laws
pub record ProofListLaws : Type 0 where
  pub nothing_is_proved : NothingIsProved
  pub asserted_is_provable : AssertedIsProvable
  pub reflexive_is_provable : ReflexiveIsProvable
  pub turned_is_provable : TurnedIsProvable
  pub composite_is_provable : CompositeIsProvable
  pub new_can_enter : NewCanEnter
  pub entering_keeps_proved : EnteringKeepsProved
  pub entering_keeps_sound : EnteringKeepsSound
  pub entered_stands : EnteredStands
  pub entering_asserts : EnteringAsserts
  pub others_assert_nothing : OthersAssertNothing
  pub new_classes_keep_slots : NewClassesKeepSlots
