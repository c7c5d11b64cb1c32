-- The laws of writes with data, for data of any type D, owed by `write_laws_hold` in src/write.rt.
use Rattle.std.specs.Prelude.{◌≡◌, ℕ, ◌<◌, ◌≤◌, List, [], length, Contains, ◌≢◌, ◌∷◌}
use Rattle.slotted_theory.specs.Nameless.{DTerm}
use Rattle.slotted_model.specs.Applied.{Applied}
use Rattle.slotted_model.specs.Classes.{IsFull}
use Rattle.slotted_model.specs.Find.{find_class, IsLive}
use Rattle.slotted_model.specs.Growth.{IsNew}
use Rattle.slotted_model.specs.State.{State, Row, normal_node}
use Rattle.slotted_model.specs.Rest.{Sane}
use Rattle.slotted_model.specs.Adding.{with_new_class, with_new_row, Adds, Asserts, with_quiet_row}
use Rattle.slotted_model.specs.Sessions.{nothing}
use Rattle.slotted_theory.specs.Shape.{shape}
use Rattle.slotted_model.specs.Cost.{AreAlike}
use Rattle.slotted_model.specs.Rebuild.{row_for, IsCovered}
use Rattle.slotted_model.specs.ProofList.{ProofEntry, equation_at, find_equation}
use Rattle.slotted_model.specs.Changes.{ProofsGrow, with_proofs}
use Rattle.slotted_model.specs.Link.{with_shortcut}
use Rattle.slotted_model_analyses.specs.Analysis.{Analysis, IsMerge, Absorbs, MakesAlike}
use Rattle.slotted_model_analyses.specs.DataPart.{DataPart, HasNoted, HasData, size_with_data, GoesDown, DataGoesDown, RestsWithData, made, RunsWithData}
use Rattle.slotted_model_analyses.specs.DataWrites.{MergesInto, made_of_found, with_new_data, with_new_pending, AddsWithData, AssertsWithData, HasNotedAll}

-- the empty graph is at rest with any data
abbrev pub NothingRestsWithData : Type 0 → Type 0
NothingRestsWithData D = (a : Analysis D) (δ : ℕ → D) → RestsWithData a nothing (record { data_of = δ; pending = []; changed = [] })

-- a value can be merged into the data of each class; then all is at rest again, in the same graph; the class absorbs the value,
-- so merging it again changes nothing; and data has gone down
abbrev pub MergingEndsAtRest : Type 0 → Type 0
MergingEndsAtRest D =
    (a : Analysis D) → IsMerge D a → (g : State) (s : DataPart D) → RestsWithData a g s → (i : ℕ) → i < length g.nodes → (v : D) →
    ((h : State) × (t : DataPart D) × MergesInto a g s i v h t)
    × ((h : State) (t : DataPart D) → MergesInto a g s i v h t →
    (h ≡ g) × RestsWithData a h t × Absorbs a (t.data_of (find_class h.found i)) v × GoesDown a s t
    × (size_with_data a h t ≤ size_with_data a g s)
    × ((k : State) (u : DataPart D) → MergesInto a h t i v k u → (k ≡ h) × (u ≡ t)))

-- a new class with the data that its node makes, of which no row is filed yet, keeps what does not wait absorbing
abbrev pub NewClassesKeepData : Type 0 → Type 0
NewClassesKeepData D =
    (a : Analysis D) (g : State) (s : DataPart D) → Sane g → HasData a g s → (c : DTerm) → IsNew g.nodes c → (changed : List ℕ) →
    HasNoted (length g.nodes) s.changed changed →
    HasData a (with_new_class g c) (with_new_data a g s c changed)
    × HasData a (with_new_row (with_new_class g c) (length g.nodes)) (with_new_pending a g s c changed)

-- the row of a new class makes what its node made, if alike nodes make alike: so its class absorbs it
abbrev pub NewRowsMakeTheSame : Type 0 → (DTerm → Type 0) → Type 0
NewRowsMakeTheSame D is_known =
    (a : Analysis D) → IsMerge D a → MakesAlike is_known D a → ((d e : DTerm) → AreAlike d e → is_known e → is_known d) →
    (g : State) (s : DataPart D) → Sane g → (c : DTerm) → IsNew g.nodes c → is_known c → (changed : List ℕ) →
    HasNoted (length g.nodes) s.changed changed →
    (made a (with_new_data a g s c changed) (row_for (with_new_class g c) (length g.nodes)).shape ≡ made_of_found a g s c)
    × Absorbs a ((with_new_data a g s c changed).data_of (find_class (with_new_class g c).found (length g.nodes)))
    (made a (with_new_data a g s c changed) (row_for (with_new_class g c) (length g.nodes)).shape)

-- where the class of a node that has no row absorbs what its row makes, the node is covered, and no row has its shape, one turn
-- files it and changes nothing else, neither in the graph nor in the data
abbrev pub QuietTurnsWithData : Type 0 → Type 0
QuietTurnsWithData D =
    (a : Analysis D) (g : State) (s : DataPart D) (i : ℕ) → IsCovered g i → ((r : Row) → Contains g.rows r → r.source ≢ i) →
    ((r : Row) → Contains g.rows r → r.shape ≢ shape (normal_node g i)) → ¬ Contains g.waiting i → ¬ Contains s.pending i →
    Absorbs a (s.data_of (find_class g.found i)) (made a s (row_for g i).shape) →
    RunsWithData a (with_new_row g i) (record s { pending = i ∷ s.pending }) 1 (with_quiet_row g i) s

-- from rest a class can be made of each new node, and all is at rest again: the data of the older classes has gone down, the new
-- class's absorbs what its node makes, and it waits to be modified, as do those whose data has changed
abbrev pub AddingEndsAtRestWithData : Type 0 → Type 0
AddingEndsAtRestWithData D =
    (a : Analysis D) → IsMerge D a → (g : State) (s : DataPart D) → RestsWithData a g s → (c : DTerm) → IsNew g.nodes c →
    ((h : State) × (t : DataPart D) × AddsWithData a g s c h t)
    × ((h : State) (t : DataPart D) → AddsWithData a g s c h t →
    Adds g c h × RestsWithData a h t × DataGoesDown a g s h t
    × Absorbs a (t.data_of (find_class h.found (length g.nodes))) (made_of_found a g s c)
    × Contains t.changed (length g.nodes) × HasNotedAll g s h t)

-- from rest each two full ids can be asserted to be equal, and all is at rest again: data has gone down, so that of their class
-- absorbs what both had, and the size with heights is no larger
abbrev pub AssertingEndsAtRestWithData : Type 0 → Type 0
AssertingEndsAtRestWithData D =
    (a : Analysis D) → IsMerge D a → (g : State) (s : DataPart D) → RestsWithData a g s → (x y : Applied) → IsFull g.nodes x →
    IsFull g.nodes y →
    ((h : State) × (t : DataPart D) × AssertsWithData a g s x y h t)
    × ((h : State) (t : DataPart D) → AssertsWithData a g s x y h t →
    Asserts g x y h × RestsWithData a h t × DataGoesDown a g s h t × GoesDown a s t × (size_with_data a h t ≤ size_with_data a g s)
    × Absorbs a (t.data_of (find_class h.found x.0)) (s.data_of (find_class g.found x.0))
    × Absorbs a (t.data_of (find_class h.found x.0)) (s.data_of (find_class g.found y.0)))

-- proofs that assert nothing, as those of explanations, change no data; nor does a shortcut, by which the entry of a dead class
-- leads at once to what is found
abbrev pub ProofsAndShortcutsKeepData : Type 0 → Type 0
ProofsAndShortcutsKeepData D =
    (a : Analysis D) (g : State) (s : DataPart D) → RestsWithData a g s →
    ((proofs : List ProofEntry) → ProofsGrow g.nodes g.proofs proofs → RestsWithData a (with_proofs g proofs) s)
    × ((i proof : ℕ) → i < length g.nodes → ¬ IsLive g.found i → proof < length g.proofs →
    equation_at g.proofs proof ≡ find_equation g.nodes g.found i →
    RestsWithData a (record g { found = with_shortcut g.found i proof }) s)

-- all these laws
pub record WriteLaws (D : Type 0) (is_known : DTerm → Type 0) : Type 0 where
  pub nothing_rests_with_data : NothingRestsWithData D
  pub merging_ends_at_rest : MergingEndsAtRest D
  pub new_classes_keep_data : NewClassesKeepData D
  pub new_rows_make_the_same : NewRowsMakeTheSame D is_known
  pub quiet_turns_with_data : QuietTurnsWithData D
  pub adding_ends_at_rest_with_data : AddingEndsAtRestWithData D
  pub asserting_ends_at_rest_with_data : AssertingEndsAtRestWithData D
  pub proofs_and_shortcuts_keep_data : ProofsAndShortcutsKeepData D
