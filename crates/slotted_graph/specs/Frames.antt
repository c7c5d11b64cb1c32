-- Frames of a term that is made: a node with the terms of its first children, and those that wait for one of their children.
--     IsFrameFor form es a f     the node is that of the entry of a's class, with a's names, and its first children are made
--     has_all form f             it has all of them
--     Waits form es a fs b       what is made for a comes from these frames once the term for b is made
--     IsStackFor form es a s     what is made for a comes from the stack
--     IsKnownFrame form t f      the table knows the node's names, and the terms are valid over it
--     IsFreshFrame form t vs f   the table t knew no name of the node and of the terms, but those of vs
--     work_left form es s        a number of steps that is enough for what the stack makes
--     slots_left form es s       such a number of fresh slots
use Rattle.std.specs.Prelude.{◌≡◌, ◌⊎◌, ◌<◌, ◌≤◌, ◌+◌, ◌*◌, ℕ, suc, List, [], ◌∷◌, All, Bool, Option, Some, drop, length, leb, slice_index_or, take}
use Rattle.std.specs.List.{sum_by}
use Rattle.slotted_theory.specs.Term.{Term}
use Rattle.slotted_slots.specs.Table.{KnowsMore, Table}
use Rattle.slotted_nodes.specs.Form.{Form, children}
use Rattle.slotted_languages.specs.NewNames.{IsTooLarge}
use Rattle.slotted_terms.specs.Valid.{IsValidTerm}
use Rattle.slotted_model.specs.Applied.{Applied}
use Rattle.slotted_classes.specs.ChildIds.{child_ids}
use Rattle.slotted_hashcons.specs.FiledRows.{key_children}
use Rattle.slotted_lookup.specs.Enodes.{AllKnownTo}
use Rattle.slotted_lookup.specs.Filling.{MakesAtMost, RunsOut}
use Rattle.slotted_reports.specs.Nodes.{HasFreshNames}
use Rattle.slotted_graph.specs.declared.entry.TermEntry.{TermEntry}
use Rattle.slotted_graph.specs.declared.extracting.Frame.{Frame}
use Rattle.slotted_graph.specs.declared.extracting.Stack.{Stack}
use Rattle.slotted_graph.specs.Terms.{AreMade, IsFreshTerm, IsNamedBy, RunsOutWith, entry_at, slots_of, sum_for}

abbrev pub ids_of : {L : Type 0} → (L → Form) → Frame L → List Applied
ids_of form f = child_ids (form f.node)

-- how many children are made
abbrev pub made_count : {L : Type 0} → Frame L → ℕ
made_count f = length f.children.items

abbrev pub has_all : {L : Type 0} → (L → Form) → Frame L → Bool
has_all form f = leb (length (children (form f.node).tree)) (made_count f)

-- the child whose turn it is
abbrev pub next_child : {L : Type 0} → (L → Form) → Frame L → Applied
next_child form f = slice_index_or (ids_of form f) (made_count f) (0, [])

pub record IsFrameFor {L C : Type 0} (form : L → Form) (es : List (Option (TermEntry L C))) (a : Applied) (f : Frame L) : Type 0 where
  pub entry : TermEntry L C
  pub there : entry_at es a.0 ≡ Some entry
  pub named : IsNamedBy entry.names (form entry.node) a (form f.node)
  pub made : AreMade form es (take (made_count f) (ids_of form f)) f.children.items

-- a frame that lacks the child whose turn it is
abbrev pub IsOpen : {L : Type 0} → (L → Form) → Frame L → Type 0
IsOpen form f = made_count f < length (ids_of form f)

abbrev pub Waits : {L C : Type 0} → (L → Form) → List (Option (TermEntry L C)) → Applied → List (Frame L) → Applied → Type 0
Waits form es a [] b = a ≡ b
Waits form es a (f ∷ fs) b = IsFrameFor form es a f × IsOpen form f × Waits form es (next_child form f) fs b

pub record IsStackFor {L C : Type 0} (form : L → Form) (es : List (Option (TermEntry L C))) (a : Applied) (s : Stack L) : Type 0 where
  pub last : Applied
  pub waits : Waits form es a s.waiting.items last
  pub current : IsFrameFor form es last s.current

abbrev pub IsStack : {L C : Type 0} → (L → Form) → List (Option (TermEntry L C)) → Stack L → Type 0
IsStack form es s = (a : Applied) × IsStackFor form es a s

-- what is made of the old stack is made of the new one
abbrev pub KeepsGoal : {L C : Type 0} → (L → Form) → List (Option (TermEntry L C)) → Stack L → Stack L → Type 0
KeepsGoal form es s t = (a : Applied) → IsStackFor form es a s → IsStackFor form es a t

pub record IsKnownFrame {L : Type 0} (form : L → Form) (t : Table) (f : Frame L) : Type 0 where
  pub names : AllKnownTo t (form f.node).names
  pub operators : All (λ (u : Term). 0 < u.op) f.children.items
  pub children : All (IsValidTerm t) f.children.items

pub record IsKnownStack {L : Type 0} (form : L → Form) (t : Table) (s : Stack L) : Type 0 where
  pub waiting : All (IsKnownFrame form t) s.waiting.items
  pub current : IsKnownFrame form t s.current

-- no frame waits, and the current one has all its children
pub record IsClosing {L : Type 0} (form : L → Form) (s : Stack L) : Type 0 where
  pub alone : s.waiting.items ≡ []
  pub whole : length s.current.children.items ≡ length (children (form s.current.node).tree)

-- two steps for each node
abbrev pub steps_of : {L C : Type 0} → TermEntry L C → ℕ
steps_of e = 2

abbrev pub work_for : {L C : Type 0} → (L → Form) → List (Option (TermEntry L C)) → ℕ → ℕ
work_for form es c = sum_for form steps_of es c

-- the sums for the children from the one of this number on
abbrev pub rest_from : {L C : Type 0} → (L → Form) → (TermEntry L C → ℕ) → List (Option (TermEntry L C)) → ℕ → Frame L → ℕ
rest_from form weight es n f = sum_by (sum_for form weight es) (drop n (key_children (form f.node)))

abbrev pub waiting_rest : {L C : Type 0} → (L → Form) → (TermEntry L C → ℕ) → List (Option (TermEntry L C)) → Frame L → ℕ
waiting_rest form weight es f = rest_from form weight es (suc (made_count f)) f

abbrev pub work_from : {L C : Type 0} → (L → Form) → List (Option (TermEntry L C)) → ℕ → Frame L → ℕ
work_from form es n f = suc (rest_from form steps_of es n f)

abbrev pub waiting_work : {L C : Type 0} → (L → Form) → List (Option (TermEntry L C)) → Frame L → ℕ
waiting_work form es f = work_from form es (suc (made_count f)) f

abbrev pub work_left : {L C : Type 0} → (L → Form) → List (Option (TermEntry L C)) → Stack L → ℕ
work_left form es s = sum_by (waiting_work form es) s.waiting.items + work_from form es (made_count s.current) s.current

abbrev pub IsLessWork : {L C : Type 0} → (L → Form) → List (Option (TermEntry L C)) → Stack L → Stack L → Type 0
IsLessWork form es s t = work_left form es t < work_left form es s

-- the slots that are enough for the nodes to come
abbrev pub slots_left : {L C : Type 0} → (L → Form) → List (Option (TermEntry L C)) → Stack L → ℕ
slots_left form es s =
    sum_by (waiting_rest form (slots_of form) es) s.waiting.items + rest_from form (slots_of form) es (made_count s.current) s.current

-- what slots are made from t to u are those that the new stack lacks no more
abbrev pub MakesSlots : {L C : Type 0} → (L → Form) → List (Option (TermEntry L C)) → Table → Table → Stack L → Stack L → Type 0
MakesSlots form es t u r s = u.fresh + slots_left form es s ≤ t.fresh + slots_left form es r

abbrev pub MakesLeft : {L C : Type 0} → (L → Form) → List (Option (TermEntry L C)) → Table → Table → Stack L → Type 0
MakesLeft form es t u s = MakesAtMost (slots_left form es s) t u

-- each name of the node and of the terms is one of vs or new, and binders are new
pub record IsFreshFrame {L : Type 0} (form : L → Form) (t : Table) (vs : List ℕ) (f : Frame L) : Type 0 where
  pub node : HasFreshNames t vs (form f.node)
  pub children : All (IsFreshTerm t vs) f.children.items

pub record IsFreshStack {L : Type 0} (form : L → Form) (t : Table) (vs : List ℕ) (s : Stack L) : Type 0 where
  pub waiting : All (IsFreshFrame form t vs) s.waiting.items
  pub current : IsFreshFrame form t vs s.current

-- what was new to an older table than u is new in the new stack too
abbrev pub KeepsFresh : {L : Type 0} → (L → Form) → Table → Stack L → Stack L → Type 0
KeepsFresh form u r s = (t : Table) (vs : List ℕ) → KnowsMore t u → IsFreshStack form t vs r → IsFreshStack form t vs s

abbrev pub RunsOutForKey : Form → Table → Table → Type 0
RunsOutForKey f t u = RunsOut (2 * length f.names) t u ⊎ IsTooLarge f

abbrev pub RunsOutLeft : {L C : Type 0} → (L → Form) → List (Option (TermEntry L C)) → Table → Table → Stack L → Type 0
RunsOutLeft form es t u s = RunsOutWith form es (slots_left form es s) t u
