-- Frames of a substitution: nodes whose children are replaced, and those that wait for one of their children.
--     IsEntered g h x t b f            what is known where the walk enters the id b of the graph g, and h is left: f is its node
--     IsWalked g h x t f n changed k   from g to h k children of f were replaced, and n is the node over what came of them
--     IsKnownAnswer x t b a            a is the answer for b, which is not looked into
--     IsFrameFor form g i x t b r      from g to i the first children of the node of b were replaced
--     Waits form g i x t b rs c        from g to i these frames came to wait for c, and so what is to come of b
--     IsStackFor form g i x t b s      from g to i the stack came to be, and makes what is to come of b
--     TakesAnswer form r s a           the frame s is r with the answer a for one child more
--     work_left form nodes s           a number of steps that is enough for what the stack makes
use Rattle.std.specs.Prelude.{◌≡◌, ◌≢◌, ◌⊎◌, ◌<◌, ◌≤◌, ◌+◌, ◌*◌, ℕ, suc, List, [], ◌∷◌, All, Bool, false, drop, length, slice_index_or, take}
use Rattle.std.specs.List.{sum_by}
use Rattle.slotted_slots.specs.declared.types.AppliedId.{AppliedId}
use Rattle.slotted_theory.specs.Nameless.{DTerm}
use Rattle.slotted_nodes.specs.Form.{Form, children, with_applied}
use Rattle.slotted_languages.specs.Shape.{Fits}
use Rattle.slotted_model.specs.Applied.{Applied}
use Rattle.slotted_model.specs.Classes.{IsFull}
use Rattle.slotted_proofs.specs.Equations.{to_applied}
use Rattle.slotted_classes.specs.ChildIds.{child_ids}
use Rattle.slotted_lookup.specs.Filling.{node_over}
use Rattle.slotted_operations.specs.Canonical.{IsNodeOf}
use Rattle.slotted_operations.proofs.Ids.NodeCounts.{ids_nodes}
use Rattle.slotted_graph.specs.Graph.{Graph, IsFullId, OnlyTakesSlots}
use Rattle.slotted_graph.specs.States.{IsGraph}
use Rattle.slotted_graph.specs.Syn.{HasUnknownBinders}
use Rattle.slotted_graph.specs.ValidIds.{IsValidNode}
use Rattle.slotted_model_rules.specs.ReplacedIds.{IsOlderOrLacks, IsReplaced}
use Rattle.slotted_rules.specs.declared.substitution.Frame.{Frame}
use Rattle.slotted_rules.specs.declared.substitution.Stack.{Stack}
use Rattle.slotted_rules.specs.Building.{Builds}
use Rattle.slotted_rules.specs.Substituting.{Replaces}

-- the id with this number
abbrev pub at : List Applied → ℕ → Applied
at bs k = slice_index_or bs k (0, [])

-- what is known where the walk enters the id b of the graph g, and h is left: f is its node with fresh binders
pub record IsEntered (g h : Graph) (x t b : Applied) (f : Form) : Type 0 where
  pub graph : IsGraph g
  pub part : IsFullId g x
  pub value : IsFullId g t
  pub body : IsFullId g b
  pub takes : OnlyTakesSlots g h
  pub node : IsNodeOf g.image.canonical b f
  pub fresh : HasUnknownBinders g.table f
  pub valid : IsValidNode h f
  pub children_full : All (IsFull h.image.canonical) (child_ids f)
  pub fits : Fits f

-- after k children: n is the node over what came of these, and `same` says that each was left as it was
pub record IsWalked (g h : Graph) (x t : Applied) (f n : Form) (changed : Bool) (k : ℕ) : Type 0 where
  pub ids : List Applied
  pub count : length ids ≡ k
  pub form : n ≡ node_over f ids
  pub builds : Builds g h
  pub later : (j : ℕ) → k ≤ j → at (child_ids n) j ≡ at (child_ids f) j
  pub full : (j : ℕ) → j < k → IsFullId h (at ids j)
  pub replaced : (j : ℕ) → j < k → IsReplaced h.image.canonical x t (at (child_ids f) j) (at ids j)
  pub same : changed ≡ false → ids ≡ take k (child_ids f)

-- b is left as it is, since x stands nowhere in it, or is x
abbrev pub IsKnownAnswer : Applied → Applied → Applied → Applied → Type 0
IsKnownAnswer x t b a = (IsOlderOrLacks b x × (a ≡ b)) ⊎ ((b ≡ x) × (a ≡ t))

-- the id b of the graph g was entered, and h was left: no child of its node is replaced yet
pub record Opens {L : Type 0} (form : L → Form) (g h : Graph) (b : Applied) (r : Frame L) : Type 0 where
  pub id : to_applied r.id ≡ b
  pub takes : OnlyTakesSlots g h
  pub node : IsNodeOf g.image.canonical b (form r.node)
  pub fresh : HasUnknownBinders g.table (form r.node)
  pub valid : IsValidNode h (form r.node)
  pub children_full : All (IsFull h.image.canonical) (child_ids (form r.node))
  pub count : r.count ≡ length (children (form r.node).tree)
  pub next : r.next ≡ 0
  pub changed : r.changed ≡ false

pub record IsFrameFor {L : Type 0} (form : L → Form) (g i : Graph) (x t b : Applied) (r : Frame L) : Type 0 where
  pub id : to_applied r.id ≡ b
  pub other : b ≢ x
  pub opened : Graph
  pub first : Form
  pub entered : IsEntered g opened x t b first
  pub walked : IsWalked opened i x t first (form r.node) r.changed r.next
  pub count : r.count ≡ length (children first.tree)
  pub within : r.next ≤ r.count

-- the child whose turn it is
abbrev pub next_child : {L : Type 0} → (L → Form) → Frame L → Applied
next_child form r = at (child_ids (form r.node)) r.next

-- a frame that lacks the child whose turn it is
abbrev pub IsOpen : {L : Type 0} → Frame L → Type 0
IsOpen r = r.next < r.count

-- a frame all of whose children are replaced
pub record IsDone {L : Type 0} (form : L → Form) (i : Graph) (r : Frame L) : Type 0 where
  pub start : Graph
  pub part : Applied
  pub value : Applied
  pub body : Applied
  pub frame : IsFrameFor form start i part value body r
  pub whole : r.next ≡ r.count

-- a is the answer of each frame that is done
abbrev pub Closes : {L : Type 0} → (L → Form) → Graph → Graph → Frame L → Applied → Type 0
Closes form i j r a = (g : Graph) (x t b : Applied) → IsFrameFor form g i x t b r → Replaces g j x t b a

pub record TakesAnswer {L : Type 0} (form : L → Form) (r s : Frame L) (a : AppliedId) : Type 0 where
  pub id : s.id ≡ r.id
  pub count : s.count ≡ r.count
  pub next : s.next ≡ r.next + 1
  pub node : form s.node ≡ with_applied (form r.node) r.next a
  pub stays : s.changed ≡ false → (r.changed ≡ false) × (to_applied a ≡ next_child form r)

abbrev pub Waits : {L : Type 0} → (L → Form) → Graph → Graph → Applied → Applied → Applied → List (Frame L) → Applied → Type 0
Waits form g i x t b [] c = (g ≡ i) × (b ≡ c)
Waits form g i x t b (r ∷ rs) c = (m : Graph) × IsFrameFor form g m x t b r × IsOpen r × Waits form m i x t (next_child form r) rs c

pub record IsStackFor {L : Type 0} (form : L → Form) (g i : Graph) (x t b : Applied) (s : Stack L) : Type 0 where
  pub middle : Graph
  pub last : Applied
  pub waits : Waits form g middle x t b s.waiting.items last
  pub current : IsFrameFor form middle i x t last s.current

abbrev pub IsStack : {L : Type 0} → (L → Form) → Graph → Applied → Applied → Stack L → Type 0
IsStack form i x t s = (g : Graph) × (b : Applied) × IsStackFor form g i x t b s

-- what is to come of the old stack is to come of the new one
abbrev pub KeepsGoal : {L : Type 0} → (L → Form) → Graph → Graph → Applied → Applied → Stack L → Stack L → Type 0
KeepsGoal form i j x t r s = (g : Graph) (b : Applied) → IsStackFor form g i x t b r → IsStackFor form g j x t b s

-- no frame waits, and the current one is done
pub record IsClosing {L : Type 0} (s : Stack L) : Type 0 where
  pub alone : s.waiting.items ≡ []
  pub whole : s.current.next ≡ s.current.count

-- two steps for each node under the children from the one of this number on
abbrev pub work_from : {L : Type 0} → (L → Form) → List DTerm → ℕ → Frame L → ℕ
work_from form nodes n r = suc (2 * ids_nodes nodes (drop n (child_ids (form r.node))))

abbrev pub waiting_work : {L : Type 0} → (L → Form) → List DTerm → Frame L → ℕ
waiting_work form nodes r = work_from form nodes (suc r.next) r

abbrev pub work_left : {L : Type 0} → (L → Form) → List DTerm → Stack L → ℕ
work_left form nodes s = sum_by (waiting_work form nodes) s.waiting.items + work_from form nodes s.current.next s.current

-- nodes that were there when the stack began
abbrev pub IsLessWork : {L : Type 0} → (L → Form) → Graph → Applied → Applied → Stack L → Stack L → Type 0
IsLessWork form i x t r s = (g : Graph) (b : Applied) → IsStackFor form g i x t b r →
    work_left form g.image.canonical s < work_left form g.image.canonical r
