-- Nodes in normal form, whose children are what is found.
use Rattle.std.specs.Prelude.{◌≡◌, ℕ, List, Contains, ◌↔◌}
use Rattle.std.specs.Map.{keys_of, values_of}
use Rattle.slotted_theory.specs.Nameless.{DArgs, DTerm, stop, place, sub, scope}
use Rattle.slotted_theory.specs.Shape.{free_names, number_in}
use Rattle.slotted_theory.proofs.Values.{node, child_before}
use Rattle.slotted_model.specs.Ascending.{names}
use Rattle.slotted_model.specs.Applied.{Applied, keys, as_term, applied_of}
use Rattle.slotted_model.specs.Classes.{canonical_node, IsFull}
use Rattle.slotted_model.specs.Correspondence.{same_names}
use Rattle.slotted_model.specs.Find.{Entry, IsLive, used_slots, find}
use Rattle.slotted_model.specs.ProofList.{Equation, equation_of, node_of, IsCongruent}

-- the arguments with what is found in the place of each child
abbrev pub normal_args : List Entry → DArgs → DArgs
normal_args found stop = stop
normal_args found (place x rest) = place x (normal_args found rest)
normal_args found (sub op payloads args rest) = child_before (as_term (find found (applied_of payloads args))) (normal_args found rest)
normal_args found (scope inner rest) = scope (normal_args found inner) (normal_args found rest)

-- the node in normal form
abbrev pub normal : List Entry → DTerm → DTerm
normal found d = node d.op d.payloads (normal_args found d.args)

-- a live class with names for just its slots
abbrev pub IsFound : List Entry → Applied → Type 0
IsFound found a = IsLive found a.0 × (keys a.1 ≡ used_slots found a.0)

-- the equation is that of two full ids that find alike
pub record IsOfFoundAlike (nodes : List DTerm) (found : List Entry) (e : Equation) : Type 0 where
  pub left : Applied
  pub right : Applied
  pub left_full : IsFull nodes left
  pub right_full : IsFull nodes right
  pub equation : equation_of left right ≡ e
  pub alike : find found left ≡ find found right

-- the equation is proved by a congruent step over equations of children that find alike
pub record IsCongruentByFinds (nodes : List DTerm) (found : List Entry) (e : Equation) : Type 0 where
  pub parts : List Equation
  pub congruent : IsCongruent nodes e parts
  pub alike : (q : Equation) → Contains parts q → IsOfFoundAlike nodes found q

-- full ids whose nodes have one normal form, and which share the names of that and no others
pub record HasNormalTwin (nodes : List DTerm) (found : List Entry) (a b : Applied) : Type 0 where
  pub full : IsFull nodes b
  pub same : normal found (node_of nodes a) ≡ normal found (node_of nodes b)
  pub left_names : (s : ℕ) → Contains (keys_of (same_names a.1 b.1)) s ↔ Contains (names (normal found (canonical_node nodes a.0))) s
  pub right_names : (t : ℕ) → Contains (values_of (same_names a.1 b.1)) t ↔ Contains (names (normal found (canonical_node nodes b.0))) t

-- a slot of the class i and one of the class j stand in the normal forms of their nodes and have one number in the shapes of these
pub record HasOneNumber (found : List Entry) (nodes : List DTerm) (i j s t : ℕ) : Type 0 where
  pub left : Contains (names (normal found (canonical_node nodes i))) s
  pub right : Contains (names (normal found (canonical_node nodes j))) t
  pub number : number_in (free_names (normal found (canonical_node nodes i)).args) s ≡ number_in (free_names (normal found (canonical_node nodes j)).args) t

-- the same places and scopes, and children that find alike in turn
abbrev pub EqualInTurn : List Entry → DArgs → DArgs → Type 0
EqualInTurn found stop e = e ≡ stop
EqualInTurn found (place x rest) e = (r : DArgs) × (e ≡ place x r) × EqualInTurn found rest r
EqualInTurn found (sub op payloads args rest) e =
    (b : Applied) × (r : DArgs) × (e ≡ child_before (as_term b) r) × (find found (applied_of payloads args) ≡ find found b) ×
    EqualInTurn found rest r
EqualInTurn found (scope inner rest) e = (i : DArgs) × (r : DArgs) × (e ≡ scope i r) × EqualInTurn found inner i × EqualInTurn found rest r
