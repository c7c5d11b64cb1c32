-- Rest: what a graph keeps through all its changes, and what holds besides when nothing is left to do.
--     UpToSymmetries g a b   a and b are equal up to listed symmetries
--     LinkedTo g i o         the nodes of the classes i and o have one normal form, for ids that are equal up to listed symmetries
--     IsAligned, IsOpen      a listed symmetry whose sides find one set of names; whose sides do not find alike
--     Sane g                 what holds through all changes
--     Represents g           the node of each class is filed, and asserted equations hold, up to listed symmetries
--     AtRest g               both, and nothing waits and each listed symmetry is aligned
--     size g                 the number that each change of finds lowers
--     IsAffected g c         an open symmetry may show in what is looked up for the class c
--     RestGives g            what a graph at rest owes to completeness
use Rattle.std.specs.Prelude.{◌≡◌, ◌≢◌, ℕ, suc, ◌+◌, ◌<◌, List, [], ◌∷◌, length, Contains, Bool, IsTrue, cond, nat_eq, Some}
use Rattle.std.specs.Map.{keys_of, values_of}
use Rattle.slotted_theory.specs.Nameless.{DTerm}
use Rattle.slotted_theory.specs.Renaming.{IsInjective}
use Rattle.slotted_theory.specs.FiniteMaps.{IsInjectiveMap}
use Rattle.slotted_theory.specs.Shape.{shape}
use Rattle.slotted_model.specs.Ascending.{IsAscending, ascending, names}
use Rattle.slotted_model.specs.Applied.{Applied, keys, values, renamed_id, EachChild}
use Rattle.slotted_model.specs.Classes.{canonical_slots, IsFull}
use Rattle.slotted_model.specs.Correspondence.{AllDifferent, IsPartialInjection, identity}
use Rattle.slotted_model.specs.Filling.{IsValid}
use Rattle.slotted_model.specs.Find.{Entry, find_class, used_slots, find}
use Rattle.slotted_model.specs.Normal.{normal}
use Rattle.slotted_model.specs.ProofList.{explicit, equation_of, equation_at, step_at, node_of}
use Rattle.slotted_model.specs.Sound.{Sound}
use Rattle.slotted_model.specs.State.{Row, Symmetry, State, sources, filed_node, normal_node, look_up_node, left_of, right_of, child_classes}

-- an id that a find takes
abbrev pub IsValidIn : State → Applied → Type 0
IsValidIn g a = IsValid (used_slots g.found) g.nodes a

-- a chain of steps from a to b: over ids that find alike, and over the two sides of a listed symmetry, with any names put in
pub data UpToSymmetries (g : State) : Applied → Applied → Type 0 where
  found_alike : {a b : Applied} → IsValidIn g a → IsValidIn g b → find g.found a ≡ find g.found b → UpToSymmetries g a b
  listed : (y : Symmetry) (f : ℕ → ℕ) → Contains g.symmetries y → IsInjective f →
      UpToSymmetries g (renamed_id f (left_of y)) (renamed_id f (right_of y))
  turned_round : {a b : Applied} → UpToSymmetries g a b → UpToSymmetries g b a
  joined : {a b c : Applied} → UpToSymmetries g a b → UpToSymmetries g b c → UpToSymmetries g a c

-- there are full ids of i and o that are equal up to listed symmetries, and whose nodes have one normal form
pub record LinkedTo (g : State) (i o : ℕ) : Type 0 where
  pub left : Applied
  pub right : Applied
  pub left_class : left.0 ≡ i
  pub right_class : right.0 ≡ o
  pub left_full : IsFull g.nodes left
  pub right_full : IsFull g.nodes right
  pub same : normal g.found (node_of g.nodes left) ≡ normal g.found (node_of g.nodes right)
  pub equal : UpToSymmetries g left right

-- the names of an applied id, ascending
abbrev pub id_names : Applied → List ℕ
id_names a = ascending (values a.1)

-- the two sides find one set of names
abbrev pub IsAligned : State → Symmetry → Type 0
IsAligned g y = id_names (find g.found (left_of y)) ≡ id_names (find g.found (right_of y))

-- the two sides do not find alike
abbrev pub IsOpen : State → Symmetry → Type 0
IsOpen g y = find g.found (left_of y) ≢ find g.found (right_of y)

-- no listed symmetry of this live class is open
abbrev pub HasNoOpenSymmetry : State → ℕ → Type 0
HasNoOpenSymmetry g c = (y : Symmetry) → Contains g.symmetries y → find_class g.found y.class ≡ c → ¬ IsOpen g y

-- what holds of each row: a shape over valid ids, with a canonical slot of the source for each name, and the filed node and the
-- canonical node of the source have one normal form
pub record IsRow (g : State) (r : Row) : Type 0 where
  pub in_range : r.source < length g.nodes
  pub operator : 0 < r.shape.op
  pub children : EachChild (IsValidIn g) r.shape.args
  pub is_shape : shape r.shape ≡ r.shape
  pub numbers : keys r.slots ≡ names r.shape
  pub injective : IsInjectiveMap r.slots
  pub within : (s : ℕ) → Contains (values r.slots) s → Contains (canonical_slots g.nodes r.source) s
  pub normal_form : normal g.found (filed_node r) ≡ normal_node g r.source

-- what holds of each row that does not wait: the filed node is in normal form, and has each slot that the source still uses
pub record IsCurrent (g : State) (r : Row) : Type 0 where
  pub in_normal_form : filed_node r ≡ normal_node g r.source
  pub covered : (s : ℕ) → Contains (used_slots g.found r.source) s → Contains (names (normal_node g r.source)) s

-- what holds of the rows: no source and no shape stands twice, only sources of rows wait, none twice, and a row that does not wait is current
pub record Filed (g : State) : Type 0 where
  pub each : (r : Row) → Contains g.rows r → IsRow g r
  pub once : AllDifferent (sources g.rows)
  pub shapes : (r q : Row) → Contains g.rows r → Contains g.rows q → r.shape ≡ q.shape → r.source ≡ q.source
  pub waits_once : AllDifferent g.waiting
  pub waits_for_row : (o : ℕ) → Contains g.waiting o → Contains (sources g.rows) o
  pub current : (r : Row) → Contains g.rows r → ¬ Contains g.waiting r.source → IsCurrent g r

-- what holds of each listed symmetry: its slots are canonical slots of the class, and all that the class still uses; it is a
-- bijection of them, not the identity; and its proof says just this
pub record IsListed (g : State) (y : Symmetry) : Type 0 where
  pub in_range : y.class < length g.nodes
  pub ascending : IsAscending y.slots
  pub used : (s : ℕ) → Contains (used_slots g.found y.class) s → Contains y.slots s
  pub within : (s : ℕ) → Contains y.slots s → Contains (canonical_slots g.nodes y.class) s
  pub bijection : IsPartialInjection y.slots y.slots y.pairs
  pub total : keys_of y.pairs ≡ y.slots
  pub onto : (t : ℕ) → Contains y.slots t → Contains (values_of y.pairs) t
  pub moves : y.pairs ≢ identity y.slots
  pub proof : y.proof < length g.proofs
  pub exact : equation_at g.proofs y.proof ≡ record { left = y.class; right = y.class; pairs = y.pairs }

-- what holds through all changes: sound storage, and what holds of rows and listed symmetries, none of which is listed twice
pub record Sane (g : State) : Type 0 where
  pub sound : Sound g.nodes g.found g.proofs
  pub filed : Filed g
  pub each_listed : (y : Symmetry) → Contains g.symmetries y → IsListed g y
  pub listed_once : (y z : Symmetry) → Contains g.symmetries y → Contains g.symmetries z → y.class ≡ z.class → y.slots ≡ z.slots →
      y.pairs ≡ z.pairs → y ≡ z

-- up to listed symmetries the node of each class is filed, and the sides of each asserted equation are equal
pub record Represents (g : State) : Type 0 where
  pub linked : (i : ℕ) → i < length g.nodes → (o : ℕ) × Contains (sources g.rows) o × LinkedTo g i o
  pub asserted : (p : ℕ) → p < length g.proofs → step_at g.proofs p ≡ explicit →
      (a b : Applied) → IsFull g.nodes a → IsFull g.nodes b → equation_of a b ≡ equation_at g.proofs p → UpToSymmetries g a b

-- nothing waits, and each listed symmetry is aligned
pub record AtRest (g : State) : Type 0 where
  pub sane : Sane g
  pub represents : Represents g
  pub nothing_waits : g.waiting ≡ []
  pub aligned : (y : Symmetry) → Contains g.symmetries y → IsAligned g y

-- one for a live class, and one for each of its slots, which its entry pairs with themselves
abbrev pub entry_size : ℕ → Entry → ℕ
entry_size i e = cond (nat_eq e.class i) (suc (length e.pairs)) 0

-- the same of all entries, where i is the class of the first one
abbrev pub size_from : ℕ → List Entry → ℕ
size_from i [] = 0
size_from i (e ∷ found) = entry_size i e + size_from (suc i) found

-- the live classes and their slots
abbrev pub size : State → ℕ
size g = size_from 0 g.found

-- how many of the entries are of live classes, where i is the class of the first one
abbrev pub lives_from : ℕ → List Entry → ℕ
lives_from i [] = 0
lives_from i (e ∷ found) = cond (nat_eq e.class i) 1 0 + lives_from (suc i) found

-- how many slots these have
abbrev pub slots_from : ℕ → List Entry → ℕ
slots_from i [] = 0
slots_from i (e ∷ found) = cond (nat_eq e.class i) (length e.pairs) 0 + slots_from (suc i) found

-- the least set of classes that has the class of each open symmetry, and that of each filed node over a class of the set
pub data IsAffected (g : State) : ℕ → Type 0 where
  by_symmetry : (y : Symmetry) → Contains g.symmetries y → IsOpen g y → IsAffected g (find_class g.found y.class)
  by_child : {c : ℕ} (r : Row) → Contains g.rows r → Contains (child_classes r.shape.args) c → IsAffected g c →
      IsAffected g (find_class g.found r.source)

-- a test of classes that says yes to the class of each open symmetry, and to that of each filed node over a class to which it
-- says yes: all that completeness needs of affected classes
pub record CoversAffected (g : State) (marked : ℕ → Bool) : Type 0 where
  pub symmetries : (y : Symmetry) → Contains g.symmetries y → IsOpen g y → IsTrue (marked (find_class g.found y.class))
  pub parents : (r : Row) (c : ℕ) → Contains g.rows r → Contains (child_classes r.shape.args) c → IsTrue (marked c) →
      IsTrue (marked (find_class g.found r.source))

-- the sides a and x are equal up to listed symmetries, so they find one class and one set of names, and find alike where no
-- listed symmetry of that class is open
pub record FoundTogether (g : State) (a x : Applied) : Type 0 where
  pub equal : UpToSymmetries g a x
  pub class : find_class g.found a.0 ≡ find_class g.found x.0
  pub names : id_names (find g.found a) ≡ id_names (find g.found x)
  pub alike : HasNoOpenSymmetry g (find_class g.found a.0) → find g.found a ≡ find g.found x

-- the node of a's class with a's names is looked up: the answer x is in normal form and found together with a, and the row of the
-- node's shape is a row of a's class
pub record LookedUp (g : State) (a : Applied) : Type 0 where
  pub answer : Applied
  pub looked_up : look_up_node g (node_of g.nodes a) ≡ Some answer
  pub normal_form : find g.found answer ≡ answer
  pub together : FoundTogether g a answer
  pub row : Row
  pub filed : Contains g.rows row
  pub shape_of_row : row.shape ≡ shape (normal_node g a.0)
  pub class_of_row : find_class g.found row.source ≡ find_class g.found a.0

-- x is what a full id finds whose node has the normal form of d
pub record IsAnswer (g : State) (d : DTerm) (x : Applied) : Type 0 where
  pub id : Applied
  pub full : IsFull g.nodes id
  pub same : normal g.found (node_of g.nodes id) ≡ normal g.found d
  pub found : find g.found id ≡ x

-- what rest gives, and all that completeness needs of it: the node of each class is looked up under all names, and the sides of
-- each asserted equation are found together
pub record RestGives (g : State) : Type 0 where
  pub nodes : (a : Applied) → IsFull g.nodes a → LookedUp g a
  pub asserted : (p : ℕ) → p < length g.proofs → step_at g.proofs p ≡ explicit →
      (a b : Applied) → IsFull g.nodes a → IsFull g.nodes b → equation_of a b ≡ equation_at g.proofs p → FoundTogether g a b
