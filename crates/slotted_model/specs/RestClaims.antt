-- The laws of a graph at rest and of what leads there, all owed by `rest_laws_hold` in src/rest.rt.
use Rattle.std.specs.Prelude.{◌≡◌, ◌≢◌, ℕ, suc, ◌+◌, ◌-◌, ◌*◌, ◌<◌, ◌≤◌, length, List, [], Contains, Bool, IsTrue, option_map, None, Some, ◌⊎◌}
use Rattle.std.specs.Map.{keys_of, values_of}
use Rattle.slotted_theory.specs.Nameless.{DTerm, moved}
use Rattle.slotted_theory.specs.Renaming.{IsInjective}
use Rattle.slotted_theory.specs.FiniteMaps.{filled}
use Rattle.slotted_theory.specs.Shape.{shape}
use Rattle.slotted_model.specs.Applied.{Applied, renamed_id, EachChild}
use Rattle.slotted_model.specs.Classes.{IsFull}
use Rattle.slotted_model.specs.Correspondence.{identity}
use Rattle.slotted_model.specs.Find.{entry_at, IsLive, find_class, used_slots, find}
use Rattle.slotted_model.specs.Link.{CanLink, IsLater, CanDrop, with_shortcut}
use Rattle.slotted_model.specs.ProofList.{Equation, ProofEntry, explicit, equation_of, turned_equation, equation_at, step_at, find_equation, node_of}
use Rattle.slotted_model.specs.Normal.{normal, EqualInTurn}
use Rattle.slotted_model.specs.State.{Row, Symmetry, State, sources, filed_node, normal_node, look_up_node, look_up_tree, HasTouched}
use Rattle.slotted_model.specs.Rest.{IsValidIn, UpToSymmetries, LinkedTo, IsAligned, HasNoOpenSymmetry, IsRow, IsListed, Sane, Represents, AtRest, size, entry_size, lives_from, slots_from, IsAffected, CoversAffected, FoundTogether, IsAnswer, RestGives}
use Rattle.slotted_model.specs.Changes.{GoesOn, IsEvent, linked_state, dropped_state, ProofsGrow, with_proofs, symmetry_of, with_symmetry, found_entry, StandsAt, PairsAll, Lacks, Unites, HasUnited, RepresentsBut}
use Rattle.slotted_model.specs.Rebuild.{CongruenceEntered, IsCovered, Turn, Acts, HasNothingLeft, Runs, IsRebuilt, HasTurned, HasActed}
use Rattle.slotted_model.specs.Growth.{IsNew}
use Rattle.slotted_model.specs.Adding.{with_new_class, with_new_row, with_quiet_row, with_assertion, Adds, Asserts, HasAdded, HasAsserted, KeepsLookUps, SameAnswers, IsExactAssertion}

-- a node or a tree with other names is looked up as the same id with those names
abbrev pub LookUpsMoveWithNames : Type 0
LookUpsMoveWithNames =
    (g : State) → Sane g → (f : ℕ → ℕ) → IsInjective f → (d : DTerm) →
    (look_up_node g (moved f d) ≡ option_map (renamed_id f) (look_up_node g d))
    × (look_up_tree g (moved f d) ≡ option_map (renamed_id f) (look_up_tree g d))

-- nodes with the same operator, payloads, names and binders whose children find alike in turn are looked up alike
abbrev pub EqualInTurnIsLookedUpAlike : Type 0
EqualInTurnIsLookedUpAlike =
    (g : State) (d e : DTerm) → d.op ≡ e.op → d.payloads ≡ e.payloads → EqualInTurn g.found d.args e.args →
    look_up_node g d ≡ look_up_node g e

-- at rest a filed node, with the names of a full id of its source, is looked up as what that id finds, and each id of the row's class finds
-- what such an id finds
abbrev pub FiledNodesAreLookedUp : Type 0
FiledNodesAreLookedUp =
    (g : State) → AtRest g → (r : Row) → Contains g.rows r →
    ((b : Applied) → IsFull g.nodes b → b.0 ≡ r.source → look_up_node g (moved (filled b.1) (filed_node r)) ≡ Some (find g.found b))
    × ((a : Applied) → IsValidIn g a → find_class g.found a.0 ≡ find_class g.found r.source →
    (b : Applied) × IsFull g.nodes b × (b.0 ≡ r.source) × (find g.found b ≡ find g.found a))

-- ids that are equal up to listed symmetries stay so under other names
abbrev pub EqualityUpToMovesWithNames : Type 0
EqualityUpToMovesWithNames =
    (g : State) (f : ℕ → ℕ) → IsInjective f → (a b : Applied) → UpToSymmetries g a b → UpToSymmetries g (renamed_id f a) (renamed_id f b)

-- only valid ids are equal up to listed symmetries
abbrev pub EqualIdsAreValid : Type 0
EqualIdsAreValid = (g : State) → Sane g → (a b : Applied) → UpToSymmetries g a b → IsValidIn g a × IsValidIn g b

-- they find one class, and find alike where no symmetry of that class is open
abbrev pub EqualIdsFindAlike : Type 0
EqualIdsFindAlike =
    (g : State) (a b : Applied) → UpToSymmetries g a b →
    (find_class g.found a.0 ≡ find_class g.found b.0) × (HasNoOpenSymmetry g (find_class g.found a.0) → find g.found a ≡ find g.found b)

-- where all symmetries are aligned, they find one set of names too
abbrev pub AlignedIdsAreFoundTogether : Type 0
AlignedIdsAreFoundTogether =
    (g : State) → ((y : Symmetry) → Contains g.symmetries y → IsAligned g y) → (a b : Applied) → UpToSymmetries g a b → FoundTogether g a b

-- each class is linked to itself, and links can be turned round and joined
abbrev pub LinksAreAnEquivalence : Type 0
LinksAreAnEquivalence =
    (g : State) → Sane g →
    ((i : ℕ) → i < length g.nodes → LinkedTo g i i)
    × ((i o : ℕ) → LinkedTo g i o → LinkedTo g o i)
    × ((i o j : ℕ) → LinkedTo g i o → LinkedTo g o j → LinkedTo g i j)

-- at rest the node of each class is looked up, and the sides of each asserted equation are found together
abbrev pub RestIsEnough : Type 0
RestIsEnough = (g : State) → AtRest g → RestGives g

-- at rest each answer of a look-up is what a full id finds whose node has the same normal form
abbrev pub AnswersAreFound : Type 0
AnswersAreFound = (g : State) → AtRest g → (d : DTerm) (x : Applied) → look_up_node g d ≡ Some x → IsAnswer g d x

-- at rest full ids whose nodes have one normal form are found together
abbrev pub RestIsCongruent : Type 0
RestIsCongruent =
    (g : State) → AtRest g → (a b : Applied) → IsFull g.nodes a → IsFull g.nodes b →
    normal g.found (node_of g.nodes a) ≡ normal g.found (node_of g.nodes b) → FoundTogether g a b

-- a test that covers affected classes says yes to each of them, and no symmetry of a class to which it says no is open
abbrev pub AffectedIsLeast : Type 0
AffectedIsLeast =
    (g : State) (marked : ℕ → Bool) → CoversAffected g marked →
    ((c : ℕ) → IsAffected g c → IsTrue (marked c)) × ((c : ℕ) → ¬ IsTrue (marked c) → HasNoOpenSymmetry g c)

-- each graph goes on from itself, and from what those before it go on from
abbrev pub GoingOnComposes : Type 0
GoingOnComposes =
    ((g : State) → Sane g → GoesOn g g) × ((f g h : State) → Sane f → GoesOn f g → GoesOn g h → GoesOn f h)

-- where a graph goes on from another, ids that found alike find alike, and those that were equal up to listed symmetries are so: a yes stays a yes
abbrev pub GoingOnKeepsYeses : Type 0
GoingOnKeepsYeses =
    (older newer : State) → Sane older → GoesOn older newer → (a b : Applied) →
    (IsValidIn older a → IsValidIn older b → find older.found a ≡ find older.found b → find newer.found a ≡ find newer.found b)
    × (UpToSymmetries older a b → UpToSymmetries newer a b)

-- normal forms go on from the older ones, so nodes that had one normal form have one, and linked classes are linked
abbrev pub GoingOnKeepsNormalForms : Type 0
GoingOnKeepsNormalForms =
    (older newer : State) → Sane older → GoesOn older newer →
    ((d : DTerm) → EachChild (IsValidIn older) d.args → normal newer.found d ≡ normal newer.found (normal older.found d))
    × ((a b : Applied) → IsFull older.nodes a → IsFull older.nodes b → normal older.found (node_of older.nodes a) ≡ normal older.found (node_of older.nodes b) →
    normal newer.found (node_of newer.nodes a) ≡ normal newer.found (node_of newer.nodes b))
    × ((i o : ℕ) → LinkedTo older i o → LinkedTo newer i o)

-- rows are rows, and listed symmetries are listed as before
abbrev pub GoingOnKeepsRows : Type 0
GoingOnKeepsRows =
    (older newer : State) → Sane older → GoesOn older newer →
    ((r : Row) → IsRow older r → IsRow newer r) × ((y : Symmetry) → IsListed older y → IsListed newer y)

-- a link by an equation that is proved is an event
abbrev pub LinksAreEvents : Type 0
LinksAreEvents =
    (g : State) → Sane g → (e : Equation) (proof moment : ℕ) → CanLink g.nodes g.found e → IsLater g.found moment →
    proof < length g.proofs → equation_at g.proofs proof ≡ e →
    (w : List ℕ) → HasTouched g e.left w → IsEvent g (linked_state g e proof moment w)

-- dropping a slot, by an equation that is proved, is an event
abbrev pub DropsAreEvents : Type 0
DropsAreEvents =
    (g : State) → Sane g → (c : ℕ) (slots : List ℕ) (proof s : ℕ) → CanDrop g.nodes g.found c slots → proof < length g.proofs →
    equation_at g.proofs proof ≡ record { left = c; right = c; pairs = identity slots } →
    Contains (used_slots g.found c) s → ¬ Contains slots s → (w : List ℕ) → HasTouched g c w → IsEvent g (dropped_state g c slots proof w)

-- a link by an equation that pairs all slots of both classes keeps listed symmetries aligned
abbrev pub LinksKeepAligned : Type 0
LinksKeepAligned =
    (g : State) → Sane g → (e : Equation) (proof moment : ℕ) → CanLink g.nodes g.found e → IsLater g.found moment →
    proof < length g.proofs → equation_at g.proofs proof ≡ e →
    (w : List ℕ) → HasTouched g e.left w → PairsAll g e →
    ((s : ℕ) → Contains (values_of e.pairs) s → Contains (used_slots g.found e.right) s) →
    (y : Symmetry) → IsListed g y → IsAligned g y → IsAligned (linked_state g e proof moment w) y

-- a symmetry of all slots that a live class has is aligned
abbrev pub ListedAreAligned : Type 0
ListedAreAligned = (g : State) → Sane g → (y : Symmetry) → IsListed g y → IsLive g.found y.class →
    y.slots ≡ used_slots g.found y.class → IsAligned g y

-- a new class, of which no row is filed yet, keeps a graph sane
abbrev pub NewClassesKeepSane : Type 0
NewClassesKeepSane = (g : State) → Sane g → (c : DTerm) → IsNew g.nodes c → Sane (with_new_class g c) × GoesOn g (with_new_class g c)

-- and so does its row, if no other one has the shape
abbrev pub NewRowsKeepSane : Type 0
NewRowsKeepSane =
    (g : State) → Sane g → (c : DTerm) → IsNew g.nodes c →
    ((r : Row) → Contains g.rows r → r.shape ≢ shape (normal_node (with_new_class g c) (length g.nodes))) →
    Sane (with_new_row (with_new_class g c) (length g.nodes)) × GoesOn g (with_new_row (with_new_class g c) (length g.nodes))

-- where the node of a class that has no row is covered, and no row has its shape, one turn files it and changes nothing else
abbrev pub QuietTurns : Type 0
QuietTurns =
    (g : State) (i : ℕ) → IsCovered g i → ((r : Row) → Contains g.rows r → r.source ≢ i) →
    ((r : Row) → Contains g.rows r → r.shape ≢ shape (normal_node g i)) →
    ¬ Contains g.waiting i → Runs (with_new_row g i) 1 (with_quiet_row g i)

-- and so does an assertion, which need not be respected yet
abbrev pub AssertionsKeepSane : Type 0
AssertionsKeepSane =
    (g : State) → Sane g → (a b : Applied) → IsFull g.nodes a → IsFull g.nodes b →
    ((q : ℕ) → q < length g.proofs → equation_at g.proofs q ≢ equation_of a b) →
    Sane (with_assertion g (equation_of a b)) × GoesOn g (with_assertion g (equation_of a b)) ×
    (Represents g → RepresentsBut (length g.proofs) (with_assertion g (equation_of a b)))

-- the size is one for each live class and one for each of its slots: the entry of a live class has as many pairs as the class has slots
abbrev pub SizeCountsSlots : Type 0
SizeCountsSlots =
    (g : State) → Sane g → (i : ℕ) → i < length g.nodes →
    (IsLive g.found i → entry_size i (entry_at g.found i) ≡ suc (length (used_slots g.found i)))
    × (¬ IsLive g.found i → entry_size i (entry_at g.found i) ≡ 0)

-- where no class and no row is missing, and nothing more is asserted, a graph that goes on represents what the older one did
abbrev pub GoingOnRepresents : Type 0
GoingOnRepresents =
    (older newer : State) → Sane older → GoesOn older newer → length newer.nodes ≡ length older.nodes →
    ((o : ℕ) → Contains (sources older.rows) o → Contains (sources newer.rows) o) →
    ((p : ℕ) → p < length newer.proofs → step_at newer.proofs p ≡ explicit → (p < length older.proofs) × (step_at older.proofs p ≡ explicit)) →
    Represents older → Represents newer

-- more entries of the proof list, which assert nothing, keep a graph sane
abbrev pub NewProofsKeepSane : Type 0
NewProofsKeepSane =
    (g : State) → Sane g → (proofs : List ProofEntry) → ProofsGrow g.nodes g.proofs proofs → Sane (with_proofs g proofs) ×
    GoesOn g (with_proofs g proofs)

-- and so does one more listed symmetry, if it was not listed
abbrev pub NewSymmetriesKeepSane : Type 0
NewSymmetriesKeepSane =
    (g : State) → Sane g → (y : Symmetry) → IsListed g y →
    ((z : Symmetry) → Contains g.symmetries z → z.class ≡ y.class → z.slots ≡ y.slots → z.pairs ≡ y.pairs → ⊥) →
    Sane (with_symmetry g y) × GoesOn g (with_symmetry g y)

-- what an entry of the proof list says of the found classes can be acted on: slots that have no partner can be dropped on either side, else two classes
-- can be linked in either way, and a bijection of one class that is not the identity can be listed
abbrev pub FoundEntriesCanBeActedOn : Type 0
FoundEntriesCanBeActedOn =
    (g : State) → Sane g → (p : ℕ) → p < length g.proofs →
    CanDrop g.nodes g.found (found_entry g p).left (keys_of (found_entry g p).pairs)
    × CanDrop g.nodes g.found (found_entry g p).right (keys_of (turned_equation g.nodes (found_entry g p)).pairs)
    × ((found_entry g p).left ≢ (found_entry g p).right → PairsAll g (found_entry g p) → CanLink g.nodes g.found (found_entry g p))
    × ((found_entry g p).left ≢ (found_entry g p).right → PairsAll g (found_entry g p) → CanLink g.nodes g.found (turned_equation g.nodes (found_entry g p)))
    × ((n : ℕ) → (found_entry g p).left ≡ (found_entry g p).right → PairsAll g (found_entry g p) → (found_entry g p).pairs ≢ identity (used_slots g.found (found_entry g p).left) →
    StandsAt g n (found_entry g p) → IsListed g (symmetry_of g (found_entry g p) n))

-- a union by an entry keeps a graph sane, goes on from it, and makes the sides of the entry equal up to listed symmetries
abbrev pub UnionsUniteSides : Type 0
UnionsUniteSides = (p : ℕ) (g h : State) → Unites p g h → Sane g → p < length g.proofs → HasUnited p g h

-- it never makes live classes more, nor, while they are as many, their slots
abbrev pub UnionsKeepCounts : Type 0
UnionsKeepCounts =
    (p : ℕ) (g h : State) → Unites p g h → Sane g → p < length g.proofs →
    (lives_from 0 h.found ≤ lives_from 0 g.found) ×
    (lives_from 0 h.found ≡ lives_from 0 g.found → slots_from 0 h.found ≤ slots_from 0 g.found)

-- its size falls if a slot of the classes that the sides find has no partner
abbrev pub LackingUnionsFall : Type 0
LackingUnionsFall = (p : ℕ) (g h : State) → Unites p g h → Sane g → p < length g.proofs → Lacks g (found_entry g p) → size h < size g

-- if only the entry was not respected yet, the graph represents everything after the union by it
abbrev pub UnionsRepresent : Type 0
UnionsRepresent = (p : ℕ) (g h : State) → Sane g → RepresentsBut p g → HasUnited p g h → Represents h

-- a row of the shape of a class's normal form is of a class whose normal form has this shape, whether it waits or not
abbrev pub RowsShowCongruence : Type 0
RowsShowCongruence =
    (g : State) → Sane g → (i : ℕ) → i < length g.nodes → (r : Row) → Contains g.rows r → r.shape ≡ shape (normal_node g i) →
    shape (normal_node g i) ≡ shape (normal_node g r.source)

-- the congruence of two classes, or of one with itself, whose normal forms have one shape can be entered
abbrev pub CongruencesCanBeEntered : Type 0
CongruencesCanBeEntered =
    (g : State) → Sane g → (i : ℕ) → i < length g.nodes → (j : ℕ) → j < length g.nodes →
    shape (normal_node g i) ≡ shape (normal_node g j) → CongruenceEntered g i j

-- a turn keeps a graph sane, and all that it represents, and lowers the size or what waits
abbrev pub TurnsRebuild : Type 0
TurnsRebuild = (g h : State) → Turn g h → Sane g → HasTurned g h

-- acting on a symmetry that is not aligned does so too, and lowers the size
abbrev pub ActsRebuild : Type 0
ActsRebuild = (g h : State) → Acts g h → Sane g → HasActed g h

-- no more classes wait than there are rows
abbrev pub NoMoreWaitThanRows : Type 0
NoMoreWaitThanRows = (g : State) → Sane g → length g.waiting ≤ length g.rows

-- so do turns and acts one after another; at each moment the turns taken and the classes that wait are at most the rows at the
-- start, times one more than the size has fallen by
abbrev pub RunsAreCounted : Type 0
RunsAreCounted =
    (f : State) (n : ℕ) (h : State) → Sane f → Runs f n h →
    IsRebuilt f h × (size h ≤ size f) × (n + length h.waiting ≤ length f.rows * (suc (size f) - size h))

-- the size is the number of live classes and of their slots together; in a run live classes never become more, and while they are as many their slots never do
abbrev pub RunsKeepCounts : Type 0
RunsKeepCounts =
    ((g : State) → size g ≡ lives_from 0 g.found + slots_from 0 g.found)
    × ((f : State) (n : ℕ) (h : State) → Sane f → Runs f n h →
    (lives_from 0 h.found ≤ lives_from 0 f.found) ×
    (lives_from 0 h.found ≡ lives_from 0 f.found → slots_from 0 h.found ≤ slots_from 0 f.found))

-- a run that ends where nothing is left to do ends at rest
abbrev pub RunsEndAtRest : Type 0
RunsEndAtRest = (f : State) (n : ℕ) (h : State) → Sane f → Represents f → Runs f n h → HasNothingLeft h → AtRest h

-- from each sane graph there is a union by each entry
abbrev pub UnionsEnd : Type 0
UnionsEnd = (p : ℕ) (g : State) → Sane g → p < length g.proofs → (h : State) × Unites p g h

-- a sane graph has nothing left to do, or one of its symmetries can be acted on, or a class can take its turn
abbrev pub StepsAreThere : Type 0
StepsAreThere = (g : State) → Sane g → HasNothingLeft g ⊎ (((h : State) × Acts g h) ⊎ ((h : State) × Turn g h))

-- from each sane graph that represents what was added and asserted a run leads to rest
abbrev pub RebuildingEnds : Type 0
RebuildingEnds = (g : State) → Sane g → Represents g → (n : ℕ) × (h : State) × Runs g n h × AtRest h

-- the empty graph is at rest
abbrev pub NothingRests : Type 0
NothingRests = AtRest (record { nodes = []; found = []; proofs = []; rows = []; waiting = []; symmetries = [] })

-- from rest a class can be made of each new node, and all is at rest again
abbrev pub AddingEndsAtRest : Type 0
AddingEndsAtRest =
    (g : State) → AtRest g → (c : DTerm) → IsNew g.nodes c → ((h : State) × Adds g c h) × ((h : State) → Adds g c h → HasAdded g c h)

-- a node over full ids that is not looked up is new
abbrev pub NodesNotLookedUpAreNew : Type 0
NodesNotLookedUpAreNew =
    (g : State) → AtRest g → (d : DTerm) → 0 < d.op → EachChild (IsFull g.nodes) d.args → look_up_node g d ≡ None → IsNew g.nodes d

-- no row has the shape of the normal form of such a node, so a class made of it is filed, and not united
abbrev pub NodesNotLookedUpAreUnfiled : Type 0
NodesNotLookedUpAreUnfiled =
    (g : State) → AtRest g → (c : DTerm) → IsNew g.nodes c → look_up_node g c ≡ None → (r : Row) → Contains g.rows r →
    r.shape ≢ shape (normal_node (with_new_class g c) (length g.nodes))

-- a class made of a node that was not looked up changes no find and no look-up
abbrev pub AddingKeepsLookUps : Type 0
AddingKeepsLookUps =
    (g : State) → AtRest g → (c : DTerm) → IsNew g.nodes c → look_up_node g c ≡ None → (h : State) → Adds g c h → KeepsLookUps g c h

-- from rest each two full ids can be asserted to be equal, and all is at rest again
abbrev pub AssertingEndsAtRest : Type 0
AssertingEndsAtRest =
    (g : State) → AtRest g → (a b : Applied) → IsFull g.nodes a → IsFull g.nodes b →
    ((h : State) × Asserts g a b h) × ((h : State) → Asserts g a b h → HasAsserted g a b h)

-- an assertion adds to the ends of lists alone; it is an explicit entry where its equation stood nowhere, and no count rises
abbrev pub AssertingIsExact : Type 0
AssertingIsExact =
    (g : State) → AtRest g → (a b : Applied) → IsFull g.nodes a → IsFull g.nodes b → (h : State) → Asserts g a b h →
    IsExactAssertion g a b h

-- proofs that assert nothing, as those of explanations, change no answer
abbrev pub NewProofsShowNowhere : Type 0
NewProofsShowNowhere = (g : State) → AtRest g → (proofs : List ProofEntry) → ProofsGrow g.nodes g.proofs proofs →
    SameAnswers g (with_proofs g proofs)

-- nor does a shortcut, by which the entry of a dead class leads at once to what is found
abbrev pub ShortcutsShowNowhere : Type 0
ShortcutsShowNowhere =
    (g : State) → AtRest g → (i proof : ℕ) → i < length g.nodes → ¬ IsLive g.found i → proof < length g.proofs →
    equation_at g.proofs proof ≡ find_equation g.nodes g.found i →
    SameAnswers g (record g { found = with_shortcut g.found i proof })

-- all these laws
pub record RestLaws : Type 0 where
  pub look_ups_move_with_names : LookUpsMoveWithNames
  pub equal_in_turn_is_looked_up_alike : EqualInTurnIsLookedUpAlike
  pub filed_nodes_are_looked_up : FiledNodesAreLookedUp
  pub equality_up_to_moves_with_names : EqualityUpToMovesWithNames
  pub equal_ids_are_valid : EqualIdsAreValid
  pub equal_ids_find_alike : EqualIdsFindAlike
  pub aligned_ids_are_found_together : AlignedIdsAreFoundTogether
  pub links_are_an_equivalence : LinksAreAnEquivalence
  pub rest_is_enough : RestIsEnough
  pub rest_is_congruent : RestIsCongruent
  pub answers_are_found : AnswersAreFound
  pub affected_is_least : AffectedIsLeast
  pub going_on_composes : GoingOnComposes
  pub going_on_keeps_yeses : GoingOnKeepsYeses
  pub going_on_keeps_normal_forms : GoingOnKeepsNormalForms
  pub going_on_keeps_rows : GoingOnKeepsRows
  pub links_are_events : LinksAreEvents
  pub drops_are_events : DropsAreEvents
  pub links_keep_aligned : LinksKeepAligned
  pub listed_are_aligned : ListedAreAligned
  pub new_classes_keep_sane : NewClassesKeepSane
  pub new_rows_keep_sane : NewRowsKeepSane
  pub quiet_turns : QuietTurns
  pub assertions_keep_sane : AssertionsKeepSane
  pub size_counts_slots : SizeCountsSlots
  pub going_on_represents : GoingOnRepresents
  pub new_proofs_keep_sane : NewProofsKeepSane
  pub new_symmetries_keep_sane : NewSymmetriesKeepSane
  pub found_entries_can_be_acted_on : FoundEntriesCanBeActedOn
  pub unions_unite_sides : UnionsUniteSides
  pub unions_keep_counts : UnionsKeepCounts
  pub lacking_unions_fall : LackingUnionsFall
  pub unions_represent : UnionsRepresent
  pub rows_show_congruence : RowsShowCongruence
  pub congruences_can_be_entered : CongruencesCanBeEntered
  pub turns_rebuild : TurnsRebuild
  pub acts_rebuild : ActsRebuild
  pub no_more_wait_than_rows : NoMoreWaitThanRows
  pub runs_are_counted : RunsAreCounted
  pub runs_keep_counts : RunsKeepCounts
  pub runs_end_at_rest : RunsEndAtRest
  pub unions_end : UnionsEnd
  pub steps_are_there : StepsAreThere
  pub rebuilding_ends : RebuildingEnds
  pub nothing_rests : NothingRests
  pub adding_ends_at_rest : AddingEndsAtRest
  pub nodes_not_looked_up_are_new : NodesNotLookedUpAreNew
  pub nodes_not_looked_up_are_unfiled : NodesNotLookedUpAreUnfiled
  pub adding_keeps_look_ups : AddingKeepsLookUps
  pub asserting_ends_at_rest : AssertingEndsAtRest
  pub asserting_is_exact : AssertingIsExact
  pub new_proofs_show_nowhere : NewProofsShowNowhere
  pub shortcuts_show_nowhere : ShortcutsShowNowhere
