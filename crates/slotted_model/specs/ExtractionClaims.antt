-- The laws of extraction over a graph at rest, for costs of any type C, owed by `extraction_laws_hold` and `preference_laws_hold` in src/extraction.rt.
use Rattle.std.specs.Prelude.{◌≡◌, ℕ, suc, ◌<◌, ◌≤◌, min, sum, List, [], ◌∷◌, length, Contains, Some, None}
use Rattle.slotted_theory.specs.Nameless.{DTerm, moved}
use Rattle.slotted_theory.specs.Renaming.{IsInjective}
use Rattle.slotted_theory.specs.Derives.{Equal}
use Rattle.slotted_model.specs.Applied.{Applied, renamed_id}
use Rattle.slotted_model.specs.Classes.{term_of, IsFull}
use Rattle.slotted_model.specs.Filling.{IsFilling}
use Rattle.slotted_model.specs.Find.{IsLive, find_class, find}
use Rattle.slotted_model.specs.ProofList.{asserted}
use Rattle.slotted_model.specs.State.{Row, State, look_up_tree}
use Rattle.slotted_model.specs.Rest.{IsValidIn, AtRest, IsAffected}
use Rattle.slotted_model.specs.Trees.{IsTree}
use Rattle.slotted_model.specs.Agreement.{Correspond, Agree}
use Rattle.slotted_model.specs.Cost.{CostFunction, AtMost, AreAlike, IsLawfulOn, IsLawful, IsTotal, tree_cost, limited_size}
use Rattle.slotted_model.specs.Extraction.{IsLawfulFor, TableEntry, cost_in, row_cost, row_class, CanEnterTable, IsLeast, IsInOrder, IsLeastFirst, HasCheaperChildren, BreaksTies, HasTiesBroken, IsFinished, IsQueue, QueueAfter, Fits, Extracts, IsMadeBy}

-- the size up to a limit is lawful, and total; and over costs within the limit it is 1 and these costs, or the limit
abbrev pub SizesAreLawful : Type 0
SizesAreLawful =
    (limit : ℕ) → IsLawful ℕ (limited_size limit) × IsTotal (limited_size limit) ×
    ((d : DTerm) (xs : List ℕ) → ((x : ℕ) → Contains xs x → x ≤ limit) → (limited_size limit).node_cost d xs ≡ min (suc (sum xs)) limit)

-- costs that are lawful on all nodes are lawful for each graph
abbrev pub LawfulIsEnough : Type 0 → Type 0
LawfulIsEnough C = (g : State) (k : CostFunction C) → IsLawful C k → IsLawfulFor C g k

-- where each entry was the least that could enter, no later entry costs less
abbrev pub CostsNeverFall : Type 0 → Type 0
CostsNeverFall C =
    (g : State) (k : CostFunction C) → IsLawfulFor C g k → (table : List (TableEntry C)) (e : TableEntry C) → IsLeastFirst g k (e ∷ table) →
    (c : ℕ) (x : C) → cost_in table c ≡ Some x → AtMost k x e.cost

-- and no row costs less than its class
abbrev pub LeastFirstIsClosed : Type 0 → Type 0
LeastFirstIsClosed C =
    (g : State) (k : CostFunction C) → IsLawfulFor C g k → (table : List (TableEntry C)) → IsLeastFirst g k table →
    (r : Row) → Contains g.rows r → (x y : C) → row_cost k table r ≡ Some x → cost_in table (row_class g r) ≡ Some y → AtMost k y x

-- at rest a table that no row can enter has each live class, whatever order led there
abbrev pub FinishedCovers : Type 0 → Type 0
FinishedCovers C =
    (g : State) → AtRest g → (k : CostFunction C) (table : List (TableEntry C)) → IsFinished g k table →
    (c : ℕ) → c < length g.nodes → IsLive g.found c → (x : C) × (cost_in table c ≡ Some x)

-- so a table that was made least first, to the end, is what extraction needs
abbrev pub FinishedFits : Type 0 → Type 0
FinishedFits C =
    (g : State) → AtRest g → (k : CostFunction C) → IsLawfulFor C g k → (table : List (TableEntry C)) → IsLeastFirst g k table →
    IsFinished g k table → Fits C g k table

-- such a table can be made in every graph, if of two costs one is at most the other
abbrev pub TablesCanBeMade : Type 0 → Type 0
TablesCanBeMade C = (g : State) (k : CostFunction C) → IsLawfulFor C g k → IsTotal k → (table : List (TableEntry C)) ×
    IsLeastFirst g k table × IsFinished g k table

-- a member of a queue that costs least can enter, as the least, if its class is not in the table
abbrev pub LeastOfQueueEnters : Type 0 → Type 0
LeastOfQueueEnters C =
    (g : State) (k : CostFunction C) (table : List (TableEntry C)) (queue : List (Row × C)) → IsQueue C g k table queue →
    (r : Row) (x : C) → Contains queue (r, x) → ((q : Row) (y : C) → Contains queue (q, y) → AtMost k x y) →
    cost_in table (row_class g r) ≡ None →
    CanEnterTable C g k table (record { class = row_class g r; cost = x; row = r }) × IsLeast g k table x

-- after an entry the queue needs no more than the rows over its class
abbrev pub QueuesGoOn : Type 0 → Type 0
QueuesGoOn C =
    (g : State) (k : CostFunction C) (table : List (TableEntry C)) (e : TableEntry C) (before after : List (Row × C)) →
    CanEnterTable C g k table e → IsQueue C g k table before → QueueAfter C g k table e before after → IsQueue C g k (e ∷ table) after

-- the first member of a queue can be passed over if its class is in the table
abbrev pub QueuesPassOver : Type 0 → Type 0
QueuesPassOver C =
    (g : State) (k : CostFunction C) (table : List (TableEntry C)) (r : Row) (x y : C) (queue : List (Row × C)) →
    IsQueue C g k table ((r, x) ∷ queue) → cost_in table (row_class g r) ≡ Some y → IsQueue C g k table queue

-- where the queue is empty the table is finished
abbrev pub EmptyQueuesFinish : Type 0 → Type 0
EmptyQueuesFinish C = (g : State) (k : CostFunction C) (table : List (TableEntry C)) → IsQueue C g k table [] → IsFinished g k table

-- the class that a tree is looked up as costs at most the tree, which need not have been added
abbrev pub ClassesCostLeast : Type 0 → Type 0
ClassesCostLeast C =
    (g : State) → AtRest g → (k : CostFunction C) → IsLawfulFor C g k → (table : List (TableEntry C)) → Fits C g k table →
    (t : DTerm) (a : Applied) → look_up_tree g t ≡ Some a → (x : C) × (cost_in table a.0 ≡ Some x) × AtMost k x (tree_cost k t)

-- and so does the class that a full id finds, for the id's term, also where symmetries are open
abbrev pub TermsCostNoLess : Type 0 → Type 0
TermsCostNoLess C =
    (g : State) → AtRest g → (k : CostFunction C) → IsLawfulFor C g k → (table : List (TableEntry C)) → Fits C g k table →
    (a : Applied) → IsFull g.nodes a → (x : C) × (cost_in table (find_class g.found a.0) ≡ Some x) ×
    AtMost k x (tree_cost k (term_of g.nodes a))

-- no table of the same graph has a lower cost, in whatever order its entries entered: so two that fit have the same costs
abbrev pub NoTableCostsLess : Type 0 → Type 0
NoTableCostsLess C =
    (g : State) → AtRest g → (k : CostFunction C) → IsLawfulFor C g k → (table other : List (TableEntry C)) → Fits C g k table →
    IsInOrder g k other →
    (c : ℕ) (x y : C) → cost_in table c ≡ Some x → cost_in other c ≡ Some y → AtMost k x y

-- a tree can be extracted for each valid id whose class is in the table: its children come from entries before it
abbrev pub ExtractionEnds : Type 0 → Type 0
ExtractionEnds C =
    (g : State) → AtRest g → (k : CostFunction C) (table : List (TableEntry C)) → IsInOrder g k table →
    (a : Applied) → IsValidIn g a → (x : C) → cost_in table (find_class g.found a.0) ≡ Some x → (t : DTerm) × Extracts g table a t

-- what is extracted for an id is extracted for the id with other names, with these names: so a tree can be put under a binder
abbrev pub ExtractingMovesWithNames : Type 0 → Type 0
ExtractingMovesWithNames C =
    (g : State) → AtRest g → (k : CostFunction C) (table : List (TableEntry C)) → IsInOrder g k table → (f : ℕ → ℕ) → IsInjective f →
    (a : Applied) (t : DTerm) → Extracts g table a t → Extracts g table (renamed_id f a) (moved f t)

-- its operator, payloads, names and children are those of the one entry that its class has
abbrev pub ExtractedIsOfItsEntry : Type 0 → Type 0
ExtractedIsOfItsEntry C =
    (g : State) (k : CostFunction C) (table : List (TableEntry C)) → IsInOrder g k table →
    (a : Applied) (t : DTerm) → Extracts g table a t → (e : TableEntry C) → Contains table e → e.class ≡ find_class g.found a.0 →
    IsMadeBy g table a t e

-- what is extracted for an id is a tree that is looked up as what the id finds
abbrev pub ExtractedIsRepresented : Type 0 → Type 0
ExtractedIsRepresented C =
    (g : State) → AtRest g → (k : CostFunction C) (table : List (TableEntry C)) → IsInOrder g k table →
    (a : Applied) (t : DTerm) → Extracts g table a t → IsTree t × (look_up_tree g t ≡ Some (find g.found a))

-- its cost is that of the found class in the table
abbrev pub ExtractedCostsAsNamed : Type 0 → Type 0
ExtractedCostsAsNamed C =
    (g : State) → AtRest g → (k : CostFunction C) → IsLawfulFor C g k → (table : List (TableEntry C)) → IsInOrder g k table →
    (a : Applied) (t : DTerm) → Extracts g table a t → cost_in table (find_class g.found a.0) ≡ Some (tree_cost k t)

-- it is equal by what was asserted to the id's term, whatever names fill it
abbrev pub ExtractedIsEqual : Type 0 → Type 0
ExtractedIsEqual C =
    (g : State) → AtRest g → (k : CostFunction C) (table : List (TableEntry C)) → IsInOrder g k table →
    (a : Applied) → IsValidIn g a → (t : DTerm) → Extracts g table a t → (b : Applied) (given : List ℕ) →
    IsFilling g.nodes given a b → Equal (asserted g.nodes g.proofs) (term_of g.nodes b) t

-- no tree that is looked up as an id of the found class costs less
abbrev pub ExtractedCostsLeast : Type 0 → Type 0
ExtractedCostsLeast C =
    (g : State) → AtRest g → (k : CostFunction C) → IsLawfulFor C g k → (table : List (TableEntry C)) → Fits C g k table →
    (a : Applied) (t : DTerm) → Extracts g table a t → (u : DTerm) (b : Applied) → look_up_tree g u ≡ Some b →
    b.0 ≡ find_class g.found a.0 → AtMost k (tree_cost k t) (tree_cost k u)

-- nor does the term of a full id that finds this class, also where symmetries are open
abbrev pub ExtractedCostsNoMoreThanTerms : Type 0 → Type 0
ExtractedCostsNoMoreThanTerms C =
    (g : State) → AtRest g → (k : CostFunction C) → IsLawfulFor C g k → (table : List (TableEntry C)) → Fits C g k table →
    (a : Applied) (t : DTerm) → Extracts g table a t → (b : Applied) → IsFull g.nodes b →
    find_class g.found b.0 ≡ find_class g.found a.0 → AtMost k (tree_cost k t) (tree_cost k (term_of g.nodes b))

-- nor does any tree that is equal by what was asserted to such a term, where no open symmetry affects the class: also one that was never added
abbrev pub ExtractedCostsLeastOfEqual : Type 0 → Type 0
ExtractedCostsLeastOfEqual C =
    (g : State) → AtRest g → (k : CostFunction C) → IsLawfulFor C g k → (table : List (TableEntry C)) → Fits C g k table →
    (a : Applied) (t : DTerm) → Extracts g table a t → (b : Applied) → IsFull g.nodes b →
    find_class g.found b.0 ≡ find_class g.found a.0 → ¬ IsAffected g (find_class g.found a.0) →
    (u : DTerm) → IsTree u → Equal (asserted g.nodes g.proofs) (term_of g.nodes b) u → AtMost k (tree_cost k t) (tree_cost k u)

-- graphs that agree give the same costs to ids that correspond: whatever the order, and whichever classes were kept
abbrev pub CostsAgree : Type 0 → Type 0
CostsAgree C =
    (g h : State) → AtRest g → AtRest h → Agree g h → (k : CostFunction C) → IsLawfulFor C g k → IsLawfulFor C h k →
    (table other : List (TableEntry C)) → Fits C g k table → Fits C h k other → (a b : Applied) → Correspond g h a b →
    (x y : C) → cost_in table (find_class g.found a.0) ≡ Some x → cost_in other (find_class h.found b.0) ≡ Some y → AtMost k x y ×
    AtMost k y x

-- all these laws
pub record ExtractionLaws (C : Type 0) : Type 0 where
  pub sizes_are_lawful : SizesAreLawful
  pub lawful_is_enough : LawfulIsEnough C
  pub costs_never_fall : CostsNeverFall C
  pub least_first_is_closed : LeastFirstIsClosed C
  pub finished_covers : FinishedCovers C
  pub finished_fits : FinishedFits C
  pub tables_can_be_made : TablesCanBeMade C
  pub least_of_queue_enters : LeastOfQueueEnters C
  pub queues_go_on : QueuesGoOn C
  pub queues_pass_over : QueuesPassOver C
  pub empty_queues_finish : EmptyQueuesFinish C
  pub classes_cost_least : ClassesCostLeast C
  pub terms_cost_no_less : TermsCostNoLess C
  pub no_table_costs_less : NoTableCostsLess C
  pub extraction_ends : ExtractionEnds C
  pub extracting_moves_with_names : ExtractingMovesWithNames C
  pub extracted_is_of_its_entry : ExtractedIsOfItsEntry C
  pub extracted_is_represented : ExtractedIsRepresented C
  pub extracted_costs_as_named : ExtractedCostsAsNamed C
  pub extracted_is_equal : ExtractedIsEqual C
  pub extracted_costs_least : ExtractedCostsLeast C
  pub extracted_costs_no_more_than_terms : ExtractedCostsNoMoreThanTerms C
  pub extracted_costs_least_of_equal : ExtractedCostsLeastOfEqual C
  pub costs_agree : CostsAgree C

-- costs that are lawful on known nodes are lawful enough, if each filed node is known, and with it each that is alike: so a caller's
-- costs need only speak of nodes of its language
abbrev pub KnownCostsAreEnough : Type 0 → (DTerm → Type 0) → Type 0
KnownCostsAreEnough C is_known =
    (g : State) (k : CostFunction C) → IsLawfulOn is_known C k → ((d e : DTerm) → AreAlike d e → is_known e → is_known d) →
    ((r : Row) → Contains g.rows r → is_known r.shape) → IsLawfulFor C g k

-- where ties were broken, and a class has a row of no higher cost than its entry all whose children cost less, its entry is such a row,
-- and comes first among them
abbrev pub TiesAreBroken : Type 0 → (Row → Row → Type 0) → Type 0
TiesAreBroken C comes_first =
    (g : State) (k : CostFunction C) → IsLawfulFor C g k →
    (table : List (TableEntry C)) → IsLeastFirst g k table → HasTiesBroken g k comes_first table →
    (e : TableEntry C) → Contains table e → (r : Row) → Contains g.rows r → row_class g r ≡ e.class →
    (x : C) → row_cost k table r ≡ Some x → AtMost k x e.cost → HasCheaperChildren k table r x →
    HasCheaperChildren k table e.row e.cost × comes_first e.row r

-- a member that among those of its class and no higher cost was chosen by the order, if all its children cost less, breaks ties
abbrev pub QueuesBreakTies : Type 0 → (Row → Row → Type 0) → Type 0
QueuesBreakTies C comes_first =
    (g : State) (k : CostFunction C) (table : List (TableEntry C)) (queue : List (Row × C)) → IsQueue C g k table queue →
    (r : Row) (x : C) →
    ((q : Row) (y : C) → Contains queue (q, y) → row_class g q ≡ row_class g r → AtMost k y x → HasCheaperChildren k table q y →
    HasCheaperChildren k table r x × comes_first r q) →
    BreaksTies g k comes_first table (record { class = row_class g r; cost = x; row = r })

-- the laws of what a caller prefers: of which nodes its costs speak, and which of two rows comes first
pub record PreferenceLaws (C : Type 0) (is_known : DTerm → Type 0) (comes_first : Row → Row → Type 0) : Type 0 where
  pub known_costs_are_enough : KnownCostsAreEnough C is_known
  pub ties_are_broken : TiesAreBroken C comes_first
  pub queues_break_ties : QueuesBreakTies C comes_first
