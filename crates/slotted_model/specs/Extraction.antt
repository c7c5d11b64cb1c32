-- Extraction: a table with a least cost and a row for each live class, and the trees that its rows make of an id.
--     IsLawfulFor C g k          k is lawful on the nodes that are alike to a filed one
--     TableEntry C               a class with its cost and the row that has this cost
--     row_cost k table r         the cost of a row from the costs in the table, if all its children are there
--     IsInOrder g k table        each entry is a row of its class, at its cost from the entries before it
--     IsLeastFirst g k table     and no row that could have entered then cost less
--     HasTiesBroken g k f table  and among those of its class that cost least it was chosen by the order f, if all its children cost less
--     IsFinished g k table       no row can enter
--     IsQueue g k table queue    each row that can enter waits in the queue
--     Fits g k table             what extraction needs of a table
--     Extracts g table a t       t is made of the row of a's class, with a's names put in, and of what is extracted for the row's children
--     IsMadeBy g table a t e     the same with the entry e named
use Rattle.std.specs.Prelude.{◌≡◌, ◌≢◌, ◌⊎◌, ℕ, ◌<◌, List, [], ◌∷◌, length, Contains, Option, Some, None, cond, nat_eq, option_map}
use Rattle.slotted_theory.specs.Nameless.{DArgs, DTerm, stop, place, sub, scope, moved}
use Rattle.slotted_theory.specs.FiniteMaps.{filled}
use Rattle.slotted_theory.proofs.Values.{node, child_before}
use Rattle.slotted_model.specs.Applied.{Applied, applied_of}
use Rattle.slotted_model.specs.Classes.{IsFull}
use Rattle.slotted_model.specs.LookUp.{both}
use Rattle.slotted_model.specs.Find.{IsLive, find_class, find}
use Rattle.slotted_model.specs.State.{Row, State, filed_node, child_classes}
use Rattle.slotted_model.specs.Cost.{CostFunction, AtMost, AreAlike, IsLawfulOn}

-- the node is alike to one that a row files
abbrev pub IsAlikeToRow : State → DTerm → Type 0
IsAlikeToRow g d = (r : Row) × Contains g.rows r × AreAlike d r.shape

-- what extraction asks of costs: they are lawful on the nodes that are alike to a filed one, whatever they are of others
abbrev pub IsLawfulFor : (C : Type 0) → State → CostFunction C → Type 0
IsLawfulFor C g k = IsLawfulOn (IsAlikeToRow g) C k

-- a class, its cost, and a row of this class that has this cost
pub record TableEntry (C : Type 0) : Type 0 where
  pub class : ℕ
  pub cost : C
  pub row : Row

-- the cost of a class in the table, whose newest entry stands first
abbrev pub cost_in : {C : Type 0} → List (TableEntry C) → ℕ → Option C
cost_in [] c = None
cost_in (e ∷ table) c = cond (nat_eq e.class c) (Some e.cost) (cost_in table c)

-- the costs of these classes, if all are in the table
abbrev pub costs_in : {C : Type 0} → List (TableEntry C) → List ℕ → Option (List C)
costs_in table [] = Some []
costs_in table (c ∷ cs) = both (λ x xs. x ∷ xs) (cost_in table c) (costs_in table cs)

-- the cost of a row whose children cost what the table says, if all are in it
abbrev pub row_cost : {C : Type 0} → CostFunction C → List (TableEntry C) → Row → Option C
row_cost k table r = option_map (k.node_cost r.shape) (costs_in table (child_classes r.shape.args))

-- the class of a row
abbrev pub row_class : State → Row → ℕ
row_class g r = find_class g.found r.source

-- the row can enter the table at this cost: its children are there, and its class is not
pub record IsCandidate (C : Type 0) (g : State) (k : CostFunction C) (table : List (TableEntry C)) (r : Row) (x : C) : Type 0 where
  pub filed : Contains g.rows r
  pub new : cost_in table (row_class g r) ≡ None
  pub cost : row_cost k table r ≡ Some x

-- the entry is a row of its class that can enter the table at its cost
pub record CanEnterTable (C : Type 0) (g : State) (k : CostFunction C) (table : List (TableEntry C)) (e : TableEntry C) : Type 0 where
  pub class : row_class g e.row ≡ e.class
  pub candidate : IsCandidate C g k table e.row e.cost

-- no row can enter the table at a lower cost
abbrev pub IsLeast : {C : Type 0} → State → CostFunction C → List (TableEntry C) → C → Type 0
IsLeast {C} g k table x = (r : Row) (y : C) → IsCandidate C g k table r y → AtMost k x y

-- each entry could enter the table of the entries before it: so its class stands once, and its children entered earlier
abbrev pub IsInOrder : {C : Type 0} → State → CostFunction C → List (TableEntry C) → Type 0
IsInOrder g k [] = Unit {0}
IsInOrder {C} g k (e ∷ table) = CanEnterTable C g k table e × IsInOrder g k table

-- and it was the least that could: what the making of a table keeps from the empty one on
abbrev pub IsLeastFirst : {C : Type 0} → State → CostFunction C → List (TableEntry C) → Type 0
IsLeastFirst g k [] = Unit {0}
IsLeastFirst {C} g k (e ∷ table) = CanEnterTable C g k table e × IsLeast g k table e.cost × IsLeastFirst g k table

-- each child of the row that is in the table costs less than x
abbrev pub HasCheaperChildren : {C : Type 0} → CostFunction C → List (TableEntry C) → Row → C → Type 0
HasCheaperChildren {C} k table r x = (c : ℕ) → Contains (child_classes r.shape.args) c → (y : C) → cost_in table c ≡ Some y → ¬ AtMost k x y

-- if a row of the entry's class that can enter costs no more than the entry and all its children cost less, the entry's do too, and its row comes first
abbrev pub BreaksTies : {C : Type 0} → State → CostFunction C → (Row → Row → Type 0) → List (TableEntry C) → TableEntry C → Type 0
BreaksTies {C} g k comes_first table e =
    (r : Row) (x : C) → IsCandidate C g k table r x → row_class g r ≡ e.class → AtMost k x e.cost → HasCheaperChildren k table r x →
    HasCheaperChildren k table e.row e.cost × comes_first e.row r

-- each entry was chosen so
abbrev pub HasTiesBroken : {C : Type 0} → State → CostFunction C → (Row → Row → Type 0) → List (TableEntry C) → Type 0
HasTiesBroken g k comes_first [] = Unit {0}
HasTiesBroken g k comes_first (e ∷ table) = BreaksTies g k comes_first table e × HasTiesBroken g k comes_first table

-- no row can enter: where the making of a table ends
abbrev pub IsFinished : {C : Type 0} → State → CostFunction C → List (TableEntry C) → Type 0
IsFinished {C} g k table = (r : Row) (x : C) → ¬ IsCandidate C g k table r x

-- rows with their costs among which is each row that can enter
pub record IsQueue (C : Type 0) (g : State) (k : CostFunction C) (table : List (TableEntry C)) (queue : List (Row × C)) : Type 0 where
  pub each : (r : Row) (x : C) → Contains queue (r, x) → Contains g.rows r × (row_cost k table r ≡ Some x)
  pub has : (r : Row) (x : C) → IsCandidate C g k table r x → Contains queue (r, x)

-- what stands in a queue after the entry e: only rows that stood there or have a cost now, all that stood there but those of e's
-- class, and those over e's class that have a cost now
pub record QueueAfter (C : Type 0) (g : State) (k : CostFunction C) (table : List (TableEntry C)) (e : TableEntry C) (before after : List (Row × C)) : Type 0 where
  pub from : (r : Row) (x : C) → Contains after (r, x) → Contains before (r, x) ⊎ (Contains g.rows r × (row_cost k (e ∷ table) r ≡ Some x))
  pub kept : (r : Row) (x : C) → Contains before (r, x) → row_class g r ≢ e.class → Contains after (r, x)
  pub parents : (r : Row) (x : C) → Contains g.rows r → Contains (child_classes r.shape.args) e.class →
      row_cost k (e ∷ table) r ≡ Some x → row_class g r ≢ e.class → Contains after (r, x)

-- the entries are rows of the graph, each over earlier ones; each live class has one; and no row of a class costs less than its entry
pub record Fits (C : Type 0) (g : State) (k : CostFunction C) (table : List (TableEntry C)) : Type 0 where
  pub in_order : IsInOrder g k table
  pub covered : (c : ℕ) → c < length g.nodes → IsLive g.found c → (x : C) × (cost_in table c ≡ Some x)
  pub closed : (r : Row) → Contains g.rows r → (x y : C) → row_cost k table r ≡ Some x → cost_in table (row_class g r) ≡ Some y →
      AtMost k y x

mutual
  -- t is the node of the row of a's class, under a full id b of the row's source that finds what a finds, over what is extracted for its children:
  -- so it has a's names, and for names that a lacks any others
  pub data Extracts {C : Type 0} (g : State) (table : List (TableEntry C)) : Applied → DTerm → Type 0 where
    by_entry : {a : Applied} {args : DArgs} (e : TableEntry C) (b : Applied) → Contains table e → IsFull g.nodes b →
        b.0 ≡ e.row.source → find g.found b ≡ find g.found a →
        ExtractsArgs g table (moved (filled b.1) (filed_node e.row)).args args →
        Extracts g table a (node e.row.shape.op e.row.shape.payloads args)

  -- the same names and binders, and in the place of each child what is extracted for it
  pub data ExtractsArgs {C : Type 0} (g : State) (table : List (TableEntry C)) : DArgs → DArgs → Type 0 where
    no_more : ExtractsArgs g table stop stop
    own_name : {x : ℕ} {d e : DArgs} → ExtractsArgs g table d e → ExtractsArgs g table (place x d) (place x e)
    extracted : {op : ℕ} {payloads : List (List ℕ)} {args d e : DArgs} {t : DTerm} →
        Extracts g table (applied_of payloads args) t → ExtractsArgs g table d e →
        ExtractsArgs g table (sub op payloads args d) (child_before t e)
    under_binder : {c f d e : DArgs} → ExtractsArgs g table c f → ExtractsArgs g table d e → ExtractsArgs g table (scope c d) (scope f e)

-- t is made by the entry e: it is the node of e's row, under a full id of the row's source that finds what a finds, over what is
-- extracted for the node's children
pub record IsMadeBy {C : Type 0} (g : State) (table : List (TableEntry C)) (a : Applied) (t : DTerm) (e : TableEntry C) : Type 0 where
  pub id : Applied
  pub args : DArgs
  pub full : IsFull g.nodes id
  pub source : id.0 ≡ e.row.source
  pub alike : find g.found id ≡ find g.found a
  pub children : ExtractsArgs g table (moved (filled id.1) (filed_node e.row)).args args
  pub term : t ≡ node e.row.shape.op e.row.shape.payloads args
