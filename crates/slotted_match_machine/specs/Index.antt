-- When rows of numbers are the filed nodes of a graph.
--     OneByOne P xs ys          P holds of each member and the one in its place, and both lists have one length
--     ids_of n                  the children of a node, from the left
--     IsIndexChild a c          the child c is the id a, by class and numbers
--     IsPositionOf slots m t k  k is 1 more than the position of the slot that m pairs with t, or 0 if there is none
--     IsIndexRow g r row        the row is the model's row r, by numbers
--     rows_of_class g order c   the rows of `order` in the class c
--     IsIndexOf g order index   the index has the rows of `order`, which are those of g, class by class, and the live classes
--     HasOutline r op payloads args, IsOutlineIn ..   which rows can be held beside a node of a pattern, and the number of their outline
--     LacksRow rows p           some node of the pattern has no such row
use Rattle.std.specs.Prelude.{◌≡◌, ◌≢◌, ◌⊎◌, ◌↔◌, ℕ, zero, suc, ◌<◌, List, [], ◌∷◌, ◌++◌, length, filter, Contains, true, nat_eq, slice_index}
use Rattle.slotted_theory.specs.Nameless.{moved_args}
use Rattle.slotted_theory.specs.FiniteMaps.{filled}
use Rattle.slotted_theory.specs.Shape.{free_names}
use Rattle.slotted_model.specs.Applied.{Applied, values}
use Rattle.slotted_model.specs.Ascending.{IsAscending}
use Rattle.slotted_model.specs.Correspondence.{AllDifferent, IsInjectiveOn}
use Rattle.slotted_model.specs.Extraction.{row_class}
use Rattle.slotted_model.specs.Find.{IsLive, find_map, used_slots}
use Rattle.slotted_model.specs.State.{Row, State}
use Rattle.slotted_model_rules.specs.Patterns.{Pattern, PatternArgs, pattern_node, variable, replacing, no_argument, own_name, child_pattern, binding}
use Rattle.slotted_model_rules.specs.Matcher.{NodeArgs, no_more, a_name, an_id, a_binder, unnamed, written_names, bound_names}
use Rattle.slotted_model_rules.specs.Goals.{own_names, has_outline}
use Rattle.slotted_match_machine.specs.declared.index.IndexChild.{IndexChild}
use Rattle.slotted_match_machine.specs.declared.index.IndexRow.{IndexRow}
use Rattle.slotted_match_machine.specs.declared.index.RowIndex.{RowIndex}
use Rattle.slotted_match_machine.specs.Machine.{rows_in, slot_count_in}

-- member by member, and to the end of both
abbrev pub OneByOne : {A B : Type 0} → (A → B → Type 0) → List A → List B → Type 0
OneByOne P [] [] = Unit {0}
OneByOne P [] (y ∷ ys) = ⊥
OneByOne P (x ∷ xs) [] = ⊥
OneByOne P (x ∷ xs) (y ∷ ys) = P x y × OneByOne P xs ys

-- the ids of a node, in the order in which the matcher goes through them
abbrev pub ids_of : NodeArgs → List Applied
ids_of no_more = []
ids_of (a_name x rest) = ids_of rest
ids_of (an_id a rest) = a ∷ ids_of rest
ids_of (a_binder x inner rest) = ids_of inner ++ ids_of rest

-- the class of the id, and its names in the order of their slots
pub record IsIndexChild (a : Applied) (c : IndexChild) : Type 0 where
  pub class : c.class ≡ a.0
  pub numbers : c.numbers.items ≡ values a.1

-- where m pairs slots of a class, which stand in `slots`, with others
abbrev pub IsPositionOf : List ℕ → List (ℕ × ℕ) → ℕ → ℕ → Type 0
IsPositionOf slots m t zero = (s : ℕ) → ¬ Contains m (s, t)
IsPositionOf slots m t (suc p) = (p < length slots) × Contains m (slice_index slots p, t)

-- the row's node under other numbers, as it is filed: `number` has one for each number of the shape, and binders have others
pub record IsIndexRow (g : State) (r : Row) (row : IndexRow) : Type 0 where
  pub node : NodeArgs
  pub number : ℕ → ℕ
  pub form : unnamed (λ y. y) node ≡ moved_args number r.shape.args
  pub injective : IsInjectiveOn number (free_names r.shape.args)
  pub binders_differ : AllDifferent (bound_names node)
  pub binders_apart : (z : ℕ) → Contains (bound_names node) z → (i : ℕ) → Contains (free_names r.shape.args) i → number i ≢ z
  -- it is written in the row from the left
  pub owns : row.owns.items ≡ own_names node
  pub children : OneByOne IsIndexChild (ids_of node) row.children.items
  -- each number has a place, which says the slot of the row's class that it stands for
  pub in_range : (z : ℕ) → Contains (written_names node) z → z < length row.slots.items
  pub positions : (i : ℕ) → Contains (free_names r.shape.args) i →
      IsPositionOf (used_slots g.found (row_class g r)) (find_map g.found r.source) (filled r.slots i) (slice_index row.slots.items (number i))
  pub binders_have_none : (z : ℕ) → Contains (bound_names node) z → slice_index row.slots.items z ≡ 0

abbrev pub rows_of_class : State → List Row → ℕ → List Row
rows_of_class g order c = filter (λ r. nat_eq (row_class g r) c) order

-- the rows of each live class stand in their order
pub record IsIndexOf (g : State) (order : List Row) (index : RowIndex) : Type 0 where
  pub rows : (r : Row) → Contains g.rows r ↔ Contains order r
  pub ascending : IsAscending index.live.items
  pub live : (c : ℕ) → Contains index.live.items c ↔ ((c < length g.nodes) × IsLive g.found c)
  pub slot_counts : (c : ℕ) → c < length g.nodes → IsLive g.found c → slot_count_in index.classes.items c ≡ length (used_slots g.found c)
  pub class_rows : (c : ℕ) → c < length g.nodes → IsLive g.found c →
      OneByOne (IsIndexRow g) (rows_of_class g order c) (rows_in index.classes.items c)

-- the operator and the payloads, with names, binders and children in the same places
pub record HasOutline (r : Row) (op : ℕ) (payloads : List (List ℕ)) (args : PatternArgs) : Type 0 where
  pub operator : r.shape.op ≡ op
  pub payloads_same : r.shape.payloads ≡ payloads
  pub places : has_outline args r.shape.args ≡ true

-- just the rows of such nodes have this number
abbrev pub IsOutlineIn : State → List Row → RowIndex → ℕ → ℕ → List (List ℕ) → PatternArgs → Type 0
IsOutlineIn g order index outline op payloads args = (c : ℕ) → c < length g.nodes → IsLive g.found c →
    OneByOne (λ r (row : IndexRow). (row.outline ≡ outline) ↔ HasOutline r op payloads args) (rows_of_class g order c) (rows_in index.classes.items c)

abbrev mutual
  -- of the pattern's node itself, or of one below it
  pub LacksRow : List Row → Pattern → Type 0
  LacksRow rows (pattern_node op payloads args) = ((r : Row) → Contains rows r → ¬ HasOutline r op payloads args) ⊎ LacksRowIn rows args
  LacksRow rows (variable v) = ⊥
  LacksRow rows (replacing body part value) = ⊥

  pub LacksRowIn : List Row → PatternArgs → Type 0
  LacksRowIn rows no_argument = ⊥
  LacksRowIn rows (own_name x rest) = LacksRowIn rows rest
  LacksRowIn rows (child_pattern p rest) = LacksRow rows p ⊎ LacksRowIn rows rest
  LacksRowIn rows (binding x inner rest) = LacksRowIn rows inner ⊎ LacksRowIn rows rest
