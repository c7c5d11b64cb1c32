-- The matcher: it goes through a pattern and the nodes of a class side by side, and keeps what it has seen in a state.
--     NodeArgs                  the arguments of a node with names, whose children are ids
--     MatchState                ids for variables, which name of the graph stands for which slot of the pattern, and the names of the graph seen so far
--     walked args n pairs       the pairs after all names of n were held beside those of the pattern's arguments, if they then are an injective map
--     Found g order p st a outs  from the state st the matcher finds the pattern at the id a in these states, one after another, where it
--                               goes through the rows of a class in the order in which they stand in the list `order`
--     EachSlot P p              P holds of each slot that the pattern names
--     Reads g f σ st            the values σ are those of the state, with the names that f gives: a slot of the pattern where there is one
use Rattle.std.specs.Prelude.{◌≡◌, ◌⊎◌, ℕ, List, [], ◌∷◌, ◌++◌, Contains, Option, Some, None, option_and_then, cond, nat_eq}
use Rattle.slotted_theory.specs.Nameless.{DArgs, stop, place, scope, extend}
use Rattle.slotted_theory.specs.FiniteMaps.{value_of}
use Rattle.slotted_theory.specs.Renaming.{IsInjective}
use Rattle.slotted_theory.specs.Decided.{numbers_eq}
use Rattle.slotted_theory.proofs.Values.{child_before}
use Rattle.slotted_model.specs.Affected.{id_eq}
use Rattle.slotted_model.specs.Applied.{Applied, values, renamed_id, as_term}
use Rattle.slotted_model.specs.Correspondence.{AllDifferent, identity, has_slot}
use Rattle.slotted_model.specs.Extraction.{row_class}
use Rattle.slotted_model.specs.Find.{find_class, used_slots, find}
use Rattle.slotted_model.specs.State.{Row, State}
use Rattle.slotted_model.proofs.Rebuilding.RowNodes.{row_node}
use Rattle.slotted_model_rules.specs.Patterns.{Pattern, PatternArgs, pattern_node, variable, replacing, no_argument, own_name, child_pattern, binding, IsOfRow}

-- a list of arguments: a name, an id, or a bound name with the arguments under it
pub data NodeArgs : Type 0 where
  no_more : NodeArgs
  a_name : (x : ℕ) (rest : NodeArgs) → NodeArgs
  an_id : (a : Applied) (rest : NodeArgs) → NodeArgs
  a_binder : (x : ℕ) (inner rest : NodeArgs) → NodeArgs

-- the arguments without bound names, where ρ numbers the names outside
abbrev pub unnamed : (ℕ → ℕ) → NodeArgs → DArgs
unnamed ρ no_more = stop
unnamed ρ (a_name x rest) = place (ρ x) (unnamed ρ rest)
unnamed ρ (an_id a rest) = child_before (as_term (renamed_id ρ a)) (unnamed ρ rest)
unnamed ρ (a_binder x inner rest) = scope (unnamed (extend x ρ) inner) (unnamed ρ rest)

-- all names that are written, and those of binders
abbrev pub written_names : NodeArgs → List ℕ
written_names no_more = []
written_names (a_name x rest) = x ∷ written_names rest
written_names (an_id a rest) = values a.1 ++ written_names rest
written_names (a_binder x inner rest) = x ∷ (written_names inner ++ written_names rest)

abbrev pub bound_names : NodeArgs → List ℕ
bound_names no_more = []
bound_names (a_name x rest) = bound_names rest
bound_names (an_id a rest) = bound_names rest
bound_names (a_binder x inner rest) = x ∷ (bound_names inner ++ bound_names rest)

-- what stands after the first argument, the first child, and what is under the first binder
abbrev pub rest_of : NodeArgs → NodeArgs
rest_of no_more = no_more
rest_of (a_name x rest) = rest
rest_of (an_id a rest) = rest
rest_of (a_binder x inner rest) = rest

abbrev pub id_of_first : NodeArgs → Applied
id_of_first no_more = (0, [])
id_of_first (a_name x rest) = (0, [])
id_of_first (an_id a rest) = a
id_of_first (a_binder x inner rest) = (0, [])

abbrev pub inside_first : NodeArgs → NodeArgs
inside_first no_more = no_more
inside_first (a_name x rest) = no_more
inside_first (an_id a rest) = no_more
inside_first (a_binder x inner rest) = inner

-- a state of the matcher
pub record MatchState : Type 0 where
  pub values : List (List ℕ × Applied)
  pub pairs : List (ℕ × ℕ)
  pub seen : List ℕ

-- the value of a variable
abbrev pub value_at : List (List ℕ × Applied) → List ℕ → Option Applied
value_at [] v = None
value_at (p ∷ values) v = cond (numbers_eq p.0 v) (Some p.1) (value_at values v)

-- the pairs with the name s for the slot t, where s stands for the slot u already, or for none
abbrev pub paired_with : Option ℕ → List (ℕ × ℕ) → ℕ → ℕ → Option (List (ℕ × ℕ))
paired_with (Some u) pairs s t = cond (nat_eq u t) (Some pairs) None
paired_with None pairs s t = cond (has_slot (values pairs) t) None (Some ((s, t) ∷ pairs))

abbrev pub paired : List (ℕ × ℕ) → ℕ → ℕ → Option (List (ℕ × ℕ))
paired pairs s t = paired_with (value_of pairs s) pairs s t

-- names, binders and children have to stand in the same places
abbrev pub walked : PatternArgs → NodeArgs → List (ℕ × ℕ) → Option (List (ℕ × ℕ))
walked no_argument no_more pairs = Some pairs
walked (own_name x rest) (a_name y n) pairs = option_and_then (walked rest n) (paired pairs y x)
walked (child_pattern p rest) (an_id a n) pairs = walked rest n pairs
walked (binding x inner rest) (a_binder y m n) pairs = option_and_then (walked rest n) (option_and_then (walked inner m) (paired pairs y x))
walked _ _ pairs = None

-- the row is one of the class of a, with this operator and these payloads
pub record IsRowFor (g : State) (r : Row) (op : ℕ) (payloads : List (List ℕ)) (a : Applied) : Type 0 where
  pub class : row_class g r ≡ find_class g.found a.0
  pub operator : r.shape.op ≡ op
  pub payloads_same : r.shape.payloads ≡ payloads

-- n are the arguments of the row's node, with the names of an id that finds what a finds; its binders, and the names that a lacks, are new
pub record IsNodeOf (g : State) (seen : List ℕ) (r : Row) (a : Applied) (n : NodeArgs) : Type 0 where
  pub id : Applied
  pub of_row : IsOfRow g r id a
  pub form : unnamed (λ y. y) n ≡ (row_node r id).args
  pub binders_differ : AllDifferent (bound_names n)
  pub binders_new : (z : ℕ) → Contains (bound_names n) z → (¬ Contains seen z) × (¬ Contains (values id.1) z)
  pub others_new : (z : ℕ) → Contains (values id.1) z → Contains (values (find g.found a).1) z ⊎ (¬ Contains seen z)

-- one list after another: what P gives for each of the first list
abbrev pub Gives : {A B : Type 0} → (A → List B → Type 0) → List A → List B → Type 0
Gives P [] outs = outs ≡ []
Gives {A} {B} P (x ∷ xs) outs = (here : List B) × (there : List B) × (outs ≡ here ++ there) × P x here × Gives P xs there

-- P of the value, if there is one, and else Q
abbrev pub IfThere : {A : Type 0} → Option A → (A → Type 0) → Type 0 → Type 0
IfThere None P Q = Q
IfThere (Some x) P Q = P x

-- the state in which the variable v has a value: the one that it has, if it finds what a finds, or else a
abbrev pub with_value : State → Option Applied → MatchState → List ℕ → Applied → List MatchState
with_value g (Some b) st v a = cond (id_eq (find g.found b) (find g.found a)) (st ∷ []) []
with_value g None st v a = record st { values = (v, a) ∷ st.values } ∷ []

abbrev mutual
  -- a variable takes the id as its value; a node is held beside each row of the id's class in turn, first its names and then child by child
  pub Found : State → List Row → Pattern → MatchState → Applied → List MatchState → Type 0
  Found g order (pattern_node op payloads args) st a outs =
      Gives (λ (r : Row) (here : List MatchState).
      ((¬ IsRowFor g r op payloads a) × (here ≡ []))
      ⊎ ((n : NodeArgs) × IsRowFor g r op payloads a × IsNodeOf g st.seen r a n
      × IfThere (walked args n st.pairs) (λ pairs. FoundIn g order args n (record { values = st.values; pairs = pairs; seen = written_names n ++ st.seen }) here) (here ≡ [])))
      order outs
  Found g order (variable v) st a outs = outs ≡ with_value g (value_at st.values v) st v a
  Found g order (replacing body part value) st a outs = outs ≡ []

  -- each child pattern at its id, from each state in which the ones before it were found
  pub FoundIn : State → List Row → PatternArgs → NodeArgs → MatchState → List MatchState → Type 0
  FoundIn g order no_argument n st outs = outs ≡ st ∷ []
  FoundIn g order (own_name x rest) n st outs = FoundIn g order rest (rest_of n) st outs
  FoundIn g order (child_pattern p rest) n st outs = (mid : List MatchState) × Found g order p st (id_of_first n) mid ×
      Gives (λ s here. FoundIn g order rest (rest_of n) s here) mid outs
  FoundIn g order (binding x inner rest) n st outs = (mid : List MatchState) × FoundIn g order inner (inside_first n) st mid ×
      Gives (λ s here. FoundIn g order rest (rest_of n) s here) mid outs

abbrev mutual
  -- P holds of each slot that the pattern names, binders too
  pub EachSlot : (ℕ → Type 0) → Pattern → Type 0
  EachSlot P (pattern_node op payloads args) = EachSlotIn P args
  EachSlot P (variable v) = Unit {0}
  EachSlot P (replacing body part value) = EachSlot P body × EachSlot P part × EachSlot P value

  pub EachSlotIn : (ℕ → Type 0) → PatternArgs → Type 0
  EachSlotIn P no_argument = Unit {0}
  EachSlotIn P (own_name x rest) = P x × EachSlotIn P rest
  EachSlotIn P (child_pattern p rest) = EachSlot P p × EachSlotIn P rest
  EachSlotIn P (binding x inner rest) = P x × EachSlotIn P inner × EachSlotIn P rest

-- a live class under its own slots, and the state in which nothing but these was seen
abbrev pub class_id : State → ℕ → Applied
class_id g c = (c, identity (used_slots g.found c))

abbrev pub start_at : State → ℕ → MatchState
start_at g c = record { values = []; pairs = []; seen = used_slots g.found c }

-- f gives a name to each name of the graph, and the slots of the pattern to those that stand for them; σ v is the value of v with
-- these names, up to what finds alike
pub record Reads (g : State) (f : ℕ → ℕ) (σ : List ℕ → Applied) (st : MatchState) : Type 0 where
  pub injective : IsInjective f
  pub slots : (s t : ℕ) → Contains st.pairs (s, t) → f s ≡ t
  pub values_read : (v : List ℕ) (b : Applied) → value_at st.values v ≡ Some b → find g.found (σ v) ≡ renamed_id f (find g.found b)
