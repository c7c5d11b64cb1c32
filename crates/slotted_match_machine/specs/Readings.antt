-- How what the machine answers is read: its numbers as names of the graph, and as names of a substitution.
--     name_at slots n         the name of the graph that the number n stands for, at a class with these slots
--     read_id g f o           the id of an occurrence, where f names its numbers
--     read_pairs f pairs      the pairs, where f names the numbers
--     IsWholeId g o           the occurrence is of a live class, with different numbers for its slots
--     IsReadAs g f variables out x   the matcher's state is the answer x
--     names_of x              the numbers in an answer
--     ReadsAnswer g variables s x   the substitution s is the answer x, with names for its numbers
--     IsWholeAnswer g variables x   an answer has a whole id for each variable, and no number and no slot is paired twice
use Rattle.std.specs.Prelude.{◌≡◌, ℕ, ◌+◌, ◌<◌, List, [], ◌++◌, length, map, Contains, Some, slice_index_or}
use Rattle.std.specs.List.{zip, flat_map}
use Rattle.slotted_lists.proofs.Contained.{above}
use Rattle.slotted_model.specs.Applied.{Applied}
use Rattle.slotted_model.specs.Correspondence.{AllDifferent, IsInjectiveOn}
use Rattle.slotted_model.specs.Find.{IsLive, used_slots}
use Rattle.slotted_model.specs.State.{State}
use Rattle.slotted_model_rules.specs.Conditions.{Values}
use Rattle.slotted_model_rules.specs.Matcher.{MatchState, value_at}
use Rattle.slotted_model_rules.specs.Rules.{valued}
use Rattle.slotted_match_machine.specs.Machine.{Occurrence, no_occurrence, Answer}

-- the slots first, and then numbers above all of them
abbrev pub name_at : List ℕ → ℕ → ℕ
name_at slots n = slice_index_or slots n (above slots + n)

-- the class, with the name for each of its slots
abbrev pub read_id : State → (ℕ → ℕ) → Occurrence → Applied
read_id g f o = (o.class, zip (used_slots g.found o.class) (map f o.names))

abbrev pub read_pairs : (ℕ → ℕ) → List (ℕ × ℕ) → List (ℕ × ℕ)
read_pairs f pairs = map (λ p. (f p.0, p.1)) pairs

-- a live class with a number for each of its slots, and no two of them the same
pub record IsWholeId (g : State) (o : Occurrence) : Type 0 where
  pub in_range : o.class < length g.nodes
  pub lives : IsLive g.found o.class
  pub count : length o.names ≡ length (used_slots g.found o.class)
  pub differ : AllDifferent o.names

-- the variable of each number has the id that the answer has at this number, and no other variable has one
pub record IsReadAs (g : State) (f : ℕ → ℕ) (variables : List (List ℕ)) (out : MatchState) (x : Answer) : Type 0 where
  pub pairs : out.pairs ≡ read_pairs f x.pairs
  pub count : length x.values ≡ length variables
  pub whole : (o : Occurrence) → Contains x.values o → IsWholeId g o
  pub values : (k : ℕ) → k < length variables → value_at out.values (slice_index_or variables k []) ≡ Some (read_id g f (slice_index_or x.values k no_occurrence))
  pub no_others : (v : List ℕ) (b : Applied) → value_at out.values v ≡ Some b → Contains variables v

-- the numbers of pairs, and those of values
abbrev pub names_of : Answer → List ℕ
names_of x = map (λ p. p.0) x.pairs ++ flat_map (λ (o : Occurrence). o.names) x.values

-- different names for different numbers, which are slots of the pattern where numbers are paired with these
pub record ReadsAnswer (g : State) (variables : List (List ℕ)) (s : Values) (x : Answer) : Type 0 where
  pub name : ℕ → ℕ
  pub injective : IsInjectiveOn name (names_of x)
  pub slots : (n t : ℕ) → Contains x.pairs (n, t) → name n ≡ t
  pub values : (k : ℕ) → k < length variables → valued s (slice_index_or variables k []) ≡ read_id g name (slice_index_or x.values k no_occurrence)

-- an id for each variable, and pairs of which no two have one number or one slot
pub record IsWholeAnswer (g : State) (variables : List (List ℕ)) (x : Answer) : Type 0 where
  pub count : length x.values ≡ length variables
  pub values : (o : Occurrence) → Contains x.values o → IsWholeId g o
  pub numbers_differ : AllDifferent (map (λ p. p.0) x.pairs)
  pub slots_differ : AllDifferent (map (λ p. p.1) x.pairs)
