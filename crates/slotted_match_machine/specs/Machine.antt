-- What the machine answers, over rows and steps as lists.
--     Occurrence            a class with a name for each of its slots, in order
--     MachineState          the children of each register, which name stands for which slot, what each variable took, and how many names there are
--     names_for, new_names  the names of a row's numbers in a class with these names, and how many of them are new
--     after_row             the state after a row was entered, if its own names and binders can stand for these slots
--     with_variable         the state after a variable took an occurrence, if it is the same as before
--     answers_of            what the machine answers from a state
--     answers_at            what it answers at a class
use Rattle.std.specs.Prelude.{ℕ, zero, suc, ◌+◌, List, [], ◌∷◌, ◌++◌, length, map, Bool, ◌&&◌, Option, Some, None, option_map, cond, nat_eq, nat_lt, slice_index, slice_index_or}
use Rattle.std.specs.List.{flat_map, range_with_len}
use Rattle.slotted_theory.specs.Decided.{numbers_eq}
use Rattle.slotted_model_rules.specs.Goals.{paired_all}
use Rattle.slotted_match_machine.specs.declared.index.IndexChild.{IndexChild}
use Rattle.slotted_match_machine.specs.declared.index.IndexRow.{IndexRow}
use Rattle.slotted_match_machine.specs.declared.index.ClassRows.{ClassRows}
use Rattle.slotted_match_machine.specs.declared.index.RowIndex.{RowIndex}
use Rattle.slotted_match_machine.specs.declared.program.Source.{Source}
use Rattle.slotted_match_machine.specs.declared.program.Step.{Step}
use Rattle.slotted_match_machine.specs.declared.program.Step.TheVariants.{Node, Variable}

-- a class with a name for each of its slots
pub record Occurrence : Type 0 where
  pub class : ℕ
  pub names : List ℕ

abbrev pub no_occurrence : Occurrence
no_occurrence = record { class = 0; names = [] }

abbrev pub same_occurrence : Occurrence → Occurrence → Bool
same_occurrence a b = nat_eq a.class b.class && numbers_eq a.names b.names

-- the children of each register, the pairs of a name and the slot that it stands for, what each variable took, by its number, and how many names there are
pub record MachineState : Type 0 where
  pub registers : List (List Occurrence)
  pub pairs : List (ℕ × ℕ)
  pub values : List Occurrence
  pub count : ℕ

-- an answer: the pairs, and what each variable took
pub record Answer : Type 0 where
  pub pairs : List (ℕ × ℕ)
  pub values : List Occurrence

abbrev pub occurrence_at : MachineState → Source → Occurrence
occurrence_at m from = slice_index_or (slice_index_or m.registers from.register []) from.child no_occurrence

-- for each number the name of the class's slot that it stands for, or a new one
abbrev pub names_for : List ℕ → List ℕ → ℕ → List ℕ
names_for names [] n = []
names_for names (zero ∷ slots) n = n ∷ names_for names slots (suc n)
names_for names (suc p ∷ slots) n = slice_index names p ∷ names_for names slots n

abbrev pub new_names : List ℕ → ℕ
new_names [] = 0
new_names (zero ∷ slots) = suc (new_names slots)
new_names (suc p ∷ slots) = new_names slots

-- these numbers by their names
abbrev pub named : List ℕ → List ℕ → List ℕ
named names numbers = map (slice_index names) numbers

abbrev pub child_occurrence : List ℕ → IndexChild → Occurrence
child_occurrence names c = record { class = c.class; names = named names c.numbers.items }

-- the state after the row was entered, where its numbers have these names and these pairs were made
abbrev pub entered : MachineState → List ℕ → IndexRow → List (ℕ × ℕ) → MachineState
entered m names r pairs = record {
  registers = m.registers ++ map (child_occurrence names) r.children.items ∷ [];
  pairs = pairs;
  values = m.values;
  count = m.count + new_names r.slots.items;
}

abbrev pub entered_with : MachineState → List ℕ → IndexRow → List ℕ → Option MachineState
entered_with m names r slots = option_map (entered m names r) (paired_all m.pairs (named names r.owns.items) slots)

abbrev pub after_row : MachineState → List ℕ → IndexRow → List ℕ → Option MachineState
after_row m names r slots = entered_with m (names_for names r.slots.items m.count) r slots

abbrev pub with_variable : MachineState → ℕ → Occurrence → Option MachineState
with_variable m v o =
    cond (nat_lt v (length m.values)) (cond (same_occurrence (slice_index_or m.values v no_occurrence) o) (Some m) None)
    (Some (record m { values = m.values ++ o ∷ [] }))

abbrev pub no_rows : List IndexRow
no_rows = []

-- the rows of a class
abbrev pub rows_in : List ClassRows → ℕ → List IndexRow
rows_in [] c = []
rows_in (k ∷ classes) zero = k.rows.items
rows_in (k ∷ classes) (suc c) = rows_in classes c

abbrev pub slot_count_in : List ClassRows → ℕ → ℕ
slot_count_in [] c = 0
slot_count_in (k ∷ classes) zero = k.slot_count
slot_count_in (k ∷ classes) (suc c) = slot_count_in classes c

-- f of the state, if there is one
abbrev pub if_there : (MachineState → List Answer) → Option MachineState → List Answer
if_there f None = []
if_there f (Some m) = f m

-- depth first, each row in its turn
unfoldable pub answers_of : List ClassRows → List Step → MachineState → List Answer
answers_of classes [] m = record { pairs = m.pairs; values = m.values } ∷ []
answers_of classes (Variable v from ∷ steps) m = if_there (answers_of classes steps) (with_variable m v (occurrence_at m from))
answers_of classes (Node outline slots from ∷ steps) m =
    flat_map
    (λ (r : IndexRow). cond (nat_eq r.outline outline)
    (if_there (answers_of classes steps) (after_row m (occurrence_at m from).names r slots.items)) [])
    (rows_in classes (occurrence_at m from).class)

-- the state in which nothing but the slots of the class was seen
abbrev pub started : List ClassRows → ℕ → MachineState
started classes c = record {
  registers = (record { class = c; names = range_with_len 0 (slot_count_in classes c) } ∷ []) ∷ [];
  pairs = [];
  values = [];
  count = slot_count_in classes c;
}

abbrev pub answers_at : List ClassRows → List Step → ℕ → List Answer
answers_at classes steps c = answers_of classes steps (started classes c)

-- at each live class in its turn
abbrev pub all_answers : RowIndex → List Step → List Answer
all_answers index steps = flat_map (answers_at index.classes.items steps) index.live.items
