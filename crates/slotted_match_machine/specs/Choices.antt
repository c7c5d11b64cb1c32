-- The choice points of the machine, and what it has still to answer there.
--     answers_of_choice  what is answered from the rows of a choice
--     answers_at_all     what is answered at all choices, from the last one on, where the machine backtracks to each
--     IsChoice           the choice was made where the machine is
--     AreChoices         each was made where the machine is once it has backtracked to it
--     answers_left       what a machine has still to answer at its choices
--     HasChoices         they are choices of the machine
--     moves_after        how many rows are visited at most after these steps
--     moves_at, moves_left  how many are at a choice, and at all choices
use Rattle.std.specs.Prelude.{◌≡◌, ℕ, suc, ◌+◌, ◌*◌, List, [], ◌∷◌, ◌++◌, length, reverse, sum_by}
use Rattle.slotted_match_machine.specs.declared.index.ClassRows.{ClassRows}
use Rattle.slotted_match_machine.specs.declared.machine.Choice.{Choice}
use Rattle.slotted_match_machine.specs.declared.machine.Machine.{Machine}
use Rattle.slotted_match_machine.specs.declared.program.Step.{Step}
use Rattle.slotted_match_machine.specs.Machine.{Answer}
use Rattle.slotted_match_machine.specs.Views.{IsIn}
use Rattle.slotted_match_machine.specs.Scratch.{Scratch, IsReadable, scratch_of, mark_of, cut_to}
use Rattle.slotted_match_machine.specs.Answers.{answers_of_rows}

abbrev pub answers_of_choice : Scratch → Choice → List Answer
answers_of_choice s c = answers_of_rows s c.rest.now c.from c.outline c.slots.now c.rows.now

abbrev pub answers_at_all : Scratch → List Choice → List Answer
answers_at_all s [] = []
answers_at_all s (c ∷ cs) = answers_of_choice (cut_to c.mark s) c ++ answers_at_all (cut_to c.mark s) cs

pub record IsChoice (s : Scratch) (c : Choice) : Type 0 where
  pub mark : c.mark ≡ mark_of s
  pub readable : IsReadable s
  pub names : IsIn s.frames c.from.names.frame

abbrev pub AreChoices : Scratch → List Choice → Type 0
AreChoices s [] = Unit {0}
AreChoices s (c ∷ cs) = IsChoice (cut_to c.mark s) c × AreChoices (cut_to c.mark s) cs

-- the last choice comes first
abbrev pub answers_left : Machine → List Answer
answers_left m = answers_at_all (scratch_of m) (reverse m.choices.items)

abbrev pub HasChoices : Machine → Type 0
HasChoices m = AreChoices (scratch_of m) (reverse m.choices.items)

abbrev pub row_count : List ClassRows → ℕ
row_count [] = 0
row_count (k ∷ classes) = length k.rows.items + row_count classes

-- each step has no more rows than all classes
unfoldable pub moves_after : List ClassRows → List Step → ℕ
moves_after classes [] = 0
moves_after classes (step ∷ steps) = suc (row_count classes) * suc (moves_after classes steps)

abbrev pub moves_at : List ClassRows → Choice → ℕ
moves_at classes c = suc (length c.rows.now) * suc (moves_after classes c.rest.now)

abbrev pub moves_left : Machine → ℕ
moves_left m = sum_by (moves_at m.index.now.classes.items) m.choices.items
