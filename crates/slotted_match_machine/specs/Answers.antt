-- The answers of the machine as lists, and what it answers from where it is.
--     answer_of          an answer, with its lists
--     answers_in         all of them
--     AddsAnswers        these answers were added to those before
--     answered           what a state answers when no step is left
--     answers_from       what is answered after these steps
--     answers_with       what is answered from another state, if there is one
--     answers_of_value   after a variable took what is read through a view
--     answers_of_row     after a row was entered, at a class that is read through a view
--     rows_of_outline    the rows that have an outline
--     answers_of_rows    after each row of an outline was
use Rattle.std.specs.Prelude.{◌≡◌, ℕ, List, ◌++◌, map, filter, Option, nat_eq}
use Rattle.std.specs.List.{flat_map}
use Rattle.slotted_match_machine.specs.Machine.{Answer, Occurrence, MachineState, answers_of, if_there, after_row, with_variable}
use Rattle.slotted_match_machine.specs.Scratch.{Scratch, state_of}
use Rattle.slotted_match_machine.specs.Views.{names_at, occurrence_of}
use Rattle.slotted_match_machine.specs.declared.answer.Answer.{Answer as AnswerRead}
use Rattle.slotted_match_machine.specs.declared.answer.Occurrence.{Occurrence as OccurrenceRead}
use Rattle.slotted_match_machine.specs.declared.index.IndexRow.{IndexRow}
use Rattle.slotted_match_machine.specs.declared.program.Step.{Step}
use Rattle.slotted_match_machine.specs.declared.view.View.{View}

abbrev pub occurrence_in : OccurrenceRead → Occurrence
occurrence_in o = record { class = o.class; names = o.names.items }

abbrev pub answer_of : AnswerRead → Answer
answer_of a = record { pairs = a.pairs.items; values = map occurrence_in a.values.items }

abbrev pub answers_in : List AnswerRead → List Answer
answers_in answers = map answer_of answers

abbrev pub AddsAnswers : List Answer → List AnswerRead → List AnswerRead → Type 0
AddsAnswers more old new = answers_in new ≡ answers_in old ++ more

abbrev pub answered : MachineState → Answer
answered m = record { pairs = m.pairs; values = m.values }

abbrev pub answers_from : Scratch → List Step → List Answer
answers_from s steps = answers_of s.classes steps (state_of s)

abbrev pub answers_with : Scratch → List Step → Option MachineState → List Answer
answers_with s steps o = if_there (answers_of s.classes steps) o

abbrev pub answers_of_value : Scratch → List Step → ℕ → View → List Answer
answers_of_value s steps number v = answers_with s steps (with_variable (state_of s) number (occurrence_of s.frames v))

abbrev pub answers_of_row : Scratch → List Step → View → List ℕ → IndexRow → List Answer
answers_of_row s steps v slots r = answers_with s steps (after_row (state_of s) (names_at s.frames v.names) r slots)

abbrev pub rows_of_outline : ℕ → List IndexRow → List IndexRow
rows_of_outline outline rows = filter (λ (r : IndexRow). nat_eq r.outline outline) rows

abbrev pub answers_of_rows : Scratch → List Step → View → ℕ → List ℕ → List IndexRow → List Answer
answers_of_rows s steps v outline slots rows = flat_map (answers_of_row s steps v slots) (rows_of_outline outline rows)
