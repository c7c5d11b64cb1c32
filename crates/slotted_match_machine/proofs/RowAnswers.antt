-- What is answered by one step.
use Rattle.std.specs.Prelude.{Bool, true, false, cond, nat_eq, filter, Vec}
use Rattle.std.specs.List.{flat_map}
use Rattle.std.proofs.Common.{◌≡◌, ◌++◌, ℕ, List, [], ◌∷◌, length, sym, ◌∙◌, ap, refl, arith, append_assoc}
use Rattle.std.proofs.lemmas.List.{map-append}
use Rattle.std.specs.declared.alloc.Global.{Global}
use Rattle.slotted_match_machine.specs.declared.answer.Answer.{Answer as AnswerRead}
use Rattle.slotted_match_machine.specs.declared.index.IndexRow.{IndexRow}
use Rattle.slotted_match_machine.specs.declared.program.Source.{Source}
use Rattle.slotted_match_machine.specs.declared.program.Step.{Step}
use Rattle.slotted_match_machine.specs.declared.program.Step.TheVariants.{Node, Variable}
use Rattle.slotted_match_machine.specs.declared.view.View.{View}
use Rattle.slotted_match_machine.specs.Machine.{Answer, Occurrence, answers_of, occurrence_at, with_variable, rows_in, if_there, after_row}
use Rattle.slotted_match_machine.specs.Scratch.{Scratch, state_of}
use Rattle.slotted_match_machine.specs.Views.{occurrence_of}
use Rattle.slotted_match_machine.specs.Answers.{answer_of, answers_in, answered, answers_from, answers_of_value, answers_of_row, answers_of_rows}

pub answers_from-end : (s : Scratch) (steps : List Step) → length steps ≡ 0 → answers_from s steps ≡ answered (state_of s) ∷ []
unfolding answers_of
answers_from-end s [] e = refl
answers_from-end s (x ∷ steps) e = absurd (omega (arith, e))

-- a list of those that pass a test gives what they give
of-filtered : {A B : Type 0} (f : A → List B) (test : A → Bool) (xs : List A) → flat_map (λ x. cond (test x) (f x) []) xs ≡ flat_map f (filter test xs)
of-filtered f test [] = refl
of-filtered f test (x ∷ xs) = go (test x) (of-filtered f test xs)
  where
    go : (b : Bool) → flat_map (λ y. cond (test y) (f y) []) xs ≡ flat_map f (filter test xs) →
        cond b (f x) [] ++ flat_map (λ y. cond (test y) (f y) []) xs ≡ flat_map f (cond b (x ∷ filter test xs) (filter test xs))
    go true e = ap (λ l. f x ++ l) e
    go false e = e

-- what a node answers, where its occurrence is o
answers_at_node : Scratch → List Step → ℕ → List ℕ → Occurrence → List Answer
answers_at_node s rest outline slots o =
    flat_map
    (λ (r : IndexRow). cond (nat_eq r.outline outline) (if_there (answers_of s.classes rest) (after_row (state_of s) o.names r slots)) [])
    (rows_in s.classes o.class)

pub answers_from-node : (s : Scratch) (steps rest : List Step) (outline : ℕ) (slots : Vec ℕ Global) (from : Source) (v : View) (own : List ℕ) →
    steps ≡ Node outline slots from ∷ rest → occurrence_of s.frames v ≡ occurrence_at (state_of s) from → own ≡ slots.items →
    answers_from s steps ≡ answers_of_rows s rest v outline own (rows_in s.classes v.class)
unfolding answers_of answers_at_node
answers_from-node s steps rest outline slots from v own e f g =
    ap (answers_from s) e
    ∙ ((λ i. answers_at_node s rest outline (sym g i) (sym f i))
    ∙ of-filtered (answers_of_row s rest v own) (λ r. nat_eq r.outline outline) (rows_in s.classes v.class))

pub answers_from-variable : (s : Scratch) (steps rest : List Step) (number : ℕ) (from : Source) (v : View) →
    steps ≡ Variable number from ∷ rest → occurrence_of s.frames v ≡ occurrence_at (state_of s) from →
    answers_from s steps ≡ answers_of_value s rest number v
unfolding answers_of
answers_from-variable s steps rest number from v e f =
    ap (answers_from s) e ∙ ap (λ o. if_there (answers_of s.classes rest) (with_variable (state_of s) number o)) (sym f)

-- one answer more
pub answer-added : (old new : List AnswerRead) (a : AnswerRead) (x : Answer) (more : List Answer) → new ≡ old ++ a ∷ [] → answer_of a ≡ x →
    answers_in old ++ (x ∷ more) ≡ answers_in new ++ more
answer-added old new a x more e f =
    sym (append_assoc (answers_in old) (x ∷ []) more)
    ∙ ap (λ l. l ++ more) (ap (λ b. answers_in old ++ b ∷ []) (sym f) ∙ sym (ap answers_in e ∙ map-append answer_of old (a ∷ [])))
