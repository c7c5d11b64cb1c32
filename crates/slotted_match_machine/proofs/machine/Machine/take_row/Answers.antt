-- The row comes first, and those after it are left at a choice.
use Rattle.std.specs.Prelude.{IfOk, if◌then◌else◌}
use Rattle.std.proofs.Common.{◌≡◌, ◌++◌, [], sym, subst, arith}
use Rattle.std.proofs.lemmas.Result.{on_ok_weaker}
use Rattle.slotted_match_machine.specs.Scratch.{scratch_of}
use Rattle.slotted_match_machine.specs.Answers.{answers_from}
use Rattle.slotted_match_machine.specs.Choices.{answers_left, moves_left}
use Rattle.slotted_match_machine.proofs.ChoicePoints.{row-first, step-taken, choices-kept, moves-kept, moves-fewer}
use Rattle.slotted_match_machine.proofs.machine.Machine.take_row.Goals as goal

pub returns-clause-answers : goal.returns-clause-answers
returns-clause-answers c =
    let s = scratch_of c.args.self.now in
    let m = c.push_choice.new.self in
    let choice = c.args.choice.now in
    let row = c.in-Some.row.now in
    let pushed = c.in_ok-push_choice.ensures in
    let first = row-first s (scratch_of m) choice row c.in-Some.rows (answers_left c.args.self.now) (answers_left m)
    c.in-Some.ensures.rows pushed.kept pushed.answers in
    let n = c.enter.new.self in
    subst (λ all. IfOk c.enter.result (λ y. all ≡ (if y then answers_from (scratch_of n) choice.rest.now else []) ++ answers_left n)) (sym first)
    (step-taken c.enter.result (scratch_of m) (scratch_of c.enter.new.self) choice.rest.now _ m.choices.items c.enter.new.self.choices.items
    pushed.choices c.enter.ensures.entered c.enter.ensures.extends c.enter.ensures.choices)

pub returns-clause-choices : goal.returns-clause-choices
returns-clause-choices c =
    let m = c.push_choice.new.self in
    choices-kept c.enter.result (scratch_of m) (scratch_of c.enter.new.self) m.choices.items c.enter.new.self.choices.items
    c.in_ok-push_choice.ensures.choices c.enter.ensures.extends c.enter.ensures.choices

pub returns-clause-moves : goal.returns-clause-moves
returns-clause-moves c =
    let m = c.push_choice.new.self in
    let pushed = c.in_ok-push_choice.ensures in
    let kept = moves-kept c.enter.result (scratch_of m) (scratch_of c.enter.new.self) m.choices.items c.enter.new.self.choices.items
    c.enter.ensures.extends c.enter.ensures.choices in
    let fewer = moves-fewer c.args.self.now.index.now.classes.items c.args.choice.now c.in-Some.rows (moves_left c.args.self.now) (moves_left m)
    c.in-Some.ensures.fewer pushed.moves in
    on_ok_weaker c.enter.result (λ same. omega (arith, same, fewer)) kept
