-- A node is a choice among the rows of its class, and a variable takes one occurrence.
use Rattle.std.specs.Prelude.{IfOk, if◌then◌else◌}
use Rattle.std.proofs.Common.{◌≡◌, ◌++◌, ◌∷◌, [], ◌∙◌, ap, sym, subst, arith}
use Rattle.std.proofs.lemmas.Result.{on_ok_weaker}
use Rattle.slotted_match_machine.specs.declared.machine.Choice.{Choice}
use Rattle.slotted_match_machine.specs.Scratch.{scratch_of}
use Rattle.slotted_match_machine.specs.Answers.{answers_from, answers_of_rows}
use Rattle.slotted_match_machine.specs.Choices.{answers_left}
use Rattle.slotted_match_machine.proofs.RowAnswers.{answers_from-node, answers_from-variable}
use Rattle.slotted_match_machine.proofs.ChoicePoints.{step-taken, choices-kept, moves-kept, moves-node, moves-variable}
use Rattle.slotted_match_machine.proofs.machine.Machine.take_step.Goals as goal

pub returns-in-Node-clause-answers : goal.returns-in-Node-clause-answers
returns-in-Node-clause-answers c =
    let s = scratch_of c.args.self.now in
    let rest = c.args.rest.now in
    let node = answers_from-node s (c.args.step.now ∷ rest) rest c.in-Node.outline c.in-Node.slots c.in-Node.from c.view-from.result c.deref.result.now
    (ap (λ x. x ∷ rest) c.in-Node.is) c.view-from.ensures.reads c.deref.ensures.value in
    let rows = ap (answers_of_rows s rest c.view-from.result c.in-Node.outline c.deref.result.now) (sym c.rows_of.ensures) in
    let n = c.take_row.new.self in
    subst (λ more. IfOk c.take_row.result (λ y. more ++ answers_left c.args.self.now ≡ (if y then answers_from (scratch_of n) rest else []) ++ answers_left n))
    (sym (node ∙ rows)) c.take_row.ensures.answers

pub returns-in-Node-clause-moves : goal.returns-in-Node-clause-moves
returns-in-Node-clause-moves c =
    let choice : Choice = record {
      mark = c.mark.result;
      from = c.view-from.result;
      outline = c.in-Node.outline;
      slots = c.deref.result;
      rows = c.rows_of.result;
      rest = c.args.rest;
    } in
    let most = moves-node c.args.self.now.index.now.classes.items choice c.args.step.now c.view-from.result.class c.rows_of.ensures in
    on_ok_weaker c.take_row.result (λ fewer. omega (arith, fewer, most)) c.take_row.ensures.moves

pub returns-in-Variable-clause-answers : goal.returns-in-Variable-clause-answers
returns-in-Variable-clause-answers c =
    let s = scratch_of c.args.self.now in
    let rest = c.args.rest.now in
    let n = c.take_value.new.self in
    let value = answers_from-variable s (c.args.step.now ∷ rest) rest c.in-Variable.number c.in-Variable.from c.view-from-in-Variable.result
    (ap (λ x. x ∷ rest) c.in-Variable.is) c.view-from-in-Variable.ensures.reads in
    subst (λ more. IfOk c.take_value.result (λ y. more ++ answers_left c.args.self.now ≡ (if y then answers_from (scratch_of n) rest else []) ++ answers_left n))
    (sym value)
    (step-taken c.take_value.result s (scratch_of n) rest _ c.args.self.now.choices.items n.choices.items
    c.requires.choices c.take_value.ensures.taken c.take_value.ensures.extends c.take_value.ensures.choices)

pub returns-in-Variable-clause-choices : goal.returns-in-Variable-clause-choices
returns-in-Variable-clause-choices c =
    choices-kept c.take_value.result (scratch_of c.args.self.now) (scratch_of c.take_value.new.self)
    c.args.self.now.choices.items c.take_value.new.self.choices.items
    c.requires.choices c.take_value.ensures.extends c.take_value.ensures.choices

pub returns-in-Variable-clause-moves : goal.returns-in-Variable-clause-moves
returns-in-Variable-clause-moves c =
    let most = moves-variable c.args.self.now.index.now.classes.items c.args.step.now c.args.rest.now in
    on_ok_weaker c.take_value.result (λ same. omega (arith, same, most))
    (moves-kept c.take_value.result (scratch_of c.args.self.now) (scratch_of c.take_value.new.self)
    c.args.self.now.choices.items c.take_value.new.self.choices.items
    c.take_value.ensures.extends c.take_value.ensures.choices)
