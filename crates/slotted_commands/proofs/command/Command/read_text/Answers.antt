use Rattle.std.proofs.Common.{ap, sym, ◌∙◌}
use Rattle.std.specs.Prelude.{codes}
use Rattle.slotted_lists.proofs.Splitting.{rest_behind-none}
use Rattle.slotted_commands.specs.Commands.{asked_of_pair, one_or, rest_behind}
use Rattle.slotted_commands.proofs.Splitting.{stripped, text_line}
use Rattle.slotted_commands.proofs.command.Command.read_text.Goals as goal

pub returns-in-Some : goal.returns-in-Some
returns-in-Some c =
    let line = c.args.line.now in
    let text = stripped (codes "add ") line _ c.in-Some.ensures.cases in
    sym (ap (λ o. one_or o (rest_behind (codes "extract ") line) (asked_of_pair line)) text) ∙ text_line line

pub returns-in-Some-strip_prefix : goal.returns-in-Some-strip_prefix
returns-in-Some-strip_prefix c =
    let line = c.args.line.now in
    let not_add = rest_behind-none (codes "add ") line c.in_default.ensures.cases in
    let text = stripped (codes "extract ") line _ c.in-Some-strip_prefix.ensures.cases in
    sym (λ i. one_or (not_add i) (text i) (asked_of_pair line)) ∙ text_line line

pub returns-in-None : goal.returns-in-None
returns-in-None c =
    let line = c.args.line.now in
    let not_add = rest_behind-none (codes "add ") line c.in_default.ensures.cases in
    let not_extract = rest_behind-none (codes "extract ") line c.in-None.ensures.cases in
    c.read_pair.ensures ∙ (sym (λ i. one_or (not_add i) (not_extract i) (asked_of_pair line)) ∙ text_line line)
