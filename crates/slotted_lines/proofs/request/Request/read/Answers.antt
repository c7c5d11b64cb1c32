use Rattle.std.proofs.Common.{sym, ◌∙◌}
use Rattle.std.specs.Prelude.{codes}
use Rattle.slotted_lists.proofs.Splitting.{rest_behind-none}
use Rattle.slotted_commands.specs.Commands.{command_of, rest_behind}
use Rattle.slotted_commands.proofs.Splitting.{stripped}
use Rattle.slotted_lines.specs.Requests.{plain, rule_or_run}
use Rattle.slotted_lines.proofs.Lines.{line_is}
use Rattle.slotted_lines.proofs.request.Request.read.Goals as goal

pub returns-in-Some : goal.returns-in-Some
returns-in-Some c =
    let line = c.args.line.now in
    let text = stripped (codes "rule ") line _ c.in-Some.ensures.cases in
    c.read_rule.ensures ∙ (sym (λ i. rule_or_run (text i) (rest_behind (codes "run ") line) (plain (command_of line))) ∙ line_is line)

pub returns-in-Some-strip_prefix : goal.returns-in-Some-strip_prefix
returns-in-Some-strip_prefix c =
    let line = c.args.line.now in
    let no_rule = rest_behind-none (codes "rule ") line c.in_default.ensures.cases in
    let text = stripped (codes "run ") line _ c.in-Some-strip_prefix.ensures.cases in
    c.read_run.ensures ∙ (sym (λ i. rule_or_run (no_rule i) (text i) (plain (command_of line))) ∙ line_is line)

pub returns-in-None : goal.returns-in-None
returns-in-None c =
    let line = c.args.line.now in
    let no_rule = rest_behind-none (codes "rule ") line c.in_default.ensures.cases in
    let no_run = rest_behind-none (codes "run ") line c.in-None.ensures.cases in
    sym (λ i. rule_or_run (no_rule i) (no_run i) (plain (command_of line))) ∙ line_is line
