use Rattle.std.proofs.Common.{sym, ◌∙◌}
use Rattle.slotted_commands.proofs.Splitting.{word_line, other_line}
use Rattle.slotted_commands.proofs.command.Command.read.Goals as goal

pub returns-then-eq : goal.returns-then-eq
returns-then-eq c = word_line c.args.line.now (sym c.eq.ensures ∙ c.if-eq.true)

pub returns : goal.returns
returns c = c.read_text.ensures ∙ other_line c.args.line.now (sym c.eq.ensures ∙ c.if-eq.false)
