-- A request of the code as one of the definitions.
use Rattle.slotted_commands.specs.Commands.{command_of, no_command}
use Rattle.slotted_lines.specs.Requests.{SessionCommand, makes_rule, runs, plain}
use Rattle.slotted_lines.specs.declared.request.Request.{Request}
use Rattle.slotted_lines.specs.declared.request.Request.TheVariants.{Rule, Run, Plain, Unknown}

abbrev pub requested : Request → SessionCommand
requested (Rule name left right) = makes_rule name.now left.now right.now
requested (Run limit) = runs limit
requested (Plain line) = plain (command_of line.now)
requested Unknown = plain no_command
