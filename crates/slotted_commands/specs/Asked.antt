-- A command of the code as one of the definitions.
use Rattle.slotted_commands.specs.Commands.{adds, compares, unites, explains, extracts, counts, no_command}
use Rattle.slotted_commands.specs.Commands as meant
use Rattle.slotted_commands.specs.declared.command.Command.{Command}
use Rattle.slotted_commands.specs.declared.command.Command.TheVariants.{Add, Eq, Union, Explain, Extract, Symmetries, Unknown}

abbrev pub asked : Command → meant.Command
asked (Add text) = adds text.now
asked (Eq left right) = compares left.now right.now
asked (Union left right) = unites left.now right.now
asked (Explain left right) = explains left.now right.now
asked (Extract text) = extracts text.now
asked Symmetries = counts
asked Unknown = no_command
