-- What a line asks of a session: a rule, a run, or what it asks of the graph alone.
--     number_of bs              the number below 2 ^ 32 that a text writes in decimal digits, behind which nothing stands; a plus may stand first
--     rule_of, run_of bs        what is asked by what follows the word `rule`, and by what follows the word `run`
--     session_command_of line   what a line asks
use Rattle.std.specs.Prelude.{ℕ, List, length, Bool, ◌&&◌, Option, Some, None, if◌then◌else◌, codes, nat_lt}
use Rattle.std.specs.Char.{is_digit}
use Rattle.std.specs.List.{list_all}
use Rattle.std.specs.Str.Parse.{digits_value, without_leading_plus}
use Rattle.slotted_commands.specs.Commands.{Command, no_command, command_of, parts_around, rest_behind}

-- to keep a rule; to run the rules so far, with a limit of turns; or what is asked of the graph alone
pub data SessionCommand : Type 0 where
  makes_rule : (name left right : List ℕ) → SessionCommand
  runs : (limit : ℕ) → SessionCommand
  plain : (command : Command) → SessionCommand

-- one digit or more, and nothing else
abbrev pub is_numeral : List ℕ → Bool
is_numeral bs = nat_lt 0 (length bs) && list_all (λ c. is_digit c 10) bs

-- the number of these digits, if they are some and it is small enough
abbrev pub number_of_digits : List ℕ → Option ℕ
number_of_digits bs = if is_numeral bs && nat_lt (digits_value 10 bs) 4294967296 then Some (digits_value 10 bs) else None

abbrev pub number_of : List ℕ → Option ℕ
number_of bs = number_of_digits (without_leading_plus bs)

abbrev pub run_by : Option ℕ → SessionCommand
run_by (Some n) = runs n
run_by None = plain no_command

unfoldable pub run_of : List ℕ → SessionCommand
run_of bs = run_by (number_of bs)

abbrev pub rule_by : List ℕ → Option (List ℕ × List ℕ) → SessionCommand
rule_by name (Some sides) = makes_rule name sides.0 sides.1
rule_by name None = plain no_command

abbrev pub rule_of_parts : Option (List ℕ × List ℕ) → SessionCommand
rule_of_parts (Some parts) = rule_by parts.0 (parts_around (codes " => ") parts.1)
rule_of_parts None = plain no_command

unfoldable pub rule_of : List ℕ → SessionCommand
rule_of bs = rule_of_parts (parts_around (codes ": ") bs)

-- what is asked by what follows the word `rule`, by what follows the word `run`, or else this
abbrev pub rule_or_run : Option (List ℕ) → Option (List ℕ) → SessionCommand → SessionCommand
rule_or_run (Some text) _ other = rule_of text
rule_or_run None (Some text) other = run_of text
rule_or_run None None other = other

unfoldable pub session_command_of : List ℕ → SessionCommand
session_command_of line = rule_or_run (rest_behind (codes "rule ") line) (rest_behind (codes "run ") line) (plain (command_of line))
