-- What the answers of lines read as.
use Rattle.std.specs.Prelude.{ℕ, List, ◌∷◌, ◌++◌, codes, decimal}
use Rattle.std.specs.declared.convert.Infallible.{Infallible}
use Rattle.slotted_commands.specs.Answers.{text_of}
use Rattle.slotted_rules.specs.declared.report.StopReason.{StopReason}
use Rattle.slotted_rules.specs.declared.report.StopReason.TheVariants.{Saturated, IterationLimit, TimeLimit, NodeLimit, Other}
use Rattle.slotted_lines.specs.declared.told.Run.{Run}
use Rattle.slotted_lines.specs.declared.told.Told.{Told}
use Rattle.slotted_lines.specs.declared.told.Told.TheVariants.{Plain, Ran}

-- there is no other reason
abbrev pub word_of : StopReason Infallible → List ℕ
word_of Saturated = codes "Saturated"
word_of IterationLimit = codes "IterationLimit"
word_of TimeLimit = codes "TimeLimit"
word_of NodeLimit = codes "NodeLimit"
word_of (Other never) = elim never [ ]

-- the bytes of a run's first line
abbrev pub run_text : Run → List ℕ
run_text r = decimal r.turns ++ (codes " " ++ (word_of r.reason ++ (codes " " ++ decimal r.nodes)))

-- the bytes of an answer
abbrev pub told_text : Told → List ℕ
told_text (Plain answer) = text_of answer
told_text (Ran r) = run_text r ++ (10 ∷ (codes "turns " ++ (decimal r.rebuild_turns ++ (codes " of " ++ decimal r.rebuild_bound))))
