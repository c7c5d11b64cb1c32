-- What an answer reads as.
use Rattle.std.specs.Prelude.{ℕ, List, ◌++◌, codes, decimal, string_bytes}
use Rattle.slotted_slots.specs.Error.{number_of, name_of}
use Rattle.slotted_commands.specs.declared.answer.Answer.{Answer}
use Rattle.slotted_commands.specs.declared.answer.Answer.TheVariants.{Done, Yes, No, United, WereEqual, Explained, Extracted, Symmetries, Refused, NoCommand}

-- the bytes of an answer
abbrev pub text_of : Answer → List ℕ
text_of Done = codes "ok"
text_of Yes = codes "yes"
text_of No = codes "no"
text_of United = codes "true"
text_of WereEqual = codes "false"
text_of (Explained proof) = string_bytes proof
text_of (Extracted cost term) = decimal cost ++ (codes " " ++ string_bytes term)
text_of (Symmetries met left) = decimal met ++ (codes " " ++ decimal left)
text_of (Refused e) = codes "error: " ++ (decimal (number_of e) ++ (codes " " ++ name_of e))
text_of NoCommand = codes "error: 0 Command"
