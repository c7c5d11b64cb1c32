-- What was written so far, and what the rest of the parts prints.
use denote.Shadow.{shadow}
use denote.Text.{Utf8}
use Rattle.std.proofs.Common.{◌≡◌, [], ◌++◌, drop, string_bytes}
use Rattle.slotted_proofs.specs.Reasons.{numbers_text}
use Rattle.slotted_proofs.proofs.reasons.push_parts.Given as goal

abbrev pub invariant-loop-part : goal.invariant-loop-part
invariant-loop-part l =
    shadow (Utf8 l.separator)
    × (string_bytes l.text ++ numbers_text l.lines l.separator (drop l.part-index l.parts) ≡ string_bytes l.initial.text ++ numbers_text l.lines [] l.parts)
