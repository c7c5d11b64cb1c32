use Rattle.std.proofs.Common.{◌≡◌, drop}
use Rattle.slotted_proofs.specs.Lines.{first_new}
use Rattle.slotted_proofs.proofs.lines.ProofLines.first_new.Given as goal

-- the search from here on is the search
abbrev pub invariant-loop-part : goal.invariant-loop-part
invariant-loop-part l = first_new l.self (drop l.part-index l.parts) ≡ first_new l.self l.parts
