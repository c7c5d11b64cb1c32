use Rattle.std.proofs.Common.{map, take}
use Rattle.std.specs.Prelude.{All}
use Rattle.slotted_symbols.specs.SymbolForms.{symbol_form}
use Rattle.slotted_signatures.specs.UsedAsDeclared.{IsUsedAsDeclared}
use Rattle.slotted_signatures.proofs.signatures.Signatures.misuse.Given as goal

abbrev pub invariant-loop-number : goal.invariant-loop-number
invariant-loop-number l = All (IsUsedAsDeclared l.self) (take l.number (map (λ n. symbol_form n.now) l.nodes.items))
