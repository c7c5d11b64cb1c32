use Rattle.std.proofs.Common.{map, ap, sym, ◌∙◌}
use Rattle.slotted_symbols.specs.Arguments.{elements, kinds}
use Rattle.slotted_symbols.specs.SymbolForms.{symbol_form}
use Rattle.slotted_signatures.specs.Kinds.{number}
use Rattle.slotted_signatures.proofs.FirstMisuse.{misuse-of}
use Rattle.slotted_signatures.proofs.signatures.Signatures.misuse_of.Goals as goal

pub returns-in-Some-clause-some : goal.returns-in-Some-clause-some
returns-in-Some-clause-some c =
    let kinds-are = ap (map number) c.deref.ensures.value ∙ (c.in_ok-kinds.ensures.ok ∙ ap (λ l. kinds (elements l)) c.arguments.ensures) in
    misuse-of c.args.self.now (symbol_form c.args.node.now) (record { number = c.args.number; word = c.in_ok-from_str-in-Some.field-0; fault = c.in-Some.fault }) c.word.result.now (map number c.deref.result.now) c.word.ensures kinds-are c.in-Some.ensures.some (c.in_ok-from_str-in-Some.ensures.ok ∙ (c.word-in-Some.ensures ∙ sym c.word.ensures)) c.in-Some.ensures.fault
