-- The kinds of arguments as numbers, and the word and the kinds that an e-node has.
--     number k        0 for a slot, 1 for a child
--     number_of a     the kind of an argument
--     word_of f       the word of an e-node
--     kinds_of f      the kinds of its arguments
use Rattle.std.specs.Prelude.{ℕ, List, [], get_or}
use Rattle.slotted_nodes.specs.Form.{Form}
use Rattle.slotted_symbols.specs.declared.argument.Argument.{Argument}
use Rattle.slotted_symbols.specs.declared.argument.Argument.TheVariants.{Slot, Child}
use Rattle.slotted_signatures.specs.declared.kind.Kind.{Kind}
use Rattle.slotted_signatures.specs.declared.kind.Kind.TheVariants as kind

abbrev pub number : Kind → ℕ
number kind.Slot = 0
number kind.Child = 1

abbrev pub number_of : Argument → ℕ
number_of (Slot x) = 0
number_of (Child a) = 1

-- as `form_over` has them among the payloads
abbrev pub word_of : Form → List ℕ
word_of f = get_or f.payloads 0 []

abbrev pub kinds_of : Form → List ℕ
kinds_of f = get_or f.payloads 1 []
