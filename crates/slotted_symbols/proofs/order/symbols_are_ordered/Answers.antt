use Rattle.slotted_symbols.specs.SymbolOrder.{symbol_ordered}
use Rattle.slotted_symbols.proofs.order.symbols_are_ordered.Goals as goal

pub returns : goal.returns
returns c = symbol_ordered
