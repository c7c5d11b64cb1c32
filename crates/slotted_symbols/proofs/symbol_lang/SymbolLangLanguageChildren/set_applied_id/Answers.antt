use Rattle.std.proofs.Common.{arith}
use Rattle.slotted_symbols.specs.Arguments.{elements}
use Rattle.slotted_symbols.specs.Trees.{count-tree_of}
use Rattle.slotted_symbols.proofs.symbol_lang.SymbolLangLanguageChildren.set_applied_id.Goals as goal

pub set_child-requires : goal.set_child-requires
set_child-requires c = omega (arith, c.requires, count-tree_of (elements c.args.self.now.arguments))
