use Rattle.std.proofs.Common.{ap, arith}
use Rattle.slotted_nodes.specs.ReadFrom.{applied_count}
use Rattle.slotted_symbols.specs.Arguments.{elements}
use Rattle.slotted_symbols.specs.Trees.{count-tree_of}
use Rattle.slotted_symbols.proofs.symbol_lang.SymbolLangLanguageChildren.applied_id_place.Goals as goal

pub child_place-requires : goal.child_place-requires
child_place-requires c =
    let same = c.as_slice.ensures in
    omega (arith, c.requires, count-tree_of (elements c.args.self.now.arguments), ap (λ l. applied_count (elements l)) same)
