use Rattle.std.specs.Prelude.{◌≡◌, length}
use Rattle.std.proofs.Common.{ap, ◌∙◌, sym, arith}
use Rattle.slotted_nodes.specs.Form.{children}
use Rattle.slotted_nodes.specs.ReadFrom.{applied_count}
use Rattle.slotted_symbols.specs.Arguments.{elements, tree_of}
use Rattle.slotted_symbols.specs.Trees.{count-tree_of}
use Rattle.slotted_symbols.proofs.symbol_lang.SymbolLangLanguageChildren.get_applied_id.Goals as goal

pub returns-clause-some : goal.returns-clause-some
returns-clause-some c =
    let e : length (children (tree_of (elements c.args.self.now.arguments))) ≡ applied_count (elements c.as_slice.result.now) =
    count-tree_of (elements c.args.self.now.arguments) ∙ ap (λ l. applied_count (elements l)) (sym c.as_slice.ensures) in
    (λ h. omega (arith, c.child_at.ensures.some.0 h, e), λ h. c.child_at.ensures.some.1 (omega (arith, h, e)))
