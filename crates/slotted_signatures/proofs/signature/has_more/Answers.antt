use Rattle.std.proofs.Common.{map, sym, ap, ◌∙◌}
use Rattle.std.specs.Prelude.{◌&&◌}
use Rattle.slotted_patterns.specs.View.{tree_of}
use Rattle.slotted_symbols.specs.SymbolForms.{symbol_form}
use Rattle.slotted_signatures.specs.Kinds.{number_of}
use Rattle.slotted_signatures.specs.Shown.{is_child, is_dots, last_of, passes}
use Rattle.slotted_signatures.proofs.Examples.{more-is}
use Rattle.slotted_signatures.proofs.signature.has_more.Goals as goal

pub returns-then-ends_in_child : goal.returns-then-ends_in_child
returns-then-ends_in_child c =
    let trees = map (tree_of symbol_form) c.args.children.now in
    let child = ap (λ l. passes is_child (last_of (map number_of l))) (sym c.arguments.ensures) ∙ (sym c.ends_in_child.ensures ∙ c.if-ends_in_child.true) in
    c.ends_in_dots.ensures ∙ sym (more-is c.args.node.now trees ∙ ap (λ b. b && passes is_dots (last_of trees)) child)

pub returns-else-ends_in_child : goal.returns-else-ends_in_child
returns-else-ends_in_child c =
    let trees = map (tree_of symbol_form) c.args.children.now in
    let child = ap (λ l. passes is_child (last_of (map number_of l))) (sym c.arguments.ensures) ∙ (sym c.ends_in_child.ensures ∙ c.if-ends_in_child.false) in
    c.if-ends_in_child.false ∙ sym (more-is c.args.node.now trees ∙ ap (λ b. b && passes is_dots (last_of trees)) child)
