use Rattle.std.proofs.Common.{◌≡◌, length, sym, ap, ◌∙◌, arith}
use Rattle.std.specs.Prelude.{◌&&◌, ◌==◌, vec_len}
use Rattle.slotted_signatures.proofs.Examples.{word-is}
use Rattle.slotted_signatures.proofs.signature.is_word.Goals as goal

pub returns-then-is_empty : goal.returns-then-is_empty
returns-then-is_empty c =
    let is = word-is c.args.pattern.now c.in-ENode.node c.in-ENode.children c.in-ENode.is in
    let none = sym c.is_empty.ensures ∙ c.if-is_empty.true in
    let count : vec_len c.in-ENode.children ≡ length c.in-ENode.children.items = omega arith in
    c.is_empty-then-is_empty.ensures
    ∙ (ap (λ k. k == 0) count
    ∙ sym (is ∙ ap (λ b. b && (length c.in-ENode.children.items == 0)) (ap (λ l. length l == 0) (sym c.arguments.ensures) ∙ none)))

pub returns-else-is_empty : goal.returns-else-is_empty
returns-else-is_empty c =
    let is = word-is c.args.pattern.now c.in-ENode.node c.in-ENode.children c.in-ENode.is in
    let some = sym c.is_empty.ensures ∙ c.if-is_empty.false in
    c.if-is_empty.false
    ∙ sym (is ∙ ap (λ b. b && (length c.in-ENode.children.items == 0)) (ap (λ l. length l == 0) (sym c.arguments.ensures) ∙ some))
