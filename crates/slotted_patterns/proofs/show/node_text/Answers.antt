-- Each turn writes a part; the brackets come at the end.
use lib.Utf8.{encode}
use Rattle.std.proofs.Common.{◌∷◌, [], ◌++◌, map, string_bytes, arith, refl, sym, ap, ◌∙◌}
use Rattle.std.proofs.lemmas.List.{length-map}
use Rattle.slotted_slots.specs.Syntax.{element_of}
use Rattle.slotted_patterns.specs.Shown.{part_texts, spaced}
use Rattle.slotted_patterns.proofs.NodeTexts.{part_texts-step, all_written, length-part_texts, bracketed-one, bracketed-other}
use Rattle.slotted_patterns.proofs.show.node_text.Goals as goal

pub loop-element-init : goal.loop-element-init
loop-element-init c = (([], (refl, refl)), omega arith, ap (λ bs. bs ++ spaced [] (part_texts c.args.table.now (map element_of c.args.elements.now) (map string_bytes c.args.children.now))) c.new-text.ensures.bytes)

pub loop-element-preserved : goal.loop-element-preserved
unfolding encode
loop-element-preserved c = (
  (32 ∷ [], (refl, refl)),
  omega (arith, c.child_count.ensures.one, c.loop-element.invariant.1),
  rw (c.in_ok-push_part.ensures.ok, c.in_ok-push_str.ensures.bytes, c.child_count.ensures.count)
      (part_texts-step element_of c.args.table.now c.loop-element.separator.now (string_bytes c.loop-element.text) c.child_text.result.now c.args.elements.now c.loop-element.element-index c.loop-element.next c.element-item.result (map string_bytes c.args.children.now) _ c.loop-element-test.true c.element-item.is c.child_text.ensures c.loop-element.invariant.2),
)

pub returns-then-elements-eq1-clause-ok : goal.returns-then-elements-eq1-clause-ok
returns-then-elements-eq1-clause-ok c =
    let es = c.args.elements.now in
    let us = map string_bytes c.args.children.now in
    let t = c.args.table.now in
    let all = all_written element_of t c.loop-element.separator.now (string_bytes c.loop-element.text) es c.loop-element.element-index us _ _ c.loop-element-test.false c.loop-element.invariant.2 in
    bracketed-one (part_texts t (map element_of es) us) _ (length-part_texts t (map element_of es) us ∙ (length-map es element_of ∙ c.if-elements-eq1.true)) all

pub returns-clause-ok : goal.returns-clause-ok
returns-clause-ok c =
    let es = c.args.elements.now in
    let us = map string_bytes c.args.children.now in
    let t = c.args.table.now in
    let all = all_written element_of t c.loop-element.separator.now (string_bytes c.loop-element.text) es c.loop-element.element-index us _ _ c.loop-element-test.false c.loop-element.invariant.2 in
    c.in_ok-format.ensures.ok ∙ bracketed-other (part_texts t (map element_of es) us) _ (λ one. c.if-elements-eq1.false (sym (length-part_texts t (map element_of es) us ∙ length-map es element_of) ∙ one)) all
