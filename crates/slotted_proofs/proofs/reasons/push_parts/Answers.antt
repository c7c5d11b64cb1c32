-- Each turn writes the line of a part; the bracket comes at the end.
use lib.Utf8.{encode}
use Rattle.std.proofs.Common.{◌∷◌, [], string_bytes, refl, ◌∙◌}
use Rattle.slotted_proofs.proofs.Printing.{numbers_text-step, numbers_text-all}
use Rattle.slotted_proofs.proofs.reasons.push_parts.Goals as goal

pub loop-part-preserved : goal.loop-part-preserved
unfolding encode
loop-part-preserved c = (
  (44 ∷ 32 ∷ [], (refl, refl)),
  rw (c.in_ok-push_number.ensures.ok, c.in_ok-push_str.ensures.bytes)
      (numbers_text-step c.args.lines.now c.loop-part.separator.now (string_bytes c.loop-part.text) c.args.parts.now c.loop-part.part-index c.part-item.result c.line_of.result _ c.loop-part-test.true c.part-item.is c.line_of.ensures c.loop-part.invariant.1),
)

pub returns-clause-ok : goal.returns-clause-ok
unfolding encode
returns-clause-ok c =
    c.in_ok-push_str-2.ensures.bytes
    ∙ numbers_text-all c.args.lines.now c.loop-part.separator.now (string_bytes c.loop-part.text) (string_bytes c.args.text.now) c.args.parts.now c.loop-part.part-index c.loop-part-test.false c.loop-part.invariant.1
