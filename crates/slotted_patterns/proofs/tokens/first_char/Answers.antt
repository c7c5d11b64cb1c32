use Rattle.std.proofs.Common.{◌++◌, sym, ap, ◌∙◌}
use Rattle.std.specs.Prelude.{encode_utf8}
use Rattle.slotted_patterns.proofs.TextRuns.{begins_with_char}
use Rattle.slotted_patterns.proofs.tokens.first_char.Goals as goal

pub returns : goal.returns
returns c =
    begins_with_char c.args.text.now c.as_str.result.now c.in_ok-first.first c.utf8.text (sym c.chars-left.ensures.rest ∙ (c.in_ok-first.ensures.steps.0 ∙ ap (λ l. encode_utf8 c.in_ok-first.first ++ l) (sym c.as_str.ensures)))
