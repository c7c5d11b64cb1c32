use Rattle.std.proofs.Common.{◌≡◌, [], ◌++◌, codes, string_bytes, rules, ap, append_assoc, ◌∙◌}
use Rattle.slotted_proofs.specs.Reasons.{numbers_text}
use Rattle.slotted_proofs.proofs.reasons.step_text.Goals as goal

pub returns-clause-ok : goal.returns-clause-ok
returns-clause-ok c =
    let rest = numbers_text c.args.lines.now [] c.args.parts.now ++ codes ")" in
    let begun : string_bytes c.in_ok-text.text ≡ c.args.name.now ++ codes "(" = search rules in
    c.in_ok-push_parts.ensures.ok ∙ (ap (λ t. t ++ rest) begun ∙ append_assoc c.args.name.now (codes "(") rest)
