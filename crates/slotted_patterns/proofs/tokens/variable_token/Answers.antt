use Rattle.std.proofs.Common.{◌≡◌, length, ◌∙◌, rules, arith}
use Rattle.std.specs.Prelude.{string_bytes}
use Rattle.std.specs.Str.{chars}
use Rattle.slotted_patterns.specs.Tokens.{run, after_run}
use Rattle.slotted_patterns.proofs.TextRuns.{no_run, variable_refused}
use Rattle.slotted_patterns.proofs.tokens.variable_token.Goals as goal

pub returns-then-is_empty-clause-none : goal.returns-then-is_empty-clause-none
returns-then-is_empty-clause-none c =
    let cs = chars c.args.text.now in
    let none : length c.split_run.result.0.now ≡ 0 = search (rules, arith) in
    λ t. variable_refused t (run cs) (after_run cs) (string_bytes c.in_ok-rest.rest) (no_run (run cs) c.split_run.result.0.now c.split_run.ensures.run none) (c.in_ok-rest.ensures.ok ∙ c.split_run.ensures.bytes)
