use Rattle.std.proofs.Common.{sym, ap, ◌∙◌}
use Rattle.std.specs.Str.{chars}
use Rattle.slotted_patterns.specs.Tokens.{after_white_space}
use Rattle.slotted_patterns.proofs.TextRuns.{white_more, white_stop}
use Rattle.slotted_patterns.proofs.tokens.skip_white_space.Goals as goal

pub first_char-requires-text-text : goal.first_char-requires-text-text
first_char-requires-text-text c κs = c.loop-first.invariant.utf8

pub returns-then-not-is_whitespace : goal.returns-then-not-is_whitespace
returns-then-not-is_whitespace c =
    let e = c.in-Some.ensures.spelled in
    let stop = white_stop c.in-Some.first (chars c.in-Some.after.now) (sym c.is_whitespace.ensures ∙ c.if-not-is_whitespace.true) in
    e ∙ (sym stop ∙ (sym (ap after_white_space e) ∙ c.loop-first.invariant.same))

pub loop-first-preserved : goal.loop-first-preserved
loop-first-preserved c =
    let more = white_more c.in-Some.first (chars c.in-Some.after.now) (sym c.is_whitespace.ensures ∙ c.if-not-is_whitespace.false) in
    record {
      same = sym (ap after_white_space c.in-Some.ensures.spelled ∙ more) ∙ c.loop-first.invariant.same;
      utf8 = c.in-Some.ensures.utf8;
    }

pub returns : goal.returns
returns c = c.in_default.ensures ∙ (sym (ap after_white_space c.in_default.ensures) ∙ c.loop-first.invariant.same)
