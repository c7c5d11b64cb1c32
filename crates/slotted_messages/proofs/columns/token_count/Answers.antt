use Rattle.std.proofs.Common.{rules, ap, sym, ◌∙◌, arith, length}
use Rattle.std.proofs.lemmas.Iterator.{YieldsList-from_chars}
use Rattle.std.proofs.lemmas.Iterator.Consumers.{YieldsList-turn, YieldsList-end}
use Rattle.std.proofs.lemmas.List.{length_push}
use Rattle.std.specs.Str.{chars}
use Rattle.std.specs.Prelude.{◌≡◌}
use Rattle.slotted_messages.specs.Columns.{token_columns}
use Rattle.slotted_messages.proofs.Marks.{parser_counts}
use Rattle.slotted_messages.proofs.Reading.{all_left, counted_begun, counted_later, left_none}
use Rattle.slotted_messages.proofs.columns.token_count.Goals as goal

pub loop-c-init : goal.loop-c-init
loop-c-init c = record { room = omega arith; counted = omega (arith, ap length (all_left c.args.text.now)) }

pub loop-c-preserved-then-begins : goal.loop-c-preserved-then-begins
loop-c-preserved-then-begins c =
    let turn = YieldsList-turn (YieldsList-from_chars c.args.text.now c.utf8.text cc) c.loop-c.yielded _ c.loop-c.yielded_by _ _ c.in-Some.c c.in-Some.is c.next.ensures.steps in
    record {
      room = search rules;
      counted = counted_begun (chars c.args.text.now) _ _ _ _ _ _ _ turn (sym c.begins-begins.ensures ∙ c.if-begins.true) c.behind-before.ensures (length_push c.loop-c.yielded c.in-Some.c) c.loop-c.invariant.counted;
    }

pub loop-c-preserved : goal.loop-c-preserved
loop-c-preserved c =
    let turn = YieldsList-turn (YieldsList-from_chars c.args.text.now c.utf8.text cc) c.loop-c.yielded _ c.loop-c.yielded_by _ _ c.in-Some.c c.in-Some.is c.next.ensures.steps in
    record {
      room = search rules;
      counted = counted_later (chars c.args.text.now) _ _ _ _ _ _ _ turn (sym c.begins-begins.ensures ∙ c.if-begins.false) c.behind-before.ensures (length_push c.loop-c.yielded c.in-Some.c) c.loop-c.invariant.counted;
    }

pub returns : goal.returns
returns c =
    let end = YieldsList-end (YieldsList-from_chars c.args.text.now c.utf8.text cc) c.loop-c.yielded _ c.loop-c.yielded_by _ _ c.in-None.is c.next.ensures.steps in
    let none = left_none c.loop-c.before (chars c.args.text.now) (length c.loop-c.yielded) (omega (arith, end.1)) in
    let count : c.loop-c.count ≡ length (token_columns c.args.text.now) = omega (arith, c.loop-c.invariant.counted, ap length none) in
    record { count = count; parsed = parser_counts c.args.text.now _ count }
