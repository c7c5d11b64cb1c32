use Rattle.std.proofs.Common.{rules, ap, sym, ◌∙◌, arith, slice_get}
use Rattle.std.proofs.lemmas.Iterator.{YieldsList-from_chars}
use Rattle.std.proofs.lemmas.Iterator.Consumers.{YieldsList-turn, YieldsList-end}
use Rattle.std.proofs.lemmas.List.{length_push}
use Rattle.std.specs.Str.{chars}
use Rattle.slotted_messages.specs.Columns.{token_columns}
use Rattle.slotted_messages.proofs.Marks.{parser_begins}
use Rattle.slotted_messages.proofs.Reading.{all_left, found_begun, left_begun_at, left_later_at, none_left_at}
use Rattle.slotted_messages.proofs.columns.token_column.Goals as goal

pub loop-c-init : goal.loop-c-init
loop-c-init c = record { column = search rules; sought = ap (λ xs. slice_get xs c.args.number) (all_left c.args.text.now) }

pub returns-then-left-eq0 : goal.returns-then-left-eq0
returns-then-left-eq0 c =
    let turn = YieldsList-turn (YieldsList-from_chars c.args.text.now c.utf8.text cc) c.loop-c.yielded _ c.loop-c.yielded_by _ _ c.in-Some.c c.in-Some.is c.next.ensures.steps in
    let column = found_begun (chars c.args.text.now) _ _ _ _ (token_columns c.args.text.now) c.args.number _ turn (sym c.begins-begins.ensures ∙ c.if-begins.true) c.if-left-eq0.true (omega (arith, c.loop-c.invariant.column)) c.loop-c.invariant.sought in
    record { column = column; parsed = parser_begins c.args.text.now c.args.number _ column }

pub loop-c-preserved-then-begins : goal.loop-c-preserved-then-begins
loop-c-preserved-then-begins c =
    let turn = YieldsList-turn (YieldsList-from_chars c.args.text.now c.utf8.text cc) c.loop-c.yielded _ c.loop-c.yielded_by _ _ c.in-Some.c c.in-Some.is c.next.ensures.steps in
    let more = length_push c.loop-c.yielded c.in-Some.c in
    record {
      column = omega (arith, more, c.loop-c.invariant.column);
      sought = left_begun_at (chars c.args.text.now) _ _ _ _ _ _ (token_columns c.args.text.now) c.args.number turn (sym c.begins-begins.ensures ∙ c.if-begins.true) c.if-left-eq0.false c.behind-before.ensures more c.loop-c.invariant.sought;
    }

pub loop-c-preserved : goal.loop-c-preserved
loop-c-preserved c =
    let turn = YieldsList-turn (YieldsList-from_chars c.args.text.now c.utf8.text cc) c.loop-c.yielded _ c.loop-c.yielded_by _ _ c.in-Some.c c.in-Some.is c.next.ensures.steps in
    let more = length_push c.loop-c.yielded c.in-Some.c in
    record {
      column = omega (arith, more, c.loop-c.invariant.column);
      sought = left_later_at (chars c.args.text.now) _ _ _ _ _ _ (token_columns c.args.text.now) c.args.number turn (sym c.begins-begins.ensures ∙ c.if-begins.false) c.behind-before.ensures more c.loop-c.invariant.sought;
    }

pub returns : goal.returns
returns c =
    let end = YieldsList-end (YieldsList-from_chars c.args.text.now c.utf8.text cc) c.loop-c.yielded _ c.loop-c.yielded_by _ _ c.in-None.is c.next.ensures.steps in
    let column = none_left_at (chars c.args.text.now) _ _ _ (token_columns c.args.text.now) c.args.number (omega (arith, end.1)) c.loop-c.invariant.sought in
    record { column = column; parsed = parser_begins c.args.text.now c.args.number _ column }
