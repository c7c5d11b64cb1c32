use Rattle.std.proofs.Common.{rules, ap, sym, ◌∙◌, arith, length, slice_get}
use Rattle.std.proofs.lemmas.Iterator.{YieldsList-from_chars}
use Rattle.std.proofs.lemmas.Iterator.Consumers.{YieldsList-turn, YieldsList-end}
use Rattle.std.proofs.lemmas.List.{length_push}
use Rattle.std.specs.Str.{chars}
use Rattle.std.specs.Prelude.{◌≡◌, ℕ, List, Option}
use Rattle.slotted_messages.specs.Columns.{word_columns}
use Rattle.slotted_messages.specs.Parsed.{IsColumnOfWord, IsNonePastWords}
use Rattle.slotted_messages.proofs.Marks.{parser_past, parser_words}
use Rattle.slotted_messages.proofs.Words.{all_words, word_found, word_behind, word_later, last_word, no_word}
use Rattle.slotted_messages.proofs.columns.word_column.Goals as goal

-- what each clause says of a column
all_clauses : (bs : List ℕ) (number : ℕ) (found : Option ℕ) → found ≡ slice_get (word_columns bs) number → record {
  column : found ≡ slice_get (word_columns bs) number;
  parsed : IsColumnOfWord bs number found;
  past : IsNonePastWords bs number found;
}
all_clauses bs number found e = record { column = e; parsed = parser_words bs number found e; past = parser_past bs number found e }

pub loop-c-init : goal.loop-c-init
loop-c-init c = record { column = search rules; sought = ap (λ xs. slice_get xs c.args.number) (all_words c.args.text.now) }

pub returns-then-left-eq0 : goal.returns-then-left-eq0
returns-then-left-eq0 c =
    let turn = YieldsList-turn (YieldsList-from_chars c.args.text.now c.utf8.text cc) c.loop-c.yielded _ c.loop-c.yielded_by _ _ c.in-Some.c c.in-Some.is c.next.ensures.steps in
    all_clauses c.args.text.now c.args.number _ (word_found (chars c.args.text.now) _ _ _ _ _ _ _ turn (sym c.shows_word-shows.ensures ∙ c.if-shows.true) c.if-left-eq0.true c.loop-c.invariant.column c.shown_at-begun.ensures c.loop-c.invariant.sought)

pub loop-c-preserved-then-shows : goal.loop-c-preserved-then-shows
loop-c-preserved-then-shows c =
    let turn = YieldsList-turn (YieldsList-from_chars c.args.text.now c.utf8.text cc) c.loop-c.yielded _ c.loop-c.yielded_by _ _ c.in-Some.c c.in-Some.is c.next.ensures.steps in
    let more = length_push c.loop-c.yielded c.in-Some.c in
    record {
      column = omega (arith, more, c.loop-c.invariant.column);
      sought = word_behind (chars c.args.text.now) _ _ _ _ _ _ _ turn (sym c.shows_word-shows.ensures ∙ c.if-shows.true) c.if-left-eq0.false c.behind-before.ensures more c.loop-c.invariant.sought;
    }

pub loop-c-preserved : goal.loop-c-preserved
loop-c-preserved c =
    let turn = YieldsList-turn (YieldsList-from_chars c.args.text.now c.utf8.text cc) c.loop-c.yielded _ c.loop-c.yielded_by _ _ c.in-Some.c c.in-Some.is c.next.ensures.steps in
    let more = length_push c.loop-c.yielded c.in-Some.c in
    record {
      column = omega (arith, more, c.loop-c.invariant.column);
      sought = word_later (chars c.args.text.now) _ _ _ _ _ _ _ turn (sym c.shows_word-shows.ensures ∙ c.if-shows.false) c.behind-before.ensures more c.loop-c.invariant.sought;
    }

pub returns-then-left-gt0 : goal.returns-then-left-gt0
returns-then-left-gt0 c =
    let end = YieldsList-end (YieldsList-from_chars c.args.text.now c.utf8.text cc) c.loop-c.yielded _ c.loop-c.yielded_by _ _ c.in-None.is c.next.ensures.steps in
    all_clauses c.args.text.now c.args.number _ (no_word (chars c.args.text.now) c.loop-c.before (length c.loop-c.yielded) c.loop-c.left _ (omega (arith, end.1)) (λ _. omega arith) c.loop-c.invariant.sought)

pub returns-in-Colon : goal.returns-in-Colon
returns-in-Colon c =
    let end = YieldsList-end (YieldsList-from_chars c.args.text.now c.utf8.text cc) c.loop-c.yielded _ c.loop-c.yielded_by _ _ c.in-None.is c.next.ensures.steps in
    all_clauses c.args.text.now c.args.number _ (last_word (chars c.args.text.now) _ _ _ _ _ (omega (arith, end.1)) c.in-Colon.is (omega arith) c.loop-c.invariant.column c.loop-c.invariant.sought)

pub returns-in_default : goal.returns-in_default
returns-in_default c =
    let end = YieldsList-end (YieldsList-from_chars c.args.text.now c.utf8.text cc) c.loop-c.yielded _ c.loop-c.yielded_by _ _ c.in-None.is c.next.ensures.steps in
    all_clauses c.args.text.now c.args.number _ (no_word (chars c.args.text.now) c.loop-c.before (length c.loop-c.yielded) c.loop-c.left _ (omega (arith, end.1)) (λ e. absurd (c.in_default.not-Colon e)) c.loop-c.invariant.sought)
