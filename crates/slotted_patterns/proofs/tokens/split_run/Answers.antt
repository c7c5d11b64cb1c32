use Rattle.std.proofs.Common.{◌≡◌, ◌-◌, length, take, drop, sym, subst, ap, ◌∙◌, arith, length-append}
use Rattle.std.specs.Prelude.{encode_utf8_all}
use Rattle.std.specs.Str.{chars, IsCharBoundary, IsUtf8}
use Rattle.std.proofs.lemmas.Str.{IsCharBoundary-at_seam, encodes-chars}
use Rattle.std.proofs.lemmas.List.{take_at, drop_at}
use Rattle.slotted_patterns.proofs.TextRuns.{Stops, run_goes_on, run_stops}
use Rattle.slotted_patterns.proofs.tokens.split_run.Goals as goal
use Rattle.slotted_patterns.proofs.tokens.split_run.Goals.{in-Some+then-not-is_of_run, in_default}

pub first_char-requires-text-text : goal.first_char-requires-text-text
first_char-requires-text-text c κs = c.loop-first.invariant.utf8

pub loop-first-preserved : goal.loop-first-preserved
loop-first-preserved c =
    run_goes_on c.args.text.now c.loop-first.left.now c.in-Some.after.now c.in-Some.first c.loop-first.invariant c.in-Some.ensures (sym c.is_of_run.ensures ∙ c.if-not-is_of_run.false)

pub split_at-requires : goal.split_at-requires
split_at-requires c =
    let h = c.loop-first.invariant in
    let text = c.args.text.now in
    let left = c.loop-first.left.now in
    let at : length (encode_utf8_all h.front) ≡ length text - length left = omega (arith, ap length h.bytes, length-append (encode_utf8_all h.front) left) in
    subst (IsCharBoundary text) at (IsCharBoundary-at_seam text (encode_utf8_all h.front) left h.bytes h.utf8)

pub returns-clause-run : goal.returns-clause-run
returns-clause-run c =
    let h = c.loop-first.invariant in
    let text = c.args.text.now in
    let left = c.loop-first.left.now in
    let at : length (encode_utf8_all h.front) ≡ length text - length left = omega (arith, ap length h.bytes, length-append (encode_utf8_all h.front) left) in
    let stops : Stops (chars left) = elim c.match-first_char.branch [
      | in-Some+then-not-is_of_run w ↦ subst Stops (sym w.in-Some.ensures.spelled) (sym w.is_of_run.ensures ∙ w.if-not-is_of_run.true)
      | in_default w ↦ subst Stops (sym w.in_default.ensures) tt
    ] in
    c.split_at.ensures.front ∙ (ap (take (length text - length left)) h.bytes ∙ (take_at (encode_utf8_all h.front) left (length text - length left) at ∙ ap encode_utf8_all (sym (run_stops text left h stops).0)))

pub returns-clause-rest : goal.returns-clause-rest
returns-clause-rest c =
    let h = c.loop-first.invariant in
    let text = c.args.text.now in
    let left = c.loop-first.left.now in
    let at : length (encode_utf8_all h.front) ≡ length text - length left = omega (arith, ap length h.bytes, length-append (encode_utf8_all h.front) left) in
    let stops : Stops (chars left) = elim c.match-first_char.branch [
      | in-Some+then-not-is_of_run w ↦ subst Stops (sym w.in-Some.ensures.spelled) (sym w.is_of_run.ensures ∙ w.if-not-is_of_run.true)
      | in_default w ↦ subst Stops (sym w.in_default.ensures) tt
    ] in
    ap chars (c.split_at.ensures.back ∙ (ap (drop (length text - length left)) h.bytes ∙ drop_at (encode_utf8_all h.front) left (length text - length left) at)) ∙ sym (run_stops text left h stops).1

pub returns-clause-utf8 : goal.returns-clause-utf8
returns-clause-utf8 c =
    let h = c.loop-first.invariant in
    let text = c.args.text.now in
    let left = c.loop-first.left.now in
    let at : length (encode_utf8_all h.front) ≡ length text - length left = omega (arith, ap length h.bytes, length-append (encode_utf8_all h.front) left) in
    let same = c.split_at.ensures.back ∙ (ap (drop (length text - length left)) h.bytes ∙ drop_at (encode_utf8_all h.front) left (length text - length left) at) in
    subst IsUtf8 (sym same) h.utf8

pub returns-clause-bytes : goal.returns-clause-bytes
returns-clause-bytes c =
    let h = c.loop-first.invariant in
    let text = c.args.text.now in
    let left = c.loop-first.left.now in
    let at : length (encode_utf8_all h.front) ≡ length text - length left = omega (arith, ap length h.bytes, length-append (encode_utf8_all h.front) left) in
    let same = c.split_at.ensures.back ∙ (ap (drop (length text - length left)) h.bytes ∙ drop_at (encode_utf8_all h.front) left (length text - length left) at) in
    same ∙ (sym (encodes-chars left h.utf8) ∙ ap encode_utf8_all (sym (ap chars same) ∙ returns-clause-rest c))
