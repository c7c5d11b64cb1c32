use Rattle.std.proofs.Common.{rules, ◌≡◌, ◌<◌, ◌≤◌, ◌+◌, ◌*◌, ◌++◌, ◌∷◌, [], ℕ, ap, sym, ◌∙◌, subst, arith, length, map, take, get_or, List}
use Rattle.std.specs.Prelude.{Contains, String, string_bytes}
use Rattle.std.specs.declared.alloc.Global.{Global}
use Rattle.std.proofs.lemmas.List.{length-map, get_or-map, take_all, take_more}
use Rattle.slotted_slots.specs.declared.slot.Slot.{Slot}
use Rattle.slotted_proofs.specs.Equations.{to_applied}
use Rattle.slotted_match_machine.specs.declared.answer.Answer.{Answer as AnswerRead}
use Rattle.slotted_match_machine.specs.Answers.{answer_of, answers_in}
use Rattle.slotted_matching.specs.Matches.{answers_over, AscendingNames}
use Rattle.slotted_matching.specs.Answered.{InTurn, IsNamedAnswer, HasWholeIds, AddsIds, NumbersByName}
use Rattle.slotted_matching.proofs.NumberedNames.{by_bytes, names-by_bytes, numbers-by_bytes}
use Rattle.slotted_matching.proofs.AnsweredIds.{numbers-read}
use Rattle.slotted_matching.proofs.AnsweredInTurn.{turn-step, whole-has, count-step, count-within}
use Rattle.slotted_matching.proofs.answers.answers_with_slots.Goals as goal

-- the answer at a place
answer-here : (answers : List AnswerRead) (i : ℕ) (a : AnswerRead) → i < length answers → a ≡ get_or answers i a → answer_of a ≡ get_or (answers_in answers) i (answer_of a)
answer-here answers i a l e = ap answer_of e ∙ sym (get_or-map answer_of answers i a (answer_of a) l)

answer-among : (answers : List AnswerRead) (i : ℕ) (a : AnswerRead) → i < length answers → a ≡ get_or answers i a → Contains (answers_in answers) (answer_of a)
answer-among answers i a l e =
    (i, omega (arith, l, length-map answers answer_of), sym (answer-here answers i a l e))

pub answer_ids-requires-clause-slots : goal.answer_ids-requires-clause-slots
answer_ids-requires-clause-slots g c =
    let x = answer-among c.args.answers.now c.loop-answer.answer-index c.answer-item.result c.loop-answer-test.true c.answer-item.is in
    λ y h. subst (λ (l : List Slot). Contains l y) (sym c.deref-in-loop-answer.ensures.value) (c.requires.slots (answer_of c.answer-item.result) x y h)

pub answer_ids-requires-clause-whole : goal.answer_ids-requires-clause-whole
answer_ids-requires-clause-whole g c =
    let x = answer-among c.args.answers.now c.loop-answer.answer-index c.answer-item.result c.loop-answer-test.true c.answer-item.is in
    let numbers = subst (λ (l : List (String Global)). NumbersByName (map string_bytes l) (by_bytes c.in_ok-numbers.numbers.entries)) c.deref.ensures.value c.in_ok-numbers.ensures.ok in
    let w = whole-has c.args.store.now (map string_bytes c.args.program.now.variables.items) (by_bytes c.in_ok-numbers.numbers.entries) numbers (answers_in c.args.answers.now) c.requires.whole (answer_of c.answer-item.result) x in
    subst (HasWholeIds c.args.store.now (answer_of c.answer-item.result)) (sym (c.deref-in-loop-answer-2.ensures.value ∙ (c.in_ok-order.ensures.ok ∙ numbers-by_bytes c.in_ok-numbers.numbers.entries))) w.0

pub answer_ids-requires-clause-pairs : goal.answer_ids-requires-clause-pairs
answer_ids-requires-clause-pairs g c =
    let x = answer-among c.args.answers.now c.loop-answer.answer-index c.answer-item.result c.loop-answer-test.true c.answer-item.is in
    let numbers = subst (λ (l : List (String Global)). NumbersByName (map string_bytes l) (by_bytes c.in_ok-numbers.numbers.entries)) c.deref.ensures.value c.in_ok-numbers.ensures.ok in
    let w = whole-has c.args.store.now (map string_bytes c.args.program.now.variables.items) (by_bytes c.in_ok-numbers.numbers.entries) numbers (answers_in c.args.answers.now) c.requires.whole (answer_of c.answer-item.result) x in
    w.1

pub returns-in_err-answer_ids-clause-takes : goal.returns-in_err-answer_ids-clause-takes
returns-in_err-answer_ids-clause-takes g c =
    let i = c.loop-answer.invariant in
    let e = c.in_err-answer_ids.ensures in
    let x = c.answer-item.result in
    let n = length-map c.args.answers.now answer_of in
    let w = count-within (answers_in c.args.answers.now) c.loop-answer.answer-index (answer_of x) (omega (arith, c.loop-answer-test.true, n))
    (answer-here c.args.answers.now c.loop-answer.answer-index x c.loop-answer-test.true c.answer-item.is) in
    record { names = e.takes.names ∙ i.kept; taken = omega (arith, e.takes.taken, i.taken, w, ap length (numbers-read x.values.items)) }

pub returns-in_err-answer_ids-clause-full : goal.returns-in_err-answer_ids-clause-full
returns-in_err-answer_ids-clause-full g c h =
    let i = c.loop-answer.invariant in
    let full = c.in_err-answer_ids.ensures.full (search rules) in
    let x = c.answer-item.result in
    let n = length-map c.args.answers.now answer_of in
    let w = count-within (answers_in c.args.answers.now) c.loop-answer.answer-index (answer_of x) (omega (arith, c.loop-answer-test.true, n))
    (answer-here c.args.answers.now c.loop-answer.answer-index x c.loop-answer-test.true c.answer-item.is) in
    record { lacks = omega (arith, full.lacks, i.taken, w, ap length (numbers-read x.values.items)); used = full.used }

pub loop-answer-preserved : goal.loop-answer-preserved
loop-answer-preserved g c =
    let i = c.loop-answer.invariant in
    let e = c.in_ok-answer_ids.ensures in
    let x = c.answer-item.result in
    let k = c.args.store.now in
    let vs = map string_bytes c.args.program.now.variables.items in
    let es = by_bytes c.in_ok-numbers.numbers.entries in
    let p = c.loop-answer.answer-index in
    let xs = answers_in c.args.answers.now in
    let among = answer-among c.args.answers.now p x c.loop-answer-test.true c.answer-item.is in
    let here = answer-here c.args.answers.now p x c.loop-answer-test.true c.answer-item.is in
    let l : p < length xs = omega (arith, c.loop-answer-test.true, length-map c.args.answers.now answer_of) in
    let order = c.deref-in-loop-answer-2.ensures.value ∙ (c.in_ok-order.ensures.ok ∙ numbers-by_bytes c.in_ok-numbers.numbers.entries) in
    let numbers = subst (λ (l : List (String Global)). NumbersByName (map string_bytes l) (by_bytes c.in_ok-numbers.numbers.entries)) c.deref.ensures.value c.in_ok-numbers.ensures.ok in
    let w = whole-has k vs es numbers xs c.requires.whole (answer_of x) among in
    let adds : AddsIds k (map (λ (q : List ℕ × ℕ). q.1) es) c.loop-answer.table c.answer_ids.new.table (answer_of x) (map to_applied c.loop-answer.ids.items) (map to_applied c.answer_ids.new.ids.items) =
    subst (λ os. AddsIds k os c.loop-answer.table c.answer_ids.new.table (answer_of x) (map to_applied c.loop-answer.ids.items) (map to_applied c.answer_ids.new.ids.items)) order e.ok in
    let s = turn-step k vs es numbers c.requires.once c.args.table.now c.loop-answer.table c.answer_ids.new.table (take p xs) (answer_of x)
    (map to_applied c.loop-answer.ids.items) (map to_applied c.answer_ids.new.ids.items) p i.count w.0 adds i.named in
    record {
      named = subst (InTurn (IsNamedAnswer k vs) c.args.table.now c.answer_ids.new.table (answers_over (map (λ (q : List ℕ × ℕ). q.0) es) (map to_applied c.answer_ids.new.ids.items) (p + 1)))
          (sym (take_more xs p (answer_of x) l ∙ ap (λ y. take p xs ++ y ∷ []) (sym here))) s.0;
      count = s.1;
      kept = e.takes.names ∙ i.kept;
      taken = omega (arith, e.takes.taken, i.taken, count-step xs p (answer_of x) l here, ap length (numbers-read x.values.items));
      more = λ y h. e.more y (i.more y h);
    }

all-there : (n : ℕ) (p : ℕ) → n ≤ p → p ≤ n → p ≡ n
all-there n p a b = omega (arith, a, b)

pub new-requires : goal.new-requires
new-requires g c =
    let i = c.loop-answer.invariant in
    let es = by_bytes c.in_ok-numbers.numbers.entries in
    let names = c.in_ok-variables.ensures.ok ∙ names-by_bytes c.in_ok-numbers.numbers.entries in
    let numbers = subst (λ (l : List (String Global)). NumbersByName (map string_bytes l) es) c.deref.ensures.value c.in_ok-numbers.ensures.ok in
    let n : length (map string_bytes c.in_ok-variables.variables.items) ≡ length es = ap length names ∙ length-map es (λ (e : List ℕ × ℕ). e.0) in
    let p = all-there (length c.args.answers.now) c.loop-answer.answer-index c.loop-answer-test.false c.loop-answer.auto.answer-index-end in
    record {
      ascending = subst AscendingNames (sym names) numbers.ascending;
      count = i.count ∙ (λ j. p j * sym n j);
    }

pub returns-clause-ok : goal.returns-clause-ok
returns-clause-ok g c =
    let i = c.loop-answer.invariant in
    let k = c.args.store.now in
    let vs = map string_bytes c.args.program.now.variables.items in
    let es = by_bytes c.in_ok-numbers.numbers.entries in
    let names = c.in_ok-variables.ensures.ok ∙ names-by_bytes c.in_ok-numbers.numbers.entries in
    let xs = answers_in c.args.answers.now in
    let p = all-there (length c.args.answers.now) c.loop-answer.answer-index c.loop-answer-test.false c.loop-answer.auto.answer-index-end in
    let n = length-map c.args.answers.now answer_of in
    subst (λ m. InTurn (IsNamedAnswer k vs) c.args.table.now c.loop-answer.table m xs)
    (sym (c.new.ensures ∙ (λ j. answers_over (names j) (map to_applied c.loop-answer.ids.items) (sym p j))))
    (subst (InTurn (IsNamedAnswer k vs) c.args.table.now c.loop-answer.table (answers_over (map (λ (q : List ℕ × ℕ). q.0) es) (map to_applied c.loop-answer.ids.items) c.loop-answer.answer-index))
    (take_all c.loop-answer.answer-index xs (omega (arith, c.loop-answer-test.false, n))) i.named)
