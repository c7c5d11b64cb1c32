use Rattle.std.proofs.Common.{◌≡◌, ◌∙◌, ℕ, List, map, string_bytes, ap, subst, arith, inr}
use Rattle.std.specs.Prelude.{Contains}
use Rattle.slotted_patterns.specs.View.{tree_of}
use Rattle.slotted_hashcons.specs.WellFiled.{state_in}
use Rattle.slotted_match_machine.specs.Answers.{answers_in}
use Rattle.slotted_match_machine.specs.Index.{OneByOne}
use Rattle.slotted_match_machine.specs.Machine.{Answer, all_answers}
use Rattle.slotted_match_machine.specs.Readings.{ReadsAnswer}
use Rattle.slotted_matching.specs.Found.{IsFound}
use Rattle.slotted_matching.proofs.Finding.{numbered-once, answers-whole, pairs-have, reads-each, found-by, valid-all, variables-all, fresh-all, count-all, takes-for, runs_out-for, ok-mapped}
use Rattle.slotted_matching.proofs.find.find_indexed.Goals as goal

pub answers_with_slots-requires-clause-once : goal.answers_with_slots-requires-clause-once
answers_with_slots-requires-clause-once g c =
    let k = c.args.store.now in
    let tree = tree_of g.L.LanguageChildren.form c.args.pattern.now in
    let x = c.args.indexed.now in
    let p = c.in_ok-program.program in
    let variables : List (List ℕ) = map string_bytes p.variables.items in
    let r = c.requires.index.0 in
    let index = c.requires.index.1 in
    numbered-once k r x.skeletons x.index index.is index.rest tree c.requires.whole p.steps.items variables c.in_ok-program.ensures.ok

pub answers_with_slots-requires-clause-slots : goal.answers_with_slots-requires-clause-slots
answers_with_slots-requires-clause-slots g c =
    let k = c.args.store.now in
    let tree = tree_of g.L.LanguageChildren.form c.args.pattern.now in
    let x = c.args.indexed.now in
    let p = c.in_ok-program.program in
    let variables : List (List ℕ) = map string_bytes p.variables.items in
    let r = c.requires.index.0 in
    let index = c.requires.index.1 in
    let xs : List Answer = answers_in c.deref-2.result.now in
    let same : xs ≡ all_answers x.index p.steps.items = ap answers_in c.deref-2.ensures.value ∙ (c.in_ok-answers.ensures ∙ ap (all_answers x.index) c.deref.ensures.value) in
    let among = λ (a : Answer) (d : Contains xs a). subst (λ l. Contains l a) same d in
    pairs-have k r x.skeletons x.index index.is index.rest tree c.requires.whole p.steps.items variables c.in_ok-program.ensures.ok xs among p.slots.items c.in_ok-program.ensures.slots

pub answers_with_slots-requires-clause-whole : goal.answers_with_slots-requires-clause-whole
answers_with_slots-requires-clause-whole g c =
    let k = c.args.store.now in
    let tree = tree_of g.L.LanguageChildren.form c.args.pattern.now in
    let x = c.args.indexed.now in
    let p = c.in_ok-program.program in
    let variables : List (List ℕ) = map string_bytes p.variables.items in
    let r = c.requires.index.0 in
    let index = c.requires.index.1 in
    let xs : List Answer = answers_in c.deref-2.result.now in
    let same : xs ≡ all_answers x.index p.steps.items = ap answers_in c.deref-2.ensures.value ∙ (c.in_ok-answers.ensures ∙ ap (all_answers x.index) c.deref.ensures.value) in
    let among = λ (a : Answer) (d : Contains xs a). subst (λ l. Contains l a) same d in
    answers-whole k r x.skeletons x.index index.is index.rest tree c.requires.whole p.steps.items variables c.in_ok-program.ensures.ok xs among

pub returns-clause-finds : goal.returns-clause-finds
returns-clause-finds g c r index =
    let k = c.args.store.now in
    let tree = tree_of g.L.LanguageChildren.form c.args.pattern.now in
    let x = c.args.indexed.now in
    let p = c.in_ok-program.program in
    let variables : List (List ℕ) = map string_bytes p.variables.items in
    let xs : List Answer = answers_in c.deref-2.result.now in
    let same : xs ≡ all_answers x.index p.steps.items = ap answers_in c.deref-2.ensures.value ∙ (c.in_ok-answers.ensures ∙ ap (all_answers x.index) c.deref.ensures.value) in
    let among = λ (a : Answer) (d : Contains xs a). subst (λ l. Contains l a) same d in
    ok-mapped c.answers_with_slots.result c.answers_with_slots.ensures.ok
    (λ found named q at. found-by k r x.skeletons x.index index.is index.rest tree c.requires.whole p.steps.items variables c.in_ok-program.ensures.ok q at found (subst (OneByOne (ReadsAnswer (state_in k r) variables) found) same (reads-each k r x.skeletons x.index index.is index.rest tree c.requires.whole p.steps.items variables c.in_ok-program.ensures.ok xs among c.args.table.now c.answers_with_slots.new.table found named)))

pub returns-clause-valid : goal.returns-clause-valid
returns-clause-valid g c r index =
    let k = c.args.store.now in
    let tree = tree_of g.L.LanguageChildren.form c.args.pattern.now in
    let x = c.args.indexed.now in
    let p = c.in_ok-program.program in
    let variables : List (List ℕ) = map string_bytes p.variables.items in
    let xs : List Answer = answers_in c.deref-2.result.now in
    let same : xs ≡ all_answers x.index p.steps.items = ap answers_in c.deref-2.ensures.value ∙ (c.in_ok-answers.ensures ∙ ap (all_answers x.index) c.deref.ensures.value) in
    let among = λ (a : Answer) (d : Contains xs a). subst (λ l. Contains l a) same d in
    ok-mapped c.answers_with_slots.result c.answers_with_slots.ensures.ok
    (λ found named. valid-all k r x.skeletons x.index index.is index.rest tree c.requires.whole p.steps.items variables c.in_ok-program.ensures.ok xs among c.args.table.now c.answers_with_slots.new.table found named)

pub returns-clause-variables : goal.returns-clause-variables
returns-clause-variables g c =
    let k = c.args.store.now in
    let tree = tree_of g.L.LanguageChildren.form c.args.pattern.now in
    let x = c.args.indexed.now in
    let p = c.in_ok-program.program in
    let variables : List (List ℕ) = map string_bytes p.variables.items in
    let r = c.requires.index.0 in
    let index = c.requires.index.1 in
    let xs : List Answer = answers_in c.deref-2.result.now in
    let same : xs ≡ all_answers x.index p.steps.items = ap answers_in c.deref-2.ensures.value ∙ (c.in_ok-answers.ensures ∙ ap (all_answers x.index) c.deref.ensures.value) in
    let among = λ (a : Answer) (d : Contains xs a). subst (λ l. Contains l a) same d in
    ok-mapped c.answers_with_slots.result c.answers_with_slots.ensures.ok
    (λ found named. variables-all k r x.skeletons x.index index.is index.rest tree c.requires.whole p.steps.items variables c.in_ok-program.ensures.ok xs among c.args.table.now c.answers_with_slots.new.table found named)

pub returns-clause-fresh : goal.returns-clause-fresh
returns-clause-fresh g c =
    let k = c.args.store.now in
    let tree = tree_of g.L.LanguageChildren.form c.args.pattern.now in
    let x = c.args.indexed.now in
    let p = c.in_ok-program.program in
    let variables : List (List ℕ) = map string_bytes p.variables.items in
    let r = c.requires.index.0 in
    let index = c.requires.index.1 in
    let xs : List Answer = answers_in c.deref-2.result.now in
    let same : xs ≡ all_answers x.index p.steps.items = ap answers_in c.deref-2.ensures.value ∙ (c.in_ok-answers.ensures ∙ ap (all_answers x.index) c.deref.ensures.value) in
    let among = λ (a : Answer) (d : Contains xs a). subst (λ l. Contains l a) same d in
    ok-mapped c.answers_with_slots.result c.answers_with_slots.ensures.ok
    (λ found named. fresh-all k r x.skeletons x.index index.is index.rest tree c.requires.whole p.steps.items variables c.in_ok-program.ensures.ok xs among c.args.table.now c.answers_with_slots.new.table found named)

pub returns-clause-count : goal.returns-clause-count
returns-clause-count g c =
    let k = c.args.store.now in
    let tree = tree_of g.L.LanguageChildren.form c.args.pattern.now in
    let x = c.args.indexed.now in
    let p = c.in_ok-program.program in
    let variables : List (List ℕ) = map string_bytes p.variables.items in
    let r = c.requires.index.0 in
    let index = c.requires.index.1 in
    let xs : List Answer = answers_in c.deref-2.result.now in
    let same : xs ≡ all_answers x.index p.steps.items = ap answers_in c.deref-2.ensures.value ∙ (c.in_ok-answers.ensures ∙ ap (all_answers x.index) c.deref.ensures.value) in
    let among = λ (a : Answer) (d : Contains xs a). subst (λ l. Contains l a) same d in
    let takes = c.answers_with_slots.ensures.takes in
    ok-mapped c.answers_with_slots.result c.answers_with_slots.ensures.ok
    (λ found named. record { names = takes.names; taken = omega (arith, takes.taken, count-all k r x.skeletons x.index index.is index.rest tree c.requires.whole p.steps.items variables c.in_ok-program.ensures.ok xs among c.args.table.now c.answers_with_slots.new.table found named) })

pub returns-clause-takes : goal.returns-clause-takes
returns-clause-takes g c r index =
    let k = c.args.store.now in
    let tree = tree_of g.L.LanguageChildren.form c.args.pattern.now in
    let x = c.args.indexed.now in
    let p = c.in_ok-program.program in
    let variables : List (List ℕ) = map string_bytes p.variables.items in
    let xs : List Answer = answers_in c.deref-2.result.now in
    let same : xs ≡ all_answers x.index p.steps.items = ap answers_in c.deref-2.ensures.value ∙ (c.in_ok-answers.ensures ∙ ap (all_answers x.index) c.deref.ensures.value) in
    let among = λ (a : Answer) (d : Contains xs a). subst (λ l. Contains l a) same d in
    inr (takes-for k r x.skeletons x.index index.is index.rest tree c.requires.whole p.steps.items variables c.in_ok-program.ensures.ok xs among (IsFound k r)
    (λ q at found reads. found-by k r x.skeletons x.index index.is index.rest tree c.requires.whole p.steps.items variables c.in_ok-program.ensures.ok q at found (subst (OneByOne (ReadsAnswer (state_in k r) variables) found) same reads)) c.args.table.now c.answers_with_slots.new.table c.answers_with_slots.ensures.takes)

pub returns-clause-full : goal.returns-clause-full
returns-clause-full g c r index out =
    let k = c.args.store.now in
    let tree = tree_of g.L.LanguageChildren.form c.args.pattern.now in
    let x = c.args.indexed.now in
    let p = c.in_ok-program.program in
    let variables : List (List ℕ) = map string_bytes p.variables.items in
    let xs : List Answer = answers_in c.deref-2.result.now in
    let same : xs ≡ all_answers x.index p.steps.items = ap answers_in c.deref-2.ensures.value ∙ (c.in_ok-answers.ensures ∙ ap (all_answers x.index) c.deref.ensures.value) in
    let among = λ (a : Answer) (d : Contains xs a). subst (λ l. Contains l a) same d in
    inr (runs_out-for k r x.skeletons x.index index.is index.rest tree c.requires.whole p.steps.items variables c.in_ok-program.ensures.ok xs among (IsFound k r)
    (λ q at found reads. found-by k r x.skeletons x.index index.is index.rest tree c.requires.whole p.steps.items variables c.in_ok-program.ensures.ok q at found (subst (OneByOne (ReadsAnswer (state_in k r) variables) found) same reads)) c.args.table.now c.answers_with_slots.new.table (c.answers_with_slots.ensures.full out))
