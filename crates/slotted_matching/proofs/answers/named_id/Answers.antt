use Rattle.std.proofs.Common.{◌≡◌, ◌<◌, ◌≤◌, ap, sym, ◌∙◌, arith, length, map}
use Rattle.std.proofs.lemmas.List.{take_all}
use Rattle.slotted_lists.proofs.Maps.{length-values, length-keys}
use Rattle.slotted_slots.specs.Maps.{keys, values, keys-with_value_at}
use Rattle.slotted_model.specs.Applied.{Applied}
use Rattle.slotted_classes.specs.Kept.{find_at}
use Rattle.slotted_match_machine.specs.Answers.{occurrence_in}
use Rattle.slotted_matching.specs.Naming.{slot_in}
use Rattle.slotted_matching.proofs.AnsweredIds.{count-of, id-read, name-put}
use Rattle.slotted_matching.proofs.answers.named_id.Goals as goal

pub set_value_at-requires : goal.set_value_at-requires
set_value_at-requires g c =
    let n = count-of c.args.store.now c.requires.good (occurrence_in c.args.value.now) c.requires.whole in
    let e : length c.in_ok-m.m ≡ length (find_at c.args.store.now c.args.value.now.class).pairs = ap length (c.in_ok-m.ensures.ok ∙ ap (λ (a : Applied). a.1) c.entry.ensures) in
    let k : length c.loop-position.m ≡ length c.in_ok-m.m = sym (length-keys c.loop-position.m) ∙ (ap length c.loop-position.invariant.keys ∙ length-keys c.in_ok-m.m) in
    omega (arith, n, e, k, c.loop-position-test.true, ap length c.as_slice-numbers.ensures.value)

pub loop-position-preserved : goal.loop-position-preserved
loop-position-preserved g c =
    let n = count-of c.args.store.now c.requires.good (occurrence_in c.args.value.now) c.requires.whole in
    let e : length c.in_ok-m.m ≡ length (find_at c.args.store.now c.args.value.now.class).pairs = ap length (c.in_ok-m.ensures.ok ∙ ap (λ (a : Applied). a.1) c.entry.ensures) in
    let k : length c.loop-position.m ≡ length c.in_ok-m.m = sym (length-keys c.loop-position.m) ∙ (ap length c.loop-position.invariant.keys ∙ length-keys c.in_ok-m.m) in
    let l : c.loop-position.position < length (values c.loop-position.m) = omega (arith, n, e, k, c.loop-position-test.true, ap length c.as_slice-numbers.ensures.value, length-values c.loop-position.m) in
    record {
      keys = ap keys c.set_value_at.ensures ∙ (keys-with_value_at c.loop-position.m c.loop-position.position c.slot_of.result ∙ c.loop-position.invariant.keys);
      values = name-put c.loop-position.m c.set_value_at.new.self c.loop-position.position c.slot_of.result c.as_slice-numbers.result.now (slot_in c.args.names.now) l c.loop-position-test.true
          c.set_value_at.ensures c.slot_of.ensures c.loop-position.invariant.values;
    }

pub returns-clause-ok : goal.returns-clause-ok
returns-clause-ok g c =
    let n = count-of c.args.store.now c.requires.good (occurrence_in c.args.value.now) c.requires.whole in
    let m = c.loop-position.m in
    let xs = c.as_slice-numbers.result.now in
    let f = slot_in c.args.names.now in
    let i = c.loop-position.position in
    let e : length c.in_ok-m.m ≡ length (find_at c.args.store.now c.args.value.now.class).pairs = ap length (c.in_ok-m.ensures.ok ∙ ap (λ (a : Applied). a.1) c.entry.ensures) in
    let k : length m ≡ length c.in_ok-m.m = sym (length-keys m) ∙ (ap length c.loop-position.invariant.keys ∙ length-keys c.in_ok-m.m) in
    let w : length (values m) ≤ i = omega (arith, n, e, k, c.loop-position-test.false, ap length c.as_slice-numbers.ensures.value, length-values m) in
    id-read c.args.store.now c.requires.good (occurrence_in c.args.value.now) c.requires.whole f m
    (c.loop-position.invariant.keys ∙ ap keys (c.in_ok-m.ensures.ok ∙ ap (λ (a : Applied). a.1) c.entry.ensures))
    (sym (take_all i (values m) w) ∙ (c.loop-position.invariant.values ∙ (ap (map f) (take_all i xs c.loop-position-test.false) ∙ ap (map f) c.as_slice-numbers.ensures.value)))
