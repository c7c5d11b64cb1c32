use Rattle.std.proofs.Common.{◌≡◌, ◌<◌, ◌≤◌, ◌+◌, ◌∙◌, ◌++◌, ◌∷◌, [], ℕ, List, arith, length, take, drop, get_or, ap, sym, append_assoc}
use Rattle.std.specs.Prelude.{slice_set, unwrap_or}
use Rattle.std.proofs.lemmas.List.{drop_more, take_more_set, drop-set-lt}
use Rattle.std.proofs.lemmas.Option.{get_or_from_slice_get}
use Rattle.slotted_lists.proofs.Maps.{length-values, length-keys}
use Rattle.slotted_slots.specs.Maps.{keys, values, value_of, keys-with_value_at, values-with_value_at}
use Rattle.slotted_slots.specs.Table.{Table, fresh_slot}
use Rattle.slotted_lookup.specs.Filling.{lack, lacked, named}
use Rattle.slotted_lookup.proofs.filling.name_values.Goals as goal

-- one more value gets its name
names-step : (m : List (ℕ × ℕ)) (c d : ℕ) (xs ys : List ℕ) (i x y : ℕ) → i < length xs → get_or xs i x ≡ x → ys ≡ slice_set xs i y → y ≡ unwrap_or (value_of m x) (fresh_slot c) → d ≡ c + lack (value_of m x) →
    take (i + 1) ys ++ named d m (drop (i + 1) ys) ≡ take i xs ++ named c m (drop i xs)
names-step m c d xs ys i x y l at set name next =
    let t : take (i + 1) ys ≡ take i xs ++ y ∷ [] = ap (take (i + 1)) set ∙ take_more_set xs i y l in
    let r : drop (i + 1) ys ≡ drop (i + 1) xs = ap (drop (i + 1)) set ∙ drop-set-lt (i + 1) xs i y (omega arith) in
    let w : drop i xs ≡ x ∷ drop (i + 1) xs = drop_more xs i x l ∙ ap (λ z. z ∷ drop (i + 1) xs) at in
    (λ j. t j ++ named (next j) m (r j))
    ∙ (append_assoc (take i xs) (y ∷ []) (named (c + lack (value_of m x)) m (drop (i + 1) xs))
    ∙ ((λ j. take i xs ++ name j ∷ named (c + lack (value_of m x)) m (drop (i + 1) xs)) ∙ ap (λ zs. take i xs ++ named c m zs) (sym w)))

-- and one fewer is left
left-step : (m : List (ℕ × ℕ)) (c d : ℕ) (xs ys : List ℕ) (i x y : ℕ) → i < length xs → get_or xs i x ≡ x → ys ≡ slice_set xs i y → d ≡ c + lack (value_of m x) →
    d + lacked m (drop (i + 1) ys) ≡ c + lacked m (drop i xs)
left-step m c d xs ys i x y l at set next =
    let r : lacked m (drop (i + 1) ys) ≡ lacked m (drop (i + 1) xs) = ap (lacked m) (ap (drop (i + 1)) set ∙ drop-set-lt (i + 1) xs i y (omega arith)) in
    let w : lacked m (drop i xs) ≡ lacked m (x ∷ drop (i + 1) xs) = ap (lacked m) (drop_more xs i x l ∙ ap (λ z. z ∷ drop (i + 1) xs) at) in
    omega (arith, r, w, next)

-- the value that is read is the first of those that are left
next-left : (m : List (ℕ × ℕ)) (xs : List ℕ) (i x : ℕ) → i < length xs → get_or xs i x ≡ x → lack (value_of m x) ≤ lacked m (drop i xs)
next-left m xs i x l at =
    let w : lacked m (drop i xs) ≡ lacked m (x ∷ drop (i + 1) xs) = ap (lacked m) (drop_more xs i x l ∙ ap (λ z. z ∷ drop (i + 1) xs) at) in
    omega (arith, w)

pub loop-i-preserved : goal.loop-i-preserved
loop-i-preserved c =
    let xs : List ℕ = values c.loop-i.slots in
    let n : length c.loop-i.slots ≡ length c.args.slots.now = sym (length-keys c.loop-i.slots) ∙ (ap length c.loop-i.invariant.keys ∙ length-keys c.args.slots.now) in
    let l : c.loop-i.i < length xs = omega (arith, length-values c.loop-i.slots, n, c.len-i-end.ensures.len, c.loop-i-test.true) in
    let x = c.value_at.result in
    let at : get_or xs c.loop-i.i x ≡ x = get_or_from_slice_get xs c.loop-i.i x x c.value_at.ensures in
    let set : values c.set_value_at.new.self ≡ slice_set xs c.loop-i.i c.in_ok-name.name = ap values c.set_value_at.ensures ∙ values-with_value_at c.loop-i.slots c.loop-i.i c.in_ok-name.name in
    let next : c.name_or_fresh.new.table.fresh ≡ c.loop-i.table.fresh + lack (value_of c.args.names.now x) = ap (λ (t : Table). t.fresh) c.in_ok-name.ensures.made in
    record {
      keys = ap keys c.set_value_at.ensures ∙ (keys-with_value_at c.loop-i.slots c.loop-i.i c.in_ok-name.name ∙ c.loop-i.invariant.keys);
      names = names-step c.args.names.now c.loop-i.table.fresh c.name_or_fresh.new.table.fresh xs (values c.set_value_at.new.self) c.loop-i.i x c.in_ok-name.name l at set c.in_ok-name.ensures.name next ∙ c.loop-i.invariant.names;
      left = left-step c.args.names.now c.loop-i.table.fresh c.name_or_fresh.new.table.fresh xs (values c.set_value_at.new.self) c.loop-i.i x c.in_ok-name.name l at set next ∙ c.loop-i.invariant.left;
      kept = ap (λ (t : Table). t.names) c.in_ok-name.ensures.made ∙ c.loop-i.invariant.kept;
      more = λ x h. c.name_or_fresh.ensures.more x (c.loop-i.invariant.more x h);
    }

-- the slot that was not to be had is one of those that are left
pub returns-in_err-name-clause-full : goal.returns-in_err-name-clause-full
returns-in_err-name-clause-full c e =
    let xs : List ℕ = values c.loop-i.slots in
    let n : length c.loop-i.slots ≡ length c.args.slots.now = sym (length-keys c.loop-i.slots) ∙ (ap length c.loop-i.invariant.keys ∙ length-keys c.args.slots.now) in
    let l : c.loop-i.i < length xs = omega (arith, length-values c.loop-i.slots, n, c.len-i-end.ensures.len, c.loop-i-test.true) in
    let x = c.value_at.result in
    let at : get_or xs c.loop-i.i x ≡ x = get_or_from_slice_get xs c.loop-i.i x x c.value_at.ensures in
    let full = c.in_err-name.ensures.full in
    record {
      lacks = omega (arith, full.lacks, next-left c.args.names.now xs c.loop-i.i x l at, c.loop-i.invariant.left);
      used = full.used;
    }
