-- How the slots that calls take add up, and what it means that too few are left.
use Rattle.std.proofs.Common.{◌≡◌, ℕ, zero, suc, ◌+◌, ◌-◌, ◌<◌, ◌≤◌, true, false, List, [], ◌∷◌, length, add-one, refl, sym, ap, subst, inl, inr, arith, ◌∙◌}
use Rattle.std.proofs.lemmas.Bool.{cases_Bool, cases_order, true≢false, lt-ltb, le-ltb}
use Rattle.slotted_slots.specs.Maps.{is_among}
use Rattle.slotted_slots.specs.Table.{Table, fresh_slot, is_known, KnowsMore, slot_limit, unknown_names, slots_beside, TakesAtMost, LacksSlots}
use Rattle.slotted_slots.proofs.MapLaws.{is_among-cons}
use Rattle.slotted_slots.proofs.TableLaws.{is_known-fresh_slot, KnowsMore-grows}

-- a slot of the names is not counted, and each other one is
pub slots_beside-used : (xs : List ℕ) (k : ℕ) → is_among (fresh_slot k) xs ≡ true → slots_beside xs (k + 1) ≡ slots_beside xs k
unfolding slots_beside
slots_beside-used xs k used = ap (slots_beside xs) (add-one k) ∙ rw used refl

pub slots_beside-spare : (xs : List ℕ) (k : ℕ) → is_among (fresh_slot k) xs ≡ false → slots_beside xs (k + 1) ≡ slots_beside xs k + 1
unfolding slots_beside
slots_beside-spare xs k spare = ap (slots_beside xs) (add-one k) ∙ (rw spare refl ∙ sym (add-one (slots_beside xs k)))

-- so the count never goes down, and goes up by one at most
slots_beside-next : (xs : List ℕ) (k : ℕ) → (slots_beside xs k ≤ slots_beside xs (k + 1)) × (slots_beside xs (k + 1) ≤ slots_beside xs k + 1)
slots_beside-next xs k = elim (cases_Bool (is_among (fresh_slot k) xs)) [
  | inl used ↦ (omega (arith, slots_beside-used xs k used), omega (arith, slots_beside-used xs k used))
  | inr spare ↦ (omega (arith, slots_beside-spare xs k spare), omega (arith, slots_beside-spare xs k spare))
]

slots_beside-further : (xs : List ℕ) (j d k : ℕ) → k ≡ j + d → (slots_beside xs j ≤ slots_beside xs k) × (slots_beside xs k ≤ slots_beside xs j + d)
slots_beside-further xs j zero k e =
    let same : slots_beside xs k ≡ slots_beside xs j = ap (slots_beside xs) (omega (arith, e)) in
    (omega (arith, same), omega (arith, same))
slots_beside-further xs j (suc d) k e =
    let before = slots_beside-further xs j d (j + d) refl in
    let last = slots_beside-next xs (j + d) in
    let same : slots_beside xs k ≡ slots_beside xs (j + d + 1) = ap (slots_beside xs) (omega (arith, e)) in
    (omega (arith, same, before.0, last.0), omega (arith, same, before.1, last.1))

pub slots_beside-rises : (xs : List ℕ) (j k : ℕ) → j ≤ k → slots_beside xs j ≤ slots_beside xs k
slots_beside-rises xs j k le = (slots_beside-further xs j (k - j) k (omega (arith, le))).0

pub slots_beside-within : (xs : List ℕ) (j d k : ℕ) → k ≤ j + d → slots_beside xs k ≤ slots_beside xs j + d
slots_beside-within xs j d k le =
    let all = slots_beside-further xs j d (j + d) refl in
    omega (arith, all.1, slots_beside-rises xs k (j + d) le)

-- no more are counted beside names that have those of the slots that the others have
slots_beside-other : (xs ys : List ℕ) (low d k : ℕ) → k ≡ low + d → ((i : ℕ) → low ≤ i → i < k → is_among (fresh_slot i) xs ≡ true → is_among (fresh_slot i) ys ≡ true) → slots_beside ys k + slots_beside xs low ≤ slots_beside xs k + slots_beside ys low
slots_beside-other xs ys low zero k e within =
    let same_xs : slots_beside xs k ≡ slots_beside xs low = ap (slots_beside xs) (omega (arith, e)) in
    let same_ys : slots_beside ys k ≡ slots_beside ys low = ap (slots_beside ys) (omega (arith, e)) in
    omega (arith, same_xs, same_ys)
slots_beside-other xs ys low (suc d) k e within =
    let before = slots_beside-other xs ys low d (low + d) refl (λ i le lt. within i le (omega (arith, e, lt))) in
    let same_xs : slots_beside xs k ≡ slots_beside xs (low + d + 1) = ap (slots_beside xs) (omega (arith, e)) in
    let same_ys : slots_beside ys k ≡ slots_beside ys (low + d + 1) = ap (slots_beside ys) (omega (arith, e)) in
    elim (cases_Bool (is_among (fresh_slot (low + d)) xs)) [
      | inl used ↦
          let there = within (low + d) (omega arith) (omega (arith, e)) used in
          omega (arith, before, same_xs, same_ys, slots_beside-used xs (low + d) used, slots_beside-used ys (low + d) there)
      | inr spare ↦ omega (arith, before, same_xs, same_ys, slots_beside-spare xs (low + d) spare, (slots_beside-next ys (low + d)).1)
    ]

-- a table that knows more went on
pub fresh_goes_on : (t u : Table) → KnowsMore t u → t.fresh ≤ u.fresh
fresh_goes_on t u more = elim (cases_order u.fresh t.fresh) [
  | inl same ↦ omega (arith, same)
  | inr (inl behind) ↦
      let known : is_known t (fresh_slot u.fresh) ≡ true = is_known-fresh_slot t u.fresh ∙ lt-ltb u.fresh t.fresh behind in
      absurd (true≢false (sym (more (fresh_slot u.fresh) known) ∙ (is_known-fresh_slot u u.fresh ∙ le-ltb u.fresh u.fresh (omega arith))))
  | inr (inr ahead) ↦ omega (arith, ahead)
]

-- nothing is taken where nothing is done
pub at_most_none : (xs : List ℕ) (t : Table) → TakesAtMost 0 xs t t
at_most_none xs t = omega arith

-- calls one after another add up
pub at_most_then : (n k : ℕ) (xs : List ℕ) (t u v : Table) → TakesAtMost n xs t u → TakesAtMost k xs u v → TakesAtMost (n + k) xs t v
at_most_then n k xs t u v first second = omega (arith, first, second)

-- what takes n at most takes any greater number at most
pub at_most_more : (n k : ℕ) (xs : List ℕ) (t u : Table) → n ≤ k → TakesAtMost n xs t u → TakesAtMost k xs t u
at_most_more n k xs t u le taken = omega (arith, le, taken)

-- one more fresh slot, and none beside the names where it is one of them
pub at_most_one : (xs : List ℕ) (t u : Table) → u.fresh ≡ t.fresh + 1 → TakesAtMost 1 xs t u
at_most_one xs t u moved = slots_beside-within xs t.fresh 1 u.fresh (omega (arith, moved))

pub at_most_used : (xs : List ℕ) (t u : Table) (s : ℕ) → u.fresh ≡ t.fresh + 1 → s ≡ fresh_slot t.fresh → is_among s xs ≡ true → TakesAtMost 0 xs t u
at_most_used xs t u s moved is used =
    let same : slots_beside xs u.fresh ≡ slots_beside xs (t.fresh + 1) = ap (slots_beside xs) moved in
    omega (arith, same, slots_beside-used xs t.fresh (sym (ap (λ z. is_among z xs) is) ∙ used))

-- a counter that went on by n at most took n at most
pub at_most_from : (n : ℕ) (xs : List ℕ) (t u : Table) → u.fresh ≤ t.fresh + n → TakesAtMost n xs t u
at_most_from n xs t u le = slots_beside-within xs t.fresh n u.fresh le

-- beside other names too, if they have those of the names that came to be known
pub at_most_beside : (n : ℕ) (xs ys : List ℕ) (t u : Table) → ((z : ℕ) → is_known u z ≡ true → is_known t z ≡ false → is_among z xs ≡ true → is_among z ys ≡ true) → TakesAtMost n xs t u → TakesAtMost n ys t u
at_most_beside n xs ys t u within taken = elim (cases_order t.fresh u.fresh) [
  | inl same ↦ omega (arith, slots_beside-rises ys u.fresh t.fresh (omega (arith, same)))
  | inr (inl further) ↦
      let both = slots_beside-other xs ys t.fresh (u.fresh - t.fresh) u.fresh (omega (arith, further))
      (λ i le lt. within (fresh_slot i) (is_known-fresh_slot u i ∙ lt-ltb i u.fresh lt) (is_known-fresh_slot t i ∙ le-ltb i t.fresh le)) in
      omega (arith, both, taken)
  | inr (inr back) ↦ omega (arith, slots_beside-rises ys u.fresh t.fresh (omega (arith, back)))
]

-- where the last slot was taken, and fewer than n were, n were lacking
pub lacks_at_end : (n k : ℕ) (xs : List ℕ) (t u : Table) → u.fresh ≡ slot_limit → k < n → TakesAtMost k xs t u → LacksSlots n xs t
lacks_at_end n k xs t u full few taken = omega (arith, few, taken, ap (slots_beside xs) full)

-- what lacks after a call lacked before it, with what the call took
pub lacks_then : (n k : ℕ) (xs : List ℕ) (t u : Table) → TakesAtMost k xs t u → LacksSlots n xs u → LacksSlots (k + n) xs t
lacks_then n k xs t u taken lacks = omega (arith, taken, lacks)

-- where n lack, any greater number does
pub lacks_more : (n k : ℕ) (xs : List ℕ) (t : Table) → n ≤ k → LacksSlots n xs t → LacksSlots k xs t
lacks_more n k xs t le lacks = omega (arith, le, lacks)

-- where the counter leaves fewer than n, n lack
pub lacks_from : (n : ℕ) (xs : List ℕ) (t : Table) → t.fresh ≤ slot_limit → slot_limit < t.fresh + n → LacksSlots n xs t
lacks_from n xs t fits few = by slot_limit fits few
  where
    by : (limit : ℕ) → t.fresh ≤ limit → limit < t.fresh + n → slots_beside xs limit < slots_beside xs t.fresh + n
    by limit fits few = omega (arith, fits, few, slots_beside-within xs t.fresh (limit - t.fresh) limit (omega (arith, fits)))

-- they lack beside other names too, if those have each of the names that is not known
pub lacks_beside : (n : ℕ) (xs ys : List ℕ) (t : Table) → t.fresh ≤ slot_limit → ((z : ℕ) → is_known t z ≡ false → is_among z xs ≡ true → is_among z ys ≡ true) → LacksSlots n xs t → LacksSlots n ys t
lacks_beside n xs ys t fits within lacks = by slot_limit fits lacks
  where
    by : (limit : ℕ) → t.fresh ≤ limit → slots_beside xs limit < slots_beside xs t.fresh + n → slots_beside ys limit < slots_beside ys t.fresh + n
    by limit fits lacks =
        let both = slots_beside-other xs ys t.fresh (limit - t.fresh) limit (omega (arith, fits)) (λ i le lt. within (fresh_slot i) (is_known-fresh_slot t i ∙ le-ltb i t.fresh le)) in
        omega (arith, both, lacks)

-- a table that knows more leaves no more of the names unknown, and less where one of them is known now
unknown_fewer : (t u : Table) (xs : List ℕ) → KnowsMore t u → length (unknown_names u xs) ≤ length (unknown_names t xs)
unknown_fewer t u [] more = omega arith
unknown_fewer t u (x ∷ xs) more =
    let rest = unknown_fewer t u xs more in
    elim (cases_Bool (is_known t x)) [
      | inl known ↦ rw (known, more x known) rest
      | inr unknown ↦ elim (cases_Bool (is_known u x)) [
        | inl now ↦ rw (unknown, now) (omega (arith, rest))
        | inr still ↦ rw (unknown, still) (omega (arith, rest))
      ]
    ]

unknown_less : (t u : Table) (s : ℕ) (xs : List ℕ) → KnowsMore t u → is_known t s ≡ false → is_known u s ≡ true → is_among s xs ≡ true → length (unknown_names u xs) + 1 ≤ length (unknown_names t xs)
unknown_less t u s [] more unknown now there = absurd (true≢false (sym there))
unknown_less t u s (x ∷ xs) more unknown now there = elim (is_among-cons s x xs there) [
  | inl here ↦ rw (ap (is_known t) here ∙ unknown, ap (is_known u) here ∙ now) (omega (arith, unknown_fewer t u xs more))
  | inr further ↦
      let rest = unknown_less t u s xs more unknown now further in
      elim (cases_Bool (is_known t x)) [
        | inl known ↦ rw (known, more x known) rest
        | inr lacks ↦ elim (cases_Bool (is_known u x)) [
          | inl knows ↦ rw (lacks, knows) (omega (arith, rest))
          | inr still ↦ rw (lacks, still) (omega (arith, rest))
        ]
      ]
]

-- as the counter goes on, the names that are still unknown make up for those that are not counted
unknown_and_beside : (t : Table) (xs : List ℕ) (d k : ℕ) → k ≡ t.fresh + d → k + length (unknown_names (record t { fresh = k }) xs) + slots_beside xs t.fresh ≤ t.fresh + length (unknown_names t xs) + slots_beside xs k
unknown_and_beside t xs zero k e =
    let same : k ≡ t.fresh = omega (arith, e) in
    subst (λ i. i + length (unknown_names (record t { fresh = i }) xs) + slots_beside xs t.fresh ≤ t.fresh + length (unknown_names t xs) + slots_beside xs i) (sym same) (omega arith)
unknown_and_beside t xs (suc d) k e =
    let low = t.fresh + d in
    let before = unknown_and_beside t xs d low refl in
    subst (λ i. i + length (unknown_names (record t { fresh = i }) xs) + slots_beside xs t.fresh ≤ t.fresh + length (unknown_names t xs) + slots_beside xs i) (omega (arith, e)) (next low before)
  where
    next : (low : ℕ) → low + length (unknown_names (record t { fresh = low }) xs) + slots_beside xs t.fresh ≤ t.fresh + length (unknown_names t xs) + slots_beside xs low → low + 1 + length (unknown_names (record t { fresh = low + 1 }) xs) + slots_beside xs t.fresh ≤ t.fresh + length (unknown_names t xs) + slots_beside xs (low + 1)
    next low before =
        let a = record t { fresh = low } in
        let b = record t { fresh = low + 1 } in
        let more = KnowsMore-grows a b (omega arith) (omega arith) in
        let unknown : is_known a (fresh_slot low) ≡ false = is_known-fresh_slot a low ∙ le-ltb low low (omega arith) in
        let known : is_known b (fresh_slot low) ≡ true = is_known-fresh_slot b low ∙ lt-ltb low (low + 1) (omega arith) in
        elim (cases_Bool (is_among (fresh_slot low) xs)) [
          | inl used ↦ omega (arith, before, unknown_less a b (fresh_slot low) xs more unknown known used, slots_beside-used xs low used)
          | inr spare ↦ omega (arith, before, unknown_fewer a b xs more, slots_beside-spare xs low spare)
        ]

-- so the counter goes on by n at most, and the number of the names that were unknown
pub at_most_fresh : (n : ℕ) (xs : List ℕ) (t u : Table) → TakesAtMost n xs t u → u.fresh ≤ t.fresh + (n + length (unknown_names t xs))
at_most_fresh n xs t u taken = elim (cases_order t.fresh u.fresh) [
  | inl same ↦ omega (arith, same)
  | inr (inl further) ↦ omega (arith, taken, unknown_and_beside t xs (u.fresh - t.fresh) u.fresh (omega (arith, further)))
  | inr (inr back) ↦ omega (arith, back)
]

-- and where n lack, the counter leaves fewer than n and that number
pub lacks_fresh : (n : ℕ) (xs : List ℕ) (t : Table) → t.fresh ≤ slot_limit → LacksSlots n xs t → slot_limit < t.fresh + (n + length (unknown_names t xs))
lacks_fresh n xs t fits lacks = by slot_limit fits lacks
  where
    by : (limit : ℕ) → t.fresh ≤ limit → slots_beside xs limit < slots_beside xs t.fresh + n → limit < t.fresh + (n + length (unknown_names t xs))
    by limit fits lacks = omega (arith, lacks, unknown_and_beside t xs (limit - t.fresh) limit (omega (arith, fits)))

-- where all names at hand are known, only the counter matters
pub at_most_known : (n : ℕ) (xs : List ℕ) (t u : Table) → unknown_names t xs ≡ [] → TakesAtMost n xs t u → u.fresh ≤ t.fresh + n
at_most_known n xs t u known taken = omega (arith, at_most_fresh n xs t u taken, ap length known)

pub lacks_known : (n : ℕ) (xs : List ℕ) (t : Table) → unknown_names t xs ≡ [] → t.fresh ≤ slot_limit → LacksSlots n xs t → slot_limit < t.fresh + n
lacks_known n xs t known fits lacks =
    let all = lacks_fresh n xs t fits lacks in
    let none : length (unknown_names t xs) ≡ 0 = ap length known in
    subst (λ k. slot_limit < t.fresh + k) (omega (arith, none)) all
