-- What reports list.
use Rattle.std.proofs.Common.{◌≡◌, ◌+◌, ◌∙◌, ℕ, List, [], ◌∷◌, ◌++◌, true, false, map, cond, refl, ap, sym, arith}
use Rattle.std.specs.Prelude.{Bool}
use Rattle.std.specs.List.{filter, range_with_len}
use Rattle.std.specs.Ordering.{nat_cmp}
use Rattle.std.proofs.lemmas.List.{append-nil}
use Rattle.std.proofs.lemmas.List.FromFn.{filter_of_map_range_with_len_more}
use Rattle.slotted_lists.proofs.Maps.{is_among-In, In-is_among}
use Rattle.slotted_slots.specs.Sets.{set_of}
use Rattle.slotted_slots.proofs.Ascending.{is_among-set_of, IsAscending-set_of}
use Rattle.slotted_model.specs.Ascending.{ascending}
use Rattle.slotted_model.proofs.Data.Sets.{IsAscending-ascending, In-ascending, In-of_ascending, same_members}
use Rattle.slotted_proofs.proofs.Bridges.{ascends}

-- the set of some numbers is the numbers, ascending

pub set_of-is : (xs : List ℕ) → set_of nat_cmp xs ≡ ascending xs
set_of-is xs = same_members (set_of nat_cmp xs) (ascending xs) (ascends (set_of nat_cmp xs) (IsAscending-set_of xs)) (IsAscending-ascending xs)
    (λ z. (
      λ h. In-ascending z xs (is_among-In xs z (sym (is_among-set_of z xs) ∙ In-is_among (set_of nat_cmp xs) z h)),
      λ h. is_among-In (set_of nat_cmp xs) z (is_among-set_of z xs ∙ In-is_among xs z (In-of_ascending z xs h)),
    ))

-- one number more that is tried

map-same : (xs : List ℕ) → map (λ x. x) xs ≡ xs
map-same [] = refl
map-same (x ∷ xs) = ap (λ ys. x ∷ ys) (map-same xs)

next-number : (test : ℕ → Bool) (n : ℕ) → filter test (range_with_len 0 (n + 1)) ≡ filter test (range_with_len 0 n) ++ cond (test n) (n ∷ []) []
next-number test n =
    ap (filter test) (sym (map-same (range_with_len 0 (n + 1))))
    ∙ (filter_of_map_range_with_len_more test (λ x. x) 0 n n (omega arith)
    ∙ ap (λ xs. filter test xs ++ cond (test n) (n ∷ []) []) (map-same (range_with_len 0 n)))

pub next-passes : (test : ℕ → Bool) (n : ℕ) → test n ≡ true → filter test (range_with_len 0 n) ++ n ∷ [] ≡ filter test (range_with_len 0 (n + 1))
next-passes test n e = ap (λ b. filter test (range_with_len 0 n) ++ cond b (n ∷ []) []) (sym e) ∙ sym (next-number test n)

pub next-fails : (test : ℕ → Bool) (n : ℕ) → test n ≡ false → filter test (range_with_len 0 n) ≡ filter test (range_with_len 0 (n + 1))
next-fails test n e =
    sym (append-nil (filter test (range_with_len 0 n)))
    ∙ (ap (λ b. filter test (range_with_len 0 n) ++ cond b (n ∷ []) []) (sym e) ∙ sym (next-number test n))
