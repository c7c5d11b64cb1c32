-- Slot maps put together, and completed by fresh slots.
use Rattle.std.specs.Prelude.{◌≡◌, ℕ, ◌<◌, ◌≤◌, Bool, false, not, is_some, ◌==◌, List, ◌++◌, length, fold, map, Option, Some, None, unwrap_or, IsTrue}
use Rattle.std.specs.List.{filter, list_all}
use Rattle.slotted_slots.specs.Maps.{value_of, with_pair, is_among, keys, values}
use Rattle.slotted_slots.specs.Table.{Table, fresh_slot, is_known, TakesAtMost, LacksSlots}

-- the two lists have the same numbers
abbrev pub HaveTheSame : List ℕ → List ℕ → Type 0
HaveTheSame xs ys = (v : ℕ) → is_among v xs ≡ is_among v ys

-- where both maps have a value it is one value
abbrev pub Agree : List (ℕ × ℕ) → List (ℕ × ℕ) → Type 0
Agree m n = (k v w : ℕ) → value_of m k ≡ Some v → value_of n k ≡ Some w → v ≡ w

-- n has no other value than m at a key of m
abbrev pub agrees_with : List (ℕ × ℕ) → List (ℕ × ℕ) → Bool
agrees_with m n = list_all (λ p. unwrap_or (value_of n p.0) p.1 == p.1) m

-- m with the pairs of n put in
abbrev pub joined : List (ℕ × ℕ) → List (ℕ × ℕ) → List (ℕ × ℕ)
joined m n = fold (λ a p. with_pair a p.0 p.1) m n

-- the first value, or else the second
abbrev pub either_value : Option ℕ → Option ℕ → Option ℕ
either_value (Some v) w = Some v
either_value None w = w

-- r has at each key what m has there, or where m has nothing what n has
abbrev pub HasEitherValue : List (ℕ × ℕ) → List (ℕ × ℕ) → List (ℕ × ℕ) → Type 0
HasEitherValue m n r = (k : ℕ) → value_of r k ≡ either_value (value_of m k) (value_of n k)

-- what n has at each of the values of m
abbrev pub sent_on : List (ℕ × ℕ) → List (ℕ × ℕ) → List (Option ℕ)
sent_on m n = map (λ v. value_of n v) (values m)

-- the values of both maps, which are passed over where slots are made
abbrev pub both_values : List (ℕ × ℕ) → List (ℕ × ℕ) → List ℕ
both_values m n = values m ++ values n

-- those of the names at which the map has no value
abbrev pub lacked : List (ℕ × ℕ) → List ℕ → List ℕ
lacked n xs = filter (λ x. not (is_some (value_of n x))) xs

-- a slot was made at most for each of the names that n lacks, beside those in use
abbrev pub TakesForLacked : List (ℕ × ℕ) → List ℕ → List ℕ → Table → Table → Type 0
TakesForLacked n xs used old new = TakesAtMost (length (lacked n xs)) used old new

-- fewer slots are left than n lacks of the names
abbrev pub LacksForLacked : List (ℕ × ℕ) → List ℕ → List ℕ → Table → Type 0
LacksForLacked n xs used t = LacksSlots (length (lacked n xs)) used t

-- a slot was made at most for each value of m that n lacks, beside the values of both
abbrev pub TakesToComplete : List (ℕ × ℕ) → List (ℕ × ℕ) → Table → Table → Type 0
TakesToComplete m n old new = TakesForLacked n (values m) (both_values m n) old new

-- fewer slots are left than n lacks of the values of m
abbrev pub LacksToComplete : List (ℕ × ℕ) → List (ℕ × ℕ) → Table → Type 0
LacksToComplete m n t = LacksForLacked n (values m) (both_values m n) t

-- a fresh slot from an index on, below another, which is none of those in use
pub record IsFreshFrom (low high : ℕ) (used : List ℕ) (s : ℕ) : Type 0 where
  pub index : ℕ
  pub is_fresh : s ≡ fresh_slot index
  pub from_low : low ≤ index
  pub below_high : index < high
  pub unused : is_among s used ≡ false

-- the value, or where there is none a fresh slot between the two indexes
abbrev pub IsFilled : ℕ → ℕ → List ℕ → Option ℕ → ℕ → Type 0
IsFilled low high used (Some v) s = (s ≡ v) × (low ≤ high)
IsFilled low high used None s = IsFreshFrom low high used s

-- the value of n at k, or where it has none a slot that was made meanwhile and is no value of either map
abbrev pub IsValueOrMade : Table → Table → List (ℕ × ℕ) → List (ℕ × ℕ) → ℕ → ℕ → Type 0
IsValueOrMade old new m n k s = IsFilled old.fresh new.fresh (both_values m n) (value_of n k) s

-- the slot was unknown and is known now, and is none of those in use
pub record IsNew (old new : Table) (used : List ℕ) (s : ℕ) : Type 0 where
  pub unknown : is_known old s ≡ false
  pub known : IsTrue (is_known new s)
  pub unused : is_among s used ≡ false

-- at each key of m, r has what n has at the value of m, or where n has none a new slot of its own
pub record IsCompleted (old new : Table) (m n r : List (ℕ × ℕ)) : Type 0 where
  pub same_keys : keys r ≡ keys m
  pub sent : (k v w : ℕ) → value_of m k ≡ Some v → value_of n v ≡ Some w → value_of r k ≡ Some w
  pub made : (k v s : ℕ) → value_of m k ≡ Some v → value_of n v ≡ None → value_of r k ≡ Some s → IsNew old new (values m ++ values n) s
  pub apart : (j k v w s : ℕ) → value_of m j ≡ Some v → value_of n v ≡ None → value_of m k ≡ Some w → value_of n w ≡ None →
      value_of r j ≡ Some s → value_of r k ≡ Some s → j ≡ k
