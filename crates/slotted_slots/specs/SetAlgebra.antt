-- Small sets beside each other.
pub use Rattle.std.specs.Set.{remove_key}
use Rattle.std.specs.Prelude.{◌≡◌, false, not, ◌&&◌, ◌||◌, List, fold, IsTrue}
use Rattle.std.specs.List.{filter}
use Rattle.std.specs.Ordering.{eq_by_cmp}
use Rattle.std.specs.declared.cmp.Ordering.{Ordering}
use Rattle.slotted_slots.specs.Sets.{has, insert_key}

module _ {T : Type 0} (cmp : T → T → Ordering) where
  -- the elements without the one that compares equal to t
  abbrev pub without : List T → T → List T
  without xs t = remove_key (eq_by_cmp cmp t) xs

  module _ (xs ys : List T) where
    -- each element of xs is one of ys
    abbrev pub IsWithin : Type 0
    IsWithin = (t : T) → IsTrue (has cmp xs t) → IsTrue (has cmp ys t)

    -- no element of xs is one of ys
    abbrev pub AreApart : Type 0
    AreApart = (t : T) → IsTrue (has cmp xs t) → has cmp ys t ≡ false

    -- the elements of xs, with those of ys that xs lacks
    abbrev pub united : List T
    united = fold (insert_key cmp) xs ys

    -- the elements of xs that ys has
    abbrev pub shared : List T
    shared = filter (has cmp ys) xs

    -- the elements of xs that ys lacks
    abbrev pub remaining : List T
    remaining = filter (λ x. not (has cmp ys x)) xs

    -- s has the elements of both
    abbrev pub IsUnion : List T → Type 0
    IsUnion s = (t : T) → has cmp s t ≡ (has cmp xs t || has cmp ys t)

    -- s has what both have
    abbrev pub IsIntersection : List T → Type 0
    IsIntersection s = (t : T) → has cmp s t ≡ (has cmp xs t && has cmp ys t)

    -- s has what xs has and ys lacks
    abbrev pub IsDifference : List T → Type 0
    IsDifference s = (t : T) → has cmp s t ≡ (has cmp xs t && not (has cmp ys t))
