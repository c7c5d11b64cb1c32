-- The laws of slot maps.
use Rattle.std.specs.Prelude.{◌≡◌, ℕ, List, IsTrue}
use Rattle.slotted_slots.specs.Ascending.{IsAscending}
use Rattle.slotted_slots.specs.Maps.{keys, values, all_differ, composed, map_of, turned}

pub record MapLaws : Type 0 where
  -- where no value stands twice, neither does one in the inverse, whose inverse is the map
  pub inverse_differs : (m : List (ℕ × ℕ)) → IsAscending (keys m) → IsTrue (all_differ (values m)) →
      IsTrue (all_differ (values (map_of (turned m))))
  pub inverse_twice : (m : List (ℕ × ℕ)) → IsAscending (keys m) → IsTrue (all_differ (values m)) → map_of (turned (map_of (turned m))) ≡ m
  -- three maps compose from either side
  pub composing_is_associative : (a b c : List (ℕ × ℕ)) → IsAscending (keys b) → composed (composed a b) c ≡ composed a (composed b c)
