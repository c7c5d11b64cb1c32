-- The live ones of the classes that wait to be modified.
--     lives_in k i        i is the number of a class that leads to itself
--     ArePending k cs is  these are the live ones of the classes cs, ascending
use Rattle.std.specs.Prelude.{ℕ, List, length, Bool, ◌&&◌, nat_eq, nat_lt}
use Rattle.std.specs.List.{filter}
use Rattle.std.specs.List.Sorted.{IsPermutation, IsSorted}
use Rattle.std.specs.Ordering.{nat_cmp}
use Rattle.slotted_classes.specs.Kept.{Kept, find_at}

abbrev pub lives_in : Kept → ℕ → Bool
lives_in k i = nat_lt i (length k.classes) && nat_eq (find_at k i).class i

pub record ArePending (k : Kept) (classes live : List ℕ) : Type 0 where
  pub same : IsPermutation (filter (lives_in k) classes) live
  pub ascending : IsSorted nat_cmp live
