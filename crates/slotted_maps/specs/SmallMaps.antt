-- Small maps as lists of entries that rise by their keys.
pub use Rattle.std.specs.BTreeMap.{insert_entry}
pub use Rattle.std.specs.List.{zip}
pub use Rattle.std.specs.Map.{keys_of, lookup, remove_entry}
use Rattle.std.specs.Prelude.{◌≡◌, List, Option, length}
use Rattle.std.specs.List.Sorted.{IsStrictlySortedBy}
use Rattle.std.specs.Ordering.{eq_by_cmp}
use Rattle.std.specs.declared.cmp.Ordering.{Ordering}

module _ {K V : Type 0} (cmp : K → K → Ordering) where
  -- the value at the key that compares equal to k
  abbrev pub entry_value : List (K × V) → K → Option V
  entry_value es k = lookup (eq_by_cmp cmp k) es

  -- the entries without that key
  abbrev pub without_entry : List (K × V) → K → List (K × V)
  without_entry es k = remove_entry (eq_by_cmp cmp k) es

  -- the keys rise, and there is a value to each
  pub record AreEntries (ks : List K) (vs : List V) : Type 0 where
    pub same_length : length ks ≡ length vs
    pub ascending : IsStrictlySortedBy cmp ks
