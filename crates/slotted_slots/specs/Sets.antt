-- Small sets as lists that rise by the order of their elements.
pub use Rattle.std.specs.BTreeSet.{insert_key}
use Rattle.std.specs.Prelude.{◌≡◌, ℕ, ◌<◌, ◌≤◌, Bool, List, [], length, fold, slice_index_or}
use Rattle.std.specs.List.{list_any}
use Rattle.std.specs.Ordering.{eq_by_cmp}
use Rattle.std.specs.declared.cmp.Ordering.{Ordering}
use Rattle.std.specs.declared.cmp.Ordering.TheVariants.{Less, Equal, Greater}

module _ {T : Type 0} (cmp : T → T → Ordering) where
  -- an element compares equal to t
  abbrev pub has : List T → T → Bool
  has xs t = list_any (eq_by_cmp cmp t) xs

  -- the set of the elements of a list
  abbrev pub set_of : List T → List T
  set_of xs = fold (insert_key cmp) [] xs

  -- the element at place i compares equal to t
  pub record IsPlaceOf (xs : List T) (t : T) (i : ℕ) : Type 0 where
    pub in_range : i < length xs
    pub equal : (d : T) → cmp (slice_index_or xs i d) t ≡ Equal

  -- t would go at place i: smaller elements before it, and greater ones from it on
  pub record IsGap (xs : List T) (t : T) (i : ℕ) : Type 0 where
    pub in_range : i ≤ length xs
    pub smaller_before : (j : ℕ) (d : T) → j < i → cmp (slice_index_or xs j d) t ≡ Less
    pub greater_after : (j : ℕ) (d : T) → i ≤ j → j < length xs → cmp (slice_index_or xs j d) t ≡ Greater
