-- Fresh slots in the place of names: each such name gets one unused slot of its own.
use Rattle.std.specs.Prelude.{◌≡◌, ◌⊎◌, ℕ, List, ◌++◌, length, map, Bool, ◌&&◌, not, true, false, Some, None, IsSome, unwrap_or}
use Rattle.slotted_theory.specs.Nameless.{moved}
use Rattle.slotted_slots.specs.Maps.{IsInEither, value_of, values, is_among}
use Rattle.slotted_slots.specs.Table.{LacksSlots, Table, TakesAtMost, is_known, slot_limit}
use Rattle.slotted_nodes.specs.Form.{Form}
use Rattle.slotted_languages.specs.NodeTerm.{nameless_node, free_names_of}
use Rattle.slotted_languages.specs.Shape.{with_names}

-- the map with a slot for each of the names `wanted` that it lacked: the table t did not know it and u knows it, it is none of
-- the names xs, and no other name has it
pub record IsFilled (t u : Table) (xs wanted : List ℕ) (old new : List (ℕ × ℕ)) : Type 0 where
  pub kept : (x y : ℕ) → value_of old x ≡ Some y → value_of new x ≡ Some y
  pub has : (x : ℕ) → is_among x wanted ≡ true → IsSome (value_of new x)
  pub asked : (x y : ℕ) → value_of old x ≡ None → value_of new x ≡ Some y → is_among x wanted ≡ true
  pub unused : (x y : ℕ) → value_of old x ≡ None → value_of new x ≡ Some y → is_known t y ≡ false
  pub known : (x y : ℕ) → value_of old x ≡ None → value_of new x ≡ Some y → is_known u y ≡ true
  pub apart : (x y : ℕ) → value_of old x ≡ None → value_of new x ≡ Some y → is_among y xs ≡ false
  pub differ : (x z y : ℕ) → value_of old x ≡ None → value_of new x ≡ Some y → value_of new z ≡ Some y → x ≡ z

-- the value at a key, and any other name itself
abbrev pub replaced : List (ℕ × ℕ) → ℕ → ℕ
replaced m x = unwrap_or (value_of m x) x

-- the node with the values of m in the place of its keys
abbrev pub with_replaced : List (ℕ × ℕ) → Form → Form
with_replaced m f = with_names f (map (replaced m) f.names)

-- g is the node f with its free names renamed by m; a free name that m lacks has a fresh slot in its place
pub record IsRenamedFresh (t : Table) (m : List (ℕ × ℕ)) (f g : Form) : Type 0 where
  pub by : ℕ → ℕ
  pub known : (x y : ℕ) → value_of m x ≡ Some y → by x ≡ y
  pub unused : (x : ℕ) → is_among x (free_names_of f) ≡ true → value_of m x ≡ None → is_known t (by x) ≡ false
  pub apart : (x : ℕ) → is_among x (free_names_of f) ≡ true → value_of m x ≡ None → is_among (by x) f.names ≡ false
  pub differ : (x z : ℕ) → is_among x (free_names_of f) ≡ true → value_of m x ≡ None → is_among z (free_names_of f) ≡ true →
      by x ≡ by z → x ≡ z
  pub renamed : nameless_node g ≡ moved by (nameless_node f)

-- g is the node f with a fresh slot for each chosen name, at all its places, and every other name as it was. Up to bound
-- names it is f with the chosen free names renamed
pub record IsRefreshed (t : Table) (chosen : ℕ → Bool) (f g : Form) : Type 0 where
  pub by : ℕ → ℕ
  pub kept : (x : ℕ) → chosen x ≡ false → by x ≡ x
  pub unused : (x : ℕ) → is_among x f.names ≡ true → chosen x ≡ true → is_known t (by x) ≡ false
  pub apart : (x : ℕ) → is_among x f.names ≡ true → chosen x ≡ true → is_among (by x) f.names ≡ false
  pub differ : (x z : ℕ) → is_among x f.names ≡ true → is_among z f.names ≡ true → by x ≡ by z → x ≡ z
  pub places : g ≡ with_names f (map by f.names)
  pub renamed : nameless_node g ≡ moved by (nameless_node f)

-- z is a name to be avoided, a value or a name of a node
abbrev pub IsInUse : List ℕ → List ℕ → List ℕ → ℕ → Type 0
IsInUse avoid vs xs z = (is_among z avoid ≡ true) ⊎ IsInEither vs xs z

-- z is s, or was in use
abbrev pub IsOrIn : ℕ → List ℕ → List ℕ → List ℕ → ℕ → Type 0
IsOrIn s avoid vs xs z = (z ≡ s) ⊎ IsInUse avoid vs xs z

-- z is a name to be avoided, a value of the map or a name of the node, and the same or s
abbrev pub IsAtHand : List ℕ → List (ℕ × ℕ) → Form → ℕ → Type 0
IsAtHand avoid names f z = IsInUse avoid (values names) f.names z

abbrev pub IsOrAtHand : ℕ → List ℕ → List (ℕ × ℕ) → Form → ℕ → Type 0
IsOrAtHand s avoid names f z = IsOrIn s avoid (values names) f.names z

-- all of these names
abbrev pub at_hand : List ℕ → List (ℕ × ℕ) → Form → List ℕ
at_hand avoid names f = avoid ++ (values names ++ f.names)

-- what the old list has the new one has
abbrev pub KeepsAll : List ℕ → List ℕ → Type 0
KeepsAll old new = (z : ℕ) → is_among z old ≡ true → is_among z new ≡ true

-- the list s has those of the names xs that are among ys, and those that are not
abbrev pub HasThoseWithin : List ℕ → List ℕ → List ℕ → Type 0
HasThoseWithin s xs ys = (x : ℕ) → is_among x s ≡ (is_among x xs && is_among x ys)

abbrev pub HasThoseOutside : List ℕ → List ℕ → List ℕ → Type 0
HasThoseOutside s xs ys = (x : ℕ) → is_among x s ≡ (is_among x xs && not (is_among x ys))

-- each value of the map is known, or one of these
abbrev pub ValuesAreIn : Table → List ℕ → List (ℕ × ℕ) → Type 0
ValuesAreIn t ys names = (z : ℕ) → is_among z (values names) ≡ true → (is_known t z ≡ true) ⊎ (is_among z ys ≡ true)

-- all slots were made by now, and of those that were left before, fewer than n are none of the names at hand
abbrev pub RunsOut : ℕ → List ℕ → Table → Table → Type 0
RunsOut n xs t u = (u.fresh ≡ slot_limit) × LacksSlots n xs t

-- at most one slot was made beside all names at hand; or slots ran out, and all that were left are names at hand
abbrev pub TakesOne : List ℕ → List (ℕ × ℕ) → Form → Table → Table → Type 0
TakesOne avoid names f t u = TakesAtMost 1 (at_hand avoid names f) t u

abbrev pub LacksOne : List ℕ → List (ℕ × ℕ) → Form → Table → Table → Type 0
LacksOne avoid names f t u = RunsOut 1 (at_hand avoid names f) t u

-- the same with one slot for each of the names `wanted`
abbrev pub TakesEach : List ℕ → List (ℕ × ℕ) → Form → Table → Table → Type 0
TakesEach wanted names f t u = TakesAtMost (length wanted) (at_hand wanted names f) t u

abbrev pub LacksEach : List ℕ → List (ℕ × ℕ) → Form → Table → Table → Type 0
LacksEach wanted names f t u = RunsOut (length wanted) (at_hand wanted names f) t u
