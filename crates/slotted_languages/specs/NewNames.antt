-- What the calls that put other names into a node promise: f is the node and g the answer, the table is t before the call
-- and u after it, and m is the map that is handed in, with the values vs; where there is none, it is empty.
use Rattle.std.specs.Prelude.{◌≡◌, ◌⊎◌, ℕ, ◌<◌, ◌≤◌, List, ◌++◌, length, true, false, not, slice_index}
use Rattle.slotted_theory.specs.FiniteMaps.{filled}
use Rattle.slotted_theory.specs.Nameless.{moved}
use Rattle.slotted_slots.specs.Maps.{IsInEither, is_among, values}
use Rattle.slotted_slots.specs.Table.{Table, TakesAtMost, is_known, slot_limit}
use Rattle.slotted_nodes.specs.Form.{Form}
use Rattle.slotted_languages.specs.Children.{IsBinder, binders}
use Rattle.slotted_languages.specs.Fresh.{IsInUse, IsRefreshed, RunsOut}
use Rattle.slotted_languages.specs.NodeTerm.{nameless_node, free_names_of}

-- there are more places than slots can number
abbrev pub IsTooLarge : Form → Type 0
IsTooLarge f = slot_limit ≤ length f.names

-- g is f with its free names renamed by m
abbrev pub IsRenamedBy : List (ℕ × ℕ) → Form → Form → Type 0
IsRenamedBy m f g = nameless_node g ≡ moved (filled m) (nameless_node f)

-- the names of m put into the shape g give f
abbrev pub GivesBack : List (ℕ × ℕ) → Form → Form → Type 0
GivesBack m g f = moved (filled m) (nameless_node g) ≡ nameless_node f

-- g has a fresh slot in the place of each name of xs, and in the place of each other name
abbrev pub IsRefreshedAt : Table → List ℕ → Form → Form → Type 0
IsRefreshedAt t xs f g = IsRefreshed t (λ x. is_among x xs) f g

abbrev pub IsRefreshedBut : Table → List ℕ → Form → Form → Type 0
IsRefreshedBut t xs f g = IsRefreshed t (λ x. not (is_among x xs)) f g

-- a binder keeps its name where that is no free one of g
abbrev pub BindersStay : Form → Form → Type 0
BindersStay f g = (j : ℕ) → j < length f.names → IsBinder f j → is_among (slice_index f.names j) (free_names_of g) ≡ false →
    slice_index g.names j ≡ slice_index f.names j

-- no binder of g has a name of f
abbrev pub BindersAreNew : Form → Form → Type 0
BindersAreNew f g = (j : ℕ) → j < length f.names → IsBinder f j → is_among (slice_index g.names j) f.names ≡ false

-- the table knows the name of no binder of g
abbrev pub BindersAreUnknown : Table → Form → Form → Type 0
BindersAreUnknown t f g = (j : ℕ) → j < length f.names → IsBinder f j → is_known t (slice_index g.names j) ≡ false

-- no two binders of g have one name
abbrev pub BindersDiffer : Form → Form → Type 0
BindersDiffer f g = (j k : ℕ) → j < length f.names → k < length f.names → IsBinder f j → IsBinder f k →
    slice_index g.names j ≡ slice_index g.names k → j ≡ k

-- what has the name of a binder in g had its name in f
abbrev pub BindersMeetAsBefore : Form → Form → Type 0
BindersMeetAsBefore f g = (j k : ℕ) → j < length f.names → k < length f.names → IsBinder f j →
    slice_index g.names j ≡ slice_index g.names k → slice_index f.names j ≡ slice_index f.names k

-- the name y that stands where x stood is x, or known to the table, or one of vs
abbrev pub IsPutIn : Table → List ℕ → ℕ → ℕ → Type 0
IsPutIn u vs x y = (y ≡ x) ⊎ ((is_known u y ≡ true) ⊎ (is_among y vs ≡ true))

-- each name of g that did not stand at its place in f is known to the table, or one of vs
abbrev pub PutsIn : Table → List ℕ → Form → Form → Type 0
PutsIn u vs f g = (j : ℕ) → j < length g.names → IsPutIn u vs (slice_index f.names j) (slice_index g.names j)

-- the name stands in f or in g
abbrev pub StandsIn : Form → Form → ℕ → Type 0
StandsIn f g z = IsInEither g.names f.names z

-- or it is a value of m
abbrev pub IsFrom : List (ℕ × ℕ) → Form → Form → ℕ → Type 0
IsFrom m f g z = IsInUse (values m) g.names f.names z

-- at most one slot for each binder was made, beside the names at hand: those of f, and the values of m
abbrev pub TakesPerBinder : List (ℕ × ℕ) → Form → Table → Table → Type 0
TakesPerBinder m f t u = TakesAtMost (binders f) (values m ++ f.names) t u

-- there are too many places, or slots ran out, and fewer were left beside the names at hand than there are binders
abbrev pub LacksPerBinder : List (ℕ × ℕ) → Form → Table → Table → Type 0
LacksPerBinder m f t u = IsTooLarge f ⊎ RunsOut (binders f) (values m ++ f.names) t u

-- the same with one slot for each place
abbrev pub TakesPerPlace : List (ℕ × ℕ) → Form → Table → Table → Type 0
TakesPerPlace m f t u = TakesAtMost (length f.names) (values m ++ f.names) t u

abbrev pub LacksPerPlace : List (ℕ × ℕ) → Form → Table → Table → Type 0
LacksPerPlace m f t u = IsTooLarge f ⊎ RunsOut (length f.names) (values m ++ f.names) t u
