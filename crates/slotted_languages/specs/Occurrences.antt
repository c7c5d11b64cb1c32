-- The names at some places of a node from the left, each as often as it stands.
use Rattle.std.specs.Prelude.{ℕ, List, length, map, Bool, not, slice_index}
use Rattle.std.specs.List.{filter}
use Rattle.slotted_nodes.specs.Form.{Form}
use Rattle.slotted_nodes.specs.Public.{is_public}
use Rattle.slotted_languages.specs.Children.{below}

-- the names at those of the first n places where the test says yes
abbrev pub names_where : (ℕ → Bool) → List ℕ → ℕ → List ℕ
names_where test names n = map (slice_index names) (filter test (below n))

-- the names at public places
abbrev pub public_names : Form → List ℕ
public_names f = names_where (is_public f) f.names (length f.names)

-- the names at all other places: binders, and what they bind
abbrev pub private_names : Form → List ℕ
private_names f = names_where (λ i. not (is_public f i)) f.names (length f.names)
