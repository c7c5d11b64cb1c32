-- Which places of a node are public: their names can be seen from outside.
use Rattle.std.specs.Prelude.{◌≡◌, ◌≢◌, ℕ, suc, zero, ◌<◌, Option, Some, None, Bool, true, false, not, ◌&&◌, ◌||◌, ◌==◌, nat_lt, slice_index}
use Rattle.slotted_nodes.specs.Form.{Form, Tree, scopes, scope_end_of}

-- the binder at place j scopes place i
pub record Binds (t : Tree) (j i : ℕ) : Type 0 where
  pub before : j < i
  pub end : ℕ
  pub is_end : scope_end_of (scopes t) j ≡ Some end
  pub within : i < end

-- the place is no binder, and no binder that scopes it has its name
pub record IsPublic (f : Form) (i : ℕ) : Type 0 where
  pub no_binder : scope_end_of (scopes f.tree) i ≡ None
  pub not_bound : (j : ℕ) → Binds f.tree j i → slice_index f.names j ≢ slice_index f.names i

-- the scope that ends there has the place
abbrev pub reaches : Option ℕ → ℕ → Bool
reaches None i = false
reaches (Some end) i = nat_lt i end

-- one of the first n places is a binder that scopes the place and has its name
abbrev pub is_bound_by : Form → ℕ → ℕ → Bool
is_bound_by f i zero = false
is_bound_by f i (suc j) = (reaches (scope_end_of (scopes f.tree) j) i && (slice_index f.names j == slice_index f.names i)) || is_bound_by f i j

abbrev pub is_no_binder : Option ℕ → Bool
is_no_binder None = true
is_no_binder (Some end) = false

-- the same as a test
abbrev pub is_public : Form → ℕ → Bool
is_public f i = is_no_binder (scope_end_of (scopes f.tree) i) && not (is_bound_by f i i)
