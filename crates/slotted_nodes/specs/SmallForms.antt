-- Nodes whose places slots can number: what calls answer of them is what it stands for.
use Rattle.std.specs.Prelude.{◌≡◌, ℕ, ◌<◌, length, Option, Some, None, refl}
use Rattle.std.proofs.Common.{ap, arith}
use Rattle.slotted_nodes.specs.Form.{Form, IsSmall, children, child_place, counted, counted_end, scopes, scope_end_of}
use Rattle.slotted_nodes.specs.Joined.{child_fits, scope_end_within}

-- the end of a scope
pub small_end : (f : Form) (i : ℕ) → length f.names ≡ length (scopes f.tree) → IsSmall f →
    counted_end (scope_end_of (scopes f.tree) i) ≡ scope_end_of (scopes f.tree) i
small_end f i fits small = same (scope_end_of (scopes f.tree) i) refl
  where
    same : (o : Option ℕ) → o ≡ scope_end_of (scopes f.tree) i → counted_end o ≡ o
    same None p = refl
    same (Some e) p = ap Some (omega (arith, small, fits, scope_end_within f.tree i e p))

-- the place of a child
pub small_place : (f : Form) (k : ℕ) → length f.names ≡ length (scopes f.tree) → IsSmall f → k < length (children f.tree) →
    counted (child_place f.tree k) ≡ child_place f.tree k
small_place f k fits small h = omega (arith, fits, small, child_fits f.tree k h)
