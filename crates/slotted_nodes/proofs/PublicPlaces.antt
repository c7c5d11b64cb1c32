-- When the test for a public place says no, and when yes.
use Rattle.std.proofs.Common.{◌≡◌, ℕ, suc, zero, ◌<◌, Option, Some, None, Bool, true, false, ◌&&◌, slice_index, refl, arith}
use Rattle.slotted_nodes.specs.Form.{Form, counted_end, scopes, scope_end_of}
use Rattle.slotted_nodes.specs.Public.{IsPublic, is_bound_by, is_no_binder, is_public}

-- a binder among the first n places that scopes the place and has its name is found
found : (f : Form) (i n j end : ℕ) → j < n → scope_end_of (scopes f.tree) j ≡ Some end → i < end → slice_index f.names j ≡ slice_index f.names i → is_bound_by f i n ≡ true
found f i zero j end lt s r q = absurd (omega (arith, lt))
found f i (suc n) j end lt s r q = grind (arith, found f i n j end)

and_false : (b : Bool) → false ≡ (b && false)
and_false true = refl
and_false false = refl

-- a place before an end as a call answers it is before the end
before_end : (o : Option ℕ) (i end : ℕ) → Some end ≡ counted_end o → i < end → (e : ℕ) × (o ≡ Some e) × (i < e)
before_end None i end s r = cc
before_end (Some e) i end s r = (e, refl, grind arith)

pub is_public-false : (f : Form) (i j end : ℕ) → j < i → Some end ≡ counted_end (scope_end_of (scopes f.tree) j) → i < end → slice_index f.names j ≡ slice_index f.names i → false ≡ is_public f i
is_public-false f i j end lt s r q =
    let e = before_end (scope_end_of (scopes f.tree) j) i end s r in
    rw (found f i i j e.0 lt e.1 e.2 q) (and_false (is_no_binder (scope_end_of (scopes f.tree) i)))

pub is_public-true : (f : Form) (i : ℕ) → scope_end_of (scopes f.tree) i ≡ None → is_bound_by f i i ≡ false → IsPublic f i
is_public-true f i n h = record {
  no_binder = n;
  not_bound = λ j b e. let t = found f i i j b.end b.before b.is_end b.within e in cc;
}
