-- The order of Small: by variant as they are written, and within a variant by the fields from the left.
--     applied_id_cmp a b   ids by their classes, and then by their pairs of slots
--     fields_cmp a b       nodes of one variant by their fields: slots and numbers by value, words by their bytes
--     small_cmp a b        nodes
use Rattle.std.specs.Prelude.{◌≡◌, ℕ, refl}
use Rattle.std.specs.Cmp.Lexicographic.{slice_cmp}
use Rattle.std.specs.Ordering.{nat_cmp, ordering_then}
use Rattle.std.specs.declared.cmp.Ordering.{Ordering}
use Rattle.std.specs.declared.cmp.Ordering.TheVariants.{Equal}
use Rattle.slotted_slots.specs.declared.types.AppliedId.{AppliedId}
use Rattle.slotted_small.specs.declared.small.Small.{Small}
use Rattle.slotted_small.specs.declared.small.Small.TheVariants.{Lam, App, Var, F, G, Add, Mul, Number, Word}
use Rattle.slotted_small.specs.Small.{small_form}
use Rattle.slotted_small.specs.contracts.small.SmallOrd.TheImpl.{ghosts}

abbrev pub pair_cmp : ℕ × ℕ → ℕ × ℕ → Ordering
pair_cmp p q = ordering_then (nat_cmp p.0 q.0) (nat_cmp p.1 q.1)

abbrev pub applied_id_cmp : AppliedId → AppliedId → Ordering
applied_id_cmp a b = ordering_then (nat_cmp a.id.0 b.id.0) (slice_cmp pair_cmp a.m b.m)

abbrev pub fields_cmp : Small → Small → Ordering
fields_cmp (Lam a) (Lam b) = ordering_then (nat_cmp a.slot b.slot) (applied_id_cmp a.elem b.elem)
fields_cmp (App a b) (App c d) = ordering_then (applied_id_cmp a c) (applied_id_cmp b d)
fields_cmp (Var x) (Var y) = nat_cmp x y
fields_cmp (F w x) (F y z) = ordering_then (nat_cmp w y) (nat_cmp x z)
fields_cmp (G x) (G y) = nat_cmp x y
fields_cmp (Add a b) (Add c d) = ordering_then (applied_id_cmp a c) (applied_id_cmp b d)
fields_cmp (Mul a b) (Mul c d) = ordering_then (applied_id_cmp a c) (applied_id_cmp b d)
fields_cmp (Number m) (Number n) = nat_cmp m n
fields_cmp (Word v) (Word w) = slice_cmp nat_cmp v w
fields_cmp a b = Equal

-- the operator is the number of the variant
abbrev pub small_cmp : Small → Small → Ordering
small_cmp a b = ordering_then (nat_cmp (small_form a).operator (small_form b).operator) (fields_cmp a b)

pub small_ordered : (a b : Small) → ghosts.cmp a b ≡ small_cmp a b
small_ordered (Lam a) (Lam b) = refl
small_ordered (App a b) (App c d) = refl
small_ordered (Var x) (Var y) = refl
small_ordered (F w x) (F y z) = refl
small_ordered (G x) (G y) = refl
small_ordered (Add a b) (Add c d) = refl
small_ordered (Mul a b) (Mul c d) = refl
small_ordered (Number m) (Number n) = refl
small_ordered (Word v) (Word w) = refl
small_ordered a b = refl
