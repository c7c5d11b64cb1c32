-- Why slots run out in a rebuild: a class that is too large, whichever step met it.
use Rattle.std.proofs.Common.{◌≡◌, ◌≢◌, ◌≤◌, ◌<◌, ◌+◌, ◌^◌, ◌⊎◌, ℕ, length, rules, ap, ◌∙◌, sym, subst, inl, inr, arith}
use Rattle.std.specs.Prelude.{Result, Ok, Err, IsErrAnd, IsErrOf}
use Rattle.std.proofs.lemmas.Bool.{cases_lt}
use Rattle.slotted_lists.proofs.Maps.{length-keys}
use Rattle.slotted_slots.specs.declared.error.Error.{Error}
use Rattle.slotted_slots.specs.declared.error.Error.TheVariants.{OutOfMemory, OutOfSlots}
use Rattle.slotted_slots.specs.Error.{IsOutOfMemory}
use Rattle.slotted_slots.specs.Table.{slot_limit}
use Rattle.slotted_model.specs.Applied.{Applied}
use Rattle.slotted_model.specs.Classes.{canonical_slots, IsFull}
use Rattle.slotted_proofs.specs.declared.equation.Equation.{Equation as Sides}
use Rattle.slotted_proofs.specs.Equations.{to_applied}
use Rattle.slotted_classes.specs.Kept.{Kept, nodes_of}
use Rattle.slotted_classes.proofs.KeptLists.{full-within}
use Rattle.slotted_rebuilding.specs.Proving.{HasLargeClassOf}
use Rattle.slotted_rebuilding.specs.Settling.{HasLargeUnaligned}
use Rattle.slotted_rebuilding.specs.Grows.{Grows}
use Rattle.slotted_rebuilding.proofs.GrownRows.{grown-count}
use Rattle.slotted_rebuilding.specs.Congruence.{AreTwins, TwinsRunOut}
use Rattle.slotted_rebuilding.specs.Named.{IsWideClass}
use Rattle.slotted_rebuilding.specs.Causes.{HasLargeClass}

-- the error that a `?` hands on is the one that it was given
error-or : {T E : Type 0} → E → Result T E → E
error-or x (Ok v) = x
error-or x (Err e) = e

handed-on : {T E : Type 0} (r : Result T E) (e x : E) → IsErrAnd r (λ y. y ≡ e) → IsErrOf r x → e ≡ x
unfolding error-or
handed-on (Ok v) e x said is = absurd said
handed-on (Err y) e x said is = sym said ∙ ap (error-or x) is

pub same-error : {T U E : Type 0} (r : Result T E) (e x : E) → IsErrAnd r (λ y. y ≡ e) → IsErrOf r x → IsErrOf {T = U} {E = E} (Err e) x
same-error r e x said is = ap Err (handed-on r e x said is)

-- where memory ran out, slots did not
not-both : OutOfMemory ≢ OutOfSlots
not-both = search rules

pub had-slots : {T : Type 0} (r : Result T Error) (e : Error) → IsErrAnd r (λ y. y ≡ e) → IsOutOfMemory e → IsErrOf r OutOfSlots → ⊥
had-slots r e said memory full = not-both (sym memory ∙ handed-on r e OutOfSlots said full)

-- a large class was one before
pub large-grown : (k l : Kept) → Grows k l → HasLargeClass l → HasLargeClass k
large-grown k l grows h =
    (h.0, subst (λ n. h.0 < n) (grown-count k l grows) h.1, subst (λ nodes. (2 ^ 29 ≤ length (canonical_slots nodes h.0)) ⊎ IsWideClass nodes h.0) grows.nodes h.2)

pub large-of : (k : Kept) (a b : ℕ) → HasLargeClassOf k a b → HasLargeClass k
large-of k a b h = (h.0, h.1, inl h.3)

pub large-unaligned : (k : Kept) → HasLargeUnaligned k → HasLargeClass k
large-unaligned k h = large-of k h.symmetry.class h.symmetry.class h.large

-- of two classes with too many slots together one is large
pub large-either : (k : Kept) (i j : ℕ) → i < length k.classes → j < length k.classes →
    slot_limit ≤ length (canonical_slots (nodes_of k) i) + length (canonical_slots (nodes_of k) j) → HasLargeClass k
large-either k i j hi hj much = elim (cases_lt (length (canonical_slots (nodes_of k) i)) (2 ^ 29)) [
  | inl small ↦ (j, hj, inl (omega (arith, much, small)))
  | inr large ↦ (i, hi, inl large)
]

-- a full id has a name for each slot of its class
full-count : (k : Kept) (a : Applied) → IsFull (nodes_of k) a → length a.1 ≡ length (canonical_slots (nodes_of k) a.0)
full-count k a full = sym (length-keys a.1) ∙ ap length full.slots

-- slots run out at the congruence of twins for a large class alone
pub twins-large : (k : Kept) (e : Sides) → AreTwins k e → TwinsRunOut k e → HasLargeClass k
twins-large k e twins (inl (inl many)) =
    let l : length e.l.m ≡ length (canonical_slots (nodes_of k) e.l.id.0) = full-count k (to_applied e.l) twins.left in
    let r : length e.r.m ≡ length (canonical_slots (nodes_of k) e.r.id.0) = full-count k (to_applied e.r) twins.twin.full in
    large-either k e.l.id.0 e.r.id.0 (full-within k (to_applied e.l) twins.left) (full-within k (to_applied e.r) twins.twin.full) (omega (arith, many, l, r))
twins-large k e twins (inl (inr (inl wide))) = (e.l.id.0, full-within k (to_applied e.l) twins.left, inr wide)
twins-large k e twins (inl (inr (inr wide))) = (e.r.id.0, full-within k (to_applied e.r) twins.twin.full, inr wide)
twins-large k e twins (inr child) = large-of k child.large.equation.l.id.0 child.large.equation.r.id.0 child.large.large
