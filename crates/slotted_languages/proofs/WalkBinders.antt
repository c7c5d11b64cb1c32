-- The number at a binder stands for no free name, and no other binder has it.
use Rattle.std.proofs.Common.{◌≡◌, ℕ, zero, suc, ◌+◌, ◌<◌, ◌≤◌, List, [], ◌∷◌, length, drop, Option, Some, None, sym, ◌∙◌, ap, refl, subst, inl, inr, arith, slice_index}
use Rattle.std.specs.Prelude.{IsSome, slice_index_or}
use Rattle.std.proofs.lemmas.Bool.{false≢true, cases_lt}
use Rattle.slotted_slots.specs.Table.{numeric_slot}
use Rattle.slotted_languages.specs.Children.{IsBinder}
use Rattle.slotted_nodes.specs.Form.{Form, scopes, end_at}
use Rattle.slotted_languages.specs.Shape.{Numbers, number_of, free_number, shape, IsBelow, Fits}
use Rattle.slotted_languages.specs.Walk.{Walk, numbers, bound_number, walk_binder, walk_own, walk_at, walk, start}
use Rattle.slotted_languages.proofs.Numbered.{IsFreeOf, Taken, Later, Later-same, Later-then, Later-free, Later-binder, IsBelow-other}
use Rattle.slotted_languages.proofs.WalkShapes.{walk-shape}

Later-own : (o : Option ℕ) (w : Walk) (x : ℕ) → Later (numbers w) (numbers (walk_own o w x).1)
Later-own (Some n) w x = Later-same (numbers w)
Later-own None w x = Later-free (number_of w.free x) (numbers w) x

Later-at : (w : Walk) (x i : ℕ) (o : Option ℕ) → Later (numbers w) (numbers (walk_at w x i o).1)
Later-at w x i (Some e) = Later-binder (numbers w)
Later-at w x i None = Later-own (bound_number w.binders x i None) w x

Later-walk : (ss : List (Option ℕ)) (xs : List ℕ) (i : ℕ) (w : Walk) → Later (numbers w) (numbers (walk ss xs i w).1)
Later-walk [] xs i w = Later-same (numbers w)
Later-walk (o ∷ ss) xs i w =
    let v = (walk_at w (slice_index xs 0) i (end_at i o)).1 in
    Later-then _ _ _ (Later-at w (slice_index xs 0) i (end_at i o)) (Later-walk ss (drop 1 xs) (i + 1) v)

binder_taken : (ss : List (Option ℕ)) (xs : List ℕ) (i k : ℕ) (w : Walk) → IsBelow (numeric_slot w.next) w.free → k < length ss → IsSome (slice_index_or ss k None) → Taken (slice_index (walk ss xs i w).0 k) (numbers (walk ss xs i w).1)
binder_taken [] xs i k w b h s = absurd (omega (arith, h))
binder_taken (None ∷ ss) xs i zero w b h s = absurd (false≢true s)
binder_taken (Some n ∷ ss) xs i zero w b h s =
    let v = (walk_binder w (slice_index xs 0) (i + 1 + n)).1 in
    (Later-walk ss (drop 1 xs) (i + 1) v).taken (numeric_slot w.next) (record { given = omega arith; other = IsBelow-other (numeric_slot w.next) w.free b })
binder_taken (o ∷ ss) xs i (suc k) w b h s =
    let t = walk_at w (slice_index xs 0) i (end_at i o) in
    binder_taken ss (drop 1 xs) (i + 1) k t.1 ((Later-at w (slice_index xs 0) i (end_at i o)).below b) (omega (arith, h)) s

is_scope : (i : ℕ) (o : Option ℕ) → IsSome (end_at i o) → IsSome o
is_scope i None h = h
is_scope i (Some n) h = refl

pub binder_number : (f : Form) (j : ℕ) → Fits f → j < length f.names → IsBinder f j → IsFreeOf (slice_index (shape f).0.names j) (shape f).1
binder_number f j fits h b =
    let p = walk-shape f fits in
    let r = walk (scopes f.tree) f.names 0 start in
    let t : Taken (slice_index r.0 j) (numbers r.1) = binder_taken (scopes f.tree) f.names 0 j start tt (omega (arith, h, fits)) (is_scope j (slice_index_or (scopes f.tree) j None) b) in
    let n : slice_index r.0 j ≡ slice_index (shape f).0.names j = ap (λ (g : Form). slice_index g.names j) p.0 in
    subst (λ n. IsFreeOf n (shape f).1) n (subst (IsFreeOf (slice_index r.0 j)) p.1 t.other)

-- the next number never goes back
next_free : (o : Option ℕ) (k : Numbers) (x : ℕ) → k.next ≤ (free_number o k x).1.next
next_free (Some n) k x = omega arith
next_free None k x = omega arith

next_own : (o : Option ℕ) (w : Walk) (x : ℕ) → w.next ≤ (walk_own o w x).1.next
next_own (Some n) w x = omega arith
next_own None w x = next_free (number_of w.free x) (numbers w) x

next_at : (w : Walk) (x i : ℕ) (o : Option ℕ) → w.next ≤ (walk_at w x i o).1.next
next_at w x i (Some e) = omega arith
next_at w x i None = next_own (bound_number w.binders x i None) w x

-- so the number of a binder is no smaller than the next one was
binder_above : (ss : List (Option ℕ)) (xs : List ℕ) (i k : ℕ) (w : Walk) → k < length ss → IsSome (slice_index_or ss k None) → numeric_slot w.next ≤ slice_index (walk ss xs i w).0 k
binder_above [] xs i k w h s = absurd (omega (arith, h))
binder_above (None ∷ ss) xs i zero w h s = absurd (false≢true s)
binder_above (Some n ∷ ss) xs i zero w h s = omega arith
binder_above (o ∷ ss) xs i (suc k) w h s =
    let t = walk_at w (slice_index xs 0) i (end_at i o) in
    omega (arith, binder_above ss (drop 1 xs) (i + 1) k t.1 (omega (arith, h)) s, next_at w (slice_index xs 0) i (end_at i o))

-- and binders have ascending numbers
binders_ascend : (ss : List (Option ℕ)) (xs : List ℕ) (i j k : ℕ) (w : Walk) → j < k → k < length ss → IsSome (slice_index_or ss j None) → IsSome (slice_index_or ss k None) → slice_index (walk ss xs i w).0 j < slice_index (walk ss xs i w).0 k
binders_ascend [] xs i j k w l h s t = absurd (omega (arith, h))
binders_ascend (o ∷ ss) xs i j zero w l h s t = absurd (omega (arith, l))
binders_ascend (None ∷ ss) xs i zero (suc k) w l h s t = absurd (false≢true s)
binders_ascend (Some n ∷ ss) xs i zero (suc k) w l h s t =
    let v = (walk_binder w (slice_index xs 0) (i + 1 + n)).1 in
    omega (arith, binder_above ss (drop 1 xs) (i + 1) k v (omega (arith, h)) t)
binders_ascend (o ∷ ss) xs i (suc j) (suc k) w l h s t =
    binders_ascend ss (drop 1 xs) (i + 1) j k (walk_at w (slice_index xs 0) i (end_at i o)).1 (omega (arith, l)) (omega (arith, h)) s t

pub binders_apart : (f : Form) (j k : ℕ) → Fits f → j < length f.names → k < length f.names → IsBinder f j → IsBinder f k → slice_index (shape f).0.names j ≡ slice_index (shape f).0.names k → j ≡ k
binders_apart f j k fits h l b c e =
    let ss = scopes f.tree in
    let p = walk-shape f fits in
    let r = walk ss f.names 0 start in
    let same : slice_index r.0 j ≡ slice_index r.0 k =
    ap (λ (g : Form). slice_index g.names j) p.0 ∙ (e ∙ sym (ap (λ (g : Form). slice_index g.names k) p.0)) in
    let s = is_scope j (slice_index_or ss j None) b in
    let t = is_scope k (slice_index_or ss k None) c in
    elim (cases_lt j k) [
      | inl lt ↦ absurd (omega (arith, same, binders_ascend ss f.names 0 j k start lt (omega (arith, l, fits)) s t))
      | inr ge ↦ elim (cases_lt k j) [
        | inl lt ↦ absurd (omega (arith, same, binders_ascend ss f.names 0 k j start lt (omega (arith, h, fits)) t s))
        | inr le ↦ omega (arith, ge, le)
      ]
    ]
