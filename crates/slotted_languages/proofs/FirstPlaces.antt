-- At a place that is no binder stands the number of a free name, or one that stood before.
use Rattle.std.proofs.Common.{◌≡◌, ℕ, zero, suc, ◌+◌, ◌<◌, List, [], ◌∷◌, ◌++◌, length, take, drop, Option, Some, None, sym, ap, refl, subst, inl, inr, arith, slice_index}
use Rattle.std.specs.Prelude.{Bool, true, false, ◌⊎◌, ◌&&◌, nat_eq, nat_lt, cond, slice_index_or}
use Rattle.slotted_lists.proofs.Members.{In, In-left, In-right}
use Rattle.slotted_lists.proofs.Maps.{keys-push}
use Rattle.slotted_slots.specs.Maps.{keys}
use Rattle.slotted_slots.specs.Table.{numeric_slot}
use Rattle.slotted_nodes.specs.Form.{Form, scopes, scope_end_of, end_at}
use Rattle.slotted_languages.specs.declared.shape.Binder.{Binder}
use Rattle.slotted_languages.specs.Shape.{Fits, free_number, number_of, shape}
use Rattle.slotted_languages.specs.Walk.{Walk, bound_number, numbers, start, walk, walk_at, walk_own}
use Rattle.slotted_languages.proofs.WalkShapes.{walk-shape}

abbrev binder_numbers : List Binder → List ℕ
binder_numbers [] = []
binder_numbers (b ∷ bs) = b.number ∷ binder_numbers bs

In-last : (n x : ℕ) (bs : List Binder) (b : Binder) → In n (binder_numbers (bs ++ b ∷ [])) → In n (binder_numbers bs) ⊎ (n ≡ b.number)
In-last n x [] b (inl e) = inr e
In-last n x [] b (inr h) = absurd h
In-last n x (c ∷ bs) b (inl e) = inl (inl e)
In-last n x (c ∷ bs) b (inr h) = elim (In-last n x bs b h) [
  | inl q ↦ inl (inr q)
  | inr q ↦ inr q
]

bound_in : (bs : List Binder) (x i n : ℕ) (o : Option ℕ) → bound_number bs x i o ≡ Some n → (o ≡ Some n) ⊎ In n (binder_numbers bs)
bound_in [] x i n o e = inl e
bound_in (b ∷ bs) x i n o e = elim (bound_in bs x i n (cond (nat_eq b.name x && nat_lt i b.until) (Some b.number) o) e) [
  | inl q ↦ pick (nat_eq b.name x && nat_lt i b.until) q
  | inr q ↦ inr (inr q)
]
  where
    pick : (c : Bool) → cond c (Some b.number) o ≡ Some n → (o ≡ Some n) ⊎ ((n ≡ b.number) ⊎ In n (binder_numbers bs))
    pick true q = let k : n ≡ b.number = cc in inr (inl k)
    pick false q = inl q

pub free_in : (m : List (ℕ × ℕ)) (x n : ℕ) → number_of m x ≡ Some n → In n (keys m)
free_in [] x n e = cc
free_in (p ∷ m) x n e = pick (nat_eq p.1 x) (free_in m x n) e
  where
    pick : (b : Bool) → (number_of m x ≡ Some n → In n (keys m)) → cond b (Some p.0) (number_of m x) ≡ Some n → (n ≡ p.0) ⊎ In n (keys m)
    pick true f q = let k : n ≡ p.0 = cc in inl k
    pick false f q = inr (f q)

keys_free : (o : Option ℕ) (w : Walk) (x n : ℕ) → In n (keys w.free) → In n (keys (free_number o (numbers w) x).1.free)
keys_free (Some k) w x n h = h
keys_free None w x n h = subst (In n) (sym (keys-push w.free (numeric_slot w.next, x))) (In-left n (keys w.free) (numeric_slot w.next ∷ []) h)

keys_own : (o : Option ℕ) (w : Walk) (x n : ℕ) → In n (keys w.free) → In n (keys (walk_own o w x).1.free)
keys_own (Some k) w x n h = h
keys_own None w x n h = keys_free (number_of w.free x) w x n h

keys_at : (w : Walk) (x i n : ℕ) (o : Option ℕ) → In n (keys w.free) → In n (keys (walk_at w x i o).1.free)
keys_at w x i n (Some e) h = h
keys_at w x i n None h = keys_own (bound_number w.binders x i None) w x n h

keys_walk : (ss : List (Option ℕ)) (xs : List ℕ) (i n : ℕ) (w : Walk) → In n (keys w.free) → In n (keys (walk ss xs i w).1.free)
keys_walk [] xs i n w h = h
keys_walk (o ∷ ss) xs i n w h =
    keys_walk ss (drop 1 xs) (i + 1) n (walk_at w (slice_index xs 0) i (end_at i o)).1 (keys_at w (slice_index xs 0) i n (end_at i o) h)

-- what a place gets that is no binder
free_named : (o : Option ℕ) (w : Walk) (x : ℕ) → number_of w.free x ≡ o → In (free_number o (numbers w) x).0 (keys (free_number o (numbers w) x).1.free)
free_named (Some k) w x e = free_in w.free x k e
free_named None w x e = subst (In (numeric_slot w.next)) (sym (keys-push w.free (numeric_slot w.next, x))) (In-right (numeric_slot w.next) (keys w.free) (numeric_slot w.next ∷ []) (inl refl))

own_named : (o : Option ℕ) (w : Walk) (x i : ℕ) → bound_number w.binders x i None ≡ o → In (walk_own o w x).0 (keys (walk_own o w x).1.free) ⊎ In (walk_own o w x).0 (binder_numbers w.binders)
own_named (Some n) w x i e = elim (bound_in w.binders x i n None e) [
  | inl q ↦ cc
  | inr q ↦ inr q
]
own_named None w x i e = inl (free_named (number_of w.free x) w x refl)

binders_own : (o : Option ℕ) (w : Walk) (x : ℕ) → (walk_own o w x).1.binders ≡ w.binders
binders_own (Some n) w x = refl
binders_own None w x = refl

binders_at : (w : Walk) (x i n : ℕ) (o : Option ℕ) → In n (binder_numbers (walk_at w x i o).1.binders) → In n (binder_numbers w.binders) ⊎ (n ≡ (walk_at w x i o).0)
binders_at w x i n (Some e) h = In-last n x w.binders (record { name = x; until = e; number = numeric_slot w.next }) h
binders_at w x i n None h = inl (subst (λ bs. In n (binder_numbers bs)) (binders_own (bound_number w.binders x i None) w x) h)

named_before : (ss : List (Option ℕ)) (xs : List ℕ) (i k : ℕ) (w : Walk) → k < length ss → slice_index_or ss k None ≡ None → let r = walk ss xs i w in let n = slice_index r.0 k in In n (keys r.1.free) ⊎ (In n (binder_numbers w.binders) ⊎ In n (take k r.0))
named_before [] xs i k w lt e = absurd (omega (arith, lt))
named_before (None ∷ ss) xs i zero w lt e =
    let x = slice_index xs 0 in
    let o = bound_number w.binders x i None in
    elim (own_named o w x i refl) [
      | inl q ↦ inl (keys_walk ss (drop 1 xs) (i + 1) (walk_own o w x).0 (walk_own o w x).1 q)
      | inr q ↦ inr (inl q)
    ]
named_before (Some m ∷ ss) xs i zero w lt e = cc
named_before (o ∷ ss) xs i (suc k) w lt e =
    let x = slice_index xs 0 in
    let t = walk_at w x i (end_at i o) in
    let r = walk ss (drop 1 xs) (i + 1) t.1 in
    elim (named_before ss (drop 1 xs) (i + 1) k t.1 (omega (arith, lt)) e) [
      | inl q ↦ inl q
      | inr (inl q) ↦ elim (binders_at w x i (slice_index r.0 k) (end_at i o) q) [
        | inl h ↦ inr (inl h)
        | inr h ↦ inr (inr (inl h))
      ]
      | inr (inr q) ↦ inr (inr (inr q))
    ]

no_scope : (i : ℕ) (o : Option ℕ) → end_at i o ≡ None → o ≡ None
no_scope i None e = refl
no_scope i (Some n) e = cc

pub number_met : (f : Form) (i : ℕ) → Fits f → i < length f.names → scope_end_of (scopes f.tree) i ≡ None → let n = slice_index (shape f).0.names i in In n (keys (shape f).1) ⊎ In n (take i (shape f).0.names)
number_met f i fits lt e =
    let p = walk-shape f fits in
    let r = walk (scopes f.tree) f.names 0 start in
    let same : r.0 ≡ (shape f).0.names = ap (λ (g : Form). g.names) p.0 in
    let here : slice_index r.0 i ≡ slice_index (shape f).0.names i = ap (λ ns. slice_index ns i) same in
    elim (named_before (scopes f.tree) f.names 0 i start (omega (arith, lt, fits)) (no_scope i (slice_index_or (scopes f.tree) i None) e)) [
      | inl q ↦ inl (subst (λ m. In (slice_index (shape f).0.names i) (keys m)) p.1 (subst (λ n. In n (keys r.1.free)) here q))
      | inr (inl q) ↦ absurd (nothing (slice_index r.0 i) q)
      | inr (inr q) ↦ inr (subst (λ ns. In (slice_index (shape f).0.names i) (take i ns)) same (subst (λ n. In n (take i r.0)) here q))
    ]
  where
    nothing : (n : ℕ) → In n (binder_numbers []) → ⊥
    nothing n h = h
