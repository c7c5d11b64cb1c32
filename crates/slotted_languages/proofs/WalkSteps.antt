-- One more place is numbered.
use Rattle.std.proofs.Common.{◌≡◌, ℕ, suc, zero, ◌+◌, ◌<◌, ◌≤◌, List, [], ◌∷◌, ◌++◌, length, take, drop, Option, Some, None, refl, ap, ◌∙◌, sym, slice_index, slice_set, arith, add-one}
use Rattle.std.specs.Prelude.{slice_index_or}
use Rattle.std.proofs.lemmas.List.{length-take-le, append-nil}
use Rattle.std.proofs.Math.Seq.{take-suc, take-length, drop-length}
use Rattle.slotted_nodes.specs.Form.{Form, with_name, scopes, end_at, scope_end_of}
use Rattle.slotted_languages.specs.Shape.{with_names, shape, number_of}
use Rattle.slotted_languages.specs.Walk.{Walk, bound_number, walk_own, walk_at, walk, start}
use Rattle.slotted_languages.proofs.WalkShapes.{walk-shape}

length-walk : (ss : List (Option ℕ)) (xs : List ℕ) (i : ℕ) (w : Walk) → length (walk ss xs i w).0 ≡ length ss
length-walk [] xs i w = refl
length-walk (o ∷ ss) xs i w = ap suc (length-walk ss (drop 1 xs) (i + 1) (walk_at w (slice_index xs 0) i (end_at i o)).1)

pub place_read : (ps xs : List ℕ) (i : ℕ) → length ps ≡ i → slice_index (ps ++ drop i xs) i ≡ slice_index xs i
place_read [] xs zero e = refl
place_read [] xs (suc i) e = absurd (omega (arith, e))
place_read (p ∷ ps) xs zero e = absurd (omega (arith, e))
place_read (p ∷ ps) (x ∷ xs) (suc i) e = place_read ps xs i (omega (arith, e))
place_read (p ∷ ps) [] (suc i) e = nothing ps i (omega (arith, e))
  where
    nothing : (ps : List ℕ) (i : ℕ) → length ps ≡ i → slice_index (ps ++ []) i ≡ 0
    nothing [] i e = refl
    nothing (p ∷ ps) zero e = absurd (omega (arith, e))
    nothing (p ∷ ps) (suc i) e = nothing ps i (omega (arith, e))

pub place_written : (ps xs : List ℕ) (i n : ℕ) → length ps ≡ i → i < length xs → slice_set (ps ++ drop i xs) i n ≡ (ps ++ n ∷ []) ++ drop (suc i) xs
place_written [] [] i n e h = absurd (omega (arith, h))
place_written [] (x ∷ xs) zero n e h = refl
place_written [] (x ∷ xs) (suc i) n e h = absurd (omega (arith, e))
place_written (p ∷ ps) [] i n e h = absurd (omega (arith, h))
place_written (p ∷ ps) (x ∷ xs) zero n e h = absurd (omega (arith, e))
place_written (p ∷ ps) (x ∷ xs) (suc i) n e h = ap (λ r. p ∷ r) (place_written ps xs i n (omega (arith, e)) (omega (arith, h)))

first_dropped : (xs : List ℕ) (i : ℕ) → slice_index (drop i xs) 0 ≡ slice_index xs i
first_dropped [] zero = refl
first_dropped [] (suc i) = refl
first_dropped (x ∷ xs) zero = refl
first_dropped (x ∷ xs) (suc i) = first_dropped xs i

rest_dropped : (xs : List ℕ) (i : ℕ) → drop 1 (drop i xs) ≡ drop (suc i) xs
rest_dropped [] zero = refl
rest_dropped [] (suc i) = refl
rest_dropped (x ∷ xs) zero = refl
rest_dropped (x ∷ xs) (suc i) = rest_dropped xs i

scope_dropped : (ss : List (Option ℕ)) (i : ℕ) → i < length ss → drop i ss ≡ slice_index_or ss i None ∷ drop (suc i) ss
scope_dropped [] i h = absurd (omega (arith, h))
scope_dropped (o ∷ ss) zero h = refl
scope_dropped (o ∷ ss) (suc i) h = scope_dropped ss i (omega (arith, h))

-- the walk from a place on
walk_from : (ss : List (Option ℕ)) (xs : List ℕ) (i : ℕ) (w : Walk) → i < length ss → let t = walk_at w (slice_index xs i) i (scope_end_of ss i) in let r = walk (drop (suc i) ss) (drop (suc i) xs) (i + 1) t.1 in ◌≡◌ {A = List ℕ × Walk} (walk (drop i ss) (drop i xs) i w) (t.0 ∷ r.0, r.1)
walk_from ss xs i w h =
    ap (λ s. walk s (drop i xs) i w) (scope_dropped ss i h)
    ∙ λ j. let t = walk_at w (first_dropped xs i j) i (scope_end_of ss i) in let r = walk (drop (suc i) ss) (rest_dropped xs i j) (i + 1) t.1 in (t.0 ∷ r.0, r.1)

own_next : (o : Option ℕ) (p : Option ℕ) (w : Walk) (x : ℕ) → number_of w.free x ≡ p → (walk_own o w x).1.next ≤ w.next + 1
own_next (Some n) p w x e = omega arith
own_next None (Some n) w x e = rw e (omega arith)
own_next None None w x e = rw e (omega arith)

at_next : (w : Walk) (x i : ℕ) (o : Option ℕ) → (walk_at w x i o).1.next ≤ w.next + 1
at_next w x i (Some e) = omega arith
at_next w x i None = own_next (bound_number w.binders x i None) (number_of w.free x) w x refl

-- the first i places have their numbers, and the walk is at place i
pub record IsNumbered (f : Form) (h : Form) (w : Walk) (i : ℕ) : Type 0 where
  pub named : h ≡ with_names f (take i (walk (scopes f.tree) f.names 0 start).0 ++ drop i f.names)
  pub known : walk (drop i (scopes f.tree)) (drop i f.names) i w ≡ (drop i (walk (scopes f.tree) f.names 0 start).0, (walk (scopes f.tree) f.names 0 start).1)
  pub few : w.next ≤ i

pub one_numbered : (f h k : Form) (w v : Walk) (i x n : ℕ) (o : Option ℕ) → length f.names ≡ length (scopes f.tree) → i < length f.names → IsNumbered f h w i → x ≡ slice_index h.names i → o ≡ scope_end_of (scopes h.tree) i → (n, v) ≡ walk_at w x i o → k ≡ with_name h i n → IsNumbered f k v (i + 1)
one_numbered f h k w v i x n o fits lt d ex eo en ek =
    let r = walk (scopes f.tree) f.names 0 start in
    let l : length r.0 ≡ length (scopes f.tree) = length-walk (scopes f.tree) f.names 0 start in
    let li : length (take i r.0) ≡ i = length-take-le i r.0 (omega (arith, lt, fits, l)) in
    let e1 : x ≡ slice_index f.names i = ex ∙ (ap (λ g. slice_index g.names i) d.named ∙ place_read (take i r.0) f.names i li) in
    let e2 : o ≡ scope_end_of (scopes f.tree) i = eo ∙ ap (λ g. scope_end_of (scopes g.tree) i) d.named in
    let e3 : ◌≡◌ {A = ℕ × Walk} (n, v) (walk_at w (slice_index f.names i) i (scope_end_of (scopes f.tree) i)) = en ∙ λ j. walk_at w (e1 j) i (e2 j) in
    let q = walk (drop (suc i) (scopes f.tree)) (drop (suc i) f.names) (i + 1) v in
    let e4 : ◌≡◌ {A = List ℕ × Walk} (drop i r.0, r.1) (n ∷ q.0, q.1) =
    sym d.known ∙ (walk_from (scopes f.tree) f.names i w (omega (arith, lt, fits)) ∙ sym (ap (λ (t : ℕ × Walk). let s = walk (drop (suc i) (scopes f.tree)) (drop (suc i) f.names) (i + 1) t.1 in (t.0 ∷ s.0, s.1)) e3)) in
    let first : slice_index r.0 i ≡ n = sym (first_dropped r.0 i) ∙ ap (λ (t : List ℕ × Walk). slice_index t.0 0) e4 in
    let rest : drop (suc i) r.0 ≡ q.0 = sym (rest_dropped r.0 i) ∙ ap (λ (t : List ℕ × Walk). drop 1 t.0) e4 in
    let more : take (suc i) r.0 ≡ take i r.0 ++ n ∷ [] = take-suc r.0 i 0 (omega (arith, lt, fits, l)) ∙ ap (λ m. take i r.0 ++ m ∷ []) first in
    rw (add-one i) (record {
      named = ek ∙ (ap (λ g. with_name g i n) d.named ∙ ap (with_names f) (place_written (take i r.0) f.names i n li lt ∙ ap (λ zs. zs ++ drop (suc i) f.names) (sym more)));
      known = ap (λ m. walk (drop (suc i) (scopes f.tree)) (drop (suc i) f.names) m v) (sym (add-one i)) ∙ (λ j. (sym rest j, sym (ap (λ (t : List ℕ × Walk). t.1) e4) j));
      few = omega (arith, d.few, at_next w (slice_index f.names i) i (scope_end_of (scopes f.tree) i), ap (λ (t : ℕ × Walk). t.1.next) e3);
    })

-- all places are numbered
pub all_numbered : (f h : Form) (w : Walk) (i : ℕ) → length f.names ≡ length (scopes f.tree) → i ≡ length f.names → IsNumbered f h w i → (h ≡ (shape f).0) × (w.free ≡ (shape f).1)
all_numbered f h w i fits e d =
    let r = walk (scopes f.tree) f.names 0 start in
    let l : length r.0 ≡ length (scopes f.tree) = length-walk (scopes f.tree) f.names 0 start in
    let li : i ≡ length r.0 = omega (arith, e, fits, l) in
    let ls : i ≡ length (scopes f.tree) = omega (arith, e, fits) in
    let names : take i r.0 ++ drop i f.names ≡ r.0 =
    (λ j. take (li j) r.0 ++ drop (e j) f.names) ∙ ((λ j. take-length r.0 j ++ drop-length f.names j) ∙ append-nil r.0) in
    let last : w ≡ r.1 =
    sym (ap (λ (t : List ℕ × Walk). t.1) (ap (λ ss. walk ss (drop i f.names) i w) (ap (λ m. drop m (scopes f.tree)) ls ∙ drop-length (scopes f.tree))))
    ∙ ap (λ (t : List ℕ × Walk). t.1) d.known in
    let p = walk-shape f fits in
    (d.named ∙ (ap (with_names f) names ∙ p.0), ap (λ (v : Walk). v.free) last ∙ p.1)
