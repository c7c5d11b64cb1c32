-- Each number stands for one name.
use Rattle.std.proofs.Common.{◌≡◌, ℕ, ◌+◌, List, [], ◌∷◌, ◌++◌, length, Option, Some, None, sym, ◌∙◌, ap, refl, arith, map}
use Rattle.std.specs.Prelude.{cond, nat_eq, nat_lt, ◌&&◌, Bool, true, false}
use Rattle.std.proofs.lemmas.Bool.{eqb-true}
use Rattle.std.proofs.lemmas.Bool.Decides.{nat_tests}
use Rattle.slotted_slots.specs.Table.{numeric_slot}
use Rattle.slotted_slots.specs.Maps.{value_of}
use Rattle.slotted_languages.specs.declared.shape.Binder.{Binder}
use Rattle.slotted_nodes.specs.Form.{Form, scopes, end_at}
use Rattle.slotted_languages.specs.Shape.{number_of, free_number, shape, IsBelow, Fits}
use Rattle.slotted_languages.specs.Walk.{Walk, numbers, bound_number, walk_binder, walk_own, walk_at, walk, start}
use Rattle.slotted_languages.proofs.Numbered.{Knows}
use Rattle.slotted_languages.proofs.Walks.{new_below}
use Rattle.slotted_languages.proofs.WalkShapes.{walk-shape}

-- all holds the name of each binder's number, and of each free name's
abbrev HasBinders : List (ℕ × ℕ) → List Binder → Type 0
HasBinders all [] = Unit {0}
HasBinders all (b ∷ bs) = (value_of all b.number ≡ Some b.name) × HasBinders all bs

abbrev HasFree : List (ℕ × ℕ) → List (ℕ × ℕ) → Type 0
HasFree all [] = Unit {0}
HasFree all (p ∷ m) = (value_of all p.0 ≡ Some p.1) × HasFree all m

-- each number with its name
abbrev HasAll : List (ℕ × ℕ) → List ℕ → List ℕ → Type 0
HasAll all [] [] = Unit {0}
HasAll all (n ∷ ns) (x ∷ xs) = (value_of all n ≡ Some x) × HasAll all ns xs
HasAll all _ _ = ⊥

record Recorded (all : List (ℕ × ℕ)) (w : Walk) : Type 0 where
  below : IsBelow (numeric_slot w.next) all
  binders : HasBinders all w.binders
  free : HasFree all w.free

abbrev Extends : List (ℕ × ℕ) → List (ℕ × ℕ) → Type 0
Extends all more = (n x : ℕ) → value_of all n ≡ Some x → value_of more n ≡ Some x

Extends-one : (all : List (ℕ × ℕ)) (n x : ℕ) → Extends all (all ++ (n, x) ∷ [])
Extends-one [] n x k y e = cc
Extends-one (p ∷ all) n x k y e = grind (arith, nat_tests, Extends-one all n x k y)

value_of-last : (all : List (ℕ × ℕ)) (n x : ℕ) → IsBelow n all → value_of (all ++ (n, x) ∷ []) n ≡ Some x
value_of-last [] n x h = grind (arith, nat_tests)
value_of-last (p ∷ all) n x h = grind (arith, nat_tests, h.0, value_of-last all n x h.1)

HasBinders-more : (all more : List (ℕ × ℕ)) (bs : List Binder) → Extends all more → HasBinders all bs → HasBinders more bs
HasBinders-more all more [] f h = tt
HasBinders-more all more (b ∷ bs) f h = (f b.number b.name h.0, HasBinders-more all more bs f h.1)

HasBinders-last : (all : List (ℕ × ℕ)) (bs : List Binder) (b : Binder) → HasBinders all bs → value_of all b.number ≡ Some b.name → HasBinders all (bs ++ b ∷ [])
HasBinders-last all [] b h e = (e, tt)
HasBinders-last all (c ∷ bs) b h e = (h.0, HasBinders-last all bs b h.1 e)

HasFree-more : (all more m : List (ℕ × ℕ)) → Extends all more → HasFree all m → HasFree more m
HasFree-more all more [] f h = tt
HasFree-more all more (p ∷ m) f h = (f p.0 p.1 h.0, HasFree-more all more m f h.1)

HasFree-last : (all m : List (ℕ × ℕ)) (n x : ℕ) → HasFree all m → value_of all n ≡ Some x → HasFree all (m ++ (n, x) ∷ [])
HasFree-last all [] n x h e = (e, tt)
HasFree-last all (p ∷ m) n x h e = (h.0, HasFree-last all m n x h.1 e)

HasAll-more : (all more : List (ℕ × ℕ)) (ns xs : List ℕ) → Extends all more → HasAll all ns xs → HasAll more ns xs
HasAll-more all more [] [] f h = tt
HasAll-more all more (n ∷ ns) (x ∷ xs) f h = (f n x h.0, HasAll-more all more ns xs f h.1)
HasAll-more all more [] (x ∷ xs) f h = absurd h
HasAll-more all more (n ∷ ns) [] f h = absurd h

-- the number that a binder or a free name has
bound_has : (all : List (ℕ × ℕ)) (bs : List Binder) (x i n : ℕ) (o : Option ℕ) → HasBinders all bs → (o ≡ Some n → value_of all n ≡ Some x) → bound_number bs x i o ≡ Some n → value_of all n ≡ Some x
bound_has all [] x i n o h f e = f e
bound_has all (b ∷ bs) x i n o h f e = bound_has all bs x i n (cond (nat_eq b.name x && nat_lt i b.until) (Some b.number) o) h.1 (pick (nat_eq b.name x) (nat_lt i b.until) (eqb-true b.name x)) e
  where
    pick : (p q : Bool) → (p ≡ true → b.name ≡ x) → cond (p && q) (Some b.number) o ≡ Some n → value_of all n ≡ Some x
    pick true true s d = let k : b.number ≡ n = cc in ap (value_of all) (sym k) ∙ (h.0 ∙ ap Some (s refl))
    pick true false s d = f d
    pick false q s d = f d

free_has : (all m : List (ℕ × ℕ)) (x n : ℕ) → HasFree all m → number_of m x ≡ Some n → value_of all n ≡ Some x
free_has all [] x n h e = cc
free_has all (p ∷ m) x n h e = pick (nat_eq p.1 x) (eqb-true p.1 x) (free_has all m x n h.1) e
  where
    pick : (b : Bool) → (b ≡ true → p.1 ≡ x) → (number_of m x ≡ Some n → value_of all n ≡ Some x) → cond b (Some p.0) (number_of m x) ≡ Some n → value_of all n ≡ Some x
    pick true s later d = let k : p.0 ≡ n = cc in ap (value_of all) (sym k) ∙ (h.0 ∙ ap Some (s refl))
    pick false s later d = later d

-- after one place
record Step (all : List (ℕ × ℕ)) (x : ℕ) (t : ℕ × Walk) : Type 0 where
  more : List (ℕ × ℕ)
  recorded : Recorded more t.1
  extends : Extends all more
  has : value_of more t.0 ≡ Some x

binder_step : (all : List (ℕ × ℕ)) (w : Walk) (x e : ℕ) → Recorded all w → Step all x (walk_binder w x e)
binder_step all w x e r =
    let n = numeric_slot w.next in
    let more = all ++ (n, x) ∷ [] in
    let f : Extends all more = Extends-one all n x in
    let l : value_of more n ≡ Some x = value_of-last all n x r.below in
    record {
      more = more;
      recorded = record {
        below = new_below w.next x all r.below;
        binders = HasBinders-last more w.binders (record { name = x; until = e; number = n }) (HasBinders-more all more w.binders f r.binders) l;
        free = HasFree-more all more w.free f r.free;
      };
      extends = f;
      has = l;
    }

free_step : (all : List (ℕ × ℕ)) (w : Walk) (x : ℕ) (o : Option ℕ) → number_of w.free x ≡ o → Recorded all w → let r = free_number o (numbers w) x in let v : Walk = record { next = r.1.next; binders = w.binders; free = r.1.free } in Step all x (r.0, v)
free_step all w x (Some n) e r = record { more = all; recorded = r; extends = λ n x e. e; has = free_has all w.free x n r.free e }
free_step all w x None e r =
    let n = numeric_slot w.next in
    let more = all ++ (n, x) ∷ [] in
    let f : Extends all more = Extends-one all n x in
    let l : value_of more n ≡ Some x = value_of-last all n x r.below in
    record {
      more = more;
      recorded = record {
        below = new_below w.next x all r.below;
        binders = HasBinders-more all more w.binders f r.binders;
        free = HasFree-last more w.free n x (HasFree-more all more w.free f r.free) l;
      };
      extends = f;
      has = l;
    }

own_step : (all : List (ℕ × ℕ)) (w : Walk) (x i : ℕ) (o : Option ℕ) → bound_number w.binders x i None ≡ o → Recorded all w → Step all x (walk_own o w x)
own_step all w x i (Some n) e r = record { more = all; recorded = r; extends = λ n x e. e; has = bound_has all w.binders x i n None r.binders (λ e. cc) e }
own_step all w x i None e r = free_step all w x (number_of w.free x) refl r

one_step : (all : List (ℕ × ℕ)) (w : Walk) (x i : ℕ) (o : Option ℕ) → Recorded all w → Step all x (walk_at w x i o)
one_step all w x i (Some e) r = binder_step all w x e r
one_step all w x i None r = own_step all w x i (bound_number w.binders x i None) refl r

record Steps (all : List (ℕ × ℕ)) (xs : List ℕ) (t : List ℕ × Walk) : Type 0 where
  more : List (ℕ × ℕ)
  recorded : Recorded more t.1
  extends : Extends all more
  has : HasAll more t.0 xs

all_steps : (all : List (ℕ × ℕ)) (ss : List (Option ℕ)) (xs : List ℕ) (i : ℕ) (w : Walk) → length xs ≡ length ss → Recorded all w → Steps all xs (walk ss xs i w)
all_steps all [] [] i w h r = record { more = all; recorded = r; extends = λ n x e. e; has = tt }
all_steps all [] (x ∷ xs) i w h r = absurd (omega (arith, h))
all_steps all (o ∷ ss) [] i w h r = absurd (omega (arith, h))
all_steps all (o ∷ ss) (x ∷ xs) i w h r =
    let s : Step all x (walk_at w x i (end_at i o)) = one_step all w x i (end_at i o) r in
    let t : Steps s.more xs (walk ss xs (i + 1) (walk_at w x i (end_at i o)).1) = all_steps s.more ss xs (i + 1) (walk_at w x i (end_at i o)).1 (omega (arith, h)) s.recorded in
    record { more = t.more; recorded = t.recorded; extends = λ n x e. t.extends n x (s.extends n x e); has = (t.extends _ x s.has, t.has) }

abbrev pub or_zero : Option ℕ → ℕ
or_zero (Some x) = x
or_zero None = 0

-- the names that the numbers of a node stand for
pub record Named (f : Form) : Type 0 where
  pub old : ℕ → ℕ
  pub were : map old (shape f).0.names ≡ f.names
  pub free : Knows old (λ x. x) (shape f).1

old_names : (all : List (ℕ × ℕ)) (ns xs : List ℕ) → HasAll all ns xs → map (λ n. or_zero (value_of all n)) ns ≡ xs
old_names all [] [] h = refl
old_names all (n ∷ ns) (x ∷ xs) h = λ i. or_zero (h.0 i) ∷ old_names all ns xs h.1 i
old_names all [] (x ∷ xs) h = absurd h
old_names all (n ∷ ns) [] h = absurd h

old_free : (all m : List (ℕ × ℕ)) → HasFree all m → Knows (λ n. or_zero (value_of all n)) (λ x. x) m
old_free all [] h = tt
old_free all (p ∷ m) h = (ap or_zero h.0, old_free all m h.1)

pub names_of_shape : (f : Form) → Fits f → Named f
names_of_shape f h =
    let t : Steps [] f.names (walk (scopes f.tree) f.names 0 start) = all_steps [] (scopes f.tree) f.names 0 start h (record { below = tt; binders = tt; free = tt }) in
    let p = walk-shape f h in
    record {
      old = λ n. or_zero (value_of t.more n);
      were = ap (λ (g : Form). map (λ n. or_zero (value_of t.more n)) g.names) (sym p.0) ∙ old_names t.more (walk (scopes f.tree) f.names 0 start).0 f.names t.has;
      free = rw (sym p.1) (old_free t.more (walk (scopes f.tree) f.names 0 start).1.free t.recorded.free);
    }
