-- Numbering the places from the left gives the shape.
use Rattle.std.proofs.Common.{◌≡◌, ◌≢◌, ℕ, suc, ◌+◌, ◌<◌, ◌≤◌, List, [], ◌∷◌, ◌++◌, length, take, drop, Option, Some, None, Bool, sym, ◌∙◌, ap, refl, subst, inl, inr, arith, map, slice_index, length-append, length-drop}
use Rattle.std.specs.Prelude.{cond, nat_eq, nat_lt, true, false, ◌&&◌}
use Rattle.std.proofs.lemmas.Bool.{eq-eqb, ne_eqb, cases_eq, lt-ltb, le-ltb}
use Rattle.std.proofs.lemmas.List.{length-take-le}
use Rattle.slotted_lists.proofs.Lists.{drop-drop_one, first-take, drop_one-take}
use Rattle.slotted_theory.specs.Term.{Args, name}
use Rattle.slotted_theory.specs.Nameless.{extend, nameless_args}
use Rattle.slotted_theory.proofs.Names.{extend-same, extend-other}
use Rattle.slotted_slots.specs.Table.{numeric_slot}
use Rattle.slotted_languages.specs.declared.shape.Binder.{Binder}
use Rattle.slotted_nodes.specs.Form.{Form, Tree, leaf, own, scopes, end_at}
use Rattle.slotted_nodes.specs.Form.{child as id, bind as binder}
use Rattle.slotted_languages.specs.NodeTerm.{own_names, node_args}
use Rattle.slotted_languages.specs.Shape.{Numbers, number_of, free_number, number_at, numbered, names_in, with_names, shape}
use Rattle.slotted_languages.specs.Walk.{Walk, numbers, bound_number, walk_binder, walk_own, walk_at, walk, start}
use Rattle.slotted_languages.proofs.NodeTerms.{numbers_of, length-child}

bound_number-last : (bs : List Binder) (b : Binder) (x j : ℕ) (o : Option ℕ) → bound_number (bs ++ b ∷ []) x j o ≡ cond (nat_eq b.name x && nat_lt j b.until) (Some b.number) (bound_number bs x j o)
bound_number-last [] b x j o = refl
bound_number-last (c ∷ bs) b x j o = bound_number-last bs b x j (cond (nat_eq c.name x && nat_lt j c.until) (Some c.number) o)

and_false : (b : Bool) → (b && false) ≡ false
and_false true = refl
and_false false = refl

-- past its scope a binder does not matter
bound_past : (bs : List Binder) (b : Binder) (x j : ℕ) → b.until ≤ j → bound_number (bs ++ b ∷ []) x j None ≡ bound_number bs x j None
bound_past bs b x j h =
    bound_number-last bs b x j None
    ∙ (ap (λ l. cond (nat_eq b.name x && l) (Some b.number) (bound_number bs x j None)) (le-ltb j b.until h)
    ∙ ap (λ l. cond l (Some b.number) (bound_number bs x j None)) (and_false (nat_eq b.name x)))

bound_here : (bs : List Binder) (b : Binder) (x j : ℕ) → b.name ≡ x → j < b.until → bound_number (bs ++ b ∷ []) x j None ≡ Some b.number
bound_here bs b x j e h =
    bound_number-last bs b x j None
    ∙ λ i. cond (eq-eqb b.name x e i && lt-ltb j b.until h i) (Some b.number) (bound_number bs x j None)

bound_other : (bs : List Binder) (b : Binder) (x j : ℕ) → b.name ≢ x → bound_number (bs ++ b ∷ []) x j None ≡ bound_number bs x j None
bound_other bs b x j n =
    bound_number-last bs b x j None
    ∙ λ i. cond (ne_eqb b.name x n i && nat_lt j b.until) (Some b.number) (bound_number bs x j None)

-- the number of a name that a binder has, or that is free
abbrev pub seen : Option ℕ → Numbers → ℕ → ℕ × Numbers
seen (Some n) k x = (n, k)
seen None k x = free_number (number_of k.free x) k x

-- from place i up to e the binders give names the numbers that ns gives their nameless occurrences
pub record Sees (ns : List ℕ) (ρ : ℕ → ℕ) (bs : List Binder) (i e : ℕ) : Type 0 where
  pub at : (y j : ℕ) → i ≤ j → j < e → (k : Numbers) → number_at ns k (ρ y) ≡ seen (bound_number bs y j None) k y

-- a walk from w whose answer is that for the arguments a, and after which the binders past place e are as before
pub record Walked (ns : List ℕ) (ρ : ℕ → ℕ) (a : Args) (w : Walk) (e : ℕ) (r : List ℕ × Walk) : Type 0 where
  pub names : r.0 ≡ names_in (numbers_of ns (numbers w) ρ a)
  pub known : numbers r.1 ≡ (numbered ns (numbers w) (nameless_args ρ a)).1
  pub ended : (y j : ℕ) → e ≤ j → bound_number r.1.binders y j None ≡ bound_number w.binders y j None

own_seen : (o : Option ℕ) (w : Walk) (x : ℕ) → ◌≡◌ {A = ℕ × Numbers} ((walk_own o w x).0, numbers (walk_own o w x).1) (seen o (numbers w) x)
own_seen None w x = refl
own_seen (Some n) w x = refl

own_binders : (o : Option ℕ) (w : Walk) (x : ℕ) → (walk_own o w x).1.binders ≡ w.binders
own_binders None w x = refl
own_binders (Some n) w x = refl

Sees-later : (ns : List ℕ) (ρ : ℕ → ℕ) (bs cs : List Binder) (i j e : ℕ) → i ≤ j → ((y q : ℕ) → j ≤ q → bound_number cs y q None ≡ bound_number bs y q None) → Sees ns ρ bs i e → Sees ns ρ cs j e
Sees-later ns ρ bs cs i j e l h s = record { at = λ y q lo hi k. s.at y q (omega (arith, l, lo)) hi k ∙ ap (λ o. seen o k y) (sym (h y q lo)) }

-- under one more binder
Sees-binder : (ns : List ℕ) (ρ : ℕ → ℕ) (bs : List Binder) (i e n x u : ℕ) → u ≤ e → Sees ns ρ bs i e → Sees (n ∷ ns) (extend x ρ) (bs ++ record { name = x; until = u; number = n } ∷ []) (i + 1) u
Sees-binder ns ρ bs i e n x u l s = record {
  at = λ y q lo hi k. elim (cases_eq y x) [
    | inl d ↦ ap (number_at (n ∷ ns) k) (extend-same x ρ y d) ∙ ap (λ o. seen o k y) (sym (bound_here bs (record { name = x; until = u; number = n }) y q (sym d) hi))
    | inr d ↦ ap (number_at (n ∷ ns) k) (extend-other x ρ y d)
        ∙ (s.at y q (omega (arith, lo)) (omega (arith, hi, l)) k ∙ ap (λ o. seen o k y) (sym (bound_other bs (record { name = x; until = u; number = n }) y q (λ e. d (sym e)))))
  ];
}

walk-append : (ss us : List (Option ℕ)) (xs : List ℕ) (i j : ℕ) (w : Walk) → j ≡ i + length ss → ◌≡◌ {A = List ℕ × Walk} (walk (ss ++ us) xs i w) ((walk ss xs i w).0 ++ (walk us (drop (length ss) xs) j (walk ss xs i w).1).0, (walk us (drop (length ss) xs) j (walk ss xs i w).1).1)
walk-append [] us xs i j w e = let p : i ≡ j = omega (arith, e) in ap (λ n. walk us xs n w) p
walk-append (o ∷ ss) us xs i j w e =
    let t = walk_at w (slice_index xs 0) i (end_at i o) in
    let q = walk ss (drop 1 xs) (i + 1) t.1 in
    ap (λ (r : List ℕ × Walk). (t.0 ∷ r.0, r.1)) (walk-append ss us (drop 1 xs) (i + 1) j t.1 (omega (arith, e)))
    ∙ ap (λ ys. (t.0 ∷ (q.0 ++ (walk us ys j q.1).0), (walk us ys j q.1).1)) (drop-drop_one (length ss) xs)

walk-take : (ss : List (Option ℕ)) (xs : List ℕ) (i : ℕ) (w : Walk) → walk ss (take (length ss) xs) i w ≡ walk ss xs i w
walk-take [] xs i w = refl
walk-take (o ∷ ss) xs i w =
    ap (λ x. let t = walk_at w x i (end_at i o) in let r = walk ss (drop 1 (take (suc (length ss)) xs)) (i + 1) t.1 in (t.0 ∷ r.0, r.1)) (first-take (length ss) xs)
    ∙ (ap (λ ys. let t = walk_at w (slice_index xs 0) i (end_at i o) in let r = walk ss ys (i + 1) t.1 in (t.0 ∷ r.0, r.1)) (drop_one-take (length ss) xs)
    ∙ ap (λ (r : List ℕ × Walk). ((walk_at w (slice_index xs 0) i (end_at i o)).0 ∷ r.0, r.1)) (walk-take ss (drop 1 xs) (i + 1) (walk_at w (slice_index xs 0) i (end_at i o)).1))

-- one own place, and what follows
walked_own : (ns : List ℕ) (ρ : ℕ → ℕ) (a : Args) (ss : List (Option ℕ)) (xs : List ℕ) (i e : ℕ) (w : Walk) → i < e → Sees ns ρ w.binders i e → (let t = walk_own (bound_number w.binders (slice_index xs 0) i None) w (slice_index xs 0) in Sees ns ρ t.1.binders (i + 1) e → Walked ns ρ a t.1 e (walk ss (drop 1 xs) (i + 1) t.1)) → Walked ns ρ (name (slice_index xs 0) a) w e (walk (None ∷ ss) xs i w)
walked_own ns ρ a ss xs i e w l s ih =
    let x = slice_index xs 0 in
    let o = bound_number w.binders x i None in
    let t = walk_own o w x in
    let p : ◌≡◌ {A = ℕ × Numbers} (t.0, numbers t.1) (number_at ns (numbers w) (ρ x)) = own_seen o w x ∙ sym (s.at x i (omega arith) l (numbers w)) in
    let b : (y q : ℕ) → i + 1 ≤ q → bound_number t.1.binders y q None ≡ bound_number w.binders y q None = λ y q _. ap (λ bs. bound_number bs y q None) (own_binders o w x) in
    let r : Walked ns ρ a t.1 e (walk ss (drop 1 xs) (i + 1) t.1) = ih (Sees-later ns ρ w.binders t.1.binders i (i + 1) e (omega arith) b s) in
    record {
      names = λ j. (p j).0 ∷ (r.names ∙ ap (λ (h : ℕ × Numbers). names_in (numbers_of ns h.1 ρ a)) p) j;
      known = r.known ∙ ap (λ (h : ℕ × Numbers). (numbered ns h.1 (nameless_args ρ a)).1) p;
      ended = λ y q h. r.ended y q h ∙ ap (λ bs. bound_number bs y q None) (own_binders o w x);
    }

-- two parts, one after the other
pub record WalkedBoth (ns ms : List ℕ) (ρ σ : ℕ → ℕ) (a b : Args) (w : Walk) (e : ℕ) (r : List ℕ × Walk) : Type 0 where
  pub names : r.0 ≡ names_in (numbers_of ns (numbers w) ρ a) ++ names_in (numbers_of ms (numbered ns (numbers w) (nameless_args ρ a)).1 σ b)
  pub known : numbers r.1 ≡ (numbered ms (numbered ns (numbers w) (nameless_args ρ a)).1 (nameless_args σ b)).1
  pub ended : (y j : ℕ) → e ≤ j → bound_number r.1.binders y j None ≡ bound_number w.binders y j None

walked_both : (ns ms : List ℕ) (ρ σ : ℕ → ℕ) (a b : Args) (ss us : List (Option ℕ)) (xs : List ℕ) (n i j e : ℕ) (w : Walk) → length ss ≡ n → j ≡ i + n → j ≤ e → Walked ns ρ a w j (walk ss xs i w) → Walked ms σ b (walk ss xs i w).1 e (walk us (drop n xs) j (walk ss xs i w).1) → WalkedBoth ns ms ρ σ a b w e (walk (ss ++ us) xs i w)
walked_both ns ms ρ σ a b ss us xs n i j e w f q l p r =
    let m : walk (ss ++ us) xs i w ≡ ((walk ss xs i w).0 ++ (walk us (drop n xs) j (walk ss xs i w).1).0, (walk us (drop n xs) j (walk ss xs i w).1).1) =
    walk-append ss us xs i j w (omega (arith, f, q)) ∙ ap (λ n. ((walk ss xs i w).0 ++ (walk us (drop n xs) j (walk ss xs i w).1).0, (walk us (drop n xs) j (walk ss xs i w).1).1)) f in
    subst (WalkedBoth ns ms ρ σ a b w e) (sym m) (record {
      names = λ m. p.names m ++ (r.names ∙ ap (λ k. names_in (numbers_of ms k σ b)) p.known) m;
      known = r.known ∙ ap (λ k. (numbered ms k (nameless_args σ b)).1) p.known;
      ended = λ y m h. r.ended y m h ∙ p.ended y m (omega (arith, h, l));
    })

walked_names : (ns : List ℕ) (ρ : ℕ → ℕ) (ks xs : List ℕ) (i e : ℕ) (w : Walk) → length ks ≤ length xs → e ≡ i + length ks → Sees ns ρ w.binders i e → Walked ns ρ (own_names (take (length ks) xs)) w e (walk (map (λ _. None) ks) xs i w)
walked_names ns ρ [] xs i e w h l s = record { names = refl; known = refl; ended = λ y j _. refl }
walked_names ns ρ (k ∷ ks) [] i e w h l s = absurd (omega (arith, h))
walked_names ns ρ (k ∷ ks) (x ∷ xs) i e w h l s =
    walked_own ns ρ (own_names (take (length ks) xs)) (map (λ _. None) ks) (x ∷ xs) i e w (omega (arith, l)) s
    (λ s'. walked_names ns ρ ks xs (i + 1) e (walk_own (bound_number w.binders x i None) w x).1 (omega (arith, h)) (omega (arith, l)) s')

Sees-less : (ns : List ℕ) (ρ : ℕ → ℕ) (bs : List Binder) (i e f : ℕ) → f ≤ e → Sees ns ρ bs i e → Sees ns ρ bs i f
Sees-less ns ρ bs i e f l s = record { at = λ y j lo hi k. s.at y j lo (omega (arith, hi, l)) k }

length-keys : (ks : List ℕ) → length (map {B = Option ℕ} (λ _. None) ks) ≡ length ks
length-keys [] = refl
length-keys (k ∷ ks) = ap suc (length-keys ks)

-- the walk of a tree's places
pub walked_tree : (ns : List ℕ) (ρ : ℕ → ℕ) (t : Tree) (xs : List ℕ) (i e : ℕ) (w : Walk) → length (scopes t) ≤ length xs → e ≡ i + length (scopes t) → Sees ns ρ w.binders i e → Walked ns ρ (node_args t xs) w e (walk (scopes t) xs i w)
walked_tree ns ρ leaf xs i e w h l s = record { names = refl; known = refl; ended = λ y j _. refl }
walked_tree ns ρ (own r) xs i e w h l s =
    walked_own ns ρ (node_args r (drop 1 xs)) (scopes r) xs i e w (omega (arith, l)) s
    (λ s'. walked_tree ns ρ r (drop 1 xs) (i + 1) e (walk_own (bound_number w.binders (slice_index xs 0) i None) w (slice_index xs 0)).1 (omega (arith, h, length-drop 1 xs)) (omega (arith, l)) s')
walked_tree ns ρ (id c ks r) xs i e w h l s =
    let j = i + length ks in
    let ss = map (λ _. None) ks in
    let ys = drop (length ks) xs in
    let p : Walked ns ρ (own_names (take (length ks) xs)) w j (walk ss xs i w) =
    walked_names ns ρ ks xs i j w (omega (arith, h, length-child c ks r)) refl (Sees-less ns ρ w.binders i e j (omega (arith, l, length-child c ks r)) s) in
    let q : Walked ns ρ (node_args r ys) (walk ss xs i w).1 e (walk (scopes r) ys j (walk ss xs i w).1) =
    walked_tree ns ρ r ys j e (walk ss xs i w).1 (omega (arith, h, length-child c ks r, length-drop (length ks) xs)) (omega (arith, l, length-child c ks r))
    (Sees-later ns ρ w.binders (walk ss xs i w).1.binders i j e (omega arith) p.ended s) in
    let b = walked_both ns ns ρ ρ (own_names (take (length ks) xs)) (node_args r ys) ss (scopes r) xs (length ks) i j e w (length-keys ks) refl (omega (arith, l, length-child c ks r)) p q in
    record { names = b.names; known = b.known; ended = b.ended }
walked_tree ns ρ (binder u r) xs i e w h l s =
    let n = length (scopes u) in
    let x = slice_index xs 0 in
    let ys = drop 1 xs in
    let v = (walk_binder w x (i + 1 + n)).1 in
    let j = i + 1 + n in
    let f = length-append (scopes u) (scopes r) in
    let m = numeric_slot w.next in
    let p : Walked (m ∷ ns) (extend x ρ) (node_args u (take n ys)) v j (walk (scopes u) ys (i + 1) v) =
    subst (Walked (m ∷ ns) (extend x ρ) (node_args u (take n ys)) v j) (walk-take (scopes u) ys (i + 1) v)
    (walked_tree (m ∷ ns) (extend x ρ) u (take n ys) (i + 1) j v (omega (arith, h, f, length-drop 1 xs, length-take-le n ys)) refl
    (Sees-binder ns ρ w.binders i e m x j (omega (arith, l, f)) s)) in
    let past : (y q : ℕ) → j ≤ q → bound_number (walk (scopes u) ys (i + 1) v).1.binders y q None ≡ bound_number w.binders y q None =
    λ y q d. p.ended y q d ∙ bound_past w.binders (record { name = x; until = j; number = m }) y q d in
    let q : Walked ns ρ (node_args r (drop n ys)) (walk (scopes u) ys (i + 1) v).1 e (walk (scopes r) (drop n ys) j (walk (scopes u) ys (i + 1) v).1) =
    walked_tree ns ρ r (drop n ys) j e (walk (scopes u) ys (i + 1) v).1 (omega (arith, h, f, length-drop 1 xs, length-drop n ys)) (omega (arith, l, f))
    (Sees-later ns ρ w.binders (walk (scopes u) ys (i + 1) v).1.binders i j e (omega arith) past s) in
    let b = walked_both (m ∷ ns) ns (extend x ρ) ρ (node_args u (take n ys)) (node_args r (drop n ys)) (scopes u) (scopes r) ys n (i + 1) j e v refl refl (omega (arith, l, f)) p q in
    record {
      names = ap (λ zs. m ∷ zs) b.names;
      known = b.known;
      ended = λ y q d. b.ended y q d ∙ bound_past w.binders (record { name = x; until = j; number = m }) y q (omega (arith, d, l, f));
    }

sees_all : (e : ℕ) → Sees [] (λ x. x) [] 0 e
sees_all e = record { at = λ y j lo hi k. refl }

-- the walk of all places is the shape
pub walk-shape : (f : Form) → length f.names ≡ length (scopes f.tree) → let r = walk (scopes f.tree) f.names 0 start in ((with_names f r.0) ≡ (shape f).0) × (r.1.free ≡ (shape f).1)
walk-shape f h =
    let p : Walked [] (λ x. x) (node_args f.tree f.names) start (length (scopes f.tree)) (walk (scopes f.tree) f.names 0 start) =
    walked_tree [] (λ x. x) f.tree f.names 0 (length (scopes f.tree)) start (omega (arith, h)) (omega arith) (sees_all (length (scopes f.tree))) in
    (ap (with_names f) p.names, ap (λ (k : Numbers). k.free) p.known)
