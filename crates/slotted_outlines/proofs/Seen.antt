-- Two terms of one outline are equal without bound names where they are seen alike.
use Rattle.std.proofs.Common.{◌≡◌, ℕ, suc, zero, ◌<◌, List, [], ◌∷◌, ◌++◌, length, take, drop, refl, slice_index, slice_index_or, ap, ◌∙◌, sym, arith, length-append, length-drop, length-take}
use Rattle.std.specs.Prelude.{◌↔◌}
use Rattle.std.proofs.lemmas.List.{same_lists}
use Rattle.slotted_lists.proofs.Contained.{append_parts}
use Rattle.slotted_theory.specs.Term.{Term}
use Rattle.slotted_theory.specs.Nameless.{DTerm, stop, place, sub, scope, nameless_args, nameless_by}
use Rattle.slotted_theory.specs.Shape.{number_in}
use Rattle.slotted_nodes.specs.Form.{Form, Tree, leaf, own, child, bind, scopes, children}
use Rattle.slotted_languages.specs.Filled.{filled, children_args}
use Rattle.slotted_languages.specs.Outline.{outlined}
use Rattle.slotted_outlines.specs.Seen.{owns, stacks, seen, above, children_seen}

pub length-owns : (bs : List ℕ) (u : Tree) (xs : List ℕ) → length (owns bs u xs) ≡ length (scopes (outlined u))
length-owns bs leaf xs = refl
length-owns bs (own r) xs = ap suc (length-owns bs r (drop 1 xs))
length-owns bs (child i ks r) xs = ap suc (length-owns bs r (drop 1 xs))
length-owns bs (bind u r) xs =
    let n = length (scopes (outlined u)) in
    let us = owns (slice_index xs 0 ∷ bs) u (take n (drop 1 xs)) in
    let rs = owns bs r (drop n (drop 1 xs)) in
    omega (arith, length-append us rs, length-append (scopes (outlined u)) (scopes (outlined r)), length-owns (slice_index xs 0 ∷ bs) u (take n (drop 1 xs)), length-owns bs r (drop n (drop 1 xs)))

pub length-stacks : (bs : List ℕ) (u : Tree) (xs : List ℕ) → length (stacks bs u xs) ≡ length (children (outlined u))
length-stacks bs leaf xs = refl
length-stacks bs (own r) xs = length-stacks bs r (drop 1 xs)
length-stacks bs (child i ks r) xs = ap suc (length-stacks bs r (drop 1 xs))
length-stacks bs (bind u r) xs =
    let n = length (scopes (outlined u)) in
    let us = stacks (slice_index xs 0 ∷ bs) u (take n (drop 1 xs)) in
    let rs = stacks bs r (drop n (drop 1 xs)) in
    omega (arith, length-append us rs, length-append (children (outlined u)) (children (outlined r)), length-stacks (slice_index xs 0 ∷ bs) u (take n (drop 1 xs)), length-stacks bs r (drop n (drop 1 xs)))

pub length-seen : (bs : List ℕ) (ss : List (List ℕ)) (ts : List Term) → length (seen bs ss ts) ≡ length ts
length-seen bs ss [] = refl
length-seen bs [] (t ∷ ts) = ap suc (length-seen bs [] ts)
length-seen bs (s ∷ ss) (t ∷ ts) = ap suc (length-seen bs ss ts)

-- the terms of the first stacks, and those of the others
seen-append : (bs cs : List ℕ) (ss rs : List (List ℕ)) (ts : List Term) (n : ℕ) → n ≡ length ss → seen bs (ss ++ rs) ts ≡ seen cs ss (take n ts) ++ seen bs rs (drop n ts)
seen-append bs cs [] rs ts zero e = refl
seen-append bs cs [] rs ts (suc n) e = absurd (omega arith)
seen-append bs cs (s ∷ ss) rs ts zero e = absurd (omega arith)
seen-append bs cs (s ∷ ss) rs [] (suc n) e = refl
seen-append bs cs (s ∷ ss) rs (t ∷ ts) (suc n) e = ap (λ l. nameless_by (number_in s) t ∷ l) (seen-append bs cs ss rs ts n (omega arith))

module _ (bs cs : List ℕ) where
  -- children in a row
  row_same : (ts us : List Term) → length ts ≡ length us → seen bs [] ts ≡ seen cs [] us → nameless_args (number_in bs) (children_args ts) ≡ nameless_args (number_in cs) (children_args us)
  row_same [] [] e h = refl
  row_same [] (u ∷ us) e h = absurd (omega arith)
  row_same (t ∷ ts) [] e h = absurd (omega arith)
  row_same (t ∷ ts) (u ∷ us) e h =
      let d : nameless_by (number_in bs) t ≡ nameless_by (number_in cs) u = cc in
      let q : seen bs [] ts ≡ seen cs [] us = cc in
      let r = row_same ts us (omega arith) q in
      λ i. sub (d i).op (d i).payloads (d i).args (r i)

  row_seen : (ts us : List Term) → length ts ≡ length us → nameless_args (number_in bs) (children_args ts) ≡ nameless_args (number_in cs) (children_args us) → seen bs [] ts ≡ seen cs [] us
  row_seen [] [] e h = refl
  row_seen [] (u ∷ us) e h = absurd (omega arith)
  row_seen (t ∷ ts) [] e h = absurd (omega arith)
  row_seen (t ∷ ts) (u ∷ us) e h =
      let o : t.op ≡ u.op = cc in
      let p : t.payloads ≡ u.payloads = cc in
      let a : nameless_args (number_in bs) t.args ≡ nameless_args (number_in cs) u.args = cc in
      let q : nameless_args (number_in bs) (children_args ts) ≡ nameless_args (number_in cs) (children_args us) = cc in
      let r = row_seen ts us (omega arith) q in
      λ i. record { op = o i; payloads = p i; args = a i } ∷ r i

-- terms that are seen alike are equal without bound names
pub same_from_seen : (bs cs : List ℕ) (u : Tree) (xs ys : List ℕ) (ts us : List Term) → length ts ≡ length us → owns bs u xs ≡ owns cs u ys → seen bs (stacks bs u xs) ts ≡ seen cs (stacks cs u ys) us → nameless_args (number_in bs) (filled (outlined u) xs ts) ≡ nameless_args (number_in cs) (filled (outlined u) ys us)
same_from_seen bs cs leaf xs ys [] [] e o s = refl
same_from_seen bs cs leaf xs ys [] (u ∷ us) e o s = absurd (omega arith)
same_from_seen bs cs leaf xs ys (t ∷ ts) [] e o s = absurd (omega arith)
same_from_seen bs cs leaf xs ys (t ∷ ts) (u ∷ us) e o s = ap (λ r. sub 0 [] stop r) (row_same bs cs (t ∷ ts) (u ∷ us) e s)
same_from_seen bs cs (own r) xs ys ts us e o s =
    let n : number_in bs (slice_index xs 0) ≡ number_in cs (slice_index ys 0) = cc in
    let q : owns bs r (drop 1 xs) ≡ owns cs r (drop 1 ys) = cc in
    let h = same_from_seen bs cs r (drop 1 xs) (drop 1 ys) ts us e q s in
    λ i. place (n i) (h i)
same_from_seen bs cs (child j ks r) xs ys [] [] e o s =
    let q : owns bs r (drop 1 xs) ≡ owns cs r (drop 1 ys) = cc in
    ap (λ d. sub 0 [] stop d) (same_from_seen bs cs r (drop 1 xs) (drop 1 ys) [] [] refl q refl)
same_from_seen bs cs (child j ks r) xs ys [] (u ∷ us) e o s = absurd (omega arith)
same_from_seen bs cs (child j ks r) xs ys (t ∷ ts) [] e o s = absurd (omega arith)
same_from_seen bs cs (child j ks r) xs ys (t ∷ ts) (u ∷ us) e o s =
    let q : owns bs r (drop 1 xs) ≡ owns cs r (drop 1 ys) = cc in
    let d : nameless_by (number_in bs) t ≡ nameless_by (number_in cs) u = cc in
    let p : seen bs (stacks bs r (drop 1 xs)) ts ≡ seen cs (stacks cs r (drop 1 ys)) us = cc in
    let h = same_from_seen bs cs r (drop 1 xs) (drop 1 ys) ts us (omega arith) q p in
    λ i. sub (d i).op (d i).payloads (d i).args (h i)
same_from_seen bs cs (bind u r) xs ys ts us e o s =
    let n = length (scopes (outlined u)) in
    let k = length (children (outlined u)) in
    let x = slice_index xs 0 in
    let y = slice_index ys 0 in
    let xu = take n (drop 1 xs) in
    let yu = take n (drop 1 ys) in
    let xr = drop n (drop 1 xs) in
    let yr = drop n (drop 1 ys) in
    let q : owns (x ∷ bs) u xu ++ owns bs r xr ≡ owns (y ∷ cs) u yu ++ owns cs r yr = cc in
    let os = append_parts (owns (x ∷ bs) u xu) (owns (y ∷ cs) u yu) (owns bs r xr) (owns cs r yr) (length-owns (x ∷ bs) u xu ∙ sym (length-owns (y ∷ cs) u yu)) q in
    let p = sym (seen-append bs (x ∷ bs) (stacks (x ∷ bs) u xu) (stacks bs r xr) ts k (sym (length-stacks (x ∷ bs) u xu)))
    ∙ (s ∙ seen-append cs (y ∷ cs) (stacks (y ∷ cs) u yu) (stacks cs r yr) us k (sym (length-stacks (y ∷ cs) u yu))) in
    let ss = append_parts (seen (x ∷ bs) (stacks (x ∷ bs) u xu) (take k ts)) (seen (y ∷ cs) (stacks (y ∷ cs) u yu) (take k us)) (seen bs (stacks bs r xr) (drop k ts)) (seen cs (stacks cs r yr) (drop k us))
    (omega (arith, length-seen (x ∷ bs) (stacks (x ∷ bs) u xu) (take k ts), length-seen (y ∷ cs) (stacks (y ∷ cs) u yu) (take k us), length-take k ts, length-take k us)) p in
    let hu = same_from_seen (x ∷ bs) (y ∷ cs) u xu yu (take k ts) (take k us) (omega (arith, length-take k ts, length-take k us)) os.0 ss.0 in
    let hr = same_from_seen bs cs r xr yr (drop k ts) (drop k us) (omega (arith, length-drop k ts, length-drop k us)) os.1 ss.1 in
    λ i. scope (hu i) (hr i)

-- terms that are equal without bound names are seen alike
pub seen_from_same : (bs cs : List ℕ) (u : Tree) (xs ys : List ℕ) (ts us : List Term) → length ts ≡ length us → nameless_args (number_in bs) (filled (outlined u) xs ts) ≡ nameless_args (number_in cs) (filled (outlined u) ys us) → (owns bs u xs ≡ owns cs u ys) × (seen bs (stacks bs u xs) ts ≡ seen cs (stacks cs u ys) us)
seen_from_same bs cs leaf xs ys [] [] e h = (refl, refl)
seen_from_same bs cs leaf xs ys [] (u ∷ us) e h = absurd (omega arith)
seen_from_same bs cs leaf xs ys (t ∷ ts) [] e h = absurd (omega arith)
seen_from_same bs cs leaf xs ys (t ∷ ts) (u ∷ us) e h =
    let q : nameless_args (number_in bs) (children_args (t ∷ ts)) ≡ nameless_args (number_in cs) (children_args (u ∷ us)) = cc in
    (refl, row_seen bs cs (t ∷ ts) (u ∷ us) e q)
seen_from_same bs cs (own r) xs ys ts us e h =
    let n : number_in bs (slice_index xs 0) ≡ number_in cs (slice_index ys 0) = cc in
    let q : nameless_args (number_in bs) (filled (outlined r) (drop 1 xs) ts) ≡ nameless_args (number_in cs) (filled (outlined r) (drop 1 ys) us) = cc in
    let p = seen_from_same bs cs r (drop 1 xs) (drop 1 ys) ts us e q in
    (λ i. suc (n i) ∷ p.0 i, p.1)
seen_from_same bs cs (child j ks r) xs ys [] [] e h =
    let q : nameless_args (number_in bs) (filled (outlined r) (drop 1 xs) []) ≡ nameless_args (number_in cs) (filled (outlined r) (drop 1 ys) []) = cc in
    let p = seen_from_same bs cs r (drop 1 xs) (drop 1 ys) [] [] e q in
    (ap (λ l. 0 ∷ l) p.0, refl)
seen_from_same bs cs (child j ks r) xs ys [] (u ∷ us) e h = absurd (omega arith)
seen_from_same bs cs (child j ks r) xs ys (t ∷ ts) [] e h = absurd (omega arith)
seen_from_same bs cs (child j ks r) xs ys (t ∷ ts) (u ∷ us) e h =
    let o : t.op ≡ u.op = cc in
    let l : t.payloads ≡ u.payloads = cc in
    let a : nameless_args (number_in bs) t.args ≡ nameless_args (number_in cs) u.args = cc in
    let q : nameless_args (number_in bs) (filled (outlined r) (drop 1 xs) ts) ≡ nameless_args (number_in cs) (filled (outlined r) (drop 1 ys) us) = cc in
    let p = seen_from_same bs cs r (drop 1 xs) (drop 1 ys) ts us (omega arith) q in
    (ap (λ l. 0 ∷ l) p.0, λ i. record { op = o i; payloads = l i; args = a i } ∷ p.1 i)
seen_from_same bs cs (bind u r) xs ys ts us e h =
    let n = length (scopes (outlined u)) in
    let k = length (children (outlined u)) in
    let x = slice_index xs 0 in
    let y = slice_index ys 0 in
    let xu = take n (drop 1 xs) in
    let yu = take n (drop 1 ys) in
    let xr = drop n (drop 1 xs) in
    let yr = drop n (drop 1 ys) in
    let qu : nameless_args (number_in (x ∷ bs)) (filled (outlined u) xu (take k ts)) ≡ nameless_args (number_in (y ∷ cs)) (filled (outlined u) yu (take k us)) = cc in
    let qr : nameless_args (number_in bs) (filled (outlined r) xr (drop k ts)) ≡ nameless_args (number_in cs) (filled (outlined r) yr (drop k us)) = cc in
    let hu = seen_from_same (x ∷ bs) (y ∷ cs) u xu yu (take k ts) (take k us) (omega (arith, length-take k ts, length-take k us)) qu in
    let hr = seen_from_same bs cs r xr yr (drop k ts) (drop k us) (omega (arith, length-drop k ts, length-drop k us)) qr in (
      λ i. 0 ∷ hu.0 i ++ hr.0 i,
      seen-append bs (x ∷ bs) (stacks (x ∷ bs) u xu) (stacks bs r xr) ts k (sym (length-stacks (x ∷ bs) u xu))
          ∙ ((λ i. hu.1 i ++ hr.1 i) ∙ sym (seen-append cs (y ∷ cs) (stacks (y ∷ cs) u yu) (stacks cs r yr) us k (sym (length-stacks (y ∷ cs) u yu)))),
    )

-- a term of a row without its bound names
pub seen_at : (bs : List ℕ) (ss : List (List ℕ)) (ts : List Term) (k : ℕ) (t : Term) (d : DTerm) → k < length ts → t ≡ slice_index_or ts k t → slice_index_or (seen bs ss ts) k d ≡ nameless_by (number_in (slice_index_or ss k bs)) t
seen_at bs ss [] k t d h e = absurd (omega arith)
seen_at bs [] (u ∷ ts) zero t d h e = ap (nameless_by (number_in bs)) (sym e)
seen_at bs (s ∷ ss) (u ∷ ts) zero t d h e = ap (nameless_by (number_in s)) (sym e)
seen_at bs [] (u ∷ ts) (suc k) t d h e = seen_at bs [] ts k t d (omega arith) e
seen_at bs (s ∷ ss) (u ∷ ts) (suc k) t d h e = seen_at bs ss ts k t d (omega arith) e

-- terms at one place of two rows that are equal are seen alike there
pub child_same : (f g : Form) (bs cs : List ℕ) (ts us : List Term) (k : ℕ) (t u : Term) → k < length ts → k < length us → t ≡ slice_index_or ts k t → u ≡ slice_index_or us k u → (nameless_by (number_in (above f bs k)) t ≡ nameless_by (number_in (above g cs k)) u) ↔ ((d : DTerm) → slice_index_or (children_seen f bs ts) k d ≡ slice_index_or (children_seen g cs us) k d)
child_same f g bs cs ts us k t u h l p q =
    let x = λ (d : DTerm). seen_at bs (stacks bs f.tree f.names) ts k t d h p in
    let y = λ (d : DTerm). seen_at cs (stacks cs g.tree g.names) us k u d l q in
    (λ e d. x d ∙ (e ∙ sym (y d)), λ e. let d = nameless_by (number_in bs) t in sym (x d) ∙ (e d ∙ y d))

-- rows that are seen alike at each place
pub row_seen_same : (f g : Form) (bs cs : List ℕ) (ts us : List Term) → length ts ≡ length us → ((k : ℕ) (d : DTerm) → k < length ts → slice_index_or (children_seen f bs ts) k d ≡ slice_index_or (children_seen g cs us) k d) → children_seen f bs ts ≡ children_seen g cs us
row_seen_same f g bs cs ts us e h =
    let n = length-seen bs (stacks bs f.tree f.names) ts in
    let m = length-seen cs (stacks cs g.tree g.names) us in
    same_lists (children_seen f bs ts) (children_seen g cs us) (omega arith) (λ k d l. h k d (omega arith))
