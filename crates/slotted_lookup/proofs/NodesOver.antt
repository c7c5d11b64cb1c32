-- A node with other ids for its first children: what the loop over its children leaves, and what it is at the end.
use Rattle.std.proofs.Common.{◌≡◌, ℕ, suc, ◌-◌, ◌<◌, List, [], ◌∷◌, ◌++◌, length, take, drop, refl, slice_index, ap, ◌∙◌, sym, arith, length-append, length-drop, length-take, zero-add, inl, inr}
use Rattle.std.specs.Prelude.{Option, None, map}
use Rattle.std.specs.List.{zip}
use Rattle.std.proofs.lemmas.List.{length-map, take-append-drop, take_at, drop_at, take_all, drop_all, take-append-le, drop-append-le}
use Rattle.std.proofs.lemmas.Bool.{cases_lt}
use Rattle.std.proofs.Math.Nat.{sub-zero}
use Rattle.slotted_lists.proofs.Maps.{zip-keys_values, length-values, length-keys, keys-zip, values-zip}
use Rattle.slotted_lists.proofs.Lists.{first-and_rest}
use Rattle.slotted_theory.specs.Term.{Term, name}
use Rattle.slotted_theory.specs.Term as term
use Rattle.slotted_slots.specs.Maps.{keys, values}
use Rattle.slotted_nodes.specs.Form.{Form, Tree, leaf, own, child, bind, scopes, children, with_child, bind_form, join_form}
use Rattle.slotted_nodes.specs.Equal.{form_ext, bind_form_fits}
use Rattle.slotted_nodes.proofs.Pairs.{with_child_left, with_child_right}
use Rattle.slotted_languages.specs.Filled.{filled}
use Rattle.slotted_languages.specs.Shape.{Fits}
use Rattle.slotted_languages.proofs.NodeTerms.{own_fits, child_keys_fit, child_rest_fits, bind_inner_fits, bind_rest_fits}
use Rattle.slotted_model.specs.Applied.{Applied}
use Rattle.slotted_classes.specs.ChildIds.{ids_in, child_ids}
use Rattle.slotted_classes.proofs.ChildIds.{length-ids}
use Rattle.slotted_lookup.specs.Filling.{tree_over, names_over, node_over}
use Rattle.slotted_languages.specs.Beside.{IsBeside}
use Rattle.slotted_languages.proofs.Outlines.{below_binder}

-- as many names as keys
pub names_fit : (m : List (ℕ × ℕ)) → length (values m) ≡ length (keys m)
names_fit m = length-values m ∙ sym (length-keys m)

length_none : (bs : List Applied) (n : ℕ) → length bs ≡ 0 → (length (take n bs) ≡ 0) × (length (drop n bs) ≡ 0)
length_none bs n e = (omega (arith, length-take n bs), omega (arith, length-drop n bs))

-- over no ids it is as it was
pub tree_over-none : (t : Tree) (bs : List Applied) → length bs ≡ 0 → tree_over t bs ≡ t
tree_over-none leaf bs e = refl
tree_over-none (own r) bs e = ap own (tree_over-none r bs e)
tree_over-none (child i ks r) [] e = refl
tree_over-none (child i ks r) (b ∷ bs) e = absurd (omega arith)
tree_over-none (bind u r) bs e =
    let n = length_none bs (length (children u)) e in
    λ i. bind (tree_over-none u (take (length (children u)) bs) n.0 i) (tree_over-none r (drop (length (children u)) bs) n.1 i)

pub names_over-none : (t : Tree) (xs : List ℕ) (bs : List Applied) → length bs ≡ 0 → length xs ≡ length (scopes t) → names_over t xs bs ≡ xs
names_over-none leaf xs bs e h = refl
names_over-none (own r) xs bs e h =
    ap (λ ys. slice_index xs 0 ∷ ys) (names_over-none r (drop 1 xs) bs e (own_fits r xs h)) ∙ first-and_rest xs (length (scopes r)) h
names_over-none (child i ks r) xs [] e h = refl
names_over-none (child i ks r) xs (b ∷ bs) e h = absurd (omega arith)
names_over-none (bind u r) xs bs e h =
    let m = length (scopes u) in
    let n = length_none bs (length (children u)) e in
    (λ i. slice_index xs 0 ∷ names_over-none u (take m (drop 1 xs)) (take (length (children u)) bs) n.0 (bind_inner_fits u r xs h) i
    ++ names_over-none r (drop m (drop 1 xs)) (drop (length (children u)) bs) n.1 (bind_rest_fits u r xs h) i)
    ∙ (ap (λ ys. slice_index xs 0 ∷ ys) (take-append-drop m (drop 1 xs)) ∙ first-and_rest xs (length (scopes u ++ scopes r)) h)

-- there are as many children
pub length-over : (t : Tree) (bs : List Applied) → length (children (tree_over t bs)) ≡ length (children t)
length-over leaf bs = refl
length-over (own r) bs = length-over r bs
length-over (child i ks r) [] = refl
length-over (child i ks r) (b ∷ bs) = ap suc (length-over r bs)
length-over (bind u r) bs =
    let us = take (length (children u)) bs in
    let rs = drop (length (children u)) bs in
    omega (arith, length-append (children (tree_over u us)) (children (tree_over r rs)), length-append (children u) (children r), length-over u us, length-over r rs)

-- and as many names as places
pub over_fits : (t : Tree) (xs : List ℕ) (bs : List Applied) → length xs ≡ length (scopes t) → length (names_over t xs bs) ≡ length (scopes (tree_over t bs))
over_fits leaf xs bs h = h
over_fits (own r) xs bs h = ap suc (over_fits r (drop 1 xs) bs (own_fits r xs h))
over_fits (child i ks r) xs [] h = h
over_fits (child i ks r) xs (b ∷ bs) h =
    let ys = drop (length ks) xs in
    omega (
      arith,
      length-append (values b.1) (names_over r ys bs),
      length-append (map {B = Option ℕ} (λ _. None) (keys b.1)) (scopes (tree_over r bs)),
      length-map {B = Option ℕ} (keys b.1) (λ _. None),
      names_fit b.1,
      over_fits r ys bs (child_rest_fits i ks r xs h),
    )
over_fits (bind u r) xs bs h =
    let m = length (scopes u) in
    let us = take (length (children u)) bs in
    let rs = drop (length (children u)) bs in
    omega (
      arith,
      length-append (names_over u (take m (drop 1 xs)) us) (names_over r (drop m (drop 1 xs)) rs),
      length-append (scopes (tree_over u us)) (scopes (tree_over r rs)),
      over_fits u (take m (drop 1 xs)) us (bind_inner_fits u r xs h),
      over_fits r (drop m (drop 1 xs)) rs (bind_rest_fits u r xs h),
    )

-- a tree and names as a form
part : Tree → List ℕ → Form
part t xs = record { operator = 0; payloads = []; tree = t; names = xs }

-- the tree and its names over these ids
over : Tree → List ℕ → List Applied → Form
over t xs bs = record { operator = 0; payloads = []; tree = tree_over t bs; names = names_over t xs bs }

-- one more id
step : (t : Tree) (xs : List ℕ) (bs : List Applied) (b : Applied) → length bs < length (children t) → length xs ≡ length (scopes t) →
    with_child (over t xs bs) (length bs) b.0 (keys b.1) (values b.1) ≡ over t xs (bs ++ b ∷ [])
unfolding part over
step leaf xs bs b l h = absurd (omega arith)
step (own r) xs bs b l h =
    let a = part (own leaf) (slice_index xs 0 ∷ []) in
    let g = over r (drop 1 xs) bs in
    sym (with_child_right a g refl (length bs) b.0 (keys b.1) (values b.1) (omega arith))
    ∙ rw sub-zero (ap (join_form a) (step r (drop 1 xs) bs b l (own_fits r xs h)))
step (child i ks r) xs [] b l h =
    let ys = drop (length ks) xs in
    let fits : length ys ≡ length (scopes r) = child_rest_fits i ks r xs h in
    λ j. part (child b.0 (keys b.1) (sym (tree_over-none r [] refl) j)) (values b.1 ++ (ap (λ n. drop n xs) (zero-add (length ks)) ∙ sym (names_over-none r ys [] refl fits)) j)
step (child i ks r) xs (c ∷ bs) b l h =
    let ys = drop (length ks) xs in
    let a = part (child c.0 (keys c.1) leaf) (values c.1) in
    let g = over r ys bs in
    let fits : length (values c.1) ≡ length (scopes (child c.0 (keys c.1) leaf)) =
    omega (arith, length-append (map {B = Option ℕ} (λ _. None) (keys c.1)) [], length-map {B = Option ℕ} (keys c.1) (λ _. None), names_fit c.1) in
    sym (with_child_right a g fits (suc (length bs)) b.0 (keys b.1) (values b.1) (omega arith))
    ∙ (ap (λ n. join_form a (with_child g n b.0 (keys b.1) (values b.1))) (omega arith)
    ∙ ap (join_form a) (step r ys bs b (omega arith) (child_rest_fits i ks r xs h)))
step (bind u r) xs bs b l h =
    let n = length (scopes u) in
    let k = length (children u) in
    let inner = take n (drop 1 xs) in
    let rest = drop n (drop 1 xs) in
    let us = take k bs in
    let rs = drop k bs in
    let a = over u inner us in
    let p = bind_form (slice_index xs 0) a in
    let g = over r rest rs in
    let inner_fits = bind_inner_fits u r xs h in
    let rest_fits = bind_rest_fits u r xs h in
    let fits : length p.names ≡ length (scopes p.tree) = bind_form_fits (slice_index xs 0) a (over_fits u inner us inner_fits) in
    let c : length (children p.tree) ≡ k = omega (arith, length-append (children (tree_over u us)) [], length-over u us) in
    let o = length-append (children u) (children r) in
    elim (cases_lt (length bs) k) [
      | inl s ↦
          let eu : us ≡ bs = take_all k bs (omega arith) in
          let fu : take k (bs ++ b ∷ []) ≡ bs ++ b ∷ [] = take_all k (bs ++ b ∷ []) (omega (arith, s, length-append bs (b ∷ []))) in
          let er : rs ≡ [] = drop_all k bs (omega arith) in
          let fr : drop k (bs ++ b ∷ []) ≡ [] = drop_all k (bs ++ b ∷ []) (omega (arith, s, length-append bs (b ∷ []))) in
          sym (with_child_left p g fits (length bs) b.0 (keys b.1) (values b.1) (omega (arith, c, s)))
          ∙ (ap (λ v. join_form v g) (below_binder (slice_index xs 0) a (length bs) b.0 (keys b.1) (values b.1) (omega (arith, s, length-over u us)))
          ∙ ((λ j. join_form (bind_form (slice_index xs 0) (with_child (over u inner (eu j)) (length bs) b.0 (keys b.1) (values b.1))) (over r rest (er j)))
          ∙ (ap (λ v. join_form (bind_form (slice_index xs 0) v) (over r rest [])) (step u inner bs b s inner_fits)
          ∙ (λ j. join_form (bind_form (slice_index xs 0) (over u inner (sym fu j))) (over r rest (sym fr j))))))
      | inr s ↦
          let lr : length rs ≡ length bs - k = length-drop k bs in
          let eu : take k (bs ++ b ∷ []) ≡ us = take-append-le k bs (b ∷ []) s in
          let er : drop k (bs ++ b ∷ []) ≡ rs ++ b ∷ [] = drop-append-le k bs (b ∷ []) s in
          let y : length bs - length (children p.tree) ≡ length rs = omega (arith, c, lr) in
          sym (with_child_right p g fits (length bs) b.0 (keys b.1) (values b.1) (omega (arith, c, s)))
          ∙ (ap (λ x. join_form p (with_child g x b.0 (keys b.1) (values b.1))) y
          ∙ (ap (join_form p) (step r rest rs b (omega (arith, l, o, lr, s)) rest_fits)
          ∙ (λ j. join_form (bind_form (slice_index xs 0) (over u inner (sym eu j))) (over r rest (sym er j)))))
    ]

pub node_over-none : (f : Form) → Fits f → node_over f [] ≡ f
node_over-none f fits = form_ext _ _ refl refl (tree_over-none f.tree [] refl) (names_over-none f.tree f.names [] refl fits)

pub node_over-more : (f : Form) (bs : List Applied) (k : ℕ) (b : Applied) → length bs ≡ k → k < length (children f.tree) → Fits f →
    with_child (node_over f bs) k b.0 (keys b.1) (values b.1) ≡ node_over f (bs ++ b ∷ [])
unfolding over
node_over-more f bs k b e l fits =
    let s = step f.tree f.names bs b (omega arith) fits in
    ap (λ n. with_child (node_over f bs) n b.0 (keys b.1) (values b.1)) (sym e)
    ∙ form_ext _ _ refl refl (ap (λ (p : Form). p.tree) s) (ap (λ (p : Form). p.names) s)

-- the children are the ids

ids-over : (t : Tree) (xs : List ℕ) (bs : List Applied) → length xs ≡ length (scopes t) → length bs ≡ length (children t) → ids_in (tree_over t bs) (names_over t xs bs) ≡ bs
ids-over leaf xs [] h e = refl
ids-over leaf xs (b ∷ bs) h e = absurd (omega arith)
ids-over (own r) xs bs h e = ids-over r (drop 1 xs) bs (own_fits r xs h) e
ids-over (child i ks r) xs [] h e = absurd (omega arith)
ids-over (child i ks r) xs (b ∷ bs) h e =
    let ys = names_over r (drop (length ks) xs) bs in
    let l : length (values b.1) ≡ length (keys b.1) = names_fit b.1 in
    (λ j. (b.0, zip (keys b.1) (take_at (values b.1) ys (length (keys b.1)) l j)) ∷ ids_in (tree_over r bs) (drop_at (values b.1) ys (length (keys b.1)) l j))
    ∙ (λ j. (b.0, zip-keys_values b.1 j) ∷ ids-over r (drop (length ks) xs) bs (child_rest_fits i ks r xs h) (omega arith) j)
ids-over (bind u r) xs bs h e =
    let n = length (scopes u) in
    let k = length (children u) in
    let inner = take n (drop 1 xs) in
    let rest = drop n (drop 1 xs) in
    let us = take k bs in
    let rs = drop k bs in
    let vs = names_over u inner us in
    let ws = names_over r rest rs in
    let q = length (scopes (tree_over u us)) in
    let l : length vs ≡ q = over_fits u inner us (bind_inner_fits u r xs h) in
    let o = length-append (children u) (children r) in
    (λ i. ids_in (tree_over u us) (take_at vs ws q l i) ++ ids_in (tree_over r rs) (drop_at vs ws q l i))
    ∙ ((λ i. ids-over u inner us (bind_inner_fits u r xs h) (omega (arith, length-take k bs, o, e)) i ++ ids-over r rest rs (bind_rest_fits u r xs h) (omega (arith, length-drop k bs, o, e)) i)
    ∙ take-append-drop k bs)

pub child_ids-over : (f : Form) (bs : List Applied) → Fits f → length bs ≡ length (children f.tree) → child_ids (node_over f bs) ≡ bs
child_ids-over f bs fits e = ids-over f.tree f.names bs fits e

-- over its own children it is as it was

pub tree_over-own : (t : Tree) (xs : List ℕ) → length xs ≡ length (scopes t) → tree_over t (ids_in t xs) ≡ t
tree_over-own leaf xs h = refl
tree_over-own (own r) xs h = ap own (tree_over-own r (drop 1 xs) (own_fits r xs h))
tree_over-own (child i ks r) xs h =
    λ j. child i (keys-zip ks (take (length ks) xs) (child_keys_fit i ks r xs h) j) (tree_over-own r (drop (length ks) xs) (child_rest_fits i ks r xs h) j)
tree_over-own (bind u r) xs h =
    let n = length (scopes u) in
    let k = length (children u) in
    let us = ids_in u (take n (drop 1 xs)) in
    let rs = ids_in r (drop n (drop 1 xs)) in
    let l : length us ≡ k = length-ids u (take n (drop 1 xs)) in
    (λ j. bind (tree_over u (take_at us rs k l j)) (tree_over r (drop_at us rs k l j)))
    ∙ (λ j. bind (tree_over-own u (take n (drop 1 xs)) (bind_inner_fits u r xs h) j) (tree_over-own r (drop n (drop 1 xs)) (bind_rest_fits u r xs h) j))

pub names_over-own : (t : Tree) (xs : List ℕ) → length xs ≡ length (scopes t) → names_over t xs (ids_in t xs) ≡ xs
names_over-own leaf xs h = refl
names_over-own (own r) xs h = ap (λ ys. slice_index xs 0 ∷ ys) (names_over-own r (drop 1 xs) (own_fits r xs h)) ∙ first-and_rest xs (length (scopes r)) h
names_over-own (child i ks r) xs h =
    (λ j. values-zip ks (take (length ks) xs) (child_keys_fit i ks r xs h) j ++ names_over-own r (drop (length ks) xs) (child_rest_fits i ks r xs h) j)
    ∙ take-append-drop (length ks) xs
names_over-own (bind u r) xs h =
    let n = length (scopes u) in
    let k = length (children u) in
    let inner = take n (drop 1 xs) in
    let rest = drop n (drop 1 xs) in
    let us = ids_in u inner in
    let rs = ids_in r rest in
    let l : length us ≡ k = length-ids u inner in
    (λ j. slice_index xs 0 ∷ names_over u inner (take_at us rs k l j) ++ names_over r rest (drop_at us rs k l j))
    ∙ ((λ j. slice_index xs 0 ∷ names_over-own u inner (bind_inner_fits u r xs h) j ++ names_over-own r rest (bind_rest_fits u r xs h) j)
    ∙ (ap (λ ys. slice_index xs 0 ∷ ys) (take-append-drop n (drop 1 xs)) ∙ first-and_rest xs (length (scopes u ++ scopes r)) h))

pub node_over-own : (f : Form) → Fits f → node_over f (child_ids f) ≡ f
node_over-own f fits = form_ext _ _ refl refl (tree_over-own f.tree f.names fits) (names_over-own f.tree f.names fits)

-- what stands beside the children stays

outline-over : (t : Tree) (xs : List ℕ) (bs : List Applied) (ts : List Term) → length xs ≡ length (scopes t) → length ts ≡ length (children t) → filled (tree_over t bs) (names_over t xs bs) ts ≡ filled t xs ts
outline-over leaf xs bs [] h e = refl
outline-over leaf xs bs (t ∷ ts) h e = refl
outline-over (own r) xs bs ts h e = ap (name (slice_index xs 0)) (outline-over r (drop 1 xs) bs ts (own_fits r xs h) e)
outline-over (child i ks r) xs [] ts h e = refl
outline-over (child i ks r) xs (b ∷ bs) [] h e = absurd (omega arith)
outline-over (child i ks r) xs (b ∷ bs) (t ∷ ts) h e =
    let ys = names_over r (drop (length ks) xs) bs in
    ap (λ zs. term.child t.op t.payloads t.args (filled (tree_over r bs) zs ts)) (drop_at (values b.1) ys (length (keys b.1)) (names_fit b.1))
    ∙ ap (term.child t.op t.payloads t.args) (outline-over r (drop (length ks) xs) bs ts (child_rest_fits i ks r xs h) (omega arith))
outline-over (bind u r) xs bs ts h e =
    let n = length (scopes u) in
    let k = length (children u) in
    let inner = take n (drop 1 xs) in
    let rest = drop n (drop 1 xs) in
    let us = take k bs in
    let rs = drop k bs in
    let vs = names_over u inner us in
    let ws = names_over r rest rs in
    let q = length (scopes (tree_over u us)) in
    let l : length vs ≡ q = over_fits u inner us (bind_inner_fits u r xs h) in
    let o = length-append (children u) (children r) in
    let c : length (children (tree_over u us)) ≡ k = length-over u us in
    (λ i. term.bind (slice_index xs 0) (filled (tree_over u us) (take_at vs ws q l i) (take (c i) ts)) (filled (tree_over r rs) (drop_at vs ws q l i) (drop (c i) ts)))
    ∙ (λ i. term.bind (slice_index xs 0) (outline-over u inner us (take k ts) (bind_inner_fits u r xs h) (omega (arith, length-take k ts, o, e)) i)
    (outline-over r rest rs (drop k ts) (bind_rest_fits u r xs h) (omega (arith, length-drop k ts, o, e)) i))

pub beside-over : (f : Form) (bs : List Applied) → Fits f → IsBeside f (node_over f bs)
beside-over f bs fits = record {
  operator = refl;
  payloads = refl;
  count = length-over f.tree bs;
  outline = λ us e. outline-over f.tree f.names bs us fits e;
}
