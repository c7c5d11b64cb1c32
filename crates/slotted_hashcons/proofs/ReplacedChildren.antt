-- A node whose first children are replaced, one after another: what the loop over its children leaves.
use Rattle.std.proofs.Common.{◌≡◌, ℕ, suc, zero, ◌+◌, ◌-◌, ◌<◌, ◌≤◌, List, [], ◌∷◌, ◌++◌, length, take, drop, refl, slice_index, ap, ◌∙◌, sym, arith, length-append, length-drop, length-take, zero-add, add-one, inl, inr}
use Rattle.std.specs.Prelude.{Option, None, map, slice_index_or}
use Rattle.std.specs.List.{zip}
use Rattle.std.proofs.lemmas.List.{length-map, take-append-drop}
use Rattle.std.proofs.Math.Nat.{sub-zero}
use Rattle.slotted_lists.proofs.Lists.{first-and_rest, length-parts}
use Rattle.slotted_lists.proofs.Maps.{keys-zip, values-zip}
use Rattle.slotted_slots.specs.Maps.{keys, values}
use Rattle.slotted_nodes.specs.Form.{Form, Tree, leaf, own, child, bind, scopes, children, with_child, bind_form, join_form}
use Rattle.slotted_nodes.specs.Equal.{form_ext, bind_form_fits}
use Rattle.slotted_nodes.specs.Joined.{at_append}
use Rattle.slotted_nodes.proofs.Pairs.{with_child_left, with_child_right}
use Rattle.slotted_model.specs.Applied.{Applied}
use Rattle.slotted_languages.proofs.Outlines.{below_binder}
use Rattle.slotted_classes.specs.ChildIds.{ids_in, child_ids}
use Rattle.slotted_classes.proofs.ChildIds.{length-ids}

-- the tree whose first k children are what f makes of them
abbrev pub first_tree : (Applied → Applied) → Tree → ℕ → List ℕ → Tree
first_tree f leaf k xs = leaf
first_tree f (own r) k xs = own (first_tree f r k (drop 1 xs))
first_tree f (child i ks r) zero xs = child i ks r
first_tree f (child i ks r) (suc k) xs = child (f (i, zip ks (take (length ks) xs))).0 (keys (f (i, zip ks (take (length ks) xs))).1) (first_tree f r k (drop (length ks) xs))
first_tree f (bind u r) k xs = bind (first_tree f u k (take (length (scopes u)) (drop 1 xs))) (first_tree f r (k - length (children u)) (drop (length (scopes u)) (drop 1 xs)))

-- its names
abbrev pub first_names : (Applied → Applied) → Tree → ℕ → List ℕ → List ℕ
first_names f leaf k xs = xs
first_names f (own r) k xs = slice_index xs 0 ∷ first_names f r k (drop 1 xs)
first_names f (child i ks r) zero xs = xs
first_names f (child i ks r) (suc k) xs = values (f (i, zip ks (take (length ks) xs))).1 ++ first_names f r k (drop (length ks) xs)
first_names f (bind u r) k xs =
    slice_index xs 0 ∷ first_names f u k (take (length (scopes u)) (drop 1 xs)) ++ first_names f r (k - length (children u)) (drop (length (scopes u)) (drop 1 xs))

first_tree-none : (f : Applied → Applied) (u : Tree) (k : ℕ) (xs : List ℕ) → k ≡ 0 → first_tree f u k xs ≡ u
first_tree-none f leaf k xs e = refl
first_tree-none f (own r) k xs e = ap own (first_tree-none f r k (drop 1 xs) e)
first_tree-none f (child i ks r) zero xs e = refl
first_tree-none f (child i ks r) (suc k) xs e = absurd (omega arith)
first_tree-none f (bind u r) k xs e =
    λ i. bind (first_tree-none f u k (take (length (scopes u)) (drop 1 xs)) e i) (first_tree-none f r (k - length (children u)) (drop (length (scopes u)) (drop 1 xs)) (omega arith) i)

-- the names after a child
length_after : (i : ℕ) (ks : List ℕ) (r : Tree) (xs : List ℕ) → length xs ≡ length (scopes (child i ks r)) → length (drop (length ks) xs) ≡ length (scopes r)
length_after i ks r xs h = omega (arith, length-drop (length ks) xs, length-append (map {B = Option ℕ} (λ _. None) ks) (scopes r), length-map {B = Option ℕ} ks (λ _. None))

first_names-none : (f : Applied → Applied) (u : Tree) (k : ℕ) (xs : List ℕ) → k ≡ 0 → length xs ≡ length (scopes u) → first_names f u k xs ≡ xs
first_names-none f leaf k xs e h = refl
first_names-none f (own r) k xs e h =
    ap (λ ys. slice_index xs 0 ∷ ys) (first_names-none f r k (drop 1 xs) e (omega (arith, length-drop 1 xs))) ∙ first-and_rest xs (length (scopes r)) h
first_names-none f (child i ks r) zero xs e h = refl
first_names-none f (child i ks r) (suc k) xs e h = absurd (omega arith)
first_names-none f (bind u r) k xs e h =
    let n = length (scopes u) in
    let w : length xs ≡ suc (n + length (scopes r)) = omega (arith, length-append (scopes u) (scopes r)) in
    let l = length-parts xs n (length (scopes r)) w in
    (λ i. slice_index xs 0 ∷ first_names-none f u k (take n (drop 1 xs)) e l.0 i ++ first_names-none f r (k - length (children u)) (drop n (drop 1 xs)) (omega arith) l.1 i)
    ∙ (ap (λ ys. slice_index xs 0 ∷ ys) (take-append-drop n (drop 1 xs)) ∙ first-and_rest xs (n + length (scopes r)) w)

pub length_children-first : (f : Applied → Applied) (u : Tree) (k : ℕ) (xs : List ℕ) → length (children (first_tree f u k xs)) ≡ length (children u)
length_children-first f leaf k xs = refl
length_children-first f (own r) k xs = length_children-first f r k (drop 1 xs)
length_children-first f (child i ks r) zero xs = refl
length_children-first f (child i ks r) (suc k) xs = ap suc (length_children-first f r k (drop (length ks) xs))
length_children-first f (bind u r) k xs =
    let m = k - length (children u) in
    let us = take (length (scopes u)) (drop 1 xs) in
    let rs = drop (length (scopes u)) (drop 1 xs) in
    omega (arith, length-append (children (first_tree f u k us)) (children (first_tree f r m rs)), length-append (children u) (children r), length_children-first f u k us, length_children-first f r m rs)

-- there are as many names as places
pub first_names-fit : (f : Applied → Applied) (u : Tree) (k : ℕ) (xs : List ℕ) → length xs ≡ length (scopes u) → length (first_names f u k xs) ≡ length (scopes (first_tree f u k xs))
first_names-fit f leaf k xs h = h
first_names-fit f (own r) k xs h = ap suc (first_names-fit f r k (drop 1 xs) (omega (arith, length-drop 1 xs)))
first_names-fit f (child i ks r) zero xs h = h
first_names-fit f (child i ks r) (suc k) xs h =
    let b : Applied = f (i, zip ks (take (length ks) xs)) in
    let ys = drop (length ks) xs in
    omega (
      arith,
      length-append (values b.1) (first_names f r k ys),
      length-append (map {B = Option ℕ} (λ _. None) (keys b.1)) (scopes (first_tree f r k ys)),
      length-map {B = Option ℕ} (keys b.1) (λ _. None),
      length-map {B = ℕ} b.1 (λ p. p.0),
      length-map {B = ℕ} b.1 (λ p. p.1),
      first_names-fit f r k ys (length_after i ks r xs h),
    )
first_names-fit f (bind u r) k xs h =
    let n = length (scopes u) in
    let m = k - length (children u) in
    let w : length xs ≡ suc (n + length (scopes r)) = omega (arith, length-append (scopes u) (scopes r)) in
    let l = length-parts xs n (length (scopes r)) w in
    let us = first_names f u k (take n (drop 1 xs)) in
    let rs = first_names f r m (drop n (drop 1 xs)) in
    omega (arith, length-append us rs, length-append (scopes (first_tree f u k (take n (drop 1 xs)))) (scopes (first_tree f r m (drop n (drop 1 xs)))), first_names-fit f u k (take n (drop 1 xs)) l.0, first_names-fit f r m (drop n (drop 1 xs)) l.1)

-- past the last child nothing changes
first_tree-all : (f : Applied → Applied) (u : Tree) (k : ℕ) (xs : List ℕ) → length (children u) ≤ k → first_tree f u k xs ≡ first_tree f u (suc k) xs
first_tree-all f leaf k xs h = refl
first_tree-all f (own r) k xs h = ap own (first_tree-all f r k (drop 1 xs) h)
first_tree-all f (child i ks r) zero xs h = absurd (omega arith)
first_tree-all f (child i ks r) (suc k) xs h =
    ap (child (f (i, zip ks (take (length ks) xs))).0 (keys (f (i, zip ks (take (length ks) xs))).1)) (first_tree-all f r k (drop (length ks) xs) (omega arith))
first_tree-all f (bind u r) k xs h =
    let c = length-append (children u) (children r) in
    let z : suc (k - length (children u)) ≡ suc k - length (children u) = omega arith in
    let rs = drop (length (scopes u)) (drop 1 xs) in
    λ i. bind (first_tree-all f u k (take (length (scopes u)) (drop 1 xs)) (omega arith) i)
    ((first_tree-all f r (k - length (children u)) rs (omega arith) ∙ ap (λ n. first_tree f r n rs) z) i)

first_names-all : (f : Applied → Applied) (u : Tree) (k : ℕ) (xs : List ℕ) → length (children u) ≤ k → first_names f u k xs ≡ first_names f u (suc k) xs
first_names-all f leaf k xs h = refl
first_names-all f (own r) k xs h = ap (λ ys. slice_index xs 0 ∷ ys) (first_names-all f r k (drop 1 xs) h)
first_names-all f (child i ks r) zero xs h = absurd (omega arith)
first_names-all f (child i ks r) (suc k) xs h =
    ap (λ ys. values (f (i, zip ks (take (length ks) xs))).1 ++ ys) (first_names-all f r k (drop (length ks) xs) (omega arith))
first_names-all f (bind u r) k xs h =
    let c = length-append (children u) (children r) in
    let z : suc (k - length (children u)) ≡ suc k - length (children u) = omega arith in
    let rs = drop (length (scopes u)) (drop 1 xs) in
    λ i. slice_index xs 0 ∷ first_names-all f u k (take (length (scopes u)) (drop 1 xs)) (omega arith) i
    ++ (first_names-all f r (k - length (children u)) rs (omega arith) ∙ ap (λ n. first_names f r n rs) z) i

-- a tree and names as a form
part : Tree → List ℕ → Form
part t xs = record { operator = 0; payloads = []; tree = t; names = xs }

-- one more child
step : (f : Applied → Applied) (u : Tree) (k : ℕ) (xs : List ℕ) (b d : Applied) → k < length (children u) → length xs ≡ length (scopes u) → b ≡ f (slice_index_or (ids_in u xs) k d) →
    with_child (part (first_tree f u k xs) (first_names f u k xs)) k b.0 (keys b.1) (values b.1) ≡ part (first_tree f u (suc k) xs) (first_names f u (suc k) xs)
unfolding part
step f leaf k xs b d h e q = absurd (omega arith)
step f (own r) k xs b d h e q =
    let a = part (own leaf) (slice_index xs 0 ∷ []) in
    let g = part (first_tree f r k (drop 1 xs)) (first_names f r k (drop 1 xs)) in
    sym (with_child_right a g refl k b.0 (keys b.1) (values b.1) (omega arith))
    ∙ rw sub-zero (ap (join_form a) (step f r k (drop 1 xs) b d h (omega (arith, length-drop 1 xs)) q))
step f (child i ks r) zero xs b d h e q =
    let ys = drop (length ks) xs in
    let l : length ys ≡ length (scopes r) = length_after i ks r xs e in
    λ j. part (child (q j).0 (keys (q j).1) (sym (first_tree-none f r 0 ys refl) j)) (values (q j).1 ++ (ap (λ n. drop n xs) (zero-add (length ks)) ∙ sym (first_names-none f r 0 ys refl l)) j)
step f (child i ks r) (suc k) xs b d h e q =
    let ys = drop (length ks) xs in
    let c : Applied = f (i, zip ks (take (length ks) xs)) in
    let l : length ys ≡ length (scopes r) = length_after i ks r xs e in
    let a = part (child c.0 (keys c.1) leaf) (values c.1) in
    let g = part (first_tree f r k ys) (first_names f r k ys) in
    let fits : length (values c.1) ≡ length (scopes (child c.0 (keys c.1) leaf)) =
    omega (arith, length-append (map {B = Option ℕ} (λ _. None) (keys c.1)) [], length-map {B = Option ℕ} (keys c.1) (λ _. None), length-map {B = ℕ} c.1 (λ p. p.0), length-map {B = ℕ} c.1 (λ p. p.1)) in
    sym (with_child_right a g fits (suc k) b.0 (keys b.1) (values b.1) (omega arith))
    ∙ (ap (λ n. join_form a (with_child g n b.0 (keys b.1) (values b.1))) (omega arith)
    ∙ ap (join_form a) (step f r k ys b d (omega arith) l q))
step f (bind u r) k xs b d h e q =
    let n = length (scopes u) in
    let m = k - length (children u) in
    let us = take n (drop 1 xs) in
    let rs = drop n (drop 1 xs) in
    let w : length xs ≡ suc (n + length (scopes r)) = omega (arith, length-append (scopes u) (scopes r)) in
    let l = length-parts xs n (length (scopes r)) w in
    let a = part (first_tree f u k us) (first_names f u k us) in
    let p = bind_form (slice_index xs 0) a in
    let g = part (first_tree f r m rs) (first_names f r m rs) in
    let fits : length p.names ≡ length (scopes p.tree) = bind_form_fits (slice_index xs 0) a (first_names-fit f u k us l.0) in
    let c : length (children p.tree) ≡ length (children u) = omega (arith, length-append (children (first_tree f u k us)) [], length_children-first f u k us) in
    let o = length-append (children u) (children r) in
    elim (at_append (ids_in u us) (ids_in r rs) d k) [
      | inl s ↦
          let t : k < length (children u) = omega (arith, s.0, length-ids u us) in
          let z : m ≡ suc k - length (children u) = omega arith in
          sym (with_child_left p g fits k b.0 (keys b.1) (values b.1) (omega arith))
          ∙ (ap (λ v. join_form v g) (below_binder (slice_index xs 0) a k b.0 (keys b.1) (values b.1) (omega (arith, length_children-first f u k us)))
          ∙ (λ j. join_form (bind_form (slice_index xs 0) (step f u k us b d t l.0 (q ∙ ap f s.1) j)) (part (first_tree f r (z j) rs) (first_names f r (z j) rs))))
      | inr s ↦
          let t : length (children u) ≤ k = omega (arith, s.0, length-ids u us) in
          let z : suc m ≡ suc k - length (children u) = omega arith in
          let y : m ≡ k - length (children p.tree) = omega arith in
          let v : k - length (ids_in u us) ≡ m = ap (λ (x : ℕ). k - x) (length-ids u us) in
          sym (with_child_right p g fits k b.0 (keys b.1) (values b.1) (omega arith))
          ∙ (ap (λ x. join_form p (with_child g x b.0 (keys b.1) (values b.1))) (sym y)
          ∙ (ap (join_form p) (step f r m rs b d (omega arith) l.1 (q ∙ ap f (s.1 ∙ ap (λ (x : ℕ). slice_index_or (ids_in r rs) x d) v)))
          ∙ (λ j. join_form (bind_form (slice_index xs 0) (part (first_tree-all f u k us t j) (first_names-all f u k us t j))) (part (first_tree f r (z j) rs) (first_names f r (z j) rs)))))
    ]

-- one more child that f leaves as it is
same : (f : Applied → Applied) (u : Tree) (k : ℕ) (xs : List ℕ) (d : Applied) → k < length (children u) → length xs ≡ length (scopes u) → slice_index_or (ids_in u xs) k d ≡ f (slice_index_or (ids_in u xs) k d) →
    part (first_tree f u k xs) (first_names f u k xs) ≡ part (first_tree f u (suc k) xs) (first_names f u (suc k) xs)
unfolding part
same f leaf k xs d h e q = absurd (omega arith)
same f (own r) k xs d h e q =
    ap (λ (p : Form). part (own p.tree) (slice_index xs 0 ∷ p.names)) (same f r k (drop 1 xs) d h (omega (arith, length-drop 1 xs)) q)
same f (child i ks r) zero xs d h e q =
    let vs = take (length ks) xs in
    let ys = drop (length ks) xs in
    let l : length ys ≡ length (scopes r) = length_after i ks r xs e in
    let n : length vs ≡ length ks = omega (arith, length-take (length ks) xs, length-append (map {B = Option ℕ} (λ _. None) ks) (scopes r), length-map {B = Option ℕ} ks (λ _. None)) in
    let k : ks ≡ keys (zip ks vs) = sym (keys-zip ks vs n) in
    let w : xs ≡ values (zip ks vs) ++ ys = sym (take-append-drop (length ks) xs) ∙ ap (λ zs. zs ++ ys) (sym (values-zip ks vs n)) in
    (λ j. part (child i (k j) r) (w j))
    ∙ (λ j. part (child (q j).0 (keys (q j).1) (sym (first_tree-none f r 0 ys refl) j)) (values (q j).1 ++ sym (first_names-none f r 0 ys refl l) j))
same f (child i ks r) (suc k) xs d h e q =
    let ys = drop (length ks) xs in
    let c : Applied = f (i, zip ks (take (length ks) xs)) in
    ap (λ (p : Form). part (child c.0 (keys c.1) p.tree) (values c.1 ++ p.names)) (same f r k ys d (omega arith) (length_after i ks r xs e) q)
same f (bind u r) k xs d h e q =
    let n = length (scopes u) in
    let m = k - length (children u) in
    let us = take n (drop 1 xs) in
    let rs = drop n (drop 1 xs) in
    let w : length xs ≡ suc (n + length (scopes r)) = omega (arith, length-append (scopes u) (scopes r)) in
    let l = length-parts xs n (length (scopes r)) w in
    let o = length-append (children u) (children r) in
    elim (at_append (ids_in u us) (ids_in r rs) d k) [
      | inl s ↦
          let t : k < length (children u) = omega (arith, s.0, length-ids u us) in
          let z : m ≡ suc k - length (children u) = omega arith in
          λ j. join_form (bind_form (slice_index xs 0) (same f u k us d t l.0 (sym s.1 ∙ (q ∙ ap f s.1)) j)) (part (first_tree f r (z j) rs) (first_names f r (z j) rs))
      | inr s ↦
          let t : length (children u) ≤ k = omega (arith, s.0, length-ids u us) in
          let z : suc m ≡ suc k - length (children u) = omega arith in
          let v : k - length (ids_in u us) ≡ m = ap (λ (x : ℕ). k - x) (length-ids u us) in
          let at = s.1 ∙ ap (λ (x : ℕ). slice_index_or (ids_in r rs) x d) v in
          ap (join_form (bind_form (slice_index xs 0) (part (first_tree f u k us) (first_names f u k us)))) (same f r m rs d (omega arith) l.1 (sym at ∙ (q ∙ ap f at)))
          ∙ (λ j. join_form (bind_form (slice_index xs 0) (part (first_tree-all f u k us t j) (first_names-all f u k us t j))) (part (first_tree f r (z j) rs) (first_names f r (z j) rs)))
    ]

-- the form whose first k children are what f makes of them
abbrev pub first_form : (Applied → Applied) → Form → ℕ → Form
first_form f g k = record g { tree = first_tree f g.tree k g.names; names = first_names f g.tree k g.names }

pub first_form-none : (f : Applied → Applied) (g : Form) → length g.names ≡ length (scopes g.tree) → first_form f g 0 ≡ g
first_form-none f g h = form_ext _ _ refl refl (first_tree-none f g.tree 0 g.names refl) (first_names-none f g.tree 0 g.names refl h)

pub first_form-more : (f : Applied → Applied) (g : Form) (k : ℕ) (b d : Applied) → k < length (children g.tree) → length g.names ≡ length (scopes g.tree) → b ≡ f (slice_index_or (child_ids g) k d) →
    with_child (first_form f g k) k b.0 (keys b.1) (values b.1) ≡ first_form f g (k + 1)
unfolding part
first_form-more f g k b d h e q =
    let s = step f g.tree k g.names b d h e q in
    rw add-one (form_ext _ _ refl refl (ap (λ p. p.tree) s) (ap (λ p. p.names) s))

-- one more child, which f leaves as it is
pub first_form-same : (f : Applied → Applied) (g : Form) (k : ℕ) (d : Applied) → k < length (children g.tree) → length g.names ≡ length (scopes g.tree) → slice_index_or (child_ids g) k d ≡ f (slice_index_or (child_ids g) k d) →
    first_form f g k ≡ first_form f g (k + 1)
unfolding part
first_form-same f g k d h e q =
    let s = same f g.tree k g.names d h e q in
    rw add-one (form_ext _ _ refl refl (ap (λ (p : Form). p.tree) s) (ap (λ (p : Form). p.names) s))
