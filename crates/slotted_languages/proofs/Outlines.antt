-- Outlines: they have the node's term, they are reached child by child, and skeletons are equal where outlines are.
use Rattle.std.proofs.Common.{◌≡◌, ℕ, suc, zero, ◌+◌, ◌-◌, ◌<◌, ◌≤◌, List, [], ◌∷◌, ◌++◌, length, take, drop, replicate, refl, slice_index, slice_set, ap, ◌∙◌, sym, append_assoc, arith, length-append, length-drop, zero-add, add-one, inl, inr}
use Rattle.std.specs.Prelude.{min, Option, None, map}
use Rattle.std.proofs.lemmas.Grind.{common_steps}
use Rattle.std.proofs.lemmas.List.{length-map, take_at, drop_at, take-append-drop, drop_more, set_at, length-replicate, replicate_more}
use Rattle.std.proofs.lemmas.Bool.{cases_lt}
use Rattle.std.proofs.Math.Nat.{sub-zero}
use Rattle.slotted_lists.proofs.Lists.{first-and_rest, length-parts}
use Rattle.slotted_theory.specs.Term.{Term}
use Rattle.slotted_theory.specs.Term.{bind as under, child as sub, name}
use Rattle.slotted_nodes.specs.Form.{Form, Tree, leaf, own, child, bind, scopes, children, with_name, with_child, bind_form, join_form}
use Rattle.slotted_languages.specs.Filled.{filled, hole}
use Rattle.slotted_languages.specs.Outline.{child_mark, outlined, outlined_names, outlined_form, marks, skeleton_form, blank_form}
use Rattle.slotted_nodes.specs.Equal.{form_ext, bind_form_fits}
use Rattle.slotted_nodes.proofs.Pairs.{with_child_left, with_child_right}

pub length_children-outlined : (u : Tree) → length (children (outlined u)) ≡ length (children u)
length_children-outlined leaf = refl
length_children-outlined (own r) = length_children-outlined r
length_children-outlined (child i ks r) = ap suc (length_children-outlined r)
length_children-outlined (bind u r) =
    omega (arith, length-append (children (outlined u)) (children (outlined r)), length-append (children u) (children r), length_children-outlined u, length_children-outlined r)

pub length-outlined_names : (v : ℕ) (u : Tree) (xs : List ℕ) → length (outlined_names v u xs) ≡ length (scopes (outlined u))
length-outlined_names v leaf xs = refl
length-outlined_names v (own r) xs = ap suc (length-outlined_names v r (drop 1 xs))
length-outlined_names v (child i ks r) xs = ap suc (length-outlined_names v r (drop (length ks) xs))
length-outlined_names v (bind u r) xs =
    let n = length (scopes u) in
    omega (arith, length-append (outlined_names v u (take n (drop 1 xs))) (outlined_names v r (drop n (drop 1 xs))), length-append (scopes (outlined u)) (scopes (outlined r)), length-outlined_names v u (take n (drop 1 xs)), length-outlined_names v r (drop n (drop 1 xs)))

pub length-marks : (u : Tree) → length (marks u) ≡ length (scopes (outlined u))
length-marks leaf = refl
length-marks (own r) = ap suc (length-marks r)
length-marks (child i ks r) = ap suc (length-marks r)
length-marks (bind u r) =
    omega (arith, length-append (marks u) (marks r), length-append (scopes (outlined u)) (scopes (outlined r)), length-marks u, length-marks r)

pub outlined-outlined : (u : Tree) → outlined (outlined u) ≡ outlined u
outlined-outlined leaf = refl
outlined-outlined (own r) = ap own (outlined-outlined r)
outlined-outlined (child i ks r) = ap (λ t. child 0 (0 ∷ []) t) (outlined-outlined r)
outlined-outlined (bind u r) = λ i. bind (outlined-outlined u i) (outlined-outlined r i)

pub marks-outlined : (u : Tree) → marks (outlined u) ≡ marks u
marks-outlined leaf = refl
marks-outlined (own r) = ap (λ m. 0 ∷ m) (marks-outlined r)
marks-outlined (child i ks r) = ap (λ m. child_mark ∷ m) (marks-outlined r)
marks-outlined (bind u r) = λ i. 0 ∷ marks-outlined u i ++ marks-outlined r i

-- the outline has the term of the node
pub filled-outlined : (v : ℕ) (u : Tree) (xs : List ℕ) (ts : List Term) → filled (outlined u) (outlined_names v u xs) ts ≡ filled u xs ts
filled-outlined v leaf xs [] = refl
filled-outlined v leaf xs (t ∷ ts) = refl
filled-outlined v (own r) xs ts = ap (name (slice_index xs 0)) (filled-outlined v r (drop 1 xs) ts)
filled-outlined v (child i ks r) xs [] = ap hole (filled-outlined v r (drop (length ks) xs) [])
filled-outlined v (child i ks r) xs (t ∷ ts) = ap (sub t.op t.payloads t.args) (filled-outlined v r (drop (length ks) xs) ts)
filled-outlined v (bind u r) xs ts =
    let n = length (scopes u) in
    let us = outlined_names v u (take n (drop 1 xs)) in
    let rs = outlined_names v r (drop n (drop 1 xs)) in
    let l = length-outlined_names v u (take n (drop 1 xs)) in
    rw (take_at us rs (length (scopes (outlined u))) l, drop_at us rs (length (scopes (outlined u))) l, length_children-outlined u)
    (λ i. under (slice_index xs 0) (filled-outlined v u (take n (drop 1 xs)) (take (length (children u)) ts) i) (filled-outlined v r (drop n (drop 1 xs)) (drop (length (children u)) ts) i))

-- the tree with its first k children outlined
abbrev pub outlined_first : Tree → ℕ → Tree
outlined_first leaf k = leaf
outlined_first (own r) k = own (outlined_first r k)
outlined_first (child i ks r) zero = child i ks r
outlined_first (child i ks r) (suc k) = child 0 (0 ∷ []) (outlined_first r k)
outlined_first (bind u r) k = bind (outlined_first u k) (outlined_first r (k - length (children u)))

-- its names
abbrev pub names_first : ℕ → Tree → ℕ → List ℕ → List ℕ
names_first v leaf k xs = xs
names_first v (own r) k xs = slice_index xs 0 ∷ names_first v r k (drop 1 xs)
names_first v (child i ks r) zero xs = xs
names_first v (child i ks r) (suc k) xs = v ∷ names_first v r k (drop (length ks) xs)
names_first v (bind u r) k xs =
    slice_index xs 0 ∷ names_first v u k (take (length (scopes u)) (drop 1 xs)) ++ names_first v r (k - length (children u)) (drop (length (scopes u)) (drop 1 xs))

outlined_first-none : (u : Tree) (k : ℕ) → k ≡ 0 → outlined_first u k ≡ u
outlined_first-none leaf k e = refl
outlined_first-none (own r) k e = ap own (outlined_first-none r k e)
outlined_first-none (child i ks r) zero e = refl
outlined_first-none (child i ks r) (suc k) e = absurd (omega arith)
outlined_first-none (bind u r) k e = λ i. bind (outlined_first-none u k e i) (outlined_first-none r (k - length (children u)) (omega arith) i)

names_first-none : (v : ℕ) (u : Tree) (k : ℕ) (xs : List ℕ) → k ≡ 0 → length xs ≡ length (scopes u) → names_first v u k xs ≡ xs
names_first-none v leaf k xs e h = refl
names_first-none v (own r) k xs e h =
    ap (λ ys. slice_index xs 0 ∷ ys) (names_first-none v r k (drop 1 xs) e (omega (arith, length-drop 1 xs))) ∙ first-and_rest xs (length (scopes r)) h
names_first-none v (child i ks r) zero xs e h = refl
names_first-none v (child i ks r) (suc k) xs e h = absurd (omega arith)
names_first-none v (bind u r) k xs e h =
    let n = length (scopes u) in
    let f : length xs ≡ suc (n + length (scopes r)) = omega (arith, length-append (scopes u) (scopes r)) in
    let l = length-parts xs n (length (scopes r)) f in
    (λ i. slice_index xs 0 ∷ names_first-none v u k (take n (drop 1 xs)) e l.0 i ++ names_first-none v r (k - length (children u)) (drop n (drop 1 xs)) (omega arith) l.1 i)
    ∙ (ap (λ ys. slice_index xs 0 ∷ ys) (take-append-drop n (drop 1 xs)) ∙ first-and_rest xs (n + length (scopes r)) f)

pub length_children-outlined_first : (u : Tree) (k : ℕ) → length (children (outlined_first u k)) ≡ length (children u)
length_children-outlined_first leaf k = refl
length_children-outlined_first (own r) k = length_children-outlined_first r k
length_children-outlined_first (child i ks r) zero = refl
length_children-outlined_first (child i ks r) (suc k) = ap suc (length_children-outlined_first r k)
length_children-outlined_first (bind u r) k =
    let m = k - length (children u) in
    omega (arith, length-append (children (outlined_first u k)) (children (outlined_first r m)), length-append (children u) (children r), length_children-outlined_first u k, length_children-outlined_first r m)

names_first-fits : (v : ℕ) (u : Tree) (k : ℕ) (xs : List ℕ) → length xs ≡ length (scopes u) → length (names_first v u k xs) ≡ length (scopes (outlined_first u k))
names_first-fits v leaf k xs h = h
names_first-fits v (own r) k xs h = ap suc (names_first-fits v r k (drop 1 xs) (omega (arith, length-drop 1 xs)))
names_first-fits v (child i ks r) zero xs h = h
names_first-fits v (child i ks r) (suc k) xs h =
    ap suc (names_first-fits v r k (drop (length ks) xs) (omega (arith, length-drop (length ks) xs, length-append (map {B = Option ℕ} (λ _. None) ks) (scopes r), length-map {B = Option ℕ} ks (λ _. None))))
names_first-fits v (bind u r) k xs h =
    let n = length (scopes u) in
    let m = k - length (children u) in
    let f : length xs ≡ suc (n + length (scopes r)) = omega (arith, length-append (scopes u) (scopes r)) in
    let l = length-parts xs n (length (scopes r)) f in
    let us = names_first v u k (take n (drop 1 xs)) in
    let rs = names_first v r m (drop n (drop 1 xs)) in
    omega (arith, length-append us rs, length-append (scopes (outlined_first u k)) (scopes (outlined_first r m)), names_first-fits v u k (take n (drop 1 xs)) l.0, names_first-fits v r m (drop n (drop 1 xs)) l.1)

-- all children are outlined
pub outlined_first-all : (u : Tree) (k : ℕ) → length (children u) ≤ k → outlined_first u k ≡ outlined u
outlined_first-all leaf k h = refl
outlined_first-all (own r) k h = ap own (outlined_first-all r k h)
outlined_first-all (child i ks r) zero h = absurd (omega arith)
outlined_first-all (child i ks r) (suc k) h = ap (λ t. child 0 (0 ∷ []) t) (outlined_first-all r k (omega arith))
outlined_first-all (bind u r) k h =
    let l = length-append (children u) (children r) in
    λ i. bind (outlined_first-all u k (omega arith) i) (outlined_first-all r (k - length (children u)) (omega arith) i)

pub names_first-all : (v : ℕ) (u : Tree) (k : ℕ) (xs : List ℕ) → length (children u) ≤ k → length xs ≡ length (scopes u) → names_first v u k xs ≡ outlined_names v u xs
names_first-all v leaf k [] h e = refl
names_first-all v leaf k (x ∷ xs) h e = absurd (omega arith)
names_first-all v (own r) k xs h e = ap (λ ys. slice_index xs 0 ∷ ys) (names_first-all v r k (drop 1 xs) h (omega (arith, length-drop 1 xs)))
names_first-all v (child i ks r) zero xs h e = absurd (omega arith)
names_first-all v (child i ks r) (suc k) xs h e =
    ap (λ ys. v ∷ ys) (names_first-all v r k (drop (length ks) xs) (omega arith) (omega (arith, length-drop (length ks) xs, length-append (map {B = Option ℕ} (λ _. None) ks) (scopes r), length-map {B = Option ℕ} ks (λ _. None))))
names_first-all v (bind u r) k xs h e =
    let n = length (scopes u) in
    let f : length xs ≡ suc (n + length (scopes r)) = omega (arith, length-append (scopes u) (scopes r)) in
    let l = length-parts xs n (length (scopes r)) f in
    let c = length-append (children u) (children r) in
    λ i. slice_index xs 0 ∷ names_first-all v u k (take n (drop 1 xs)) (omega arith) l.0 i ++ names_first-all v r (k - length (children u)) (drop n (drop 1 xs)) (omega arith) l.1 i

-- a tree and names as a form
part : Tree → List ℕ → Form
part t xs = record { operator = 0; payloads = []; tree = t; names = xs }

pub below_binder : (x : ℕ) (f : Form) (k j : ℕ) (ls xs : List ℕ) → k < length (children f.tree) → with_child (bind_form x f) k j ls xs ≡ bind_form x (with_child f k j ls xs)
below_binder x f k j ls xs h = grind (arith, common_steps)

-- one more child
step : (v : ℕ) (u : Tree) (k : ℕ) (xs : List ℕ) → k < length (children u) → length xs ≡ length (scopes u) → with_child (part (outlined_first u k) (names_first v u k xs)) k 0 (0 ∷ []) (v ∷ []) ≡ part (outlined_first u (suc k)) (names_first v u (suc k) xs)
unfolding part
step v leaf k xs h e = absurd (omega arith)
step v (own r) k xs h e =
    let f = part (own leaf) (slice_index xs 0 ∷ []) in
    let g = part (outlined_first r k) (names_first v r k (drop 1 xs)) in
    sym (with_child_right f g refl k 0 (0 ∷ []) (v ∷ []) (omega arith))
    ∙ rw sub-zero (ap (join_form f) (step v r k (drop 1 xs) h (omega (arith, length-drop 1 xs))))
step v (child i ks r) zero xs h e =
    let l : length (drop (length ks) xs) ≡ length (scopes r) =
    omega (arith, length-drop (length ks) xs, length-append (map {B = Option ℕ} (λ _. None) ks) (scopes r), length-map {B = Option ℕ} ks (λ _. None)) in
    λ j. part (child 0 (0 ∷ []) (sym (outlined_first-none r 0 refl) j)) (v ∷ (ap (λ n. drop n xs) (zero-add (length ks)) ∙ sym (names_first-none v r 0 (drop (length ks) xs) refl l)) j)
step v (child i ks r) (suc k) xs h e =
    let l : length (drop (length ks) xs) ≡ length (scopes r) =
    omega (arith, length-drop (length ks) xs, length-append (map {B = Option ℕ} (λ _. None) ks) (scopes r), length-map {B = Option ℕ} ks (λ _. None)) in
    let f = part (child 0 (0 ∷ []) leaf) (v ∷ []) in
    let g = part (outlined_first r k) (names_first v r k (drop (length ks) xs)) in
    sym (with_child_right f g refl (suc k) 0 (0 ∷ []) (v ∷ []) (omega arith))
    ∙ (ap (λ n. join_form f (with_child g n 0 (0 ∷ []) (v ∷ []))) (omega arith)
    ∙ ap (join_form f) (step v r k (drop (length ks) xs) (omega arith) l))
step v (bind u r) k xs h e =
    let n = length (scopes u) in
    let m = k - length (children u) in
    let w : length xs ≡ suc (n + length (scopes r)) = omega (arith, length-append (scopes u) (scopes r)) in
    let l = length-parts xs n (length (scopes r)) w in
    let a = part (outlined_first u k) (names_first v u k (take n (drop 1 xs))) in
    let f = bind_form (slice_index xs 0) a in
    let g = part (outlined_first r m) (names_first v r m (drop n (drop 1 xs))) in
    let fits : length f.names ≡ length (scopes f.tree) = bind_form_fits (slice_index xs 0) a (names_first-fits v u k (take n (drop 1 xs)) l.0) in
    let c : length (children f.tree) ≡ length (children u) = omega (arith, length-append (children (outlined_first u k)) [], length_children-outlined_first u k) in
    let d = length-append (children u) (children r) in
    elim (cases_lt k (length (children u))) [
      | inl b ↦
          let z : m ≡ suc k - length (children u) = omega arith in
          sym (with_child_left f g fits k 0 (0 ∷ []) (v ∷ []) (omega arith))
          ∙ (ap (λ p. join_form p g) (below_binder (slice_index xs 0) a k 0 (0 ∷ []) (v ∷ []) (omega (arith, length_children-outlined_first u k)))
          ∙ (λ j. join_form (bind_form (slice_index xs 0) (step v u k (take n (drop 1 xs)) b l.0 j)) (part (outlined_first r (z j)) (names_first v r (z j) (drop n (drop 1 xs))))))
      | inr b ↦
          let z : suc m ≡ suc k - length (children u) = omega arith in
          let y : m ≡ k - length (children f.tree) = omega arith in
          let t : outlined_first u k ≡ outlined_first u (suc k) = outlined_first-all u k b ∙ sym (outlined_first-all u (suc k) (omega arith)) in
          let s : names_first v u k (take n (drop 1 xs)) ≡ names_first v u (suc k) (take n (drop 1 xs)) =
          names_first-all v u k (take n (drop 1 xs)) b l.0 ∙ sym (names_first-all v u (suc k) (take n (drop 1 xs)) (omega arith) l.0) in
          sym (with_child_right f g fits k 0 (0 ∷ []) (v ∷ []) (omega arith))
          ∙ (ap (λ p. join_form f (with_child g p 0 (0 ∷ []) (v ∷ []))) (sym y)
          ∙ (ap (join_form f) (step v r m (drop n (drop 1 xs)) (omega arith) l.1)
          ∙ (λ j. join_form (bind_form (slice_index xs 0) (part (t j) (s j))) (part (outlined_first r (z j)) (names_first v r (z j) (drop n (drop 1 xs)))))))
    ]

-- the form with its first k children outlined
abbrev pub first_form : ℕ → Form → ℕ → Form
first_form v f k = record f { tree = outlined_first f.tree k; names = names_first v f.tree k f.names }

pub first_form-none : (v : ℕ) (f : Form) → length f.names ≡ length (scopes f.tree) → first_form v f 0 ≡ f
first_form-none v f h = form_ext _ _ refl refl (outlined_first-none f.tree 0 refl) (names_first-none v f.tree 0 f.names refl h)

pub first_form-more : (v : ℕ) (f : Form) (k : ℕ) → k < length (children f.tree) → length f.names ≡ length (scopes f.tree) → with_child (first_form v f k) k 0 (0 ∷ []) (v ∷ []) ≡ first_form v f (k + 1)
unfolding part
first_form-more v f k h e =
    let s = step v f.tree k f.names h e in
    rw add-one (form_ext _ _ refl refl (ap (λ p. p.tree) s) (ap (λ p. p.names) s))

pub first_form-all : (v : ℕ) (f : Form) (k : ℕ) → length (children f.tree) ≤ k → length f.names ≡ length (scopes f.tree) → first_form v f k ≡ outlined_form v f
first_form-all v f k h e = form_ext _ _ refl refl (outlined_first-all f.tree k h) (names_first-all v f.tree k f.names h e)

blank_first : (n : ℕ) → slice_index (replicate n 0) 0 ≡ 0
blank_first zero = refl
blank_first (suc n) = refl

blank_drop : (k n : ℕ) → drop {A = ℕ} k (replicate n 0) ≡ replicate (n - k) 0
blank_drop zero n = ap (λ m. replicate m 0) (let e : n ≡ n - 0 = omega arith in e)
blank_drop (suc k) zero = ap (λ m. replicate m 0) (let e : 0 ≡ 0 - suc k = omega arith in e)
blank_drop (suc k) (suc n) = blank_drop k n ∙ ap (λ m. replicate m 0) (let e : n - k ≡ suc n - suc k = omega arith in e)

blank_take : (k n : ℕ) → take {A = ℕ} k (replicate n 0) ≡ replicate (min k n) 0
blank_take zero n = ap (λ m. replicate m 0) (let e : 0 ≡ min 0 n = omega arith in e)
blank_take (suc k) zero = ap (λ m. replicate m 0) (let e : 0 ≡ min (suc k) 0 = omega arith in e)
blank_take (suc k) (suc n) = ap (λ l. 0 ∷ l) (blank_take k n) ∙ ap (λ m. replicate m 0) (let e : suc (min k n) ≡ min (suc k) (suc n) = omega arith in e)

-- the outline of a blank node has the marks for names
pub names-blank : (u : Tree) (n : ℕ) → outlined_names child_mark (outlined u) (replicate n 0) ≡ marks u
names-blank leaf n = refl
names-blank (own r) n = λ i. blank_first n i ∷ (ap (outlined_names child_mark (outlined r)) (blank_drop 1 n) ∙ names-blank r (n - 1)) i
names-blank (child j ks r) n = ap (λ ys. child_mark ∷ ys) (ap (outlined_names child_mark (outlined r)) (blank_drop 1 n) ∙ names-blank r (n - 1))
names-blank (bind u r) n =
    let k = length (scopes (outlined u)) in
    λ i. blank_first n i ∷ (ap (λ ys. outlined_names child_mark (outlined u) (take k ys)) (blank_drop 1 n) ∙ (ap (outlined_names child_mark (outlined u)) (blank_take k (n - 1)) ∙ names-blank u (min k (n - 1)))) i
    ++ (ap (λ ys. outlined_names child_mark (outlined r) (drop k ys)) (blank_drop 1 n) ∙ (ap (outlined_names child_mark (outlined r)) (blank_drop k (n - 1)) ∙ names-blank r (n - 1 - k))) i

-- the form with the name 0 at its first i places
abbrev pub blank_to : Form → ℕ → Form
blank_to f i = record f { names = replicate i 0 ++ drop i f.names }

pub blank_to-more : (f : Form) (i : ℕ) → i < length f.names → with_name (blank_to f i) i 0 ≡ blank_to f (i + 1)
blank_to-more f i h =
    let ys = f.names in
    let e : slice_set (replicate i 0 ++ drop i ys) i 0 ≡ replicate (i + 1) 0 ++ drop (i + 1) ys =
    ap (λ zs. slice_set (replicate i 0 ++ zs) i 0) (drop_more ys i 0 h)
    ∙ (set_at (replicate i 0) (slice_index ys i) (drop (i + 1) ys) 0 i (length-replicate i 0)
    ∙ (sym (append_assoc (replicate i 0) (0 ∷ []) (drop (i + 1) ys)) ∙ ap (λ zs. zs ++ drop (i + 1) ys) (replicate_more i 0))) in
    ap (λ ns. let r : Form = record f { names = ns } in r) e

-- the outline of a blank outline is the skeleton
pub skeleton_form-blank : (f : Form) → outlined_form child_mark (blank_form (outlined_form 0 f)) ≡ skeleton_form f
skeleton_form-blank f = form_ext _ _ refl refl (outlined-outlined f.tree) (names-blank f.tree (length (outlined_names 0 f.tree f.names)))
