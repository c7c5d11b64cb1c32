-- A node whose children are set from the last one on, to the ids at the end of a list.
use Rattle.std.proofs.Common.{◌≡◌, ◌∙◌, ap, refl, sym, ℕ, zero, suc, ◌+◌, ◌-◌, ◌<◌, ◌≤◌, List, [], ◌∷◌, ◌++◌, length, map, take, drop, arith, append_assoc, append-nil, length-append, length-drop, length-take, zero-add, inl, inr, slice_index}
use Rattle.std.specs.Prelude.{Option, None, set}
use Rattle.std.proofs.lemmas.Bool.{cases_lt}
use Rattle.std.proofs.lemmas.List.{drop-set-add, drop-set-lt, drop_all, drop_at, length-map, take-append-drop, take-set-le, take_all, take_at}
use Rattle.std.proofs.Math.Nat.{sub-zero}
use Rattle.slotted_slots.specs.Maps.{keys, values}
use Rattle.slotted_nodes.specs.Equal.{bind_form_fits, form_ext}
use Rattle.slotted_nodes.specs.Form.{Form, Tree, leaf, own, child, bind, scopes, children, with_child, bind_form, join_form}
use Rattle.slotted_nodes.proofs.Pairs.{with_child_left, with_child_right}
use Rattle.slotted_languages.specs.Shape.{Fits}
use Rattle.slotted_languages.proofs.NodeTerms.{own_fits, child_rest_fits, bind_inner_fits, bind_rest_fits}
use Rattle.slotted_languages.proofs.Outlines.{below_binder}
use Rattle.slotted_model.specs.Applied.{Applied}
use Rattle.slotted_classes.specs.ChildIds.{child_ids}
use Rattle.slotted_classes.proofs.ChildIds.{length-ids}
use Rattle.slotted_lookup.specs.Filling.{tree_over, names_over, node_over}
use Rattle.slotted_lookup.proofs.NodesOver.{length-over, names_fit, node_over-own, over_fits}
use Rattle.slotted_rules.specs.Stacked.{ids_before, over_ids}

part : Tree → List ℕ → Form
part t xs = record { operator = 0; payloads = []; tree = t; names = xs }

-- the tree and its names over these ids
over : Tree → List ℕ → List Applied → Form
over t xs bs = record { operator = 0; payloads = []; tree = tree_over t bs; names = names_over t xs bs }

take-set-lt : {A : Type 0} (k j : ℕ) (cs : List A) (b : A) → j < k → take k (set cs j b) ≡ set (take k cs) j b
take-set-lt zero j cs b h = absurd (omega arith)
take-set-lt (suc k) j [] b h = refl
take-set-lt (suc k) zero (c ∷ cs) b h = refl
take-set-lt (suc k) (suc j) (c ∷ cs) b h = ap (λ l. c ∷ l) (take-set-lt k j cs b (omega arith))

-- another id in the place of one of them
step : (t : Tree) (xs : List ℕ) (cs : List Applied) (j : ℕ) (b : Applied) → j < length cs → length cs ≤ length (children t) → length xs ≡ length (scopes t) →
    with_child (over t xs cs) j b.0 (keys b.1) (values b.1) ≡ over t xs (set cs j b)
unfolding part over
step leaf xs cs j b l m h = absurd (omega (arith, l, m))
step (own r) xs cs j b l m h =
    let a = part (own leaf) (slice_index xs 0 ∷ []) in
    let g = over r (drop 1 xs) cs in
    sym (with_child_right a g refl j b.0 (keys b.1) (values b.1) (omega arith))
    ∙ rw sub-zero (ap (join_form a) (step r (drop 1 xs) cs j b l m (own_fits r xs h)))
step (child i ks r) xs [] j b l m h = absurd (omega (arith, l))
step (child i ks r) xs (c ∷ cs) zero b l m h =
    let ns = names_over r (drop (length ks) xs) cs in
    ap (λ n. part (child b.0 (keys b.1) (tree_over r cs)) (values b.1 ++ drop n (values c.1 ++ ns))) (zero-add (length (keys c.1)))
    ∙ ap (λ ys. part (child b.0 (keys b.1) (tree_over r cs)) (values b.1 ++ ys)) (drop_at (values c.1) ns (length (keys c.1)) (names_fit c.1))
step (child i ks r) xs (c ∷ cs) (suc j) b l m h =
    let ys = drop (length ks) xs in
    let a = part (child c.0 (keys c.1) leaf) (values c.1) in
    let g = over r ys cs in
    let fits : length (values c.1) ≡ length (scopes (child c.0 (keys c.1) leaf)) =
    omega (arith, length-append (map {B = Option ℕ} (λ _. None) (keys c.1)) [], length-map {B = Option ℕ} (keys c.1) (λ _. None), names_fit c.1) in
    sym (with_child_right a g fits (suc j) b.0 (keys b.1) (values b.1) (omega arith))
    ∙ (ap (λ n. join_form a (with_child g n b.0 (keys b.1) (values b.1))) (omega arith)
    ∙ ap (join_form a) (step r ys cs j b (omega (arith, l)) (omega (arith, m)) (child_rest_fits i ks r xs h)))
step (bind u r) xs cs j b l m h =
    let n = length (scopes u) in
    let k = length (children u) in
    let inner = take n (drop 1 xs) in
    let rest = drop n (drop 1 xs) in
    let us = take k cs in
    let rs = drop k cs in
    let a = over u inner us in
    let p = bind_form (slice_index xs 0) a in
    let g = over r rest rs in
    let inner_fits = bind_inner_fits u r xs h in
    let rest_fits = bind_rest_fits u r xs h in
    let fits : length p.names ≡ length (scopes p.tree) = bind_form_fits (slice_index xs 0) a (over_fits u inner us inner_fits) in
    let c : length (children p.tree) ≡ k = omega (arith, length-append (children (tree_over u us)) [], length-over u us) in
    let o = length-append (children u) (children r) in
    let many : length us ≤ k = omega (arith, length-take k cs) in
    elim (cases_lt j k) [
      | inl s ↦
          let eu : set us j b ≡ take k (set cs j b) = sym (take-set-lt k j cs b s) in
          let er : rs ≡ drop k (set cs j b) = sym (drop-set-lt k cs j b s) in
          let few : j < length us = omega (arith, s, l, length-take k cs) in
          sym (with_child_left p g fits j b.0 (keys b.1) (values b.1) (omega (arith, c, s)))
          ∙ (ap (λ v. join_form v g) (below_binder (slice_index xs 0) a j b.0 (keys b.1) (values b.1) (omega (arith, s, length-over u us)))
          ∙ (ap (λ v. join_form (bind_form (slice_index xs 0) v) g) (step u inner us j b few many inner_fits)
          ∙ (λ z. join_form (bind_form (slice_index xs 0) (over u inner (eu z))) (over r rest (er z)))))
      | inr s ↦
          let i = j - k in
          let at : k + i ≡ j = omega (arith, s) in
          let lr : length rs ≡ length cs - k = length-drop k cs in
          let eu : us ≡ take k (set cs j b) = sym (take-set-le k cs j b s) in
          let er : set rs i b ≡ drop k (set cs j b) = sym (drop-set-add k cs i b) ∙ ap (λ z. drop k (set cs z b)) at in
          let y : j - length (children p.tree) ≡ i = omega (arith, c) in
          sym (with_child_right p g fits j b.0 (keys b.1) (values b.1) (omega (arith, c, s)))
          ∙ (ap (λ x. join_form p (with_child g x b.0 (keys b.1) (values b.1))) y
          ∙ (ap (join_form p) (step r rest rs i b (omega (arith, l, lr, s, at)) (omega (arith, m, o, lr)) rest_fits)
          ∙ (λ z. join_form (bind_form (slice_index xs 0) (over u inner (eu z))) (over r rest (er z)))))
    ]

over-set : (f : Form) (cs : List Applied) (j : ℕ) (b : Applied) → j < length cs → length cs ≤ length (children f.tree) → Fits f →
    with_child (node_over f cs) j b.0 (keys b.1) (values b.1) ≡ node_over f (set cs j b)
unfolding over
over-set f cs j b l m fits =
    let s = step f.tree f.names cs j b l m fits in
    form_ext _ _ refl refl (ap (λ (p : Form). p.tree) s) (ap (λ (p : Form). p.names) s)

-- the last one of the first
pop-one : {A : Type 0} (all rest : List A) (i : ℕ) (a : A) → rest ++ a ∷ [] ≡ take (i + 1) all → i < length all → (rest ≡ take i all) × (a ∷ drop (i + 1) all ≡ drop i all)
pop-one all rest i a h l =
    let later = drop (i + 1) all in
    let whole : rest ++ (a ∷ later) ≡ all = sym (append_assoc rest (a ∷ []) later) ∙ (ap (λ z. z ++ later) h ∙ take-append-drop (i + 1) all) in
    let n : length rest ≡ i = omega (arith, ap length h, length-append rest (a ∷ []), length-take (i + 1) all, l) in
    (sym (take_at rest (a ∷ later) i n) ∙ ap (take i) whole, sym (drop_at rest (a ∷ later) i n) ∙ ap (drop i) whole)

none-taken : (xs : List Applied) (k : ℕ) → k ≡ 0 → take k xs ≡ []
none-taken xs k e = ap (λ z. take z xs) e ∙ first xs
  where
    first : (xs : List Applied) → take 0 xs ≡ []
    first [] = refl
    first (x ∷ xs) = refl

-- the children from the place k on are the last ids, of which the others are left
pub record SetsLast (f over : Form) (left all : List Applied) (k : ℕ) : Type 0 where
  pub within : k ≤ length (children f.tree)
  pub form : over ≡ node_over f (take k (child_ids f) ++ drop (length all - length (children f.tree) + k) all)
  pub left_are : left ≡ take (length all - length (children f.tree) + k) all

pub sets-start : (f : Form) (all : List Applied) (k : ℕ) → Fits f → length (children f.tree) ≤ length all → k ≡ length (children f.tree) → SetsLast f f all all k
sets-start f all k fits l e =
    let i = length all - length (children f.tree) + k in
    let end : length all ≤ i = omega (arith, l, e) in
    let none : drop i all ≡ [] = drop_all i all end in
    let ids = child_ids f in
    let every : take k ids ≡ ids = take_all k ids (omega (arith, e, length-ids f.tree f.names)) in
    record {
      within = omega (arith, e);
      form = sym (node_over-own f fits) ∙ ap (node_over f) (sym (ap (λ z. z ++ drop i all) every ∙ (ap (λ z. ids ++ z) none ∙ append-nil ids)));
      left_are = sym (take_all i all end);
    }

pub sets-step : (f h next : Form) (left rest all : List Applied) (k : ℕ) (a : Applied) → Fits f → length (children f.tree) ≤ length all → SetsLast f h left all k → 0 < k → left ≡ rest ++ a ∷ [] →
    next ≡ with_child h (k - 1) a.0 (keys a.1) (values a.1) → SetsLast f next rest all (k - 1)
sets-step f h next left rest all k a fits l w some last put =
    let j = k - 1 in
    let n = length (children f.tree) in
    let i = length all - n + j in
    let on : length all - n + k ≡ i + 1 = omega (arith, some) in
    let ids = child_ids f in
    let count : length ids ≡ n = length-ids f.tree f.names in
    let taken = pop-one all rest i a (sym last ∙ (w.left_are ∙ ap (λ z. take z all) on)) (omega (arith, l, w.within, some)) in
    let first = take k ids in
    let later = drop (i + 1) all in
    let first_count : length first ≡ k = omega (arith, length-take k ids, count, w.within) in
    let cs = first ++ later in
    let many : length cs ≡ n = omega (arith, length-append first later, length-drop (i + 1) all, first_count, w.within, l, some) in
    let here : set cs j a ≡ take j ids ++ drop i all = set-later ids later j k a (omega (arith, some)) (omega (arith, count, w.within)) ∙ ap (λ z. take j ids ++ z) taken.1 in
    record {
      within = omega (arith, w.within);
      form = put ∙ (ap (λ (z : Form). with_child z j a.0 (keys a.1) (values a.1)) (w.form ∙ ap (λ z. node_over f (first ++ drop z all)) on)
          ∙ (over-set f cs j a (omega (arith, many, w.within, some)) (omega (arith, many)) fits ∙ ap (node_over f) here));
      left_are = taken.0;
    }
  where
    set-next : (ids later : List Applied) (j : ℕ) (a : Applied) → j < length ids → set (take (suc j) ids ++ later) j a ≡ take j ids ++ (a ∷ later)
    set-next [] later j a l = absurd (omega (arith, l))
    set-next (x ∷ ids) later zero a l = ap (λ z. a ∷ (z ++ later)) (none-taken ids 0 refl)
    set-next (x ∷ ids) later (suc j) a l = ap (λ z. x ∷ z) (set-next ids later j a (omega (arith, l)))

    set-later : (ids later : List Applied) (j k : ℕ) (a : Applied) → k ≡ j + 1 → k ≤ length ids → set (take k ids ++ later) j a ≡ take j ids ++ (a ∷ later)
    set-later ids later j k a e m =
        let on : k ≡ suc j = omega (arith, e) in
        ap (λ z. set (take z ids ++ later) j a) on ∙ set-next ids later j a (omega (arith, m, e))

pub sets-within : (f h : Form) (left all : List Applied) (k : ℕ) → SetsLast f h left all k → 0 < k → length (children h.tree) ≡ length (children f.tree)
sets-within f h left all k w some = ap (λ (z : Form). length (children z.tree)) w.form ∙ length-over f.tree _

pub sets-some : (f h : Form) (left all : List Applied) (k : ℕ) → SetsLast f h left all k → length (children f.tree) ≤ length all → k ≤ length left
sets-some f h left all k w l = omega (arith, ap length w.left_are, length-take (length all - length (children f.tree) + k) all, w.within, l)

pub sets-end : (f h : Form) (left all : List Applied) (k : ℕ) → SetsLast f h left all k → k ≡ 0 → (h ≡ over_ids f all) × (left ≡ ids_before (length (children f.tree)) all)
sets-end f h left all k w e =
    let i = length all - length (children f.tree) in
    let at : i + k ≡ i = omega (arith, e) in
    (w.form ∙ (λ z. node_over f (none-taken (child_ids f) k e z ++ drop (at z) all)), w.left_are ∙ ap (λ z. take z all) at)
