-- A node over other ids: its names are known where those of the ids are, its arguments are those of the node but for the ids, and a child that is put in
-- leaves the later children.
use Rattle.std.proofs.Common.{◌≡◌, ℕ, zero, suc, ◌<◌, List, [], ◌∷◌, ◌++◌, length, take, drop, refl, sym, ◌∙◌, ap, slice_index, arith, length-append, length-drop, length-take}
use Rattle.std.specs.Prelude.{slice_index_or, slice_set, IsTrue, All}
use Rattle.std.specs.List.{zip}
use Rattle.std.proofs.lemmas.List.{take_at, drop_at}
use Rattle.slotted_lists.proofs.Each.{Each, Each-from_All, Each-join, Each-take, Each-drop, All-from_Each}
use Rattle.slotted_lists.proofs.Maps.{zip-keys_values, length-values, length-keys}
use Rattle.slotted_slots.specs.Table.{Table, is_known, AllKnown}
use Rattle.slotted_slots.specs.Maps.{keys, values}
use Rattle.slotted_nodes.specs.Form.{Form, Tree, leaf, own, child, bind, scopes, children, with_child}
use Rattle.slotted_languages.specs.Shape.{Fits}
use Rattle.slotted_languages.proofs.NodeTerms.{own_fits, child_rest_fits, bind_inner_fits, bind_rest_fits}
use Rattle.slotted_model.specs.Applied.{Applied}
use Rattle.slotted_classes.specs.ChildIds.{child_ids}
use Rattle.slotted_lookup.specs.Filling.{tree_over, names_over, node_over}
use Rattle.slotted_lookup.proofs.NodesOver.{names_fit, over_fits}
use Rattle.slotted_operations.proofs.TermsOverIds.Children.{plugs}
use Rattle.slotted_model_rules.specs.Matcher.{an_id, a_binder}
use Rattle.slotted_model_rules.specs.ReplacedIds.{HasOtherIds}
use Rattle.slotted_rule_patterns.specs.NodeArguments.{args_of, node_arguments}

-- lists of which something holds

pub first-of : (P : ℕ → Type 0) (xs : List ℕ) (n : ℕ) → length xs ≡ suc n → Each P xs → P (slice_index xs 0)
first-of P [] n e h = absurd (omega (arith, e))
first-of P (x ∷ xs) n e h = h.0

-- names

names-over : (P : ℕ → Type 0) (u : Tree) (xs : List ℕ) (bs : List Applied) → length xs ≡ length (scopes u) → Each P xs → Each (λ b. Each P (values b.1)) bs → Each P (names_over u xs bs)
names-over P leaf xs bs n h k = h
names-over P (own r) xs bs n h k = (first-of P xs (length (scopes r)) n h, names-over P r (drop 1 xs) bs (own_fits r xs n) (Each-drop P 1 xs h) k)
names-over P (child i ks r) xs [] n h k = h
names-over P (child i ks r) xs (b ∷ bs) n h k =
    Each-join P (values b.1) (names_over r (drop (length ks) xs) bs) k.0
    (names-over P r (drop (length ks) xs) bs (child_rest_fits i ks r xs n) (Each-drop P (length ks) xs h) k.1)
names-over P (bind u r) xs bs n h k =
    let m = length (scopes u) in
    let c = length (children u) in
    let later : Each P (drop 1 xs) = Each-drop P 1 xs h in (
      first-of P xs (length (scopes u ++ scopes r)) n h,
      Each-join P (names_over u (take m (drop 1 xs)) (take c bs)) (names_over r (drop m (drop 1 xs)) (drop c bs))
          (names-over P u (take m (drop 1 xs)) (take c bs) (bind_inner_fits u r xs n) (Each-take P m (drop 1 xs) later) (Each-take (λ b. Each P (values b.1)) c bs k))
          (names-over P r (drop m (drop 1 xs)) (drop c bs) (bind_rest_fits u r xs n) (Each-drop P m (drop 1 xs) later) (Each-drop (λ b. Each P (values b.1)) c bs k)),
    )

-- the table knows the names of the node over ids with known names
pub known-over : (t : Table) (f : Form) (bs : List Applied) → Fits f → AllKnown t f.names → All (λ b. AllKnown t (values b.1)) bs → AllKnown t (node_over f bs).names
known-over t f bs fits known each =
    let P : ℕ → Type 0 = λ s. IsTrue (is_known t s) in
    let ids : Each (λ (b : Applied). Each P (values b.1)) bs =
    Each-from_All (λ (b : Applied). Each P (values b.1)) bs (λ k d l. Each-from_All P (values (slice_index_or bs k d).1) (each k d l)) in
    All-from_Each P (node_over f bs).names (names-over P f.tree f.names bs fits (Each-from_All P f.names known) ids)

-- arguments

others-over : (u : Tree) (xs : List ℕ) (bs : List Applied) → length xs ≡ length (scopes u) → length bs ≡ length (children u) → HasOtherIds (args_of u xs) (args_of (tree_over u bs) (names_over u xs bs))
others-over leaf xs bs n c = refl
others-over (own r) xs bs n c = (args_of (tree_over r bs) (names_over r (drop 1 xs) bs), refl, others-over r (drop 1 xs) bs (own_fits r xs n) c)
others-over (child i ks r) xs [] n c = absurd (omega (arith, c))
others-over (child i ks r) xs (b ∷ bs) n c =
    let ys : List ℕ = names_over r (drop (length ks) xs) bs in
    let l : length (values b.1) ≡ length (keys b.1) = names_fit b.1 in (
      b,
      args_of (tree_over r bs) ys,
      (λ j. an_id (b.0, zip (keys b.1) (take_at (values b.1) ys (length (keys b.1)) l j)) (args_of (tree_over r bs) (drop_at (values b.1) ys (length (keys b.1)) l j)))
          ∙ ap (λ (m : List (ℕ × ℕ)). an_id (b.0, m) (args_of (tree_over r bs) ys)) (zip-keys_values b.1),
      others-over r (drop (length ks) xs) bs (child_rest_fits i ks r xs n) (omega (arith, c)),
    )
others-over (bind u r) xs bs n c =
    let m = length (scopes u) in
    let q = length (children u) in
    let inner = take m (drop 1 xs) in
    let rest = drop m (drop 1 xs) in
    let us = take q bs in
    let rs = drop q bs in
    let vs = names_over u inner us in
    let ws = names_over r rest rs in
    let l : length vs ≡ length (scopes (tree_over u us)) = over_fits u inner us (bind_inner_fits u r xs n) in
    let o = length-append (children u) (children r) in (
      args_of (tree_over u us) vs,
      args_of (tree_over r rs) ws,
      λ j. a_binder (slice_index xs 0) (args_of (tree_over u us) (take_at vs ws (length (scopes (tree_over u us))) l j)) (args_of (tree_over r rs) (drop_at vs ws (length (scopes (tree_over u us))) l j)),
      others-over u inner us (bind_inner_fits u r xs n) (omega (arith, length-take q bs, o, c)),
      others-over r rest rs (bind_rest_fits u r xs n) (omega (arith, length-drop q bs, o, c)),
    )

pub arguments-over : (f : Form) (bs : List Applied) → Fits f → length bs ≡ length (children f.tree) → HasOtherIds (node_arguments f) (node_arguments (node_over f bs))
arguments-over f bs fits n = others-over f.tree f.names bs fits n

-- a child in the place of another

set_later : {X : Type 0} (xs : List X) (k j : ℕ) (a d : X) → k < j → slice_index_or (slice_set xs k a) j d ≡ slice_index_or xs j d
set_later [] k j a d l = refl
set_later (x ∷ xs) k zero a d l = absurd (omega arith)
set_later (x ∷ xs) zero (suc j) a d l = refl
set_later (x ∷ xs) (suc k) (suc j) a d l = set_later xs k j a d (omega arith)

pub later-children : (f : Form) (k j : ℕ) (a d : Applied) → Fits f → k < length (children f.tree) → k < j → slice_index_or (child_ids (with_child f k a.0 (keys a.1) (values a.1))) j d ≡ slice_index_or (child_ids f) j d
later-children f k j a d fits lt before =
    let n : length (values a.1) ≡ length (keys a.1) = length-values a.1 ∙ sym (length-keys a.1) in
    let p = plugs f.tree f.names k a.0 (keys a.1) (values a.1) fits lt n in
    ap (λ (l : List Applied). slice_index_or l j d) p.0
    ∙ set_later (child_ids f) k j (a.0, zip (keys a.1) (values a.1)) d before
