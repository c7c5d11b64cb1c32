-- A node whose children are all replaced by what they find: its nameless form is the normal form, and it has no other names and no more places.
use Rattle.std.proofs.Common.{◌≡◌, ℕ, suc, zero, ◌-◌, ◌<◌, ◌≤◌, List, [], ◌∷◌, ◌++◌, length, take, drop, refl, slice_index, ap, ◌∙◌, sym, subst, arith, length-append, length-drop, length-take, inl, inr}
use Rattle.std.specs.Prelude.{Contains, slice_index_or}
use Rattle.std.specs.List.{zip}
use Rattle.std.proofs.lemmas.List.{take_at, drop_at}
use Rattle.slotted_lists.proofs.Members.{In, In-append, In-map, In-of_map, In-Contains, Contains-In, In-take, In-drop}
use Rattle.slotted_lists.proofs.Each.{Each, Each-append}
use Rattle.slotted_lists.proofs.Maps.{IsInjectiveMap-before, zip-keys_values, length-values, length-keys, In-zip, keys-with_values}
use Rattle.slotted_theory.specs.Nameless.{DTerm, place, sub, scope, extend, nameless_args}
use Rattle.slotted_theory.proofs.Values.{node, child_before}
use Rattle.slotted_slots.specs.Maps.{keys, values}
use Rattle.slotted_nodes.specs.Form.{Form, Tree, leaf, own, child, bind, scopes, children}
use Rattle.slotted_languages.specs.NodeTerm.{nameless_node, own_names, node_args}
use Rattle.slotted_languages.specs.Shape.{Fits}
use Rattle.slotted_languages.proofs.NodeTerms.{own_fits, child_keys_fit, child_rest_fits, bind_inner_fits, bind_rest_fits}
use Rattle.slotted_model.specs.Applied.{Applied, renamed_id, as_term, applied_of, EachChild}
use Rattle.slotted_model.specs.Ascending.{IsAscending}
use Rattle.slotted_model.specs.Filling.{IsValid}
use Rattle.slotted_model.specs.Find.{Entry, Linked, find, used_slots}
use Rattle.slotted_model.specs.Normal.{normal, normal_args}
use Rattle.slotted_model.proofs.Represented.Children.{zip-places}
use Rattle.slotted_model.proofs.Finds.Congruence.{child-applied}
use Rattle.slotted_model.proofs.Correspondences.Listing.{injective-different}
use Rattle.slotted_model.proofs.Finds.NormalIds.{found-renamed, found-valid, found-name}
use Rattle.slotted_model.proofs.Rebuilding.Touching.{different-length}
use Rattle.slotted_classes.specs.ChildIds.{ids_in, child_ids}
use Rattle.slotted_hashcons.specs.NormalNodes.{HasNoOtherNames}
use Rattle.slotted_classes.proofs.ChildIds.{atom-is}
use Rattle.slotted_hashcons.proofs.ReplacedChildren.{first_tree, first_names, first_form, first_names-fit}

-- the id that a child is under binders that ρ numbers
pub applied-atom : (ρ : ℕ → ℕ) (i : ℕ) (ks vs : List ℕ) → length vs ≡ length ks → applied_of ((i ∷ ks) ∷ []) (nameless_args ρ (own_names vs)) ≡ renamed_id ρ (i, zip ks vs)
applied-atom ρ i ks vs n =
    let a : Applied = renamed_id ρ (i, zip ks vs) in
    ap (λ (d : DTerm). applied_of d.payloads d.args) (atom-is ρ i ks vs n) ∙ ap (λ m. let b : Applied = (i, m) in b) (zip-places a.1)

-- a child that is replaced by what it finds
found-child : (found : List Entry) (ρ : ℕ → ℕ) (i : ℕ) (ks vs : List ℕ) → length vs ≡ length ks → let b : Applied = find found (i, zip ks vs) in
    node 0 ((b.0 ∷ keys b.1) ∷ []) (nameless_args ρ (own_names (values b.1))) ≡ as_term (find found (applied_of ((i ∷ ks) ∷ []) (nameless_args ρ (own_names vs))))
found-child found ρ i ks vs n =
    let b : Applied = find found (i, zip ks vs) in
    atom-is ρ b.0 (keys b.1) (values b.1) (length-values b.1 ∙ sym (length-keys b.1))
    ∙ (ap (λ m. as_term (renamed_id ρ (b.0, m))) (zip-keys_values b.1)
    ∙ (ap as_term (sym (found-renamed found ρ (i, zip ks vs))) ∙ ap (λ a. as_term (find found a)) (sym (applied-atom ρ i ks vs n))))

-- where all children are replaced by what they find the nameless form is in normal form
found_args : (found : List Entry) (ρ : ℕ → ℕ) (t : Tree) (k : ℕ) (xs : List ℕ) → length (children t) ≤ k → length xs ≡ length (scopes t) →
    nameless_args ρ (node_args (first_tree (find found) t k xs) (first_names (find found) t k xs)) ≡ normal_args found (nameless_args ρ (node_args t xs))
found_args found ρ leaf k xs h n = refl
found_args found ρ (own r) k xs h n = ap (place (ρ (slice_index xs 0))) (found_args found ρ r k (drop 1 xs) h (own_fits r xs n))
found_args found ρ (child i ks r) zero xs h n = absurd (omega arith)
found_args found ρ (child i ks r) (suc k) xs h n =
    let vs = take (length ks) xs in
    let b : Applied = find found (i, zip ks vs) in
    let ys = first_names (find found) r k (drop (length ks) xs) in
    let l : length (values b.1) ≡ length (keys b.1) = length-values b.1 ∙ sym (length-keys b.1) in
    let rest = found_args found ρ r k (drop (length ks) xs) (omega arith) (child_rest_fits i ks r xs n) in
    (λ j. sub 0 ((b.0 ∷ keys b.1) ∷ []) (nameless_args ρ (own_names (take_at (values b.1) ys (length (keys b.1)) l j))) (nameless_args ρ (node_args (first_tree (find found) r k (drop (length ks) xs)) (drop_at (values b.1) ys (length (keys b.1)) l j))))
    ∙ (λ j. child_before (found-child found ρ i ks vs (child_keys_fit i ks r xs n) j) (rest j))
found_args found ρ (bind u r) k xs h n =
    let m = length (scopes u) in
    let c = length-append (children u) (children r) in
    let us = take m (drop 1 xs) in
    let rs = drop m (drop 1 xs) in
    let j = k - length (children u) in
    let vs = first_names (find found) u k us in
    let ws = first_names (find found) r j rs in
    let l : length vs ≡ length (scopes (first_tree (find found) u k us)) = first_names-fit (find found) u k us (bind_inner_fits u r xs n) in
    let q = length (scopes (first_tree (find found) u k us)) in
    (λ i. scope (nameless_args (extend (slice_index xs 0) ρ) (node_args (first_tree (find found) u k us) (take_at vs ws q l i))) (nameless_args ρ (node_args (first_tree (find found) r j rs) (drop_at vs ws q l i))))
    ∙ (λ i. scope (found_args found (extend (slice_index xs 0) ρ) u k us (omega arith) (bind_inner_fits u r xs n) i) (found_args found ρ r j rs (omega arith) (bind_rest_fits u r xs n) i))

pub found-nameless : (found : List Entry) (f : Form) (k : ℕ) → Fits f → length (children f.tree) ≤ k → nameless_node (first_form (find found) f k) ≡ normal found (nameless_node f)
found-nameless found f k fits h = ap (node (suc f.operator) f.payloads) (found_args found (λ x. x) f.tree k f.names h fits)

-- what holds of the children of the nameless form holds of the children, if it does not depend on names that are told apart
pub each-child : (P : Applied → Type 0) → ((f : ℕ → ℕ) (a : Applied) → P (renamed_id f a) → P a) → (ρ : ℕ → ℕ) (t : Tree) (xs : List ℕ) → length xs ≡ length (scopes t) → EachChild P (nameless_args ρ (node_args t xs)) → Each P (ids_in t xs)
each-child P back ρ leaf xs n c = tt
each-child P back ρ (own r) xs n c = each-child P back ρ r (drop 1 xs) (own_fits r xs n) c
each-child P back ρ (child i ks r) xs n c =
    let vs = take (length ks) xs in
    let e : renamed_id ρ (i, zip ks vs) ≡ c.0.0 =
    sym (applied-atom ρ i ks vs (child_keys_fit i ks r xs n)) ∙ child-applied P 0 ((i ∷ ks) ∷ []) (nameless_args ρ (own_names vs)) c.0 in
    (back ρ (i, zip ks vs) (subst P (sym e) c.0.2), each-child P back ρ r (drop (length ks) xs) (child_rest_fits i ks r xs n) c.1)
each-child P back ρ (bind u r) xs n c =
    let m = length (scopes u) in
    each-both (ids_in u (take m (drop 1 xs))) (ids_in r (drop m (drop 1 xs)))
    (each-child P back (extend (slice_index xs 0) ρ) u (take m (drop 1 xs)) (bind_inner_fits u r xs n) c.0)
    (each-child P back ρ r (drop m (drop 1 xs)) (bind_rest_fits u r xs n) c.1)
  where
    each-both : (ps qs : List Applied) → Each P ps → Each P qs → Each P (ps ++ qs)
    each-both [] qs h g = g
    each-both (p ∷ ps) qs h g = (h.0, each-both ps qs h.1 g)

pub Each-at : (P : Applied → Type 0) (ps : List Applied) (k : ℕ) (d : Applied) → Each P ps → k < length ps → P (slice_index_or ps k d)
Each-at P [] k d h l = absurd (omega arith)
Each-at P (p ∷ ps) zero d h l = h.0
Each-at P (p ∷ ps) (suc k) d h l = Each-at P ps k d h.1 (omega arith)

-- an id is valid if it is with other names
pub valid-back : (slots : ℕ → List ℕ) (nodes : List DTerm) (f : ℕ → ℕ) (a : Applied) → IsValid slots nodes (renamed_id f a) → IsValid slots nodes a
valid-back slots nodes f a v =
    let k = keys-with_values f a.1 in
    record {
      in_range = v.in_range;
      ascending = subst IsAscending k v.ascending;
      injective = IsInjectiveMap-before f a.1 v.injective;
      has_slots = λ s c. subst (λ K. Contains K s) k (v.has_slots s c);
      within = λ s c. v.within s (subst (λ K. Contains K s) (sym k) c);
    }

-- what an id finds has no more names, and no other ones

In-value : (m : List (ℕ × ℕ)) (x : ℕ) → In x (values m) → (s : ℕ) × In (s, x) m
In-value m x h =
    let r : (p : ℕ × ℕ) × In p m × (x ≡ p.1) = In-of_map (λ (p : ℕ × ℕ). p.1) m x h in
    (r.0.0, subst (λ y. In (r.0.0, y) m) (sym r.2) r.1)

found-names : (found : List Entry) (a : Applied) (x : ℕ) → In x (values (find found a).1) → In x (values a.1)
found-names found a x h =
    let p = In-value (find found a).1 x h in
    let q = found-name found a p.0 x (Contains-In (find found a).1 (p.0, x) p.1) in
    In-map (λ (p : ℕ × ℕ). p.1) a.1 (q.0, x) (In-Contains a.1 (q.0, x) q.2)

fewer-names : (nodes : List DTerm) (found : List Entry) → Linked nodes found → (a : Applied) → IsValid (used_slots found) nodes a → length (find found a).1 ≤ length a.1
fewer-names nodes found linked a v =
    let b = find found a in
    let w : length (values b.1) ≤ length (values a.1) =
    different-length (values b.1) (values a.1) (injective-different b.1 (found-valid nodes found linked a v).injective)
    (λ x c. Contains-In (values a.1) x (found-names found a x (In-Contains (values b.1) x c))) in
    omega (arith, w, length-values b.1, length-values a.1)

-- the first name stands in the list
In-first : (xs : List ℕ) (n x : ℕ) → length xs ≡ suc n → x ≡ slice_index xs 0 → In x xs
In-first [] n x h e = absurd (omega arith)
In-first (y ∷ ys) n x h e = inl e

-- the names of a node whose children were replaced by what they find
In-first_names : (found : List Entry) (t : Tree) (k : ℕ) (xs : List ℕ) → length xs ≡ length (scopes t) → (x : ℕ) → In x (first_names (find found) t k xs) → In x xs
In-first_names found leaf k xs n x h = h
In-first_names found (own r) k xs n x (inl e) = In-first xs (length (scopes r)) x n e
In-first_names found (own r) k xs n x (inr h) = In-drop 1 xs x (In-first_names found r k (drop 1 xs) (own_fits r xs n) x h)
In-first_names found (child i ks r) zero xs n x h = h
In-first_names found (child i ks r) (suc k) xs n x h =
    let vs = take (length ks) xs in
    let a : Applied = (i, zip ks vs) in
    elim (In-append x (values (find found a).1) (first_names (find found) r k (drop (length ks) xs)) h) [
      | inl g ↦ In-take (length ks) xs x (In-zip ks vs x (found-names found a x g))
      | inr g ↦ In-drop (length ks) xs x (In-first_names found r k (drop (length ks) xs) (child_rest_fits i ks r xs n) x g)
    ]
In-first_names found (bind u r) k xs n x (inl e) = In-first xs (length (scopes u ++ scopes r)) x n e
In-first_names found (bind u r) k xs n x (inr h) =
    let m = length (scopes u) in
    elim (In-append x (first_names (find found) u k (take m (drop 1 xs))) (first_names (find found) r (k - length (children u)) (drop m (drop 1 xs))) h) [
      | inl g ↦ In-drop 1 xs x (In-take m (drop 1 xs) x (In-first_names found u k (take m (drop 1 xs)) (bind_inner_fits u r xs n) x g))
      | inr g ↦ In-drop 1 xs x (In-drop m (drop 1 xs) x (In-first_names found r (k - length (children u)) (drop m (drop 1 xs)) (bind_rest_fits u r xs n) x g))
    ]

pub found-no_other : (found : List Entry) (f : Form) (k : ℕ) → Fits f → HasNoOtherNames f (first_form (find found) f k)
found-no_other found f k fits x c =
    Contains-In f.names x (In-first_names found f.tree k f.names fits x (In-Contains (first_names (find found) f.tree k f.names) x c))

length-zip : (ks vs : List ℕ) → length (zip ks vs) ≤ length vs
length-zip [] vs = omega arith
length-zip (k ∷ ks) [] = omega arith
length-zip (k ∷ ks) (v ∷ vs) = omega (arith, length-zip ks vs)

-- and no more places
fewer_names : (nodes : List DTerm) (found : List Entry) → Linked nodes found → (t : Tree) (k : ℕ) (xs : List ℕ) → length xs ≡ length (scopes t) → Each (IsValid (used_slots found) nodes) (ids_in t xs) → length (first_names (find found) t k xs) ≤ length xs
fewer_names nodes found l leaf k xs n c = omega arith
fewer_names nodes found l (own r) k xs n c = omega (arith, n, length-drop 1 xs, fewer_names nodes found l r k (drop 1 xs) (own_fits r xs n) c)
fewer_names nodes found l (child i ks r) zero xs n c = omega arith
fewer_names nodes found l (child i ks r) (suc k) xs n c =
    let vs = take (length ks) xs in
    let a : Applied = (i, zip ks vs) in
    let ys = drop (length ks) xs in
    omega (
      arith,
      n,
      length-append (values (find found a).1) (first_names (find found) r k ys),
      length-values (find found a).1,
      fewer-names nodes found l a c.0,
      length-zip ks vs,
      length-take (length ks) xs,
      length-drop (length ks) xs,
      fewer_names nodes found l r k ys (child_rest_fits i ks r xs n) c.1,
    )
fewer_names nodes found l (bind u r) k xs n c =
    let m = length (scopes u) in
    let us = take m (drop 1 xs) in
    let rs = drop m (drop 1 xs) in
    let j = k - length (children u) in
    let b = Each-append (IsValid (used_slots found) nodes) (ids_in u us) (ids_in r rs) c in
    omega (
      arith,
      n,
      length-append (first_names (find found) u k us) (first_names (find found) r j rs),
      length-append (scopes u) (scopes r),
      bind_inner_fits u r xs n,
      bind_rest_fits u r xs n,
      fewer_names nodes found l u k us (bind_inner_fits u r xs n) b.0,
      fewer_names nodes found l r j rs (bind_rest_fits u r xs n) b.1,
    )

pub found-places : (nodes : List DTerm) (found : List Entry) → Linked nodes found → (f : Form) (k : ℕ) → Fits f → Each (IsValid (used_slots found) nodes) (child_ids f) → length (first_form (find found) f k).names ≤ length f.names
found-places nodes found l f k fits c = fewer_names nodes found l f.tree k f.names fits c

-- the children of a node are valid if those of its nameless form are
pub child_ids-valid : (slots : ℕ → List ℕ) (nodes : List DTerm) (f : Form) → Fits f → EachChild (IsValid slots nodes) (nameless_node f).args → Each (IsValid slots nodes) (child_ids f)
child_ids-valid slots nodes f fits c = each-child (IsValid slots nodes) (valid-back slots nodes) (λ x. x) f.tree f.names fits c
