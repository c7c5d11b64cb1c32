-- The children of a node: those that the code reads, and those of its nameless form.
use Rattle.std.proofs.Common.{◌≡◌, ◌<◌, ◌≤◌, ℕ, zero, suc, ◌+◌, ◌-◌, List, [], ◌∷◌, ◌++◌, length, take, drop, cond, sym, ◌∙◌, ap, refl, subst, arith, inl, inr, length-append}
use Rattle.std.specs.Prelude.{slice_index_or, slice_index, All}
use Rattle.std.specs.List.{zip}
use Rattle.std.proofs.lemmas.Bool.{lt-ltb, le-ltb, cases_eq}
use Rattle.slotted_lists.proofs.Each.{Each, Each-append}
use Rattle.slotted_lists.proofs.Maps.{zip-keys_values}
use Rattle.slotted_theory.specs.Nameless.{place, extend, nameless_args}
use Rattle.slotted_theory.specs.Renaming.{IsInjective}
use Rattle.slotted_theory.proofs.Names.{extend-injective}
use Rattle.slotted_theory.proofs.Values.{node}
use Rattle.slotted_theory.specs.FiniteMaps.{with_values}
use Rattle.slotted_slots.specs.Maps.{keys, values}
use Rattle.slotted_nodes.specs.Form.{Form, Tree, leaf, own, child, bind, scopes, children, child_place, child_names, width}
use Rattle.slotted_nodes.specs.Joined.{at_append, child_fits}
use Rattle.slotted_languages.specs.NodeTerm.{own_names, node_args}
use Rattle.slotted_languages.proofs.NodeTerms.{own_fits, child_keys_fit, child_rest_fits, bind_inner_fits, bind_rest_fits}
use Rattle.slotted_model.specs.Applied.{Applied, renamed_id, in_places, as_term, EachChild}
use Rattle.slotted_classes.specs.ChildIds.{ids_in, child_ids}

-- as many ids as children
pub length-ids : (t : Tree) (xs : List ℕ) → length (ids_in t xs) ≡ length (children t)
length-ids leaf xs = refl
length-ids (own r) xs = length-ids r (drop 1 xs)
length-ids (child i ks r) xs = ap suc (length-ids r (drop (length ks) xs))
length-ids (bind u r) xs =
    let a = ids_in u (take (length (scopes u)) (drop 1 xs)) in
    let b = ids_in r (drop (length (scopes u)) (drop 1 xs)) in
    length-append a b ∙ ((λ i. length-ids u (take (length (scopes u)) (drop 1 xs)) i + length-ids r (drop (length (scopes u)) (drop 1 xs)) i) ∙ sym (length-append (children u) (children r)))

drop-next : {X : Type 0} (p : ℕ) (xs : List X) → drop (suc p) xs ≡ drop p (drop 1 xs)
drop-next zero [] = refl
drop-next (suc p) [] = refl
drop-next p (x ∷ xs) = refl

pub drop-plus : {X : Type 0} (m p : ℕ) (xs : List X) → drop (m + p) xs ≡ drop p (drop m xs)
drop-plus zero p xs = let e : 0 + p ≡ p = omega arith in ap (λ n. drop n xs) e
drop-plus (suc m) zero [] = let e : suc m + 0 ≡ suc m = omega arith in ap (λ n. drop n []) e
drop-plus (suc m) (suc p) [] = let e : suc m + suc p ≡ suc (m + suc p) = omega arith in ap (λ n. drop n []) e
drop-plus (suc m) p (x ∷ xs) = let e : suc m + p ≡ suc (m + p) = omega arith in ap (λ n. drop n (x ∷ xs)) e ∙ drop-plus m p xs

pub take-take : {X : Type 0} (w n : ℕ) (xs : List X) → w ≤ n → take w (take n xs) ≡ take w xs
take-take zero n xs l = refl
take-take (suc w) zero xs l = absurd (omega arith)
take-take (suc w) (suc n) [] l = refl
take-take (suc w) (suc n) (x ∷ xs) l = ap (λ r. x ∷ r) (take-take w n xs (omega arith))

take-within : {X : Type 0} (w p n : ℕ) (xs : List X) → p + w ≤ n → take w (drop p (take n xs)) ≡ take w (drop p xs)
take-within w zero n xs l = take-take w n xs (omega arith)
take-within w (suc p) zero xs l = absurd (omega arith)
take-within w (suc p) (suc n) [] l = refl
take-within w (suc p) (suc n) (x ∷ xs) l = take-within w p n xs (omega arith)

-- a child with the names from a place on
abbrev pub id_from : ℕ × List ℕ → ℕ → List ℕ → Applied
id_from c p xs = (c.0, zip c.1 (take (length c.1) (drop p xs)))

abbrev pub child_with_keys : Tree → ℕ → ℕ × List ℕ
child_with_keys t k = slice_index_or (children t) k (0, [])

-- the child k is the id with the names at its places
pub ids-at : (t : Tree) (xs : List ℕ) (k : ℕ) (d : Applied) → k < length (children t) → slice_index_or (ids_in t xs) k d ≡ id_from (child_with_keys t k) (child_place t k) xs
ids-at leaf xs k d l = absurd (omega arith)
ids-at (own r) xs k d l = ids-at r (drop 1 xs) k d l ∙ ap (λ ys. ((child_with_keys r k).0, zip (child_with_keys r k).1 (take (width r k) ys))) (sym (drop-next (child_place r k) xs))
ids-at (child i ks r) xs zero d l = refl
ids-at (child i ks r) xs (suc k) d l =
    ids-at r (drop (length ks) xs) k d (omega arith)
    ∙ ap (λ ys. ((child_with_keys r k).0, zip (child_with_keys r k).1 (take (width r k) ys))) (sym (drop-plus (length ks) (child_place r k) xs))
ids-at (bind u r) xs k d l =
    let n = length (scopes u) in
    let ys : List ℕ = drop 1 xs in
    let us : List Applied = ids_in u (take n ys) in
    let rs : List Applied = ids_in r (drop n ys) in
    elim (at_append (children u) (children r) (0, []) k) [
      | inl h ↦ elim (at_append us rs d k) [
        | inl g ↦
            let fits = child_fits u k h.0 in
            let e : take (width u k) (drop (child_place u k) (take n ys)) ≡ take (width u k) (drop (suc (child_place u k)) xs) =
            take-within (width u k) (child_place u k) n ys fits ∙ ap (take (width u k)) (sym (drop-next (child_place u k) xs)) in
            g.1 ∙ (ids-at u (take n ys) k d h.0
            ∙ (ap (λ (zs : List ℕ). ((child_with_keys u k).0, zip (child_with_keys u k).1 zs)) e
            ∙ (λ i. id_from (sym h.1 i) (cond (sym (lt-ltb k (length (children u)) h.0) i) (suc (child_place u k)) (suc (n + child_place r (k - length (children u))))) xs)))
        | inr g ↦ absurd (omega (arith, g.0, h.0, length-ids u (take n ys)))
      ]
      | inr h ↦ elim (at_append us rs d k) [
        | inl g ↦ absurd (omega (arith, g.0, h.0, length-ids u (take n ys)))
        | inr g ↦
            let j = k - length (children u) in
            let m : k - length us ≡ j = ap (λ (x : ℕ). k - x) (length-ids u (take n ys)) in
            let lt : j < length (children r) = omega (arith, l, h.0, length-append (children u) (children r)) in
            let e : drop (child_place r j) (drop n ys) ≡ drop (suc (n + child_place r j)) xs =
            sym (drop-plus n (child_place r j) ys) ∙ sym (drop-next (n + child_place r j) xs) in
            g.1 ∙ (ap (λ (x : ℕ). slice_index_or rs x d) m ∙ (ids-at r (drop n ys) j d lt
            ∙ (ap (λ (zs : List ℕ). ((child_with_keys r j).0, zip (child_with_keys r j).1 (take (width r j) zs))) e
            ∙ (λ i. id_from (sym h.1 i) (cond (sym (le-ltb k (length (children u)) h.0) i) (suc (child_place u k)) (suc (n + child_place r j))) xs))))
      ]
    ]

-- the same facts by a walk

keys-zip : (ρ : ℕ → ℕ) (ks vs : List ℕ) → length vs ≡ length ks → keys (with_values ρ (zip ks vs)) ≡ ks
keys-zip ρ [] vs n = refl
keys-zip ρ (k ∷ ks) [] n = absurd (omega (arith, n))
keys-zip ρ (k ∷ ks) (v ∷ vs) n = ap (λ l. k ∷ l) (keys-zip ρ ks vs (omega (arith, n)))

places-zip : (ρ : ℕ → ℕ) (ks vs : List ℕ) → length vs ≡ length ks → in_places (values (with_values ρ (zip ks vs))) ≡ nameless_args ρ (own_names vs)
places-zip ρ [] [] n = refl
places-zip ρ [] (v ∷ vs) n = absurd (omega (arith, n))
places-zip ρ (k ∷ ks) [] n = absurd (omega (arith, n))
places-zip ρ (k ∷ ks) (v ∷ vs) n = ap (place (ρ v)) (places-zip ρ ks vs (omega (arith, n)))

-- a child under binders that ρ numbers is the id with its names numbered
pub atom-is : (ρ : ℕ → ℕ) (i : ℕ) (ks vs : List ℕ) → length vs ≡ length ks → node 0 ((i ∷ ks) ∷ []) (nameless_args ρ (own_names vs)) ≡ as_term (renamed_id ρ (i, zip ks vs))
atom-is ρ i ks vs n = λ j. node 0 ((i ∷ sym (keys-zip ρ ks vs n) j) ∷ []) (sym (places-zip ρ ks vs n) j)

-- what every injective renaming keeps of each child, the children of the nameless form have
pub EachChild-node_args : (P : Applied → Type 0) → ((f : ℕ → ℕ) → IsInjective f → (a : Applied) → P a → P (renamed_id f a)) → (ρ : ℕ → ℕ) → IsInjective ρ → (t : Tree) (xs : List ℕ) → length xs ≡ length (scopes t) → Each P (ids_in t xs) → EachChild P (nameless_args ρ (node_args t xs))
EachChild-node_args P keep ρ inj leaf xs n h = tt
EachChild-node_args P keep ρ inj (own r) xs n h = EachChild-node_args P keep ρ inj r (drop 1 xs) (own_fits r xs n) h
EachChild-node_args P keep ρ inj (child i ks r) xs n h =
    let vs = take (length ks) xs in (
      (renamed_id ρ (i, zip ks vs), atom-is ρ i ks vs (child_keys_fit i ks r xs n), keep ρ inj (i, zip ks vs) h.0),
      EachChild-node_args P keep ρ inj r (drop (length ks) xs) (child_rest_fits i ks r xs n) h.1,
    )
EachChild-node_args P keep ρ inj (bind u r) xs n h =
    let m = length (scopes u) in
    let b = Each-append P (ids_in u (take m (drop 1 xs))) (ids_in r (drop m (drop 1 xs))) h in (
      EachChild-node_args P keep (extend (slice_index xs 0) ρ) (extend-injective (slice_index xs 0) ρ inj) u (take m (drop 1 xs)) (bind_inner_fits u r xs n) b.0,
      EachChild-node_args P keep ρ inj r (drop m (drop 1 xs)) (bind_rest_fits u r xs n) b.1,
    )

-- what is read of a child is the child
pub child_is : (f : Form) (k : ℕ) (d a : Applied) → k < length (children f.tree) → a.0 ≡ (child_with_keys f.tree k).0 → keys a.1 ≡ (child_with_keys f.tree k).1 → values a.1 ≡ child_names f k → a ≡ slice_index_or (child_ids f) k d
child_is f k d a l i ks vs =
    let m : a.1 ≡ zip (child_with_keys f.tree k).1 (child_names f k) = sym (zip-keys_values a.1) ∙ (λ j. zip (ks j) (vs j)) in
    (λ j. (i j, m j)) ∙ sym (ids-at f.tree f.names k d l)

-- one more child passes
pub child_next : (P : Applied → Type 0) (f : Form) (k : ℕ) (a : Applied) → k < length (children f.tree) → a.0 ≡ (child_with_keys f.tree k).0 → keys a.1 ≡ (child_with_keys f.tree k).1 → values a.1 ≡ child_names f k → P a → ((j : ℕ) (d : Applied) → j < k → P (slice_index_or (child_ids f) j d)) → (j : ℕ) (d : Applied) → j < k + 1 → P (slice_index_or (child_ids f) j d)
child_next P f k a l i ks vs p h j d m = elim (cases_eq j k) [
  | inl e ↦ subst (λ n. P (slice_index_or (child_ids f) n d)) (sym e) (subst P (child_is f k d a l i ks vs) p)
  | inr n ↦ h j d (omega (arith, n))
]
