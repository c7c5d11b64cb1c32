-- A node over ids that stand for terms stands for the node over these terms.
use Rattle.std.proofs.Common.{◌≡◌, ◌<◌, ◌≤◌, ℕ, zero, suc, ◌+◌, List, [], ◌∷◌, ◌++◌, length, take, drop, get_or, ◌∙◌, ap, refl, arith}
use Rattle.std.specs.Prelude.{slice_index}
use Rattle.std.specs.List.{zip}
use Rattle.slotted_lists.proofs.Each.{Each}
use Rattle.slotted_theory.specs.Term.{Term, term_size}
use Rattle.slotted_theory.specs.Nameless.{DTerm, place, scope, extend, nameless_args, nameless_by, nameless, moved}
use Rattle.slotted_theory.proofs.Laws.{moved-nameless}
use Rattle.slotted_theory.proofs.Values.{node, child_before, expand_args, expand}
use Rattle.slotted_nodes.specs.Form.{Form, Tree, leaf, own, child, bind, scopes, children}
use Rattle.slotted_languages.specs.Filled.{filled, children_smaller}
use Rattle.slotted_languages.specs.Filled as form
use denote.Param.Weighed.{most}
use Rattle.slotted_languages.specs.NodeTerm.{own_names, node_args}
use Rattle.slotted_languages.proofs.NodeTerms.{own_fits, child_keys_fit, child_rest_fits, bind_inner_fits, bind_rest_fits}
use Rattle.slotted_model.specs.Applied.{Applied, renamed_id}
use Rattle.slotted_model.specs.Classes.{terms, stands, term_by, term_of, IsFull, Canonical}
use Rattle.slotted_model.proofs.Represented.Children.{KeysAreNames, expand-as_term, term_by-renamed}
use Rattle.slotted_model.proofs.Represented.Full.{full-keys}
use Rattle.slotted_terms.specs.Valid.{IsWhole}
use Rattle.slotted_operations.specs.Nodes.{ids_in}
use Rattle.slotted_classes.proofs.ChildIds.{length-ids, atom-is}

module _ (ts : List DTerm) where
  -- the ids stand for the terms in turn
  abbrev pub Match : List Applied → List Term → Type 0
  Match [] [] = Unit {0}
  Match [] (u ∷ us) = ⊥
  Match (a ∷ ids) [] = ⊥
  Match (a ∷ ids) (u ∷ us) = KeysAreNames ts a × (term_by ts a ≡ nameless u) × Match ids us

  match-split : (ids bs : List Applied) (us : List Term) (n : ℕ) → length ids ≡ n → Match (ids ++ bs) us → Match ids (take n us) × Match bs (drop n us)
  match-split [] bs us zero e m = (tt, m)
  match-split [] bs us (suc n) e m = absurd (omega (arith, e))
  match-split (a ∷ ids) bs us zero e m = absurd (omega (arith, e))
  match-split (a ∷ ids) bs [] (suc n) e m = absurd m
  match-split (a ∷ ids) bs (u ∷ us) (suc n) e m = let r = match-split ids bs us n (omega (arith, e)) m.2 in ((m.0, m.1, r.0), r.1)

  -- an id under binders that ρ numbers stands for its term under these binders
  atom-stands : (ρ : ℕ → ℕ) (i : ℕ) (ks vs : List ℕ) (u : Term) → length vs ≡ length ks → KeysAreNames ts (i, zip ks vs) → term_by ts (i, zip ks vs) ≡ nameless u → expand (stands ts) (node 0 ((i ∷ ks) ∷ []) (nameless_args ρ (own_names vs))) ≡ nameless_by ρ u
  atom-stands ρ i ks vs u n k e =
      ap (expand (stands ts)) (atom-is ρ i ks vs n)
      ∙ (expand-as_term ts (renamed_id ρ (i, zip ks vs))
      ∙ (term_by-renamed ts ρ (i, zip ks vs) k ∙ (ap (moved ρ) e ∙ moved-nameless ρ u)))

  pub expand-filled : (ρ : ℕ → ℕ) (t : Tree) (xs : List ℕ) (us : List Term) → length xs ≡ length (scopes t) → Match (ids_in t xs) us → expand_args (stands ts) (nameless_args ρ (node_args t xs)) ≡ nameless_args ρ (filled t xs us)
  expand-filled ρ leaf xs [] n m = refl
  expand-filled ρ leaf xs (u ∷ us) n m = absurd m
  expand-filled ρ (own r) xs us n m = ap (place (ρ (slice_index xs 0))) (expand-filled ρ r (drop 1 xs) us (own_fits r xs n) m)
  expand-filled ρ (child i ks r) xs [] n m = absurd m
  expand-filled ρ (child i ks r) xs (u ∷ us) n m =
      let e = atom-stands ρ i ks (take (length ks) xs) u (child_keys_fit i ks r xs n) m.0 m.1 in
      λ j. child_before (e j) (expand-filled ρ r (drop (length ks) xs) us (child_rest_fits i ks r xs n) m.2 j)
  expand-filled ρ (bind u r) xs us n m =
      let s = length (scopes u) in
      let c = length (children u) in
      let q = match-split (ids_in u (take s (drop 1 xs))) (ids_in r (drop s (drop 1 xs))) us c (length-ids u (take s (drop 1 xs))) m in
      λ j. scope (expand-filled (extend (slice_index xs 0) ρ) u (take s (drop 1 xs)) (take c us) (bind_inner_fits u r xs n) q.0 j)
      (expand-filled ρ r (drop s (drop 1 xs)) (drop c us) (bind_rest_fits u r xs n) q.1 j)

-- ids that stand for terms, by their places
pub match-from : (nodes : List DTerm) → Canonical nodes → (ids : List Applied) (us : List Term) → length ids ≡ length us → ((j : ℕ) (d : Applied) (e : Term) → j < length us → IsFull nodes (get_or ids j d) × (term_of nodes (get_or ids j d) ≡ nameless (get_or us j e))) → Match (terms nodes) ids us
match-from nodes can [] [] n h = tt
match-from nodes can [] (u ∷ us) n h = absurd (omega (arith, n))
match-from nodes can (a ∷ ids) [] n h = absurd (omega (arith, n))
match-from nodes can (a ∷ ids) (u ∷ us) n h =
    let p = h 0 a u (omega arith) in
    (full-keys nodes can a p.0, p.1, match-from nodes can ids us (omega (arith, n)) (λ j d e l. h (suc j) d e (omega arith)))

-- a term without holes has the right number of children at its node, and they have no holes

pub length-parts : {X : Type 0} (n : ℕ) (xs : List X) → length (take n xs) + length (drop n xs) ≡ length xs
length-parts zero xs = omega arith
length-parts (suc n) [] = omega arith
length-parts (suc n) (x ∷ xs) = omega (arith, length-parts n xs)

pub Each-parts : {X : Type 0} (P : X → Type 0) (n : ℕ) (xs : List X) → Each P (take n xs) → Each P (drop n xs) → Each P xs
Each-parts P zero xs a b = b
Each-parts P (suc n) [] a b = tt
Each-parts P (suc n) (x ∷ xs) a b = (a.0, Each-parts P n xs a.1 b)

pub whole_each : (t : Tree) (xs : List ℕ) (us : List Term) → IsWhole (filled t xs us) → Each (λ (u : Term). IsWhole u.args) us
whole_each leaf xs [] w = tt
whole_each leaf xs (u ∷ us) w = absurd (omega (arith, w.0))
whole_each (own r) xs us w = whole_each r (drop 1 xs) us w
whole_each (child i ks r) xs [] w = tt
whole_each (child i ks r) xs (u ∷ us) w = (w.1, whole_each r (drop (length ks) xs) us w.2)
whole_each (bind u r) xs us w =
    let s = length (scopes u) in
    let c = length (children u) in
    Each-parts (λ (z : Term). IsWhole z.args) c us (whole_each u (take s (drop 1 xs)) (take c us) w.0) (whole_each r (drop s (drop 1 xs)) (drop c us) w.1)

pub each_at : {X : Type 0} (P : X → Type 0) (xs : List X) (k : ℕ) (d : X) → k < length xs → Each P xs → P (get_or xs k d)
each_at P [] k d l h = absurd (omega arith)
each_at P (x ∷ xs) zero d l h = h.0
each_at P (x ∷ xs) (suc k) d l h = each_at P xs k d (omega arith) h.1

most_at : (us : List Term) (k : ℕ) (d : Term) → k < length us → term_size (get_or us k d) + 1 ≤ most (λ (u : Term). term_size u + 1) us
most_at [] k d l = absurd (omega arith)
most_at (u ∷ us) zero d l = omega arith
most_at (u ∷ us) (suc k) d l = omega (arith, most_at us k d (omega arith))

-- a child is smaller than the term
pub child_smaller : (f : Form) (us : List Term) (k : ℕ) (d : Term) → k < length us → term_size (get_or us k d) < term_size (form.term_of f us)
child_smaller f us k d l = omega (arith, most_at us k d l, children_smaller f us)
