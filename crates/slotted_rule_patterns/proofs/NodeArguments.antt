-- The arguments of a node with names: without bound names they are those of the nameless node, their ids are its children, and each name of a binder
-- stands at one.
use Rattle.std.proofs.Common.{◌≡◌, ℕ, suc, ◌+◌, ◌<◌, List, ◌∷◌, ◌++◌, length, take, drop, sym, ◌∙◌, ap, refl, subst, inl, inr, arith, slice_index, length-drop, length-take}
use Rattle.std.specs.Prelude.{Contains, Option, Some, None, IsSome, map, slice_index_or}
use Rattle.std.specs.List.{zip}
use Rattle.std.proofs.lemmas.List.{get_or-take, get_or-drop, get_or_append_left, get_or-append-add, length-map}
use Rattle.slotted_lists.proofs.Members.{In, In-append, In-Contains}
use Rattle.slotted_lists.proofs.Lists.{drop-drop_one}
use Rattle.slotted_theory.specs.Nameless.{place, scope, extend, nameless_args}
use Rattle.slotted_theory.proofs.Values.{child_before}
use Rattle.slotted_nodes.specs.Form.{Form, Tree, leaf, own, child, bind, scopes, end_at}
use Rattle.slotted_languages.specs.NodeTerm.{node_args, nameless_node}
use Rattle.slotted_languages.specs.Shape.{Fits}
use Rattle.slotted_languages.specs.Children.{IsBound}
use Rattle.slotted_languages.proofs.NodeTerms.{own_fits, child_keys_fit, child_rest_fits, bind_inner_fits, bind_rest_fits}
use Rattle.slotted_classes.specs.ChildIds.{ids_in, child_ids}
use Rattle.slotted_classes.proofs.ChildIds.{atom-is}
use Rattle.slotted_model_rules.specs.Matcher.{unnamed, bound_names}
use Rattle.slotted_model_rules.specs.ReplacedIds.{ids_of}
use Rattle.slotted_rule_patterns.specs.NodeArguments.{args_of, node_arguments, HasBinder}

-- where ρ numbers the names outside
pub unnamed-args : (ρ : ℕ → ℕ) (u : Tree) (xs : List ℕ) → length xs ≡ length (scopes u) → unnamed ρ (args_of u xs) ≡ nameless_args ρ (node_args u xs)
unnamed-args ρ leaf xs n = refl
unnamed-args ρ (own r) xs n = ap (place (ρ (slice_index xs 0))) (unnamed-args ρ r (drop 1 xs) (own_fits r xs n))
unnamed-args ρ (child i ks r) xs n =
    λ j. child_before (sym (atom-is ρ i ks (take (length ks) xs) (child_keys_fit i ks r xs n)) j)
    (unnamed-args ρ r (drop (length ks) xs) (child_rest_fits i ks r xs n) j)
unnamed-args ρ (bind u r) xs n =
    let m = length (scopes u) in
    λ j. scope (unnamed-args (extend (slice_index xs 0) ρ) u (take m (drop 1 xs)) (bind_inner_fits u r xs n) j)
    (unnamed-args ρ r (drop m (drop 1 xs)) (bind_rest_fits u r xs n) j)

-- so they are those of the nameless node
pub unnamed-node : (f : Form) → Fits f → unnamed (λ y. y) (node_arguments f) ≡ (nameless_node f).args
unnamed-node f fits = unnamed-args (λ y. y) f.tree f.names fits

pub ids-args : (u : Tree) (xs : List ℕ) → ids_of (args_of u xs) ≡ ids_in u xs
ids-args leaf xs = refl
ids-args (own r) xs = ids-args r (drop 1 xs)
ids-args (child i ks r) xs = ap (λ l. (i, zip ks (take (length ks) xs)) ∷ l) (ids-args r (drop (length ks) xs))
ids-args (bind u r) xs =
    let m = length (scopes u) in
    λ j. ids-args u (take m (drop 1 xs)) j ++ ids-args r (drop m (drop 1 xs)) j

pub ids-node : (f : Form) → ids_of (node_arguments f) ≡ child_ids f
ids-node f = ids-args f.tree f.names

-- a binder n places on
later : (u v : Tree) (xs : List ℕ) (n : ℕ) (y : ℕ) → ((j : ℕ) → slice_index_or (scopes v) (n + j) None ≡ slice_index_or (scopes u) j None) → HasBinder u (drop n xs) y → HasBinder v xs y
later u v xs n y same b = record {
  place = n + b.place;
  within = omega (arith, b.within, length-drop n xs);
  binder = subst IsSome (sym (same b.place)) b.binder;
  named = sym (get_or-drop n xs b.place 0) ∙ b.named;
}

-- a list after one more, and after more
after_one : (o : Option ℕ) (rest : List (Option ℕ)) (j : ℕ) → slice_index_or (o ∷ rest) (1 + j) None ≡ slice_index_or rest j None
after_one o rest j = ap (λ n. slice_index_or (o ∷ rest) n None) (one-more j)
  where
    one-more : (j : ℕ) → 1 + j ≡ suc j
    one-more j = omega arith

after_more : (o : Option ℕ) (us rest : List (Option ℕ)) (j : ℕ) → slice_index_or (o ∷ (us ++ rest)) (suc (length us) + j) None ≡ slice_index_or rest j None
after_more o us rest j = ap (λ n. slice_index_or (o ∷ (us ++ rest)) n None) (more (length us) j) ∙ get_or-append-add us rest j None
  where
    more : (m j : ℕ) → suc m + j ≡ suc (m + j)
    more m j = omega arith

none-named : (ks : List ℕ) (rest : List (Option ℕ)) (j : ℕ) → slice_index_or (map (λ _. None) ks ++ rest) (length ks + j) None ≡ slice_index_or rest j None
none-named ks rest j =
    ap (λ n. slice_index_or (map {B = Option ℕ} (λ _. None) ks ++ rest) (n + j) None) (sym (length-map {B = Option ℕ} ks (λ _. None)))
    ∙ get_or-append-add (map (λ _. None) ks) rest j None

-- a binder of what stands under the first one
inside : (u r : Tree) (xs : List ℕ) (y : ℕ) → length (take (length (scopes u)) (drop 1 xs)) ≡ length (scopes u) → HasBinder u (take (length (scopes u)) (drop 1 xs)) y → HasBinder (bind u r) xs y
inside u r xs y fits b =
    let m = length (scopes u) in
    let l : b.place < m = omega (arith, b.within, fits) in
    record {
      place = 1 + b.place;
      within = omega (arith, l, fits, length-take m (drop 1 xs), length-drop 1 xs);
      binder = subst IsSome (sym (after_one (Some m) (scopes u ++ scopes r) b.place ∙ get_or_append_left (scopes u) (scopes r) None b.place l)) b.binder;
      named = sym (get_or-drop 1 xs b.place 0) ∙ (sym (get_or-take m (drop 1 xs) b.place 0 l) ∙ b.named);
    }

bound : (u : Tree) (xs : List ℕ) (y : ℕ) → length xs ≡ length (scopes u) → In y (bound_names (args_of u xs)) → HasBinder u xs y
bound leaf xs y n h = absurd h
bound (own r) xs y n h = later r (own r) xs 1 y (λ j. after_one None (scopes r) j) (bound r (drop 1 xs) y (own_fits r xs n) h)
bound (child i ks r) xs y n h =
    later r (child i ks r) xs (length ks) y (λ j. none-named ks (scopes r) j) (bound r (drop (length ks) xs) y (child_rest_fits i ks r xs n) h)
bound (bind u r) xs y n (inl e) = record { place = 0; within = omega (arith, n); binder = refl; named = sym e }
bound (bind u r) xs y n (inr h) =
    let m = length (scopes u) in
    elim (In-append y (bound_names (args_of u (take m (drop 1 xs)))) (bound_names (args_of r (drop m (drop 1 xs)))) h) [
      | inl k ↦ inside u r xs y (bind_inner_fits u r xs n) (bound u (take m (drop 1 xs)) y (bind_inner_fits u r xs n) k)
      | inr k ↦
          let b = bound r (drop m (drop 1 xs)) y (bind_rest_fits u r xs n) k in
          later r (bind u r) xs (suc m) y (λ j. after_more (Some m) (scopes u) (scopes r) j) (subst (λ zs. HasBinder r zs y) (drop-drop_one m xs) b)
    ]

pub some_end : (i : ℕ) (o : Option ℕ) → IsSome o → IsSome (end_at i o)
some_end i None h = h
some_end i (Some n) h = refl

-- each bound name is that of a binder
pub bound-name : (f : Form) (y : ℕ) → Fits f → Contains (bound_names (node_arguments f)) y → IsBound f y
bound-name f y fits c =
    let b = bound f.tree f.names y fits (In-Contains (bound_names (node_arguments f)) y c) in
    record { place = b.place; within = b.within; binder = some_end b.place (slice_index_or (scopes f.tree) b.place None) b.binder; named = b.named }
