-- How many names, binders and children stand in a node: its names and binders are among them.
use Rattle.std.proofs.Common.{◌≡◌, ◌≤◌, ℕ, List, [], ◌∷◌, length, take, drop, refl, arith, length-append}
use Rattle.std.specs.Prelude.{slice_index}
use Rattle.slotted_theory.specs.Nameless.{extend, nameless_args}
use Rattle.slotted_nodes.specs.Form.{Form, Tree, leaf, own, child, bind, scopes}
use Rattle.slotted_languages.specs.NodeTerm.{node_args, nameless_node}
use Rattle.slotted_languages.specs.NodeTerm as node
use Rattle.slotted_languages.specs.Shape.{Fits}
use Rattle.slotted_languages.specs.Sizes.{args_size, node_size}
use Rattle.slotted_languages.proofs.NodeTerms.{own_fits, length-child, child_keys_fit, child_rest_fits, bind_inner_fits, bind_rest_fits}

pub names_in : (ρ : ℕ → ℕ) (xs : List ℕ) → args_size (nameless_args ρ (node.own_names xs)) ≡ length xs
names_in ρ [] = refl
names_in ρ (x ∷ xs) = omega (arith, names_in ρ xs)

places_in : (ρ : ℕ → ℕ) (t : Tree) (xs : List ℕ) → length xs ≡ length (scopes t) → length xs ≤ args_size (nameless_args ρ (node_args t xs))
places_in ρ leaf xs n = omega (arith, n)
places_in ρ (own r) xs n = omega (arith, n, own_fits r xs n, places_in ρ r (drop 1 xs) (own_fits r xs n))
places_in ρ (child i ks r) xs n =
    omega (arith, n, length-child i ks r, names_in ρ (take (length ks) xs), child_keys_fit i ks r xs n, child_rest_fits i ks r xs n, places_in ρ r (drop (length ks) xs) (child_rest_fits i ks r xs n))
places_in ρ (bind u r) xs n =
    let m = length (scopes u) in
    omega (arith, n, length-append (scopes u) (scopes r), bind_inner_fits u r xs n, bind_rest_fits u r xs n, places_in (extend (slice_index xs 0) ρ) u (take m (drop 1 xs)) (bind_inner_fits u r xs n), places_in ρ r (drop m (drop 1 xs)) (bind_rest_fits u r xs n))

pub names_fit_size : (f : Form) → Fits f → length f.names ≤ node_size (nameless_node f)
names_fit_size f fits = places_in (λ x. x) f.tree f.names fits
