-- Where comparing two nodes runs out of slots, one of them is wide.
use Rattle.std.proofs.Common.{◌≡◌, ◌≤◌, ◌+◌, ◌^◌, ℕ, List, [], ◌∷◌, length, take, drop, sym, ◌∙◌, ap, refl, subst, arith, inl, inr, length-append, length-drop}
use Rattle.std.specs.Prelude.{◌⊎◌, Contains, min, slice_index}
use Rattle.std.specs.List.{zip}
use Rattle.std.proofs.lemmas.Bool.{cases_lt}
use Rattle.std.proofs.lemmas.List.{length-take}
use Rattle.std.proofs.lemmas.List.Elements.{Contains-append_cases}
use Rattle.std.proofs.lemmas.Slice.Zip.{length-zip}
use Rattle.slotted_lists.proofs.Contained.{contains_cases, Contains-nil}
use Rattle.slotted_lists.proofs.Maps.{length-with_values, length-values}
use Rattle.slotted_theory.specs.Nameless.{DArgs, stop, place, sub, scope, extend, lift, moved_args, nameless_args}
use Rattle.slotted_slots.specs.Maps.{values}
use Rattle.slotted_nodes.specs.Form.{Form, Tree, leaf, own, child, bind, scopes, child_names, child_place, width}
use Rattle.slotted_languages.specs.NodeTerm.{node_args, nameless_node}
use Rattle.slotted_languages.specs.Outline.{outlined}
use Rattle.slotted_languages.specs.Shape.{Fits}
use Rattle.slotted_languages.specs.Sizes.{args_size, node_size}
use Rattle.slotted_languages.proofs.NodeSizes.{names_fit_size}
use Rattle.slotted_model.specs.Applied.{applied_of, own_names}
use Rattle.slotted_proofs.specs.declared.equation.Equation.{Equation as Sides}
use Rattle.slotted_proofs.specs.AlikeNodes.{AreAlikeArgs}
use Rattle.slotted_proofs.specs.Equations.{to_applied}
use Rattle.slotted_proofs.specs.Steps.{IsLarge, Matches, name_count}
use Rattle.slotted_outlines.specs.Seen as seen
use Rattle.slotted_alike.specs.Frames.{AreAlikeForms}

length-taken : (n p : ℕ) (xs : List ℕ) → length (take n (drop p xs)) ≤ length xs
length-taken n p xs = omega (arith, length-take n (drop p xs), length-drop p xs)

-- the names of a child are among those of the node
pub child_fits_size : (f : Form) → Fits f → (k : ℕ) (m : List (ℕ × ℕ)) → values m ≡ child_names f k → length m ≤ node_size (nameless_node f)
child_fits_size f fits k m is =
    let n : length m ≡ length (child_names f k) = sym (length-values m) ∙ ap length is in
    omega (arith, n, length-taken (width f.tree k) (child_place f.tree k) f.names, names_fit_size f fits)

-- and the places of the outline
outline_in : (ρ : ℕ → ℕ) (t : Tree) (xs : List ℕ) → length (scopes (outlined t)) ≤ args_size (nameless_args ρ (node_args t xs))
outline_in ρ leaf xs = omega arith
outline_in ρ (own r) xs = omega (arith, outline_in ρ r (drop 1 xs))
outline_in ρ (child i ks r) xs = omega (arith, outline_in ρ r (drop (length ks) xs))
outline_in ρ (bind u r) xs =
    let m = length (scopes u) in
    omega (arith, length-append (scopes (outlined u)) (scopes (outlined r)), outline_in (extend (slice_index xs 0) ρ) u (take m (drop 1 xs)), outline_in ρ r (drop m (drop 1 xs)))

pub outline_fits_size : (f : Form) → seen.place_count f ≤ node_size (nameless_node f)
outline_fits_size f = outline_in (λ x. x) f.tree f.names

-- names that are put in change no size
pub size-moved : (f : ℕ → ℕ) (d : DArgs) → args_size (moved_args f d) ≡ args_size d
size-moved f stop = refl
size-moved f (place x rest) = ap (λ n. 1 + n) (size-moved f rest)
size-moved f (sub op payloads args rest) = λ i. 1 + size-moved f args i + size-moved f rest i
size-moved f (scope inner rest) = λ i. 1 + size-moved (lift f) inner i + size-moved f rest i

-- the equation of two children has no more names than their nodes

own_fit : (d : DArgs) → length (own_names d) ≤ args_size d
own_fit stop = omega arith
own_fit (place x rest) = omega (arith, own_fit rest)
own_fit (sub op payloads args rest) = omega arith
own_fit (scope inner rest) = omega arith

applied_fits : (p : List (List ℕ)) (d : DArgs) → length (applied_of p d).1 ≤ args_size d
applied_fits [] d = omega arith
applied_fits ([] ∷ more) d = omega arith
applied_fits ((i ∷ ks) ∷ more) d =
    let n : length (zip ks (own_names d)) ≡ min (length ks) (length (own_names d)) = length-zip ks (own_names d) in
    omega (arith, n, own_fit d)

matched_fits : (p r : List (List ℕ)) (a b : DArgs) (c : Sides) → Matches (applied_of p a) (applied_of r b) (to_applied c.l) (to_applied c.r) → name_count c ≤ args_size a + args_size b
matched_fits p r a b c m =
    let l : length c.l.m ≡ length (applied_of p a).1 = ap length m.names.left ∙ length-with_values m.names.name (applied_of p a).1 in
    let q : length c.r.m ≡ length (applied_of r b).1 = ap length m.names.right ∙ length-with_values m.names.name (applied_of r b).1 in
    omega (arith, l, q, applied_fits p a, applied_fits r b)

child_fits : (d e : DArgs) (cs : List Sides) → AreAlikeArgs d e cs → (c : Sides) → Contains cs c → name_count c ≤ args_size d + args_size e
child_fits stop stop [] h c there = absurd (Contains-nil c there)
child_fits (place x d) (place y e) cs h c there = omega (arith, child_fits d e cs h.1 c there)
child_fits (sub o p a d) (sub q r b e) (b' ∷ cs) h c there = elim (contains_cases b' cs c there) [
  | inl here ↦ omega (arith, matched_fits p r a b c (subst (λ (z : Sides). Matches (applied_of p a) (applied_of r b) (to_applied z.l) (to_applied z.r)) (sym here) h.0))
  | inr further ↦ omega (arith, child_fits d e cs h.1 c further)
]
child_fits (scope i d) (scope j e) cs h c there =
    elim (Contains-append_cases h.0 h.1 c (subst (λ (ds : List Sides). Contains ds c) h.2 there)) [
      | inl inner ↦ omega (arith, child_fits i j h.0 h.3 c inner)
      | inr rest ↦ omega (arith, child_fits d e h.1 h.4 c rest)
    ]
child_fits d e cs h c there = absurd h

pub one_is_wide : (m n : ℕ) → 2 ^ 30 ≤ m + n → (2 ^ 29 ≤ m) ⊎ (2 ^ 29 ≤ n)
one_is_wide m n h = elim (cases_lt m (2 ^ 29)) [
  | inl small ↦ inr (omega arith)
  | inr large ↦ inl large
]

-- so where an equation is too large, a node is wide
pub large_child : (f g : Form) (cs : List Sides) → AreAlikeForms f g cs → IsLarge cs → (2 ^ 29 ≤ node_size (nameless_node f)) ⊎ (2 ^ 29 ≤ node_size (nameless_node g))
large_child f g cs alike large =
    let fits : name_count large.child ≤ node_size (nameless_node f) + node_size (nameless_node g) = child_fits (nameless_node f).args (nameless_node g).args cs alike.args large.child large.among in
    one_is_wide (node_size (nameless_node f)) (node_size (nameless_node g)) (omega (arith, fits, large.large))
