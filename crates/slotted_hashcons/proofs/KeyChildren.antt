-- The child classes of a key are those that the code reads.
use Rattle.std.proofs.Common.{◌≡◌, ◌∙◌, ◌<◌, ℕ, suc, List, [], ◌∷◌, ◌++◌, length, map, take, drop, ap, sym, refl, subst, inl, inr, arith}
use Rattle.std.specs.Prelude.{Contains, slice_index_or, slice_index}
use Rattle.std.proofs.lemmas.List.{map-append}
use Rattle.std.proofs.lemmas.List.Elements.{Contains-get_or}
use Rattle.slotted_lists.proofs.Contained.{contains_cases, Contains-nil, Contains-map, Contains-of_map}
use Rattle.slotted_theory.specs.Nameless.{extend, nameless_args}
use Rattle.slotted_nodes.specs.Form.{Form, Tree, leaf, own, child, bind, scopes, children, child_id}
use Rattle.slotted_languages.specs.NodeTerm.{node_args}
use Rattle.slotted_model.specs.State.{child_classes}
use Rattle.slotted_hashcons.specs.FiledRows.{key_children}

abbrev ids : Tree → List ℕ
ids t = map (λ (c : ℕ × List ℕ). c.0) (children t)

classes-in_tree : (ρ : ℕ → ℕ) (t : Tree) (xs : List ℕ) → child_classes (nameless_args ρ (node_args t xs)) ≡ ids t
classes-in_tree ρ leaf xs = refl
classes-in_tree ρ (own r) xs = classes-in_tree ρ r (drop 1 xs)
classes-in_tree ρ (child i ks r) xs = ap (λ l. i ∷ l) (classes-in_tree ρ r (drop (length ks) xs))
classes-in_tree ρ (bind u r) xs =
    let n = length (scopes u) in
    (λ k. classes-in_tree (extend (slice_index xs 0) ρ) u (take n (drop 1 xs)) k ++ classes-in_tree ρ r (drop n (drop 1 xs)) k)
    ∙ sym (map-append (λ (c : ℕ × List ℕ). c.0) (children u) (children r))

pub key_children-read : (f : Form) → key_children f ≡ map (λ (c : ℕ × List ℕ). c.0) (children f.tree)
key_children-read f = classes-in_tree (λ x. x) f.tree f.names

-- the class of a child that is read
pub child-there : (f : Form) (k : ℕ) → k < length (children f.tree) → Contains (key_children f) (child_id f k)
child-there f k w =
    subst (λ l. Contains l (child_id f k)) (sym (key_children-read f))
    (Contains-map (λ (c : ℕ × List ℕ). c.0) (children f.tree) (slice_index_or (children f.tree) k (0, [])) (Contains-get_or (children f.tree) k (0, []) w))

pub place-contains : {X : Type 0} (xs : List X) (x d : X) → Contains xs x → (k : ℕ) × (k < length xs) × (slice_index_or xs k d ≡ x)
place-contains [] x d c = absurd (Contains-nil x c)
place-contains (y ∷ xs) x d c = elim (contains_cases y xs x c) [
  | inl e ↦ (0, omega arith, sym e)
  | inr h ↦ let r = place-contains xs x d h in let w = r.1 in (suc r.0, omega (arith, w), r.2)
]

-- each child class is read
pub child-read : (f : Form) (c : ℕ) → Contains (key_children f) c → (k : ℕ) × (k < length (children f.tree)) × (child_id f k ≡ c)
child-read f c h =
    let r = Contains-of_map (λ (c : ℕ × List ℕ). c.0) (children f.tree) c (subst (λ l. Contains l c) (key_children-read f) h) in
    let p = place-contains (children f.tree) r.0 (0, []) r.1 in
    (p.0, p.1, ap (λ (c : ℕ × List ℕ). c.0) p.2 ∙ r.2)
