-- What is left of a node without its names and its children, as names are moved, and as children are counted.
use Rattle.std.proofs.Common.{◌≡◌, ℕ, suc, ◌+◌, List, length, sym, ◌∙◌, ap, refl, drop, take}
use Rattle.std.specs.Prelude.{slice_index}
use Rattle.std.proofs.lemmas.List.{length-append}
use Rattle.slotted_theory.specs.Nameless.{DArgs, DTerm, stop, place, sub, scope, extend, lift, moved, moved_args, nameless_args}
use Rattle.slotted_theory.specs.Renaming.{IsInjective}
use Rattle.slotted_theory.specs.Shape.{shape, number_in, free_names}
use Rattle.slotted_theory.proofs.Shapes.{number_in-injective}
use Rattle.slotted_nodes.specs.Form.{Form, Tree, leaf, own, child, bind, scopes, children}
use Rattle.slotted_languages.specs.NodeTerm.{node_args, nameless_node}
use Rattle.slotted_model.specs.Cost.{child_count, null_children}
use Rattle.slotted_model.proofs.LeastTerms.Costs.{alike-moved}
use Rattle.slotted_outlines.specs.BareNodes.{bare, bare_node}

pub bare-moved : (f : ℕ → ℕ) → IsInjective f → (d : DTerm) → bare (moved f d) ≡ bare d
bare-moved f inj d = alike-moved f inj d

pub bare-shape : (d : DTerm) → bare (shape d) ≡ bare d
bare-shape d = bare-moved (number_in (free_names d.args)) (number_in-injective (free_names d.args)) d

pub count-moved : (f : ℕ → ℕ) (d : DArgs) → child_count (moved_args f d) ≡ child_count d
count-moved f stop = refl
count-moved f (place x rest) = count-moved f rest
count-moved f (sub op payloads args rest) = ap suc (count-moved f rest)
count-moved f (scope inner rest) = λ i. count-moved (lift f) inner i + count-moved f rest i

count-null : (d : DArgs) → child_count (null_children d) ≡ child_count d
count-null stop = refl
count-null (place x rest) = count-null rest
count-null (sub op payloads args rest) = ap suc (count-null rest)
count-null (scope inner rest) = λ i. count-null inner i + count-null rest i

-- as many children are left
pub count-bare : (d : DTerm) → child_count (bare d).args ≡ child_count d.args
count-bare d = count-moved (number_in (free_names (null_children d.args))) (null_children d.args) ∙ count-null d.args

count-tree : (ρ : ℕ → ℕ) (t : Tree) (xs : List ℕ) → child_count (nameless_args ρ (node_args t xs)) ≡ length (children t)
count-tree ρ leaf xs = refl
count-tree ρ (own r) xs = count-tree ρ r (drop 1 xs)
count-tree ρ (child i ks r) xs = ap suc (count-tree ρ r (drop (length ks) xs))
count-tree ρ (bind u r) xs =
    (λ i. count-tree (extend (slice_index xs 0) ρ) u (take (length (scopes u)) (drop 1 xs)) i + count-tree ρ r (drop (length (scopes u)) (drop 1 xs)) i)
    ∙ sym (length-append (children u) (children r))

-- a node has as many as its form
pub count-node : (f : Form) → child_count (nameless_node f).args ≡ length (children f.tree)
count-node f = count-tree (λ x. x) f.tree f.names

-- and so has each that is alike to it
pub count-alike : (d : DTerm) (f : Form) → bare d ≡ bare_node f → child_count d.args ≡ length (children f.tree)
count-alike d f h = sym (count-bare d) ∙ (ap (λ (e : DTerm). child_count e.args) h ∙ (count-bare (nameless_node f) ∙ count-node f))
