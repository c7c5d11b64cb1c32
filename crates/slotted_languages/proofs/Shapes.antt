-- Shapes: the node is alpha-equal to its shape with the names put back, and shapes are equal exactly for nodes that
-- differ by a bijection of names.
use Rattle.std.proofs.Common.{◌≡◌, ◌≢◌, ◌↔◌, ℕ, suc, List, [], ◌∷◌, sym, ◌∙◌, ap, refl, arith}
use Rattle.std.specs.Prelude.{cond, nat_eq}
use Rattle.std.proofs.lemmas.Bool.{eq-eqb, ne_eqb}
use Rattle.slotted_theory.specs.Nameless.{DTerm, nameless_args, moved_args, moved}
use Rattle.slotted_theory.specs.Renaming.{IsInjective}
use Rattle.slotted_theory.specs.FiniteMaps.{top, filled, IsInjectiveMap, with_values}
use Rattle.slotted_languages.proofs.FilledFrom.{filled_from, filled-walked}
use Rattle.slotted_theory.specs.Shape.{SameUpToNames}
use Rattle.slotted_theory.specs.Shape as theory
use Rattle.slotted_theory.proofs.Laws.{moved-nameless_args}
use Rattle.slotted_theory.proofs.Filled.{filled-injective}
use Rattle.slotted_theory.proofs.Bijections.{to-injective}
use Rattle.slotted_theory.proofs.Shapes.{shape-moved, shape_iff}
use Rattle.slotted_slots.specs.Maps.{keys, values}
use Rattle.slotted_slots.specs.Ascending.{AllAbove, IsAscending}
use Rattle.slotted_nodes.specs.Equal.{form_ext}
use Rattle.slotted_nodes.specs.Form.{Form}
use Rattle.slotted_languages.specs.NodeTerm.{node_args, nameless_node, free_names_of}
use Rattle.slotted_languages.specs.Shape.{numbered, no_numbers, names_in, shape, firsts, Fits, ShapesMove}
use Rattle.slotted_languages.proofs.Numbered.{Knows, numbered-back}
use Rattle.slotted_languages.proofs.MovedNumbers.{numbered-moved}
use Rattle.slotted_languages.proofs.FreeNumbers.{AreDifferent, values-numbered, firsts-different, different-injective, Rising, Rising-numbered}
use Rattle.slotted_languages.proofs.NodeTerms.{tree_of, tree_of-node, tree_of-moved, node_args-numbers}

pub nameless_shape : (f : Form) → Fits f → (g : ℕ → ℕ) → Knows g (λ x. x) (shape f).1 → moved g (nameless_node (shape f).0) ≡ nameless_node f
nameless_shape f h g k =
    let d = (nameless_node f).args in
    let a = (numbered [] no_numbers d).0 in
    let e : node_args f.tree (names_in a) ≡ a = node_args-numbers [] no_numbers (λ x. x) f.tree f.names h in
    let p : moved_args g (nameless_args (λ x. x) (node_args f.tree (names_in a))) ≡ d =
    ap (λ b. moved_args g (nameless_args (λ x. x) b)) e ∙ (moved-nameless_args g (λ x. x) a ∙ numbered-back g d k) in
    λ i. record { op = suc f.operator; payloads = f.payloads; args = p i }

-- a map with rising keys gives each key its value
Knows-other : (q : ℕ × ℕ) (g : ℕ → ℕ) (m : List (ℕ × ℕ)) → AllAbove q.0 (keys m) → Knows g (λ x. x) m → Knows (λ x. cond (nat_eq x q.0) q.1 (g x)) (λ x. x) m
Knows-other q g [] a k = tt
Knows-other q g (p ∷ m) a k =
    let n : p.0 ≢ q.0 = omega (arith, a.0) in
    (ap (λ b. cond b q.1 (g p.0)) (ne_eqb p.0 q.0 n) ∙ k.0, Knows-other q g m a.1 k.1)

filled_from-knows : (t : ℕ) (m : List (ℕ × ℕ)) → IsAscending (keys m) → Knows (filled_from t m) (λ x. x) m
filled_from-knows t [] a = tt
filled_from-knows t (p ∷ m) a =
    (ap (λ b. cond b p.1 (filled_from t m p.0)) (eq-eqb p.0 p.0 refl), Knows-other p (filled_from t m) m a.0 (filled_from-knows t m a.1))

pub keys-shape : (f : Form) → IsAscending (keys (shape f).1)
keys-shape f =
    let r : Rising (numbered [] no_numbers (nameless_node f).args).1 = Rising-numbered [] no_numbers (nameless_node f).args (record { below = tt; rise = tt }) in
    r.rise

pub values-shape : (f : Form) → values (shape f).1 ≡ firsts (free_names_of f)
values-shape f = values-numbered [] no_numbers (nameless_node f).args

pub injective-shape : (f : Form) → IsInjectiveMap (shape f).1
injective-shape f =
    let d : AreDifferent (values (shape f).1) = rw (values-shape f) (firsts-different (free_names_of f)) in
    different-injective (shape f).1 d

-- the shape renamed by its map is the node, up to bound names
pub shape-renamed : (f : Form) → Fits f → moved (filled (shape f).1) (nameless_node (shape f).0) ≡ nameless_node f
shape-renamed f h =
    let m = (shape f).1 in
    ap (λ (g : ℕ → ℕ). moved g (nameless_node (shape f).0)) (filled-walked m)
    ∙ nameless_shape f h (filled_from (top m) m) (filled_from-knows (top m) m (keys-shape f))

-- renaming a node by an injective function leaves its shape, and moves the names of the map
pub shape-same : (π : ℕ → ℕ) → IsInjective π → (f g : Form) → moved π (nameless_node f) ≡ nameless_node g → ((shape f).0 ≡ (shape g).0) × ((shape g).1 ≡ with_values π (shape f).1)
shape-same π inj f g e =
    let d = (nameless_node f).args in
    let n : numbered [] no_numbers (nameless_node g).args ≡ ((numbered [] no_numbers d).0, record { next = (numbered [] no_numbers d).1.next; free = with_values π (numbered [] no_numbers d).1.free }) =
    ap (λ (t : DTerm). numbered [] no_numbers t.args) (sym e) ∙ numbered-moved π inj [] no_numbers d in
    let t : f.tree ≡ g.tree = sym (tree_of-node (λ x. x) f.tree f.names) ∙ (sym (tree_of-moved π d) ∙ (ap (λ (t : DTerm). tree_of t.args) e ∙ tree_of-node (λ x. x) g.tree g.names)) in
    let o : suc f.operator ≡ suc g.operator = ap (λ (t : DTerm). t.op) e in (
      form_ext (shape f).0 (shape g).0 (omega (arith, o)) (ap (λ (t : DTerm). t.payloads) e) t (sym (ap (λ r. names_in r.0) n)),
      ap (λ r. r.1.free) n,
    )

same_shape : (f g : Form) → Fits f → Fits g → (shape f).0 ≡ (shape g).0 → SameUpToNames (nameless_node f) (nameless_node g)
same_shape f g hf hg e =
    let p : (x : Form) → Fits x → theory.shape (nameless_node x) ≡ theory.shape (nameless_node (shape x).0) =
    λ x h. ap theory.shape (sym (shape-renamed x h)) ∙ shape-moved (filled (shape x).1) (filled-injective (shape x).1 (injective-shape x)) (nameless_node (shape x).0) in
    (shape_iff (nameless_node f) (nameless_node g)).0 (p f hf ∙ (ap (λ x. theory.shape (nameless_node x)) e ∙ sym (p g hg)))

-- equal shapes exactly where a bijection of names takes the one node to the other, up to bound names
pub shapes_iff : (f g : Form) → Fits f → Fits g → ((shape f).0 ≡ (shape g).0) ↔ SameUpToNames (nameless_node f) (nameless_node g)
shapes_iff f g hf hg = (same_shape f g hf hg, λ q. (shape-same q.0.to (to-injective q.0) f g q.1).0)

pub shapes_move : ShapesMove
shapes_move π inj f g e = let p = shape-same π inj f g e in λ i. (sym p.0 i, p.1 i)

-- what a node and a map are that are the shape of a node
pub values_of_shape : (f s : Form) (m : List (ℕ × ℕ)) → ◌≡◌ {A = Form × List (ℕ × ℕ)} (s, m) (shape f) → values m ≡ firsts (free_names_of f)
values_of_shape f s m e = ap (λ (r : Form × List (ℕ × ℕ)). values r.1) e ∙ values-shape f

pub shape_back : (f s : Form) (m : List (ℕ × ℕ)) → Fits f → ◌≡◌ {A = Form × List (ℕ × ℕ)} (s, m) (shape f) → moved (filled m) (nameless_node s) ≡ nameless_node f
shape_back f s m h e = ap (λ (r : Form × List (ℕ × ℕ)). moved (filled r.1) (nameless_node r.0)) e ∙ shape-renamed f h
