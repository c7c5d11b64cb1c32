-- What is looked up is equal by what was asserted: a node to the term of its answer, and so a tree.
use Rattle.std.proofs.Common.{◌≡◌, ℕ, ◌<◌, List, [], Option, Some, length, sym, ◌∙◌, ap, refl, subst, arith}
use Rattle.std.specs.Prelude.{Contains, option_and_then}
use Rattle.slotted_lists.proofs.Contained.{Contains-nil}
use Rattle.slotted_lists.proofs.Options.{Some-same}
use Rattle.slotted_theory.specs.Nameless.{DArgs, DTerm, stop, place, sub, scope, moved}
use Rattle.slotted_theory.specs.FiniteMaps.{filled}
use Rattle.slotted_theory.specs.Shape.{free_names, shape, SameUpToNames}
use Rattle.slotted_theory.specs.Derives.{Equal, joined, within, EqualArgs, equal_done, equal_name, equal_child, equal_bind}
use Rattle.slotted_theory.proofs.Bijections.{to-injective}
use Rattle.slotted_theory.proofs.Equals.{Equal-from_path}
use Rattle.slotted_theory.proofs.Shapes.{shape_iff}
use Rattle.slotted_theory.proofs.Values.{node, child_before, expand_args, expand}
use Rattle.slotted_model.specs.Applied.{Applied, map_on, renamed_id, as_term, applied_of, EachChild}
use Rattle.slotted_model.specs.Classes.{stands, terms, canonical_node, canonical_slots, term_of, layer_of, IsFull}
use Rattle.slotted_model.specs.LookUp.{look_up_args}
use Rattle.slotted_model.specs.Filling.{IsFilling}
use Rattle.slotted_model.specs.Growth.{identity_id}
use Rattle.slotted_model.specs.Find.{used_slots, find}
use Rattle.slotted_model.specs.Normal.{normal_args, normal}
use Rattle.slotted_model.specs.ProofList.{node_of, asserted}
use Rattle.slotted_model.specs.Sound.{Sound}
use Rattle.slotted_model.specs.State.{Row, State, normal_node, row_of, source_with_names, look_up_normal, look_up_node, look_up_tree}
use Rattle.slotted_model.specs.Rest.{IsValidIn, IsCurrent, AtRest}
use Rattle.slotted_model.proofs.Data.Sets.{In-ascending}
use Rattle.slotted_model.proofs.Data.Options.{option_map-some, both-some, and_then-some}
use Rattle.slotted_model.proofs.Data.Parts.{kind, first_name, first_child, first_scope, after_first}
use Rattle.slotted_model.proofs.Data.Theory.{moved-agrees, moved-id}
use Rattle.slotted_model.proofs.Data.Maps.{filled-map_on}
use Rattle.slotted_model.proofs.Represented.Children.{EachChild-map, expand-child, expand-as_term}
use Rattle.slotted_model.proofs.Represented.Full.{full-renamed, full-children, term_of-layer}
use Rattle.slotted_model.proofs.Represented.Fillings.{term_of-filling}
use Rattle.slotted_model.proofs.Represented.Folds.{as_term-same}
use Rattle.slotted_model.proofs.Finds.NormalIds.{filling-found, found-valid, found-again, full-is_valid}
use Rattle.slotted_model.proofs.Represented.Growing.{identity-full}
use Rattle.slotted_model.proofs.Finds.Congruence.{child-applied}
use Rattle.slotted_model.proofs.Finds.Steps.{Equal-between}
use Rattle.slotted_model.proofs.Finds.FindProofs.{found_alike-equal}
use Rattle.slotted_model.proofs.Represented.RenamedIds.{node_of-renamed, normal-moves}
use Rattle.slotted_model.proofs.Rebuilding.Rows.{row_of-some, current-shape, current-look_up}

-- the canonical node with its own names is the canonical node
node_of-identity : (nodes : List DTerm) (i : ℕ) → node_of nodes (identity_id nodes i) ≡ canonical_node nodes i
node_of-identity nodes i =
    let c : DTerm = canonical_node nodes i in
    moved-agrees (filled (map_on (λ s. s) (canonical_slots nodes i))) (λ s. s) c (λ x h. filled-map_on (λ s. s) (canonical_slots nodes i) x (In-ascending x (free_names c.args) h)) ∙ moved-id c

module _ (g : State) (rest : AtRest g) where
  abbrev sound : Sound g.nodes g.found g.proofs
  sound = rest.sane.sound

  abbrev E : List (DTerm × DTerm)
  E = asserted g.nodes g.proofs

  -- valid ids that find alike stand for equal terms, also where they lack names
  pub valid-equal : (a b : Applied) → IsValidIn g a → IsValidIn g b → find g.found a ≡ find g.found b → Equal E (term_of g.nodes a) (term_of g.nodes b)
  valid-equal a b va vb e =
      let l : (x : Applied) × IsFilling g.nodes [] a x × (term_of g.nodes x ≡ term_of g.nodes a) = term_of-filling g.nodes sound.canonical (used_slots g.found) a va in
      let r : (x : Applied) × IsFilling g.nodes [] b x × (term_of g.nodes x ≡ term_of g.nodes b) = term_of-filling g.nodes sound.canonical (used_slots g.found) b vb in
      Equal-between (sym l.2) (sym r.2) (found_alike-equal g.nodes sound.canonical g.found g.proofs sound.linked sound.proved sound.exact a b l.0 r.0 [] [] va vb e l.1 r.1)

  -- nodes of one normal form stand for equal terms
  normal-equal : (d e : DArgs) → EachChild (IsValidIn g) d → EachChild (IsValidIn g) e → normal_args g.found d ≡ normal_args g.found e → EqualArgs E (expand_args (stands (terms g.nodes)) d) (expand_args (stands (terms g.nodes)) e)
  normal-equal stop stop c k p = equal_done
  normal-equal (place x d) (place y e) c k p =
      let same : x ≡ y = ap first_name p in
      subst (λ z. EqualArgs E (place x (expand_args (stands (terms g.nodes)) d)) (place z (expand_args (stands (terms g.nodes)) e))) same (equal_name (normal-equal d e c k (ap after_first p)))
  normal-equal (sub op payloads d rest) (sub o q e others) c k p =
      let a : Applied = c.0.0 in
      let b : Applied = k.0.0 in
      let same : find g.found a ≡ find g.found b =
      ap (find g.found) (sym (child-applied (IsValidIn g) op payloads d c.0))
      ∙ (as_term-same (find g.found (applied_of payloads d)) (find g.found (applied_of q e)) (ap first_child p) ∙ ap (find g.found) (child-applied (IsValidIn g) o q e k.0)) in
      equal_child {d = expand (stands (terms g.nodes)) (node op payloads d)} {e = expand (stands (terms g.nodes)) (node o q e)}
      (Equal-between (expand-child (terms g.nodes) (IsValidIn g) (node op payloads d) c.0) (expand-child (terms g.nodes) (IsValidIn g) (node o q e) k.0) (valid-equal a b c.0.2 k.0.2 same))
      (normal-equal rest others c.1 k.1 (ap after_first p))
  normal-equal (scope d rest) (scope e others) c k p = equal_bind (normal-equal d e c.0 k.0 (ap first_scope p)) (normal-equal rest others c.1 k.1 (ap after_first p))
  normal-equal d e c k p = let m : kind (normal_args g.found d) ≡ kind (normal_args g.found e) = ap kind p in absurd (omega arith)

  layers-equal : (d e : DTerm) → EachChild (IsValidIn g) d.args → EachChild (IsValidIn g) e.args → normal g.found d ≡ normal g.found e → Equal E (layer_of g.nodes d) (layer_of g.nodes e)
  layers-equal d e c k p =
      joined (within (normal-equal d.args e.args c k (ap (λ (t : DTerm). t.args) p)))
      (Equal-from_path (λ i. node (p i).op (p i).payloads (expand_args (stands (terms g.nodes)) e.args)))

  -- each row is current
  all-current : (r : Row) → Contains g.rows r → IsCurrent g r
  all-current r c = rest.sane.filed.current r c (λ w. Contains-nil r.source (subst (λ ws. Contains ws r.source) rest.nothing_waits w))

  -- the answer for a node is valid, and stands for what the node stands for
  pub node-equal : (d : DTerm) → EachChild (IsValidIn g) d.args → (x : Applied) → look_up_node g d ≡ Some x → IsValidIn g x × Equal E (term_of g.nodes x) (layer_of g.nodes d)
  node-equal d c x p =
      let n : DTerm = normal g.found d in
      let r : (q : Row) × (row_of (shape n) g.rows ≡ Some q) × (find g.found (source_with_names n q) ≡ x) = option_map-some (λ (q : Row). find g.found (source_with_names n q)) (row_of (shape n) g.rows) x p in
      let k : Contains g.rows r.0 × (r.0.shape ≡ shape n) = row_of-some (shape n) g.rows r.0 r.1 in
      let o : ℕ = r.0.source in
      let h : o < length g.nodes = (rest.sane.filed.each r.0 k.0).in_range in
      let cur : IsCurrent g r.0 = all-current r.0 k.0 in
      let s : SameUpToNames (normal_node g o) n = (shape_iff (normal_node g o) n).0 (current-shape g sound.linked rest.sane.filed r.0 k.0 cur ∙ k.1) in
      let f : ℕ → ℕ = s.0.to in
      let i : Applied = identity_id g.nodes o in
      let a : Applied = renamed_id f i in
      let full : IsFull g.nodes a = full-renamed g.nodes i (identity-full g.nodes o h) f (λ y z l m. to-injective s.0 y z) in
      let same : normal g.found (node_of g.nodes a) ≡ n =
      ap (normal g.found) (node_of-renamed g.nodes i (identity-full g.nodes o h) f) ∙ (normal-moves g.found f (node_of g.nodes i) ∙ (ap (λ t. moved f (normal g.found t)) (node_of-identity g.nodes o) ∙ s.1)) in
      let answer : find g.found a ≡ x = Some-same (find g.found a) x (sym (current-look_up g sound.linked rest.sane.filed r.0 k.0 cur a full refl) ∙ (ap (look_up_normal g) same ∙ p)) in
      let va : IsValidIn g a = full-is_valid g.nodes g.found sound.linked a full in
      let vx : IsValidIn g x = subst (IsValidIn g) answer (found-valid g.nodes g.found sound.linked a va) in
      let children : EachChild (IsValidIn g) (node_of g.nodes a).args =
      EachChild-map (λ b. (b.0 < a.0) × IsFull g.nodes b) (IsValidIn g) (λ b m. full-is_valid g.nodes g.found sound.linked b m.1) (node_of g.nodes a).args (full-children g.nodes sound.canonical a full) in
      let alike : find g.found x ≡ find g.found a = ap (find g.found) (sym answer) ∙ found-again g.nodes g.found sound.linked a va in
      (vx, joined (valid-equal x a vx va alike) (joined (Equal-from_path {e = layer_of g.nodes (node_of g.nodes a)} (term_of-layer g.nodes sound.canonical a full)) (layers-equal (node_of g.nodes a) d children c same)))

  -- the answers for the children of a tree are valid, and stand for the children
  args-equal : (d e : DArgs) → look_up_args (look_up_node g) d ≡ Some e → EachChild (IsValidIn g) e × EqualArgs E (expand_args (stands (terms g.nodes)) e) d
  args-equal stop e p =
      let q : stop ≡ e = Some-same stop e p in
      subst (λ f. EachChild (IsValidIn g) f × EqualArgs E (expand_args (stands (terms g.nodes)) f) stop) q (tt, equal_done)
  args-equal (place x rest) e p =
      let r : (f : DArgs) × (look_up_args (look_up_node g) rest ≡ Some f) × (place x f ≡ e) = option_map-some (place x) (look_up_args (look_up_node g) rest) e p in
      let q = args-equal rest r.0 r.1 in
      subst (λ f. EachChild (IsValidIn g) f × EqualArgs E (expand_args (stands (terms g.nodes)) f) (place x rest)) r.2 (q.0, equal_name q.1)
  args-equal (sub op payloads args rest) e p =
      let answer : Option DArgs → Option Applied = option_and_then (λ found. look_up_node g (node op payloads found)) in
      let r : (a : Applied) × (f : DArgs) × (answer (look_up_args (look_up_node g) args) ≡ Some a) × (look_up_args (look_up_node g) rest ≡ Some f) × (child_before (as_term a) f ≡ e) =
      both-some (λ a found. child_before (as_term a) found) (answer (look_up_args (look_up_node g) args)) (look_up_args (look_up_node g) rest) e p in
      let q : (b : DArgs) × (look_up_args (look_up_node g) args ≡ Some b) × (look_up_node g (node op payloads b) ≡ Some r.0) = and_then-some (λ found. look_up_node g (node op payloads found)) (look_up_args (look_up_node g) args) r.0 r.2 in
      let inside = args-equal args q.0 q.1 in
      let after = args-equal rest r.1 r.3 in
      let child = node-equal (node op payloads q.0) inside.0 r.0 q.2 in
      let equal : Equal E (expand (stands (terms g.nodes)) (as_term r.0)) (node op payloads args) = joined (Equal-from_path (expand-as_term (terms g.nodes) r.0)) (joined child.1 (within inside.1)) in
      subst (λ f. EachChild (IsValidIn g) f × EqualArgs E (expand_args (stands (terms g.nodes)) f) (sub op payloads args rest)) r.4
      (((r.0, refl, child.0), after.0), equal_child {d = expand (stands (terms g.nodes)) (as_term r.0)} {e = node op payloads args} equal after.1)
  args-equal (scope inner rest) e p =
      let r : (a : DArgs) × (f : DArgs) × (look_up_args (look_up_node g) inner ≡ Some a) × (look_up_args (look_up_node g) rest ≡ Some f) × (scope a f ≡ e) =
      both-some scope (look_up_args (look_up_node g) inner) (look_up_args (look_up_node g) rest) e p in
      let inside = args-equal inner r.0 r.2 in
      let after = args-equal rest r.1 r.3 in
      subst (λ f. EachChild (IsValidIn g) f × EqualArgs E (expand_args (stands (terms g.nodes)) f) (scope inner rest)) r.4 ((inside.0, after.0), equal_bind inside.1 after.1)

  -- the answer for a tree is valid, and stands for the tree
  pub tree-equal : (t : DTerm) (x : Applied) → look_up_tree g t ≡ Some x → IsValidIn g x × Equal E (term_of g.nodes x) t
  tree-equal t x p =
      let q : (b : DArgs) × (look_up_args (look_up_node g) t.args ≡ Some b) × (look_up_node g (node t.op t.payloads b) ≡ Some x) = and_then-some (λ found. look_up_node g (node t.op t.payloads found)) (look_up_args (look_up_node g) t.args) x p in
      let inside = args-equal t.args q.0 q.1 in
      let here = node-equal (node t.op t.payloads q.0) inside.0 x q.2 in
      (here.0, joined here.1 (within inside.1))

  -- whatever names fill it
  pub filled-equal : (t : DTerm) (x b : Applied) (given : List ℕ) → look_up_tree g t ≡ Some x → IsFilling g.nodes given x b → Equal E (term_of g.nodes b) t
  filled-equal t x b given p f =
      let r : IsValidIn g x × Equal E (term_of g.nodes x) t = tree-equal t x p in
      joined (valid-equal b x (full-is_valid g.nodes g.found sound.linked b f.full) r.0 (sym (filling-found g.nodes g.found sound.linked given x b r.0 f))) r.1

  pub filled-node_equal : (d : DTerm) → EachChild (IsValidIn g) d.args → (x b : Applied) (given : List ℕ) → look_up_node g d ≡ Some x → IsFilling g.nodes given x b → Equal E (term_of g.nodes b) (layer_of g.nodes d)
  filled-node_equal d c x b given p f =
      let r : IsValidIn g x × Equal E (term_of g.nodes x) (layer_of g.nodes d) = node-equal d c x p in
      joined (valid-equal b x (full-is_valid g.nodes g.found sound.linked b f.full) r.0 (sym (filling-found g.nodes g.found sound.linked given x b r.0 f))) r.1

  -- a node that is looked up as what an id finds stands for what is equal to the id's term
  pub found-node_equal : (a : Applied) → IsFull g.nodes a → (d : DTerm) → EachChild (IsValidIn g) d.args → look_up_node g d ≡ Some (find g.found a) → Equal E (term_of g.nodes a) (layer_of g.nodes d)
  found-node_equal a full d c p =
      let v : IsValidIn g a = full-is_valid g.nodes g.found sound.linked a full in
      joined (valid-equal a (find g.found a) v (found-valid g.nodes g.found sound.linked a v) (sym (found-again g.nodes g.found sound.linked a v))) (node-equal d c (find g.found a) p).1

  -- a tree that is looked up as what an id finds is equal to the id's term
  pub found-equal : (a : Applied) → IsFull g.nodes a → (t : DTerm) → look_up_tree g t ≡ Some (find g.found a) → Equal E (term_of g.nodes a) t
  found-equal a full t p =
      let v : IsValidIn g a = full-is_valid g.nodes g.found sound.linked a full in
      joined (valid-equal a (find g.found a) v (found-valid g.nodes g.found sound.linked a v) (sym (found-again g.nodes g.found sound.linked a v))) (tree-equal t (find g.found a) p).1
