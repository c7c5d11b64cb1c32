-- Full ids with one canonical term are the same.
use Rattle.std.proofs.Common.{◌≡◌, ◌↔◌, ℕ, zero, suc, ◌<◌, List, sym, ◌∙◌, ap, refl, arith}
use Rattle.slotted_theory.specs.Nameless.{DArgs, DTerm, stop, place, sub, scope, moved}
use Rattle.slotted_theory.specs.FiniteMaps.{filled}
use Rattle.slotted_theory.specs.Shape.{free_names, shape}
use Rattle.slotted_theory.proofs.Shapes.{shape-moved}
use Rattle.slotted_theory.proofs.Filled.{filled-injective}
use Rattle.slotted_theory.proofs.Values.{node, child_before, expand_args, expand}
use Rattle.slotted_model.specs.Applied.{Applied, keys, map_on, as_term, EachChild}
use Rattle.slotted_model.specs.Classes.{term_by, stands, terms, canonical_node, canonical_slots, term_of, layer_of, IsFull, Canonical}
use Rattle.slotted_model.proofs.Data.Sets.{In-of_ascending}
use Rattle.slotted_model.proofs.Data.Parts.{kind, first_name, first_child, first_scope, after_first}
use Rattle.slotted_model.proofs.Data.Theory.{agrees-from_moved}
use Rattle.slotted_model.proofs.Data.Maps.{map_on-agrees, map_on-filled}
use Rattle.slotted_model.proofs.Represented.Children.{EachChild-map, expand-child}
use Rattle.slotted_model.proofs.Represented.Full.{full-ascending, full-children, term_of-layer}

-- nodes that stand for the same are the same, if their children are wherever they stand for the same
pub same_nodes : (ts : List DTerm) (P Q : Applied → Type 0) → ((a b : Applied) → P a → Q b → term_by ts a ≡ term_by ts b → a ≡ b) → (d e : DArgs) → EachChild P d → EachChild Q e → expand_args (stands ts) d ≡ expand_args (stands ts) e → d ≡ e
same_nodes ts P Q one stop stop c k p = refl
same_nodes ts P Q one (place x rest) (place y rest') c k p = λ i. place (ap first_name p i) (same_nodes ts P Q one rest rest' c k (ap after_first p) i)
same_nodes ts P Q one (sub o l a rest) (sub o' l' a' rest') c k p =
    let q : expand (stands ts) (node o l a) ≡ expand (stands ts) (node o' l' a') = ap first_child p in
    let e : c.0.0 ≡ k.0.0 = one c.0.0 k.0.0 c.0.2 k.0.2 (sym (expand-child ts P (node o l a) c.0) ∙ (q ∙ expand-child ts Q (node o' l' a') k.0)) in
    let w : node o l a ≡ node o' l' a' = c.0.1 ∙ (ap as_term e ∙ sym k.0.1) in
    λ i. child_before (w i) (same_nodes ts P Q one rest rest' c.1 k.1 (ap after_first p) i)
same_nodes ts P Q one (scope a rest) (scope a' rest') c k p =
    λ i. scope (same_nodes ts P Q one a a' c.0 k.0 (ap first_scope p) i) (same_nodes ts P Q one rest rest' c.1 k.1 (ap after_first p) i)
same_nodes ts P Q one _ _ c k p = absurd (omega (arith, ap kind p))

-- maps on the same slots that move the canonical node to one node are the same
same_maps : (nodes : List DTerm) (a b : Applied) → IsFull nodes a → IsFull nodes b → a.0 ≡ b.0 → moved (filled a.1) (canonical_node nodes a.0) ≡ moved (filled b.1) (canonical_node nodes b.0) → a ≡ b
same_maps nodes a b fa fb e p =
    let c : DTerm = canonical_node nodes a.0 in
    let q : moved (filled a.1) c ≡ moved (filled b.1) c = p ∙ ap (λ j. moved (filled b.1) (canonical_node nodes j)) (sym e) in
    let same_slots : keys b.1 ≡ canonical_slots nodes a.0 = fb.slots ∙ ap (canonical_slots nodes) (sym e) in
    let m : map_on (filled a.1) (canonical_slots nodes a.0) ≡ map_on (filled b.1) (canonical_slots nodes a.0) =
    map_on-agrees (filled a.1) (filled b.1) (canonical_slots nodes a.0) (λ s h. agrees-from_moved (filled a.1) (filled b.1) c q s (In-of_ascending s (free_names c.args) h)) in
    let n : a.1 ≡ b.1 = sym (map_on-filled a.1 (full-ascending nodes a fa)) ∙ (ap (map_on (filled a.1)) fa.slots ∙ (m ∙ (ap (map_on (filled b.1)) (sym same_slots) ∙ map_on-filled b.1 (full-ascending nodes b fb)))) in
    λ i. (e i, n i)

same_ids : (nodes : List DTerm) → Canonical nodes → (n : ℕ) (a b : Applied) → a.0 < n → IsFull nodes a → IsFull nodes b → term_of nodes a ≡ term_of nodes b → a ≡ b
same_ids nodes can zero a b h fa fb p = absurd (omega arith)
same_ids nodes can (suc n) a b h fa fb p =
    let d : DTerm = moved (filled a.1) (canonical_node nodes a.0) in
    let e : DTerm = moved (filled b.1) (canonical_node nodes b.0) in
    let q : layer_of nodes d ≡ layer_of nodes e = sym (term_of-layer nodes can a fa) ∙ (p ∙ term_of-layer nodes can b fb) in
    let args : d.args ≡ e.args =
    same_nodes (terms nodes) (λ x. (x.0 < a.0) × IsFull nodes x) (IsFull nodes) (λ x y k l r. same_ids nodes can n x y (omega (arith, k.0)) k.1 l r) d.args e.args
    (full-children nodes can a fa) (EachChild-map (λ x. (x.0 < b.0) × IsFull nodes x) (IsFull nodes) (λ x k. k.1) e.args (full-children nodes can b fb)) (ap (λ (t : DTerm). t.args) q) in
    let r : d ≡ e = λ i. node (q i).op (q i).payloads (args i) in
    let s : shape (canonical_node nodes a.0) ≡ shape (canonical_node nodes b.0) =
    sym (shape-moved (filled a.1) (filled-injective a.1 fa.injective) (canonical_node nodes a.0)) ∙ (ap shape r ∙ shape-moved (filled b.1) (filled-injective b.1 fb.injective) (canonical_node nodes b.0)) in
    same_maps nodes a b fa fb (can.shapes a.0 b.0 fa.in_range fb.in_range s) r

pub term_of-same : (nodes : List DTerm) → Canonical nodes → (a b : Applied) → IsFull nodes a → IsFull nodes b → (term_of nodes a ≡ term_of nodes b) ↔ (a ≡ b)
term_of-same nodes can a b fa fb = (same_ids nodes can (suc a.0) a b (omega arith) fa fb, ap (term_of nodes))

-- nodes over full ids that stand for one term are the same
pub same_layers : (nodes : List DTerm) → Canonical nodes → (d e : DTerm) → EachChild (IsFull nodes) d.args → EachChild (IsFull nodes) e.args → layer_of nodes d ≡ layer_of nodes e → d ≡ e
same_layers nodes can d e c k p =
    let args : d.args ≡ e.args =
    same_nodes (terms nodes) (IsFull nodes) (IsFull nodes) (λ a b fa fb. (term_of-same nodes can a b fa fb).0) d.args e.args c k (ap (λ (t : DTerm). t.args) p) in
    λ i. node (p i).op (p i).payloads (args i)
