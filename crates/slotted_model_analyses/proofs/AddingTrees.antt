-- Each tree can be added with data, and each edit of trees can be made: so rounds are there.
use Rattle.std.proofs.Common.{◌≡◌, ℕ, zero, suc, ◌<◌, [], ◌∷◌, ◌++◌, length, sym, ◌∙◌, ap, refl, subst, inl, inr, arith}
use Rattle.std.specs.Prelude.{◌⊎◌}
use Rattle.std.proofs.lemmas.Bool.{cases_eq, cases_Bool, false≢true}
use Rattle.slotted_theory.specs.Nameless.{DArgs, DTerm, stop, place, sub, scope}
use Rattle.slotted_theory.specs.Shape.{shape}
use Rattle.slotted_theory.proofs.Shapes.{shape_iff}
use Rattle.slotted_theory.proofs.Values.{node, child_before, expand_args}
use Rattle.slotted_model.specs.Applied.{Applied, as_term, EachChild}
use Rattle.slotted_model.specs.Classes.{canonical_node, terms, stands, term_of, layer_of, IsFull}
use Rattle.slotted_model.specs.Growth.{IsNew, Added, identity_id}
use Rattle.slotted_model.specs.Ids.{term_eq, class_with_names}
use Rattle.slotted_model.specs.State.{State}
use Rattle.slotted_model.specs.Trees.{HasNoIds, IsTree}
use Rattle.slotted_model.specs.Adding.{HasAdded}
use Rattle.slotted_model.proofs.Rebuilding.Adding.{adds}
use Rattle.slotted_model.proofs.Represented.Children.{EachChild-map, expand-as_term}
use Rattle.slotted_model.proofs.Represented.Full.{term_of-layer}
use Rattle.slotted_model.proofs.Represented.Growing.{added}
use Rattle.slotted_model.proofs.Represented.Ids.{term_eq-true, term_eq-same, Stands, class-stands}
use Rattle.slotted_model_analyses.specs.Analysis.{Analysis, IsMerge}
use Rattle.slotted_model_analyses.specs.DataPart.{DataPart, RestsWithData}
use Rattle.slotted_model_analyses.specs.DataWrites.{AddsWithData}
use Rattle.slotted_model_analyses.specs.Rounds.{AddsTree}
use Rattle.slotted_model_analyses.specs.Steps.{AddsNodesWithData, none_more, then_one}
use Rattle.slotted_model_analyses.proofs.CarriedSteps.{nodes-carried}
use Rattle.slotted_model_analyses.proofs.RoundsAtRest.{HasMadeNodes, nodes-made}
use Rattle.slotted_model_analyses.proofs.Writing.{adding}

-- some number below n has the property, or none has
one-below : (P : ℕ → Type 0) → ((i : ℕ) → P i ⊎ (¬ P i)) → (n : ℕ) → ((i : ℕ) × (i < n) × P i) ⊎ ((i : ℕ) → i < n → ¬ P i)
one-below P decide zero = inr (λ i l p. omega arith)
one-below P decide (suc n) = elim (decide n) [
  | inl p ↦ inl (n, omega arith, p)
  | inr m ↦ elim (one-below P decide n) [
    | inl r ↦ let l = r.1 in inl (r.0, omega arith, r.2)
    | inr none ↦ inr (λ i l p. elim (cases_eq i n) [
      | inl e ↦ m (subst P e p)
      | inr k ↦ none i (omega arith) p
    ])
  ]
]

module _ {D : Type 0} (a : Analysis D) (law : IsMerge D a) where
  -- one chain after another
  pub nodes-then : {g : State} {s : DataPart D} {h : State} {t : DataPart D} {k : State} {u : DataPart D} → AddsNodesWithData a g s h t → AddsNodesWithData a h t k u → AddsNodesWithData a g s k u
  nodes-then n none_more = n
  nodes-then n (then_one c r new add) = then_one c (nodes-then n r) new add

  -- the node c over full ids has an id
  record HasNode (g : State) (s : DataPart D) (c : DTerm) : Type 0 where
    after : State
    part : DataPart D
    id : Applied
    nodes : AddsNodesWithData a g s after part
    full : IsFull after.nodes id
    term : term_of after.nodes id ≡ layer_of g.nodes c

  shape-cases : (g : State) (c : DTerm) (i : ℕ) → (shape (canonical_node g.nodes i) ≡ shape c) ⊎ (¬ (shape (canonical_node g.nodes i) ≡ shape c))
  shape-cases g c i = elim (cases_Bool (term_eq (shape (canonical_node g.nodes i)) (shape c))) [
    | inl t ↦ inl (term_eq-true (shape (canonical_node g.nodes i)) (shape c) t)
    | inr f ↦ inr (λ e. false≢true (sym f ∙ term_eq-same (shape (canonical_node g.nodes i)) (shape c) e))
  ]

  node-there : (g : State) (s : DataPart D) → RestsWithData a g s → (c : DTerm) → 0 < c.op → EachChild (IsFull g.nodes) c.args → HasNode g s c
  node-there g s x c op children = elim (one-below (λ i. shape (canonical_node g.nodes i) ≡ shape c) (shape-cases g c) (length g.nodes)) [
    | inl r ↦
        let b : Applied = class_with_names g.nodes c r.0 in
        let y : Stands g.nodes c b = class-stands g.nodes c r.0 r.1 ((shape_iff (canonical_node g.nodes r.0) c).0 r.2) in
        record { after = g; part = s; id = b; nodes = none_more; full = y.0; term = term_of-layer g.nodes x.rest.sane.sound.canonical b y.0 ∙ ap (layer_of g.nodes) y.1 }
    | inr none ↦
        let new : IsNew g.nodes c = record { operator = op; children = children; shape_is_new = none } in
        let z = adding a law g s x c new in
        let made : AddsWithData a g s c z.0.0 z.0.1 = z.0.2 in
        let w : HasAdded g c z.0.0 = adds g x.rest c new z.0.0 (z.1 z.0.0 z.0.1 made).0 in
        let grown : Added g.nodes (g.nodes ++ c ∷ []) c = added g.nodes c x.rest.sane.sound.canonical new in
        record {
          after = z.0.0;
          part = z.0.1;
          id = identity_id (g.nodes ++ c ∷ []) (length g.nodes);
          nodes = then_one c none_more new made;
          full = subst (λ ns. IsFull ns (identity_id (g.nodes ++ c ∷ []) (length g.nodes))) (sym w.nodes) grown.full;
          term = ap (λ ns. term_of ns (identity_id (g.nodes ++ c ∷ []) (length g.nodes))) w.nodes ∙ grown.term;
        }
  ]

  -- each of these arguments has an id
  record HasArgs (g : State) (s : DataPart D) (d : DArgs) : Type 0 where
    after : State
    part : DataPart D
    args : DArgs
    nodes : AddsNodesWithData a g s after part
    full : EachChild (IsFull after.nodes) args
    stand : expand_args (stands (terms after.nodes)) args ≡ d

  pub rests-after : {g : State} {s : DataPart D} {h : State} {t : DataPart D} → RestsWithData a g s → AddsNodesWithData a g s h t → RestsWithData a h t
  rests-after x n = (nodes-carried a law x n).carries.rests

  -- what holds of the graphs alone
  pub nodes-after : {g : State} {s : DataPart D} {h : State} {t : DataPart D} → RestsWithData a g s → AddsNodesWithData a g s h t → HasMadeNodes g h
  nodes-after x n = nodes-made x.rest (nodes-carried a law x n).nodes

  -- arguments over full ids stay as classes are made
  args-stay : {g : State} {s : DataPart D} {h : State} {t : DataPart D} → RestsWithData a g s → AddsNodesWithData a g s h t → (e : DArgs) → EachChild (IsFull g.nodes) e →
      EachChild (IsFull h.nodes) e × (expand_args (stands (terms h.nodes)) e ≡ expand_args (stands (terms g.nodes)) e)
  args-stay {g} {s} {h} x n e c =
      let m : HasMadeNodes g h = nodes-after x n in (
        EachChild-map (IsFull g.nodes) (IsFull h.nodes) (λ b f. (m.terms b f).0) e c,
        ap (λ (t : DTerm). t.args) (m.layers (node 1 [] e) c),
      )

  args-there : (d : DArgs) → HasNoIds d → (g : State) (s : DataPart D) → RestsWithData a g s → HasArgs g s d
  args-there stop clean g s x = record { after = g; part = s; args = stop; nodes = none_more; full = tt; stand = refl }
  args-there (place y rest) clean g s x =
      let r : HasArgs g s rest = args-there rest clean g s x in
      record { after = r.after; part = r.part; args = place y r.args; nodes = r.nodes; full = r.full; stand = ap (place y) r.stand }
  args-there (sub op payloads inner rest) clean g s x =
      let r : HasArgs g s inner = args-there inner clean.1 g s x in
      let c : DTerm = node op payloads r.args in
      let n : HasNode r.after r.part c = node-there r.after r.part (rests-after x r.nodes) c clean.0 r.full in
      let y : RestsWithData a n.after n.part = rests-after (rests-after x r.nodes) n.nodes in
      let q : HasArgs n.after n.part rest = args-there rest clean.2 n.after n.part y in
      let m : HasMadeNodes n.after q.after = nodes-after y q.nodes in
      let f : IsFull q.after.nodes n.id = (m.terms n.id n.full).0 in
      let t : term_of q.after.nodes n.id ≡ node op payloads inner = (m.terms n.id n.full).1 ∙ (n.term ∙ ap (node op payloads) r.stand) in
      record {
        after = q.after;
        part = q.part;
        args = child_before (as_term n.id) q.args;
        nodes = nodes-then (nodes-then r.nodes n.nodes) q.nodes;
        full = ((n.id, refl, f), q.full);
        stand = λ i. child_before ((expand-as_term (terms q.after.nodes) n.id ∙ t) i) (q.stand i);
      }
  args-there (scope inner rest) clean g s x =
      let r : HasArgs g s inner = args-there inner clean.0 g s x in
      let y : RestsWithData a r.after r.part = rests-after x r.nodes in
      let q : HasArgs r.after r.part rest = args-there rest clean.1 r.after r.part y in
      let k = args-stay y q.nodes r.args r.full in
      record {
        after = q.after;
        part = q.part;
        args = scope r.args q.args;
        nodes = nodes-then r.nodes q.nodes;
        full = (k.0, q.full);
        stand = λ i. scope ((k.1 ∙ r.stand) i) (q.stand i);
      }

  -- each tree can be added
  pub tree-there : (g : State) (s : DataPart D) → RestsWithData a g s → (d : DTerm) → IsTree d → (h : State) × (t : DataPart D) × (b : Applied) × AddsTree a g s d h t b × AddsNodesWithData a g s h t
  tree-there g s x d tree =
      let r : HasArgs g s d.args = args-there d.args tree.children g s x in
      let c : DTerm = node d.op d.payloads r.args in
      let n : HasNode r.after r.part c = node-there r.after r.part (rests-after x r.nodes) c tree.operator r.full in
      let all : AddsNodesWithData a g s n.after n.part = nodes-then r.nodes n.nodes in
      let m = nodes-carried a law x all in
      (n.after, n.part, n.id, record { nodes = m.nodes; carries = m.carries; full = n.full; term = n.term ∙ ap (node d.op d.payloads) r.stand }, all)
