-- Each tree can be added by look-ups, child by child, so that it is looked up then; and so with rounds after it.
use Rattle.std.proofs.Common.{◌≡◌, ℕ, ◌<◌, [], Option, Some, None, sym, ◌∙◌, ap, refl, subst}
use Rattle.std.specs.Prelude.{option_map, option_and_then}
use Rattle.slotted_theory.specs.Nameless.{DArgs, DTerm, stop, place, sub, scope}
use Rattle.slotted_theory.proofs.Values.{node, child_before}
use Rattle.slotted_model.specs.Applied.{Applied, as_term, EachChild}
use Rattle.slotted_model.specs.Classes.{IsFull}
use Rattle.slotted_model.specs.Find.{used_slots}
use Rattle.slotted_model.specs.Growth.{IsNew}
use Rattle.slotted_model.specs.LookUp.{both, look_up_args}
use Rattle.slotted_model.specs.Normal.{normal}
use Rattle.slotted_model.specs.State.{State, look_up_normal, look_up_node, look_up_tree}
use Rattle.slotted_model.specs.Rest.{IsValidIn, IsAnswer}
use Rattle.slotted_model.specs.Trees.{HasNoIds, IsTree}
use Rattle.slotted_model.specs.Adding.{HasAdded, KeepsLookUps}
use Rattle.slotted_model.proofs.Rebuilding.Adding.{adds}
use Rattle.slotted_model.proofs.Rebuilding.Answers.{answer-found}
use Rattle.slotted_model.proofs.Rebuilding.Asserting.{not_looked_up-new}
use Rattle.slotted_model.proofs.Represented.Children.{EachChild-map}
use Rattle.slotted_model.proofs.Represented.FilledNodes.{a_filled_node, filled-full, filled-normal}
use Rattle.slotted_model.proofs.Rebuilding.GoingOn.{still-normal}
use Rattle.slotted_model.proofs.Rebuilding.KeepingTrees.{keeps-look_ups}
use Rattle.slotted_model.proofs.Finds.NormalIds.{found-valid, full-is_valid}
use Rattle.slotted_model.proofs.Data.Options.{option_map-some, both-some}
use Rattle.slotted_model_analyses.specs.Analysis.{Analysis, IsMerge}
use Rattle.slotted_model_analyses.specs.DataPart.{DataPart, RestsWithData}
use Rattle.slotted_model_analyses.specs.DataWrites.{AddsWithData}
use Rattle.slotted_model_analyses.specs.Rounds.{Modify, Answers, AnswersTrees, Rounds, AddsExpr, still_there, turned_away}
use Rattle.slotted_model_analyses.specs.Steps.{AddsNodesWithData, none_more, then_one, RoundsAs, AddsExprAs}
use Rattle.slotted_model_analyses.proofs.AddingTrees.{nodes-then, rests-after, nodes-after}
use Rattle.slotted_model_analyses.proofs.CarriedSteps.{nodes-carried}
use Rattle.slotted_model_analyses.proofs.MakingRounds.{rounds-there}
use Rattle.slotted_model_analyses.proofs.RoundsAtRest.{rounds-on}
use Rattle.slotted_model_analyses.proofs.Writing.{adding}

-- what is looked up stays so
abbrev LooksOn : State → State → Type 0
LooksOn g h = (t : DTerm) (x : Applied) → look_up_tree g t ≡ Some x → look_up_tree h t ≡ Some x

args-on : (g h : State) → LooksOn g h → (d e : DArgs) → look_up_args (look_up_node g) d ≡ Some e → look_up_args (look_up_node h) d ≡ Some e
args-on g h on stop e p = p
args-on g h on (place x rest) e p =
    let r = option_map-some (place x) (look_up_args (look_up_node g) rest) e p in
    ap (option_map (place x)) (args-on g h on rest r.0 r.1) ∙ ap Some r.2
args-on g h on (sub op payloads args rest) e p =
    let join : Applied → DArgs → DArgs = λ a more. child_before (as_term a) more in
    let r = both-some join (look_up_tree g (node op payloads args)) (look_up_args (look_up_node g) rest) e p in
    (λ i. both join (on (node op payloads args) r.0 r.2 i) (args-on g h on rest r.1 r.3 i)) ∙ ap Some r.4
args-on g h on (scope inner rest) e p =
    let r = both-some scope (look_up_args (look_up_node g) inner) (look_up_args (look_up_node g) rest) e p in
    (λ i. both scope (args-on g h on inner r.0 r.2 i) (args-on g h on rest r.1 r.3 i)) ∙ ap Some r.4

module _ {D : Type 0} (a : Analysis D) (law : IsMerge D a) where
  valid-after : {g : State} {s : DataPart D} {h : State} {t : DataPart D} → RestsWithData a g s → AddsNodesWithData a g s h t → (d : DArgs) → EachChild (IsValidIn g) d → EachChild (IsValidIn h) d
  valid-after {g} {s} {h} x n d v = EachChild-map (IsValidIn g) (IsValidIn h) (λ b k. ((nodes-after a law x n).goes_on.finds b k).0) d v

  -- the node d over valid ids is looked up then
  record LooksUpNode (g : State) (s : DataPart D) (d : DTerm) : Type 0 where
    after : State
    part : DataPart D
    id : Applied
    nodes : AddsNodesWithData a g s after part
    on : LooksOn g after
    looked_up : look_up_node after d ≡ Some id
    valid : IsValidIn after id

  answer-valid : (g : State) (s : DataPart D) → RestsWithData a g s → (d : DTerm) (x : Applied) → look_up_node g d ≡ Some x → IsValidIn g x
  answer-valid g s r d x e =
      let k : IsAnswer g d x = answer-found g r.rest d x e in
      subst (IsValidIn g) k.found (found-valid g.nodes g.found r.rest.sane.sound.linked k.id (full-is_valid g.nodes g.found r.rest.sane.sound.linked k.id k.full))

  -- a class is made of the node c, whose normal form is that of d
  node-added : (g : State) (s : DataPart D) → RestsWithData a g s → (d : DTerm) → EachChild (IsValidIn g) d.args → (c : DTerm) → EachChild (IsFull g.nodes) c.args → normal g.found c ≡ normal g.found d →
      look_up_node g c ≡ None → IsNew g.nodes c → (h : State) (t : DataPart D) → AddsWithData a g s c h t → LooksUpNode g s d
  node-added g s r d v c full same none new h t add =
      let y = (adding a law g s r c new).1 h t add in
      let k : KeepsLookUps g c h = keeps-look_ups g r.rest c new none h y.0 in
      let w : HasAdded g c h = adds g r.rest c new h y.0 in
      let cv : EachChild (IsValidIn g) c.args = EachChild-map (IsFull g.nodes) (IsValidIn g) (λ b i. full-is_valid g.nodes g.found r.rest.sane.sound.linked b i) c.args full in
      let later : normal h.found d ≡ normal h.found c =
      still-normal g h r.rest.sane.sound w.goes_on d v ∙ (ap (normal h.found) (sym same) ∙ sym (still-normal g h r.rest.sane.sound w.goes_on c cv)) in
      let there : look_up_node h d ≡ Some k.new_class.0 = ap (look_up_normal h) later ∙ k.new_class.1 in
      record { after = h; part = t; id = k.new_class.0; nodes = then_one {h = g} {k = h} {t = s} {u = t} c none_more new add; on = k.trees; looked_up = there; valid = answer-valid h t y.1 d k.new_class.0 there }

  node-looked_up : (g : State) (s : DataPart D) → RestsWithData a g s → (d : DTerm) → 0 < d.op → EachChild (IsValidIn g) d.args → LooksUpNode g s d
  node-looked_up g s r d op v = go (look_up_node g d) refl
    where
      go : (o : Option Applied) → look_up_node g d ≡ o → LooksUpNode g s d
      go (Some x) e = record { after = g; part = s; id = x; nodes = none_more; on = λ t y p. p; looked_up = e; valid = answer-valid g s r d x e }
      go None e =
          let f = a_filled_node g.nodes (used_slots g.found) [] d v in
          let full : EachChild (IsFull g.nodes) f.0.args = filled-full g.nodes [] d f.0 f.1 in
          let same : normal g.found f.0 ≡ normal g.found d = filled-normal g.nodes g.found r.rest.sane.sound.linked [] d f.0 v f.1 in
          let none : look_up_node g f.0 ≡ None = ap (look_up_normal g) same ∙ e in
          let new : IsNew g.nodes f.0 = not_looked_up-new g r.rest f.0 (subst (λ n. 0 < n) (sym f.1.operator) op) full none in
          let z = (adding a law g s r f.0 new).0 in
          node-added g s r d v f.0 full same none new z.0 z.1 z.2

  -- each of these arguments is looked up then
  record LooksUpArgs (g : State) (s : DataPart D) (d : DArgs) : Type 0 where
    after : State
    part : DataPart D
    args : DArgs
    nodes : AddsNodesWithData a g s after part
    on : LooksOn g after
    looked_up : look_up_args (look_up_node after) d ≡ Some args
    valid : EachChild (IsValidIn after) args

  args-looked_up : (d : DArgs) → HasNoIds d → (g : State) (s : DataPart D) → RestsWithData a g s → LooksUpArgs g s d
  args-looked_up stop clean g s x = record { after = g; part = s; args = stop; nodes = none_more; on = λ t y p. p; looked_up = refl; valid = tt }
  args-looked_up (place y rest) clean g s x =
      let r : LooksUpArgs g s rest = args-looked_up rest clean g s x in
      record { after = r.after; part = r.part; args = place y r.args; nodes = r.nodes; on = r.on; looked_up = ap (option_map (place y)) r.looked_up; valid = r.valid }
  args-looked_up (sub op payloads inner rest) clean g s x =
      let r : LooksUpArgs g s inner = args-looked_up inner clean.1 g s x in
      let xr : RestsWithData a r.after r.part = rests-after a law x r.nodes in
      let n : LooksUpNode r.after r.part (node op payloads r.args) = node-looked_up r.after r.part xr (node op payloads r.args) clean.0 r.valid in
      let xn : RestsWithData a n.after n.part = rests-after a law xr n.nodes in
      let q : LooksUpArgs n.after n.part rest = args-looked_up rest clean.2 n.after n.part xn in
      let here : look_up_tree n.after (node op payloads inner) ≡ Some n.id =
      ap (option_and_then (λ f. look_up_node n.after (node op payloads f))) (args-on r.after n.after n.on inner r.args r.looked_up) ∙ n.looked_up in
      let there : look_up_tree q.after (node op payloads inner) ≡ Some n.id = q.on (node op payloads inner) n.id here in
      let join : Applied → DArgs → DArgs = λ a more. child_before (as_term a) more in
      record {
        after = q.after;
        part = q.part;
        args = child_before (as_term n.id) q.args;
        nodes = nodes-then a law {h = n.after} {t = n.part} {k = q.after} {u = q.part} (nodes-then a law {h = r.after} {t = r.part} {k = n.after} {u = n.part} r.nodes n.nodes) q.nodes;
        on = λ t y p. q.on t y (n.on t y (r.on t y p));
        looked_up = λ i. both join (there i) (q.looked_up i);
        valid = ((n.id, refl, ((nodes-after a law {h = q.after} {t = q.part} xn q.nodes).goes_on.finds n.id n.valid).0), q.valid);
      }
  args-looked_up (scope inner rest) clean g s x =
      let r : LooksUpArgs g s inner = args-looked_up inner clean.0 g s x in
      let xr : RestsWithData a r.after r.part = rests-after a law x r.nodes in
      let q : LooksUpArgs r.after r.part rest = args-looked_up rest clean.1 r.after r.part xr in
      record {
        after = q.after;
        part = q.part;
        args = scope r.args q.args;
        nodes = nodes-then a law {h = r.after} {t = r.part} {k = q.after} {u = q.part} r.nodes q.nodes;
        on = λ t y p. q.on t y (r.on t y p);
        looked_up = λ i. both scope (args-on r.after q.after q.on inner r.args r.looked_up i) (q.looked_up i);
        valid = (valid-after xr q.nodes r.args r.valid, q.valid);
      }

  -- a tree is looked up once classes are made for it
  pub tree-looked_up : (g : State) (s : DataPart D) → RestsWithData a g s → (d : DTerm) → IsTree d → (h : State) × (t : DataPart D) × (x : Applied) × AddsNodesWithData a g s h t × (look_up_tree h d ≡ Some x)
  tree-looked_up g s x d tree =
      let r : LooksUpArgs g s d.args = args-looked_up d.args tree.children g s x in
      let n : LooksUpNode r.after r.part (node d.op d.payloads r.args) = node-looked_up r.after r.part (rests-after a law x r.nodes) (node d.op d.payloads r.args) tree.operator r.valid in (
        n.after,
        n.part,
        n.id,
        nodes-then a law r.nodes n.nodes,
        ap (option_and_then (λ f. look_up_node n.after (node d.op d.payloads f))) (args-on r.after n.after n.on d.args r.args r.looked_up) ∙ n.looked_up,
      )

  -- and so with rounds after it
  pub tree-addable : (modify : Modify D) (answers : Answers D) → AnswersTrees modify answers → (limit : ℕ) (g : State) (s : DataPart D) → RestsWithData a g s → (d : DTerm) → IsTree d →
      (h : State) × (t : DataPart D) × (x : Applied) × (m : AddsExpr a modify limit g s d h t x) × AddsExprAs answers m
  tree-addable modify answers trees limit g s r d tree =
      let p = tree-looked_up g s r d tree in
      let xp : RestsWithData a p.0 p.1 = rests-after a law r p.3 in
      let q = rounds-there a law modify answers trees p.0 p.1 xp limit in
      let xq : RestsWithData a q.0 q.1 = (rounds-on a law modify xp q.2.rounds).rest in
      go p.0 p.1 p.2 p.3 p.4 q.0 q.1 q.2 q.3 xq (look_up_tree q.0 d) refl
    where
      go : (h : State) (t : DataPart D) (x : Applied) → AddsNodesWithData a g s h t → look_up_tree h d ≡ Some x → (k : State) (u : DataPart D) (m : Rounds a modify limit h t k u) → RoundsAs answers m.rounds → RestsWithData a k u →
          (o : Option Applied) → look_up_tree k d ≡ o → (l : State) × (v : DataPart D) × (y : Applied) × (m : AddsExpr a modify limit g s d l v y) × AddsExprAs answers m
      go h t x n e k u rounds exact rest (Some y) f = let c = nodes-carried a law r n in (k, u, y, still_there c.nodes c.carries e rounds f, (n, exact))
      go h t x n e k u rounds exact rest None f =
          let c = nodes-carried a law r n in
          let z = tree-looked_up k u rest d tree in
          let w = nodes-carried a law rest z.3 in
          (z.0, z.1, z.2, turned_away c.nodes c.carries e rounds f w.nodes w.carries z.4, (n, exact, z.3))
