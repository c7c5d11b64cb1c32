-- Trees that were looked up are looked up as before where nodes are, and when a class is made of a node that was not looked up. That node is looked up
-- as the new class.
use Rattle.std.proofs.Common.{◌≡◌, ℕ, List, Option, Some, None, length, sym, ◌∙◌, ap, refl, subst}
use Rattle.std.specs.Prelude.{option_map, option_and_then}
use Rattle.slotted_lists.proofs.Options.{Some-same}
use Rattle.slotted_theory.specs.Nameless.{DArgs, DTerm, stop, place, sub, scope}
use Rattle.slotted_theory.proofs.Values.{node, child_before}
use Rattle.slotted_model.specs.Applied.{Applied, as_term, EachChild}
use Rattle.slotted_model.specs.Classes.{canonical_node}
use Rattle.slotted_model.specs.Growth.{IsNew, identity_id}
use Rattle.slotted_model.specs.LookUp.{both, look_up_args}
use Rattle.slotted_model.specs.State.{State, look_up_node, look_up_tree}
use Rattle.slotted_model.specs.Rest.{IsValidIn, AtRest, LookedUp, IsAnswer}
use Rattle.slotted_model.specs.Adding.{Adds, HasAdded, KeepsLookUps, SameAnswers}
use Rattle.slotted_model.specs.Changes.{GoesOn}
use Rattle.slotted_model.proofs.Data.Options.{option_map-some, both-some, and_then-some}
use Rattle.slotted_model.proofs.Represented.Children.{EachChild-map}
use Rattle.slotted_model.proofs.Represented.Terms.{term_at-seam}
use Rattle.slotted_model.proofs.Finds.NormalIds.{found-valid, full-is_valid}
use Rattle.slotted_model.proofs.Rebuilding.UpTo.{identity-full}
use Rattle.slotted_model.proofs.Rebuilding.Rows.{rest-nodes}
use Rattle.slotted_model.proofs.Rebuilding.Answers.{node_of-identity, answer-found}
use Rattle.slotted_model.proofs.Rebuilding.Adding.{adds}
use Rattle.slotted_model.proofs.Rebuilding.KeepingLookUps.{kept-found, kept-look_up, kept-last}

-- an answer at rest is valid
answer-valid : (g : State) → AtRest g → (d : DTerm) (x : Applied) → look_up_node g d ≡ Some x → IsValidIn g x
answer-valid g rest d x e =
    let r : IsAnswer g d x = answer-found g rest d x e in
    subst (IsValidIn g) r.found (found-valid g.nodes g.found rest.sane.sound.linked r.id (full-is_valid g.nodes g.found rest.sane.sound.linked r.id r.full))

-- nodes that were looked up are looked up as before
module _ (g : State) (rest : AtRest g) (h : State)
    (keeps : (d : DTerm) → EachChild (IsValidIn g) d.args → (a : Applied) → look_up_node g d ≡ Some a → look_up_node h d ≡ Some a) where
  -- what children are looked up as
  record KeptArgs (d found : DArgs) : Type 0 where
    same : look_up_args (look_up_node h) d ≡ Some found
    valid : EachChild (IsValidIn g) found

  kept-args : (d found : DArgs) → look_up_args (look_up_node g) d ≡ Some found → KeptArgs d found
  kept-args stop found e = subst (KeptArgs stop) (Some-same stop found e) (record { same = refl; valid = tt })
  kept-args (place x rest_d) found e =
      let r = option_map-some (place x) (look_up_args (look_up_node g) rest_d) found e in
      let k : KeptArgs rest_d r.0 = kept-args rest_d r.0 r.1 in
      subst (KeptArgs (place x rest_d)) r.2 (record { same = ap (option_map (place x)) k.same; valid = k.valid })
  kept-args (sub op payloads args rest_d) found e =
      let answer : State → Option DArgs → Option Applied = λ s. option_and_then (λ a. look_up_node s (node op payloads a)) in
      let join : Applied → DArgs → DArgs = λ a more. child_before (as_term a) more in
      let r = both-some join (answer g (look_up_args (look_up_node g) args)) (look_up_args (look_up_node g) rest_d) found e in
      let t = and_then-some (λ a. look_up_node g (node op payloads a)) (look_up_args (look_up_node g) args) r.0 r.2 in
      let inner : KeptArgs args t.0 = kept-args args t.0 t.1 in
      let more : KeptArgs rest_d r.1 = kept-args rest_d r.1 r.3 in
      let child : answer h (look_up_args (look_up_node h) args) ≡ Some r.0 = ap (answer h) inner.same ∙ keeps (node op payloads t.0) inner.valid r.0 t.2 in
      subst (KeptArgs (sub op payloads args rest_d)) r.4 (record {
        same = λ i. both join (child i) (more.same i);
        valid = ((r.0, refl, answer-valid g rest (node op payloads t.0) r.0 t.2), more.valid);
      })
  kept-args (scope inner rest_d) found e =
      let r = both-some scope (look_up_args (look_up_node g) inner) (look_up_args (look_up_node g) rest_d) found e in
      let k : KeptArgs inner r.0 = kept-args inner r.0 r.2 in
      let l : KeptArgs rest_d r.1 = kept-args rest_d r.1 r.3 in
      subst (KeptArgs (scope inner rest_d)) r.4 (record { same = λ i. both scope (k.same i) (l.same i); valid = (k.valid, l.valid) })

  kept-tree : (t : DTerm) (a : Applied) → look_up_tree g t ≡ Some a → look_up_tree h t ≡ Some a
  kept-tree t a e =
      let r = and_then-some (λ d. look_up_node g (node t.op t.payloads d)) (look_up_args (look_up_node g) t.args) a e in
      let k : KeptArgs t.args r.0 = kept-args t.args r.0 r.1 in
      ap (option_and_then (λ d. look_up_node h (node t.op t.payloads d))) k.same ∙ keeps (node t.op t.payloads r.0) k.valid a r.2

-- a class was made of a node that was not looked up
module _ (g : State) (rest : AtRest g) (c : DTerm) (new : IsNew g.nodes c) (none : look_up_node g c ≡ None) (h : State) (made : Adds g c h) where
  -- the node is looked up as the new class
  new-looked_up : (x : Applied) × (look_up_node h c ≡ Some x) × (x.0 ≡ length g.nodes)
  new-looked_up =
      let added : HasAdded g c h = adds g rest c new h made in
      let i : ℕ = length g.nodes in
      let last = kept-last g rest c new none h made in
      let r : LookedUp h (identity_id h.nodes i) = rest-nodes h added.rest (identity_id h.nodes i) (identity-full h.nodes i last.0) in
      let own = node_of-identity h.nodes i ∙ (ap (λ (l : List DTerm). canonical_node l i) added.nodes ∙ term_at-seam g.nodes c) in (
        r.answer,
        ap (look_up_node h) (sym own) ∙ r.looked_up,
        sym (ap (λ (a : Applied). a.0) r.normal_form) ∙ (sym r.together.class ∙ last.1),
      )

  pub keeps-look_ups : KeepsLookUps g c h
  keeps-look_ups = record {
    finds = kept-found g rest c new none h made;
    nodes = kept-look_up g rest c new none h made;
    trees = kept-tree g rest h (kept-look_up g rest c new none h made);
    new_class = new-looked_up;
  }

-- where answers stay the same after it, look-ups are kept
pub keeps-then : (g : State) (c : DTerm) (h i : State) → AtRest h → GoesOn g h → EachChild (IsValidIn h) c.args → KeepsLookUps g c h → SameAnswers h i → KeepsLookUps g c i
keeps-then g c h i rest on valid k s = record {
  finds = λ a v. s.finds a (on.finds a v).0 ∙ k.finds a v;
  nodes = λ d v a e. s.look_ups d (EachChild-map (IsValidIn g) (IsValidIn h) (λ b w. (on.finds b w).0) d.args v) ∙ k.nodes d v a e;
  trees = λ t a e. kept-tree h rest i (λ d v b l. s.look_ups d v ∙ l) t a (k.trees t a e);
  new_class = (k.new_class.0, s.look_ups c valid ∙ k.new_class.1, k.new_class.2);
}
