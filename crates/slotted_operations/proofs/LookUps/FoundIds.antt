-- What a look-up answers: an id that is what it finds itself, with names of the node alone, and equal to the node by what was asserted.
use Rattle.std.proofs.Common.{◌≡◌, ◌∙◌, ℕ, [], Option, None, Some, ap, refl, sym, subst}
use Rattle.std.specs.Prelude.{IfSome, IsTrue, option_map, slice_index_or}
use Rattle.slotted_lists.proofs.Members.{In}
use Rattle.slotted_theory.specs.Derives.{Equal}
use Rattle.slotted_theory.specs.Nameless.{DTerm, nameless}
use Rattle.slotted_theory.specs.Shape.{free_names}
use Rattle.slotted_theory.proofs.Values.{node}
use Rattle.slotted_slots.specs.Table.{is_known, AllKnown}
use Rattle.slotted_slots.specs.declared.types.AppliedId.{AppliedId}
use Rattle.slotted_nodes.specs.Form.{Form}
use Rattle.slotted_languages.specs.NodeTerm.{nameless_node}
use Rattle.slotted_languages.specs.Shape.{Fits}
use Rattle.slotted_model.specs.Applied.{Applied, EachChild, values}
use Rattle.slotted_model.specs.Changes.{GoesOn}
use Rattle.slotted_model.specs.Classes.{IsFull, term_of, layer_of}
use Rattle.slotted_model.specs.Filling.{FillsNode}
use Rattle.slotted_model.specs.Find.{find}
use Rattle.slotted_model.specs.LookUp.{look_up_args}
use Rattle.slotted_model.specs.Normal.{normal}
use Rattle.slotted_model.specs.ProofList.{asserted}
use Rattle.slotted_model.specs.Rest.{AtRest, IsAnswer}
use Rattle.slotted_model.specs.State.{State, look_up_node, look_up_normal, look_up_tree}
use Rattle.slotted_model.proofs.Rebuilding.Answers.{answer-found}
use Rattle.slotted_model.proofs.Represented.Children.{EachChild-map}
use Rattle.slotted_model.proofs.Represented.FilledNodes.{filled-full, filled-normal}
use Rattle.slotted_model.proofs.Complete.LookUpsAreEqual.{filled-node_equal, node-equal}
use Rattle.slotted_model.proofs.Finds.NormalIds.{found-again, full-is_valid}
use Rattle.slotted_model.proofs.Data.Options.{and_then-some}
use Rattle.slotted_model.proofs.Rebuilding.Rows.{look_up_node-moved}
use Rattle.slotted_classes.specs.Finding.{IsFindable}
use Rattle.slotted_classes.specs.Kept.{Kept, entries_of, nodes_of, proofs_of}
use Rattle.slotted_classes.proofs.NameMaps.{In-at, at_In}
use Rattle.slotted_proofs.specs.Equations.{to_applied}
use Rattle.slotted_hashcons.specs.FiledRows.{Rows, rows_in}
use Rattle.slotted_hashcons.specs.WellFiled.{state_in}
use Rattle.slotted_lookup.specs.LookUp as adding
use Rattle.slotted_lookup.proofs.Finds.{found-for}
use Rattle.slotted_operations.specs.Adding.{IsEqualToNode}
use Rattle.slotted_operations.specs.ValidIds.{Fills, IsValidNode}
use Rattle.slotted_operations.specs.Good.{Good, KeepsAnswers, RestsWith, image_of}
use Rattle.slotted_operations.specs.Graph.{Graph}
use Rattle.slotted_operations.specs.Image.{Image, found_id}
use Rattle.slotted_operations.specs.LookUp.{KeepsLookUps, look_up}
use Rattle.slotted_operations.specs.Reports.{IsFound}
use Rattle.slotted_operations.proofs.Ids.ValidIds.{fills-filling, findable-children, findable-within, of-valid, to-valid}
use Rattle.slotted_operations.proofs.Graphs.Finds.{full-findable, good-finds}
use Rattle.slotted_operations.proofs.LookUps.FoundNames.{free_from}
use Rattle.slotted_operations.proofs.Graphs.Images.{found_id-is}
use Rattle.slotted_operations.proofs.LookUps.States.{args-hold, looked_up-is, tree-is}
use Rattle.slotted_operations.proofs.LookUps.Subterms.{look-names}
use Rattle.slotted_operations.proofs.Graphs.Reports as reports
use Rattle.slotted_operations.proofs.Graphs.AtRest.{at-rest}

module _ (k : Kept) (r : Rows) (good : Good k) (rests : RestsWith k r) (d : DTerm) (children : EachChild (IsFindable k) d.args) (a : Applied)
    (is : look_up_node (state_in k r) d ≡ Some a) where
  abbrev state : State
  state = state_in k r

  rest : AtRest state
  rest = at-rest k r good rests

  pub answer-findable : IsFindable k a
  answer-findable = (node-equal state rest d children a is).0

  -- it finds itself
  answer-again : find (entries_of k) a ≡ a
  answer-again =
      let w : IsAnswer state d a = answer-found state rest d a is in
      let v = full-is_valid state.nodes state.found rest.sane.sound.linked w.id w.full in
      ap (find (entries_of k)) (sym w.found) ∙ (found-again state.nodes state.found rest.sane.sound.linked w.id v ∙ w.found)

  pub answer-normal : adding.IsFoundFor k a a
  answer-normal = subst (adding.IsFoundFor k a) answer-again (found-for k (good-finds k good) a answer-findable)

  -- its names are free names of the node
  pub answer-name : (y : ℕ) → In y (values a.1) → In y (free_names d.args)
  answer-name = look-names (look_up_node state) (look_up_node-moved state rest.sane.sound.linked rest.sane.filed) d a is

  -- it is equal to the node, whatever names are filled in
  pub answer-equal : (left : Applied) (e : DTerm) → Fills (image_of k) a left → FillsNode (nodes_of k) [] d e → Equal (asserted (nodes_of k) (proofs_of k)) (term_of (nodes_of k) left) (layer_of (nodes_of k) e)
  answer-equal left e fills filled =
      let one : normal (entries_of k) e ≡ normal (entries_of k) d = filled-normal (nodes_of k) (entries_of k) rest.sane.sound.linked [] d e children filled in
      let full : EachChild (IsFindable k) e.args = EachChild-map (IsFull (nodes_of k)) (IsFindable k) (full-findable k good) e.args (filled-full (nodes_of k) [] d e filled) in
      filled-node_equal state rest e full a left [] (ap (look_up_normal state) one ∙ is) (fills-filling k a left fills)

-- the same of a graph
module _ (k : Kept) (r : Rows) (good : Good k) (rests : RestsWith k r) (g : Graph) (image : image_of k ≡ g.image) (filed : rows_in r.filed ≡ g.filed)
    (f : Form) (fits : Fits f) (children : EachChild (IsFindable k) (nameless_node f).args) (known : AllKnown g.table f.names) (a : Applied) (is : look_up g f ≡ Some a) where
  in-model : look_up_node (state_in k r) (nameless_node f) ≡ Some a
  in-model = sym (looked_up-is k r good rests g image filed (nameless_node f) children) ∙ is

  answer-known : AllKnown g.table (values a.1)
  answer-known j z l =
      let y = slice_index_or (values a.1) j z in
      let p = free_from (λ x. x) f.tree f.names fits y (answer-name k r good rests (nameless_node f) children a in-model y (In-at (values a.1) j z l)) in
      subst (λ x. IsTrue (is_known g.table x)) (sym p.2) (at_In (λ x. IsTrue (is_known g.table x)) f.names known p.0 p.1)

  pub graph-found : IsFound g a
  graph-found =
      let v = to-valid k good g image a (answer-findable k r good rests (nameless_node f) children a in-model) answer-known in
      reports.found-for k good g image a a v (answer-normal k r good rests (nameless_node f) children a in-model)

  pub graph-equal : IsEqualToNode g.image a f
  graph-equal = subst (λ (x : Image). IsEqualToNode x a f) image (answer-equal k r good rests (nameless_node f) children a in-model)

-- the same of a tree
module _ (k : Kept) (r : Rows) (good : Good k) (rests : RestsWith k r) (g : Graph) (image : image_of k ≡ g.image) (filed : rows_in r.filed ≡ g.filed)
    (t : DTerm) (a : Applied) (is : look_up_tree (state_in k r) t ≡ Some a) (known : AllKnown g.table (values a.1)) where
  pub tree-found : IsFound g a
  tree-found =
      let state = state_in k r in
      let rest = at-rest k r good rests in
      let q = and_then-some (λ found. look_up_node state (node t.op t.payloads found)) (look_up_args (look_up_node state) t.args) a is in
      let children = (args-hold (IsFindable k) (look_up_node state) (look_up_node state) (λ d v. refl) (λ d b v e. (node-equal state rest d v b e).0)) t.args q.0 q.1 in
      let v = to-valid k good g image a (answer-findable k r good rests (node t.op t.payloads q.0) children a q.2) known in
      reports.found-for k good g image a a v (answer-normal k r good rests (node t.op t.payloads q.0) children a q.2)

-- the same of an answer as it was read
module _ (k : Kept) (r : Rows) (good : Good k) (rests : RestsWith k r) (g : Graph) (image : image_of k ≡ g.image) (filed : rows_in r.filed ≡ g.filed)
    (f : Form) (fits : Fits f) (valid : IsValidNode g f) where
  pub node-children : EachChild (IsFindable k) (nameless_node f).args
  node-children = findable-children k good g image f fits valid.children

  pub node-id : (o : Option AppliedId) → option_map to_applied o ≡ look_up_node (state_in k r) (nameless_node f) → option_map to_applied o ≡ look_up g f
  node-id o e = e ∙ sym (looked_up-is k r good rests g image filed (nameless_node f) node-children)

  pub node-found : (o : Option AppliedId) → option_map to_applied o ≡ look_up_node (state_in k r) (nameless_node f) → IfSome o (λ a. IsFound g (to_applied a))
  node-found None e = tt
  node-found (Some a) e = graph-found k r good rests g image filed f fits node-children valid.known (to_applied a) (sym (node-id (Some a) e))

  pub node-equal_to : (o : Option AppliedId) → option_map to_applied o ≡ look_up_node (state_in k r) (nameless_node f) → IfSome o (λ a. IsEqualToNode g.image (to_applied a) f)
  node-equal_to None e = tt
  node-equal_to (Some a) e = graph-equal k r good rests g image filed f fits node-children valid.known (to_applied a) (sym (node-id (Some a) e))

-- what is kept of one graph goes on to another, and all answers stay
module _ (k : Kept) (r : Rows) (good : Good k) (rests : RestsWith k r) (g : Graph) (image : image_of k ≡ g.image) (filed : rows_in r.filed ≡ g.filed)
    (l : Kept) (q : Rows) (good_l : Good l) (rests_l : RestsWith l q) (h : Graph) (image_h : image_of l ≡ h.image) (filed_h : rows_in q.filed ≡ h.filed)
    (on : GoesOn (state_in k r) (state_in l q)) (keeps : KeepsAnswers k r l q) where
  pub keeps-look_ups : KeepsLookUps g h
  keeps-look_ups = record {
    finds = λ a v.
        let w : IsFindable k a = of-valid k good g image a v in
        let x : IsFindable l a = (on.finds a w).0 in
        let one : found_id (image_of l) a ≡ find (entries_of l) a = found_id-is l a (findable-within l a x) in
        let two : found_id (image_of k) a ≡ find (entries_of k) a = found_id-is k a (findable-within k a w) in
        ap (λ (i : Image). found_id i a) (sym image_h) ∙ (one ∙ (keeps.finds a w ∙ (sym two ∙ ap (λ (i : Image). found_id i a) image)));
    nodes = λ f fits valid a e.
        let d : DTerm = nameless_node f in
        let c : EachChild (IsFindable k) d.args = findable-children k good g image f fits valid.children in
        let b : EachChild (IsFindable l) d.args = EachChild-map (IsFindable k) (IsFindable l) (λ x v. (on.finds x v).0) d.args c in
        looked_up-is l q good_l rests_l h image_h filed_h d b ∙ keeps.nodes d c a (sym (looked_up-is k r good rests g image filed d c) ∙ e);
    terms = λ t a e. tree-is l q good_l rests_l h image_h filed_h (nameless t) ∙ keeps.trees (nameless t) a (sym (tree-is k r good rests g image filed (nameless t)) ∙ e);
  }
