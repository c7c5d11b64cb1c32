-- A term is looked up as the node over what its children are looked up as.
use Rattle.std.proofs.Common.{◌≡◌, ◌∙◌, ap, refl, sym, subst, ℕ, suc, ◌<◌, List, [], ◌∷◌, length, arith}
use Rattle.std.specs.Prelude.{All, IsSome, IsTrue, None, Option, Some, is_some, option_and_then, slice_index_or}
use Rattle.std.proofs.lemmas.Bool.{false≢true}
use Rattle.slotted_lists.proofs.Members.{In}
use Rattle.slotted_lists.proofs.Each.{Each, Each-from_All}
use Rattle.slotted_slots.specs.Table.{is_known, AllKnown}
use Rattle.slotted_slots.specs.Maps.{values}
use Rattle.slotted_theory.specs.Term.{Term}
use Rattle.slotted_theory.specs.Nameless.{DTerm, nameless}
use Rattle.slotted_theory.proofs.Values.{node}
use Rattle.slotted_nodes.specs.Form.{Form, IsSmall, children}
use Rattle.slotted_languages.specs.Filled as form
use Rattle.slotted_languages.specs.Filled.{filled}
use Rattle.slotted_languages.specs.NodeTerm.{nameless_node}
use Rattle.slotted_languages.specs.Shape.{Fits}
use Rattle.slotted_terms.specs.Valid.{HasKnownNames}
use Rattle.slotted_model.specs.Applied.{Applied, EachChild}
use Rattle.slotted_model.specs.LookUp.{look_up}
use Rattle.slotted_model.specs.State.{look_up_node}
use Rattle.slotted_model.proofs.Represented.LookUps.{Renames}
use Rattle.slotted_model.proofs.Rebuilding.Rows.{look_up_node-moved}
use Rattle.slotted_classes.specs.ChildIds.{child_ids}
use Rattle.slotted_classes.specs.Finding.{IsFindable}
use Rattle.slotted_classes.proofs.ChildIds.{EachChild-node_args}
use Rattle.slotted_classes.proofs.KeptLists.{any_default}
use Rattle.slotted_classes.proofs.NameMaps.{In-at, at_In}
use Rattle.slotted_hashcons.specs.WellFiled.{state_in}
use Rattle.slotted_lookup.specs.Filling.{node_over}
use Rattle.slotted_lookup.proofs.NodesOver.{child_ids-over, beside-over, length-over}
use Rattle.slotted_operations.proofs.Additions.TermNodes.{places-known}
use Rattle.slotted_operations.proofs.TermsOverIds.Layers.{each_at}
use Rattle.slotted_operations.proofs.LookUps.States.{looked_up-is, tree-is}
use Rattle.slotted_operations.proofs.LookUps.Subterms.{Looked, children_found, looked-args}
use Rattle.slotted_operations.proofs.Graphs.AtRest.{at-rest}
use Rattle.slotted_operations.proofs.Ids.ValidIds.{of-valid, renamed-findable}
use Rattle.slotted_graph.specs.Graph.{Graph}
use Rattle.slotted_graph.specs.LookUp.{look_up as look_up_form, look_up_term}
use Rattle.slotted_graph.specs.States.{IsGraph}
use Rattle.slotted_graph.specs.ValidIds.{IsValidId, IsValidNode}
use Rattle.slotted_rules.specs.Frames.{at}

-- after i children: n is the node over what they are looked up as
pub record AreLooked (g : Graph) (f : Form) (us : List Term) (n : Form) (i : ℕ) : Type 0 where
  pub ids : List Applied
  pub count : length ids ≡ i
  pub form : n ≡ node_over f ids
  pub valid : (j : ℕ) → j < i → IsValidId g (at ids j)
  pub found : (j : ℕ) (e : Term) → j < i → look_up_term g (slice_index_or us j e) ≡ Some (at ids j)

module _ (g : Graph) (f : Form) (us : List Term) (fits : Fits f) where
  module _ (n : Form) (i : ℕ) (b : AreLooked g f us n i) where
    pub looked-count : length (children n.tree) ≡ length (children f.tree)
    looked-count = ap (λ (z : Form). length (children z.tree)) b.form ∙ length-over f.tree b.ids

    module _ (is : IsGraph g) (all : i ≡ length (children f.tree)) (many : length us ≡ length (children f.tree)) (now : Fits n) where
      ids-are : child_ids n ≡ b.ids
      ids-are = ap child_ids b.form ∙ child_ids-over f b.ids fits (b.count ∙ all)

      children-valid : All (IsValidId g) (child_ids n)
      children-valid = subst (All (IsValidId g)) (sym ids-are) (λ j d l. subst (IsValidId g) (any_default b.ids j (0, []) d l) (b.valid j (omega (arith, l, b.count))))

      -- beside its children it is the node of the term
      one-term : form.term_of n us ≡ form.term_of f us
      one-term =
          let beside = beside-over f b.ids fits in
          ap (λ (z : Form). form.term_of z us) b.form
          ∙ (λ j. record { op = suc f.operator; payloads = f.payloads; args = beside.outline us many j })

      node-known : HasKnownNames g.table (form.term_of f us).args → AllKnown g.table n.names
      node-known known j d l =
          let args : HasKnownNames g.table (filled n.tree n.names us) = subst (λ (t : Term). HasKnownNames g.table t.args) (sym one-term) known in
          let ids : Each (λ (a : Applied). (x : ℕ) → In x (values a.1) → IsTrue (is_known g.table x)) (child_ids n) =
          Each-from_All (λ (a : Applied). (x : ℕ) → In x (values a.1) → IsTrue (is_known g.table x)) (child_ids n)
          (λ k e m x h. at_In (λ y. IsTrue (is_known g.table y)) (values (slice_index_or (child_ids n) k e).1) (children-valid k e m).known x h) in
          places-known g.table n.tree n.names us now (many ∙ sym looked-count) args ids _ (In-at n.names j d l)

      pub looked-valid : IsSmall n → HasKnownNames g.table (form.term_of f us).args → IsValidNode g n
      looked-valid few known = record { few = few; known = node-known known; children = children-valid }

      pub looked-node : look_up_term g (form.term_of f us) ≡ look_up_form g n
      looked-node =
          let s = is.is_state in
          let look = look_up_node (state_in s.kept s.rows) in
          let rest = at-rest s.kept s.rows s.good s.rests in
          let law : Renames look = look_up_node-moved (state_in s.kept s.rows) rest.sane.sound.linked rest.sane.filed in
          let findable : EachChild (IsFindable s.kept) (nameless_node n).args =
          EachChild-node_args (IsFindable s.kept) (renamed-findable s.kept) (λ x. x) (λ x y e. e) n.tree n.names now
          (Each-from_All (IsFindable s.kept) (child_ids n) (λ j d l. of-valid s.kept s.good g s.image (slice_index_or (child_ids n) j d) (children-valid j d l))) in
          let as-trees = tree-is s.kept s.rows s.good s.rests g s.image s.filed in
          let each : Looked look law (child_ids n) us =
          looked-all look law (child_ids n) us (ap length ids-are ∙ (b.count ∙ (all ∙ sym many)))
          (λ j d e l. sym (as-trees (nameless (slice_index_or us j e))) ∙ (b.found j e (omega (arith, l, all, many)) ∙ ap Some (any_default b.ids j (0, []) d (omega (arith, l, all, many, b.count)) ∙ ap (λ (z : List Applied). slice_index_or z j d) (sym ids-are)))) in
          as-trees (nameless (form.term_of f us))
          ∙ (ap (λ (t : Term). look_up look (nameless t)) (sym one-term)
          ∙ (ap (option_and_then (λ found. look (node (suc n.operator) n.payloads found))) (looked-args look law (λ x. x) (λ x y e. e) n.tree n.names us now each)
          ∙ sym (looked_up-is s.kept s.rows s.good s.rests g s.image s.filed (nameless_node n) findable)))
        where
          looked-all : (look : DTerm → Option Applied) (law : Renames look) (ids : List Applied) (vs : List Term) → length ids ≡ length vs → ((j : ℕ) (d : Applied) (e : Term) → j < length vs → look_up look (nameless (slice_index_or vs j e)) ≡ Some (slice_index_or ids j d)) → Looked look law ids vs
          looked-all look law [] [] y o = tt
          looked-all look law [] (c ∷ vs) y o = absurd (omega (arith, y))
          looked-all look law (b ∷ ids) [] y o = absurd (omega (arith, y))
          looked-all look law (b ∷ ids) (c ∷ vs) y o = (o 0 b c (omega arith), looked-all look law ids vs (omega (arith, y)) (λ j d e z. o (suc j) d e (omega (arith, z))))

-- where a child is not looked up, the term is not
pub none-looked : (g : Graph) (f : Form) (us : List Term) → IsGraph g → length us ≡ length (children f.tree) → (i : ℕ) (u : Term) → i < length us → u ≡ slice_index_or us i u → look_up_term g u ≡ None → look_up_term g (form.term_of f us) ≡ None
none-looked g f us is many i u l at-i none = by (look_up_term g (form.term_of f us)) refl
  where
    by : (o : Option Applied) → look_up_term g (form.term_of f us) ≡ o → o ≡ None
    by None e = refl
    by (Some a) e =
        let s = is.is_state in
        let look = look_up_node (state_in s.kept s.rows) in
        let rest = at-rest s.kept s.rows s.good s.rests in
        let law : Renames look = look_up_node-moved (state_in s.kept s.rows) rest.sane.sound.linked rest.sane.filed in
        let as-trees = tree-is s.kept s.rows s.good s.rests g s.image s.filed in
        let each = children_found look law f us many (ap is_some (sym (as-trees (nameless (form.term_of f us))) ∙ e)) in
        let here = each_at (λ (t : Term). IsSome (look_up look (nameless t))) us i u l each in
        absurd (false≢true (ap is_some (sym none ∙ (ap (look_up_term g) at-i ∙ as-trees (nameless (slice_index_or us i u)))) ∙ here))
