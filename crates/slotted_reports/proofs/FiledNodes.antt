-- A filed node with other names put in: its names are known, and its children find.
use Rattle.std.proofs.Common.{◌≡◌, ◌∙◌, ℕ, List, Some, length, ap, sym, subst}
use Rattle.std.specs.Prelude.{All, Contains, IsTrue}
use Rattle.slotted_lists.proofs.Each.{All-from_Each}
use Rattle.slotted_theory.specs.FiniteMaps.{filled}
use Rattle.slotted_theory.specs.Nameless.{DTerm, moved, nameless_args}
use Rattle.slotted_theory.proofs.Filled.{filled-injective}
use Rattle.slotted_theory.proofs.Laws.{moved-nameless_args}
use Rattle.slotted_slots.specs.Table.{Table, is_known}
use Rattle.slotted_slots.proofs.TableLaws.{is_known-numeric_slot}
use Rattle.slotted_nodes.specs.Form.{Form, scopes}
use Rattle.slotted_languages.specs.NodeTerm.{nameless_node, node_args}
use Rattle.slotted_languages.specs.Shape.{Fits, shape}
use Rattle.slotted_languages.proofs.Shapes.{injective-shape, shape-renamed}
use Rattle.slotted_model.specs.Applied.{Applied, EachChild, values}
use Rattle.slotted_model.specs.Classes.{canonical_node}
use Rattle.slotted_model.specs.Correspondence.{composite}
use Rattle.slotted_model.specs.Find.{Entry, find, find_map, used_slots}
use Rattle.slotted_model.specs.Rest.{IsValidIn}
use Rattle.slotted_model.specs.State.{State, normal_node}
use Rattle.slotted_model.proofs.Represented.Children.{EachChild-map, EachChild-moved}
use Rattle.slotted_model.proofs.Correspondences.Pairs.{In-values_composite}
use Rattle.slotted_model.proofs.Rebuilding.Events.{normal-found}
use Rattle.slotted_model.proofs.Rebuilding.Refiling.{canonical-valid}
use Rattle.slotted_model.proofs.Represented.RenamedIds.{valid-renamed}
use Rattle.slotted_classes.specs.ChildIds.{child_ids}
use Rattle.slotted_classes.specs.Finding.{IsFindable}
use Rattle.slotted_classes.specs.Kept.{Kept, nodes_of, entries_of}
use Rattle.slotted_classes.proofs.ChildIds.{EachChild-node_args}
use Rattle.slotted_classes.proofs.NameMaps.{In-at, at_In}
use Rattle.slotted_classes.proofs.PutNames.{AreNumeric, numeric-shape}
use Rattle.slotted_hashcons.specs.Filed.{HasKey, filed_of}
use Rattle.slotted_hashcons.specs.FiledRows.{Rows}
use Rattle.slotted_hashcons.specs.FoundNodes.{IsFoundNode}
use Rattle.slotted_hashcons.proofs.FoundChildren.{child_ids-valid, each-child, valid-back}
use Rattle.slotted_hashcons.specs.WellFiled.{IsKeyed, IsWellFiled, state_in}
use Rattle.slotted_lookup.specs.Enodes.{AllKnownTo}
use Rattle.slotted_reports.specs.Nodes.{key_of}
use Rattle.slotted_lookup.proofs.AppliedNodes.{filed-in_nodes, filed-key, filed-node}

-- the names of a shape are numbers, which each table knows

pub key-known : (t : Table) (f : Form) → (shape f).0 ≡ f → AllKnownTo t f.names
key-known t f itself j d l =
    let number = subst (λ (g : Form). AreNumeric g.names) itself (numeric-shape f).0 _ (In-at f.names j d l) in
    subst (λ x. IsTrue (is_known t x)) (sym number.1) (is_known-numeric_slot t number.0)

-- the names that are put in are names of the id

pub names-known : (t : Table) (found : List Entry) (B : List (ℕ × ℕ)) (a : Applied) → AllKnownTo t (values a.1) → AllKnownTo t (values (composite B (find found a).1))
names-known t found B a known j d h =
    let names : List ℕ = values (composite B (find found a).1) in
    at_In (λ s. IsTrue (is_known t s)) (values a.1) known _
    (In-values_composite (find_map found a.0) a.1 _ (In-values_composite B (find found a).1 _ (In-at names j d h)))

-- a node with this shape
module _ (k : Kept) (r : Rows) (well : IsWellFiled k r) (o : ℕ) (f : Form) (m : List (ℕ × ℕ)) (at : filed_of r.filed o ≡ Some (f, m)) (quiet : ¬ Contains r.waiting o) where
  abbrev g : State
  g = state_in k r

  abbrev Valid : Applied → Type 0
  Valid = IsFindable k

  kept : IsKeyed (f, m)
  kept = filed-key k r well o f m at

  node : IsFoundNode k o f m
  node = filed-node k r well o f m at quiet

  pub filed-names_known : (t : Table) → AllKnownTo t f.names
  filed-names_known t = key-known t f kept.itself

  -- its children find, since those of the canonical node do
  normal-valid : EachChild Valid (normal_node g o).args
  normal-valid =
      let canonical = canonical-valid g well.sane o (filed-in_nodes k r well o f m at) in
      EachChild-map (λ a. IsValidIn g a × (find g.found a ≡ a)) (IsValidIn g) (λ a v. v.0) (normal_node g o).args (normal-found g well.sane.sound.linked (canonical_node g.nodes o).args canonical)

  key-valid : EachChild Valid (nameless_node f).args
  key-valid =
      let named : EachChild Valid (moved (filled m) (nameless_node f)).args = subst (λ (d : DTerm). EachChild Valid d.args) (sym node.back) normal-valid in
      let under : EachChild Valid (nameless_args (filled m) (node_args f.tree f.names)) =
      subst (EachChild Valid) (moved-nameless_args (filled m) (λ x. x) (node_args f.tree f.names)) named in
      let each = each-child Valid (valid-back (used_slots (entries_of k)) (nodes_of k)) (filled m) f.tree f.names kept.fits under in
      EachChild-node_args Valid (λ h inj a. valid-renamed (used_slots (entries_of k)) (nodes_of k) h inj a) (λ x. x) (λ x y e. e) f.tree f.names kept.fits each

  module _ (c : Form) (fits : Fits c) (key : HasKey r.filed o (shape c).0) where
    pub same-key : f ≡ (shape c).0
    same-key = ap key_of (sym at ∙ key.1)

    pub filed-children : All Valid (child_ids c)
    filed-children =
        let mine : EachChild Valid (nameless_node (shape c).0).args = subst (λ (h : Form). EachChild Valid (nameless_node h).args) same-key key-valid in
        let there = EachChild-moved Valid (λ h inj a. valid-renamed (used_slots (entries_of k)) (nodes_of k) h inj a) (filled (shape c).1) (filled-injective (shape c).1 (injective-shape c)) (nameless_node (shape c).0).args mine in
        let whole : EachChild Valid (nameless_node c).args = subst (λ (d : DTerm). EachChild Valid d.args) (shape-renamed c fits) there in
        All-from_Each Valid (child_ids c) (child_ids-valid (used_slots (entries_of k)) (nodes_of k) c fits whole)

    -- as many places
    pub filed-places : length c.names ≡ length f.names
    filed-places =
        let tree = ap (λ (h : Form). length (scopes h.tree)) same-key in
        let same : length (scopes f.tree) ≡ length (scopes c.tree) = tree in
        fits ∙ (sym same ∙ sym kept.fits)
