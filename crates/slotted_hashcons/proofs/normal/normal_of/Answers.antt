-- Each child of the node is an id that finds, and what it finds is put in its place.
use Rattle.std.proofs.Common.{◌≡◌, ◌<◌, ◌≤◌, ℕ, [], length, ◌∙◌, ap, sym, subst, arith}
use Rattle.std.specs.Prelude.{slice_index_or}
use Rattle.slotted_languages.specs.NodeTerm.{nameless_node}
use Rattle.slotted_languages.specs.Shape.{Fits}
use Rattle.slotted_slots.specs.Maps.{keys, values}
use Rattle.slotted_nodes.specs.Form.{Form, with_child, children}
use Rattle.slotted_model.specs.Applied.{Applied, EachChild}
use Rattle.slotted_model.specs.Find.{find, used_slots}
use Rattle.slotted_model.specs.Normal.{IsFound}
use Rattle.slotted_model.proofs.Finds.Congruence.{normal_args-live}
use Rattle.slotted_proofs.specs.Equations.{to_applied}
use Rattle.slotted_classes.specs.Finding.{IsFindable}
use Rattle.slotted_classes.specs.Kept.{Kept, nodes_of, entries_of}
use Rattle.slotted_classes.specs.ChildIds.{child_ids}
use Rattle.slotted_hashcons.specs.NormalNodes.{HasFindableChildren, HasNoOtherNames}
use Rattle.slotted_classes.proofs.ChildIds.{child_is, length-ids}
use Rattle.slotted_classes.proofs.KeptLists.{length-nodes_of}
use Rattle.slotted_hashcons.proofs.FoundIds.{found-itself}
use Rattle.slotted_hashcons.proofs.FoundChildren.{Each-at, child_ids-valid, found-nameless, found-no_other, found-places}
use Rattle.slotted_hashcons.proofs.ReplacedChildren.{first_form-none, first_form-more, first_form-same, length_children-first}
use Rattle.slotted_hashcons.proofs.normal.normal_of.Goals.{then-not-is_canonical+in_ok-found, else-not-is_canonical}
use Rattle.slotted_hashcons.proofs.normal.normal_of.Goals as goal

pub loop-k-init : goal.loop-k-init
loop-k-init g c =
    let f = g.L.LanguageChildren.form c.args.node.now in
    ap g.L.LanguageChildren.form c.in_ok-normal.ensures.ok ∙ sym (first_form-none (find (entries_of c.args.store.now)) f (g.met.L.LanguageChildren.fits c.args.node.now))

-- each child is an id that finds
child-finds : (k : Kept) (f : Form) → Fits f → HasFindableChildren k f → (n : ℕ) (a : Applied) → n < length (children f.tree) → a ≡ slice_index_or (child_ids f) n (0, []) → IsFindable k a
child-finds k f fits findable n a lt is =
    subst (IsFindable k) (sym is) (Each-at (IsFindable k) (child_ids f) n (0, []) (child_ids-valid (used_slots (entries_of k)) (nodes_of k) f fits findable) (omega (arith, lt, length-ids f.tree f.names)))

pub is_canonical-requires : goal.is_canonical-requires
is_canonical-requires g c =
    let k = c.args.store.now in
    let f = g.L.LanguageChildren.form c.args.node.now in
    let a : Applied = to_applied c.applied_id-child.result.now in
    let lt : c.loop-k.k < length (children f.tree) = omega (arith, c.loop-k-test.true, c.applied_id_count-k-end.ensures) in
    let finds : IsFindable k a = child-finds k f (g.met.L.LanguageChildren.fits c.args.node.now) c.requires.children c.loop-k.k a lt
    (child_is f c.loop-k.k (0, []) a lt c.applied_id-child.ensures.id c.applied_id-child.ensures.keys c.applied_id-child.ensures.names) in
    omega (arith, finds.in_range, length-nodes_of k)

pub found_id-requires-clause-findable : goal.found_id-requires-clause-findable
found_id-requires-clause-findable g c =
    let f = g.L.LanguageChildren.form c.args.node.now in
    let a : Applied = to_applied c.applied_id-child.result.now in
    let lt : c.loop-k.k < length (children f.tree) = omega (arith, c.loop-k-test.true, c.applied_id_count-k-end.ensures) in
    child-finds c.args.store.now f (g.met.L.LanguageChildren.fits c.args.node.now) c.requires.children c.loop-k.k a lt
    (child_is f c.loop-k.k (0, []) a lt c.applied_id-child.ensures.id c.applied_id-child.ensures.keys c.applied_id-child.ensures.names)

pub set_applied_id-requires : goal.set_applied_id-requires
set_applied_id-requires g c =
    let f = g.L.LanguageChildren.form c.args.node.now in
    let e = ap (λ (h : Form). length (children h.tree)) c.loop-k.invariant in
    omega (arith, e, length_children-first (find (entries_of c.args.store.now)) f.tree c.loop-k.k f.names, c.loop-k-test.true, c.applied_id_count-k-end.ensures)

pub loop-k-preserved : goal.loop-k-preserved
loop-k-preserved g c =
    let form = g.L.LanguageChildren.form in
    let f = form c.args.node.now in
    let fits = g.met.L.LanguageChildren.fits c.args.node.now in
    let found = entries_of c.args.store.now in
    let a : Applied = to_applied c.applied_id-child.result.now in
    let lt : c.loop-k.k < length (children f.tree) = omega (arith, c.loop-k-test.true, c.applied_id_count-k-end.ensures) in
    let is = child_is f c.loop-k.k (0, []) a lt c.applied_id-child.ensures.id c.applied_id-child.ensures.keys c.applied_id-child.ensures.names in
    elim c.if-not-is_canonical.branch [
      | then-not-is_canonical+in_ok-found w ↦
          let b : Applied = to_applied w.in_ok-found.found in
          ap form w.normal-is
          ∙ (w.set_applied_id.ensures
          ∙ (ap (λ h. with_child h c.loop-k.k b.0 (keys b.1) (values b.1)) c.loop-k.invariant
          ∙ first_form-more (find found) f c.loop-k.k b (0, []) lt fits (w.in_ok-found.ensures.ok ∙ ap (find found) is)))
      | else-not-is_canonical w ↦
          let finds : IsFindable c.args.store.now a = child-finds c.args.store.now f fits c.requires.children c.loop-k.k a lt is in
          let all = c.is_canonical.ensures.0 w.if-not-is_canonical.false in
          let same : find found a ≡ a = found-itself c.args.store.now c.requires.good a finds all.0 all.1 in
          ap form w.normal-is ∙ (c.loop-k.invariant ∙ first_form-same (find found) f c.loop-k.k (0, []) lt fits (sym is ∙ (sym same ∙ ap (find found) is)))
    ]

pub returns-clause-normal : goal.returns-clause-normal
returns-clause-normal g c =
    let f = g.L.LanguageChildren.form c.args.node.now in
    ap nameless_node c.loop-k.invariant
    ∙ found-nameless (entries_of c.args.store.now) f c.loop-k.k (g.met.L.LanguageChildren.fits c.args.node.now) (omega (arith, c.loop-k-test.false, c.applied_id_count-k-end.ensures))

pub returns-clause-found : goal.returns-clause-found
returns-clause-found g c =
    let k : Kept = c.args.store.now in
    let f = g.L.LanguageChildren.form c.args.node.now in
    let e = ap nameless_node c.loop-k.invariant
    ∙ found-nameless (entries_of k) f c.loop-k.k (g.met.L.LanguageChildren.fits c.args.node.now) (omega (arith, c.loop-k-test.false, c.applied_id_count-k-end.ensures)) in
    subst (λ d. EachChild (IsFound (entries_of k)) d.args) (sym e) (normal_args-live (nodes_of k) (entries_of k) c.requires.good.linked (nameless_node f).args c.requires.children)

pub returns-clause-places : goal.returns-clause-places
returns-clause-places g c =
    let k : Kept = c.args.store.now in
    let f = g.L.LanguageChildren.form c.args.node.now in
    let fits = g.met.L.LanguageChildren.fits c.args.node.now in
    subst (λ (h : Form). length h.names ≤ length f.names) (sym c.loop-k.invariant)
    (found-places (nodes_of k) (entries_of k) c.requires.good.linked f c.loop-k.k fits (child_ids-valid (used_slots (entries_of k)) (nodes_of k) f fits c.requires.children))

pub returns-clause-names : goal.returns-clause-names
returns-clause-names g c =
    let f = g.L.LanguageChildren.form c.args.node.now in
    subst (HasNoOtherNames f) (sym c.loop-k.invariant) (found-no_other (entries_of c.args.store.now) f c.loop-k.k (g.met.L.LanguageChildren.fits c.args.node.now))
