-- Each child of the node is an id that finds, and is asked in turn.
use Rattle.std.proofs.Common.{◌≡◌, ◌<◌, ℕ, arith, length, sym, subst}
use Rattle.std.specs.Prelude.{slice_index_or}
use Rattle.slotted_nodes.specs.Form.{Form, children}
use Rattle.slotted_languages.specs.Shape.{Fits}
use Rattle.slotted_model.specs.Applied.{Applied}
use Rattle.slotted_model.specs.Find.{find, used_slots}
use Rattle.slotted_proofs.specs.Equations.{to_applied}
use Rattle.slotted_classes.specs.ChildIds.{child_ids}
use Rattle.slotted_classes.specs.Finding.{IsFindable}
use Rattle.slotted_classes.specs.Kept.{Kept, entries_of, nodes_of}
use Rattle.slotted_classes.proofs.ChildIds.{child_is, child_next, length-ids}
use Rattle.slotted_classes.proofs.KeptLists.{length-nodes_of}
use Rattle.slotted_hashcons.specs.NormalNodes.{HasFindableChildren}
use Rattle.slotted_hashcons.proofs.FoundIds.{found-itself}
use Rattle.slotted_hashcons.proofs.FoundChildren.{Each-at, child_ids-valid}
use Rattle.slotted_lookup.proofs.NormalNodes.{normal-found}
use Rattle.slotted_lookup.proofs.lookup.is_normal.Goals as goal

-- each child is an id that finds
child-finds : (k : Kept) (f : Form) → Fits f → HasFindableChildren k f → (n : ℕ) (a : Applied) → n < length (children f.tree) → a ≡ slice_index_or (child_ids f) n a → IsFindable k a
child-finds k f fits findable n a l is =
    subst (IsFindable k) (sym is) (Each-at (IsFindable k) (child_ids f) n a (child_ids-valid (used_slots (entries_of k)) (nodes_of k) f fits findable) (omega (arith, l, length-ids f.tree f.names)))

pub is_canonical-requires : goal.is_canonical-requires
is_canonical-requires g c =
    let k = c.args.store.now in
    let f = g.L.LanguageChildren.form c.args.node.now in
    let a : Applied = to_applied c.applied_id.result.now in
    let l : c.loop-k.k < length (children f.tree) = omega (arith, c.loop-k-test.true, c.applied_id_count-k-end.ensures) in
    let is = child_is f c.loop-k.k a a l c.applied_id.ensures.id c.applied_id.ensures.keys c.applied_id.ensures.names in
    let finds : IsFindable k a = child-finds k f (g.met.L.LanguageChildren.fits c.args.node.now) c.requires.children c.loop-k.k a l is in
    omega (arith, finds.in_range, length-nodes_of k)

pub loop-k-preserved : goal.loop-k-preserved
loop-k-preserved g c =
    let f = g.L.LanguageChildren.form c.args.node.now in
    let l : c.loop-k.k < length (children f.tree) = omega (arith, c.loop-k-test.true, c.applied_id_count-k-end.ensures) in
    let k = c.args.store.now in
    let a : Applied = to_applied c.applied_id.result.now in
    let is = child_is f c.loop-k.k a a l c.applied_id.ensures.id c.applied_id.ensures.keys c.applied_id.ensures.names in
    let finds : IsFindable k a = child-finds k f (g.met.L.LanguageChildren.fits c.args.node.now) c.requires.children c.loop-k.k a l is in
    let all = c.is_canonical.ensures.0 c.if-not-is_canonical.false in
    child_next (λ a. find (entries_of c.args.store.now) a ≡ a) f c.loop-k.k (to_applied c.applied_id.result.now) l c.applied_id.ensures.id c.applied_id.ensures.keys c.applied_id.ensures.names
    (found-itself k c.requires.good a finds all.0 all.1) c.loop-k.invariant

pub returns : goal.returns
returns g c =
    let f = g.L.LanguageChildren.form c.args.node.now in
    λ y. normal-found (entries_of c.args.store.now) f (g.met.L.LanguageChildren.fits c.args.node.now)
    (λ j d l. c.loop-k.invariant j d (omega (arith, l, length-ids f.tree f.names, c.loop-k-test.false, c.applied_id_count-k-end.ensures)))
