use Rattle.std.proofs.Common.{◌≡◌, ◌<◌, ◌≤◌, ◌+◌, ◌∙◌, ℕ, [], ◌∷◌, ◌++◌, length, take, get_or, ap, sym, subst, arith, rules}
use Rattle.std.proofs.lemmas.List.{take_all, length-take-le}
use Rattle.slotted_slots.specs.Maps.{keys, values}
use Rattle.slotted_slots.specs.Table.{Table}
use Rattle.slotted_nodes.specs.Form.{Form, with_child, children}
use Rattle.slotted_model.specs.Find.{used_slots}
use Rattle.slotted_proofs.specs.Equations.{to_applied}
use Rattle.slotted_classes.specs.ChildIds.{child_ids}
use Rattle.slotted_classes.specs.Finding.{IsFindable}
use Rattle.slotted_classes.specs.Kept.{Kept, nodes_of, entries_of}
use Rattle.slotted_classes.proofs.ChildIds.{child_is, length-ids}
use Rattle.slotted_hashcons.proofs.FoundChildren.{Each-at, child_ids-valid}
use Rattle.slotted_lookup.specs.Filling.{FillsChildren, HasOneNormalForm, KeepsKnown, MakesFull, filled_id, filled_ids, missing, missing_in, missing_of, node_over, tree_over, with_fresh}
use Rattle.slotted_languages.specs.Beside.{IsBeside}
use Rattle.slotted_lookup.proofs.IdFillings.{with_fresh-more}
use Rattle.slotted_lookup.proofs.ChildFillings.{filled-more, length-filled, makes-after, missing-more, missing-within, node-fills, node-full, node-known, node-normal, node-whole, runs_out-after}
use Rattle.slotted_lookup.proofs.NodesOver.{beside-over, length-over, node_over-more, node_over-none}
use Rattle.slotted_lookup.proofs.filling.fill_node.Goals as goal

-- past the last child these are all
all : (f : Form) (i : ℕ) → length (children f.tree) ≤ i → take i (child_ids f) ≡ child_ids f
all f i l = take_all i (child_ids f) (omega (arith, l, length-ids f.tree f.names))

pub loop-k-init : goal.loop-k-init
loop-k-init g c =
    let f = g.L.LanguageChildren.form c.args.node.now in
    record {
      node = ap g.L.LanguageChildren.form c.in_ok-filled.ensures.ok ∙ sym (node_over-none f (g.met.L.LanguageChildren.fits c.args.node.now));
      made = let e : c.args.table.now.fresh ≡ c.args.table.now.fresh + 0 = omega arith in ap (λ n. let r : Table = record c.args.table.now { fresh = n } in r) e;
    }

pub fill_id-requires-clause-findable : goal.fill_id-requires-clause-findable
fill_id-requires-clause-findable g c =
    let k : Kept = c.args.store.now in
    let f = g.L.LanguageChildren.form c.args.node.now in
    let fits = g.met.L.LanguageChildren.fits c.args.node.now in
    let lt : c.loop-k.k < length (children f.tree) = omega (arith, c.loop-k-test.true, c.applied_id_count-k-end.ensures) in
    let is = child_is f c.loop-k.k (0, []) (to_applied c.applied_id.result.now) lt c.applied_id.ensures.id c.applied_id.ensures.keys c.applied_id.ensures.names in
    subst (IsFindable k) (sym is) (Each-at (IsFindable k) (child_ids f) c.loop-k.k (0, []) (child_ids-valid (used_slots (entries_of k)) (nodes_of k) f fits c.requires.children) (omega (arith, lt, length-ids f.tree f.names)))

pub set_applied_id-requires : goal.set_applied_id-requires
set_applied_id-requires g c =
    let f = g.L.LanguageChildren.form c.args.node.now in
    let bs = filled_ids c.args.store.now c.args.table.now.fresh (take c.loop-k.k (child_ids f)) in
    let e : length (children (g.L.LanguageChildren.form c.loop-k.filled).tree) ≡ length (children (tree_over f.tree bs)) = ap (λ (h : Form). length (children h.tree)) c.loop-k.invariant.node in
    omega (arith, e, length-over f.tree bs, c.loop-k-test.true, c.applied_id_count-k-end.ensures)

pub loop-k-preserved : goal.loop-k-preserved
loop-k-preserved g c =
    let k : Kept = c.args.store.now in
    let t : Table = c.args.table.now in
    let f = g.L.LanguageChildren.form c.args.node.now in
    let fits = g.met.L.LanguageChildren.fits c.args.node.now in
    let i = c.loop-k.k in
    let a = to_applied c.applied_id.result.now in
    let b = to_applied c.in_ok-child.child in
    let ids = child_ids f in
    let bs = filled_ids k t.fresh (take i ids) in
    let n = missing_in k (take i ids) in
    let lt : i < length (children f.tree) = omega (arith, c.loop-k-test.true, c.applied_id_count-k-end.ensures) in
    let at : i < length ids = omega (arith, lt, length-ids f.tree f.names) in
    let is : a ≡ get_or ids i (0, []) = child_is f i (0, []) a lt c.applied_id.ensures.id c.applied_id.ensures.keys c.applied_id.ensures.names in
    let from : c.loop-k.table.fresh ≡ t.fresh + n = ap (λ (u : Table). u.fresh) c.loop-k.invariant.made in
    let so_far : length bs ≡ i = length-filled k t.fresh (take i ids) ∙ length-take-le i ids (omega arith) in
    let answer : b ≡ filled_id k (t.fresh + n) (get_or ids i (0, [])) = c.in_ok-child.ensures.id ∙ (λ j. filled_id k (from j) (is j)) in
    let total : t.fresh + n + missing k a ≡ t.fresh + missing_in k (take (i + 1) ids) = omega (arith, missing-more k ids i (0, []) at, ap (missing k) is) in
    record {
      node = c.set_applied_id.ensures
          ∙ (ap (λ h. with_child h i b.0 (keys b.1) (values b.1)) c.loop-k.invariant.node
          ∙ (node_over-more f bs i b so_far lt fits ∙ ap (node_over f) (ap (λ p. bs ++ p ∷ []) answer ∙ sym (filled-more k t.fresh ids i (0, []) at))));
      made = c.in_ok-child.ensures.made ∙ (ap (with_fresh (missing k a)) c.loop-k.invariant.made ∙ ap (λ m. let r : Table = record t { fresh = m } in r) total);
    }

-- at the end all children are filled

pub returns-clause-node : goal.returns-clause-node
returns-clause-node g c =
    let f = g.L.LanguageChildren.form c.args.node.now in
    c.loop-k.invariant.node ∙ ap (λ ids. node_over f (filled_ids c.args.store.now c.args.table.now.fresh ids)) (all f c.loop-k.k (omega (arith, c.loop-k-test.false, c.applied_id_count-k-end.ensures)))

pub returns-clause-children : goal.returns-clause-children
returns-clause-children g c =
    let k : Kept = c.args.store.now in
    let t : Table = c.args.table.now in
    let f = g.L.LanguageChildren.form c.args.node.now in
    subst (MakesFull k t f) (sym (c.loop-k.invariant.node ∙ ap (λ ids. node_over f (filled_ids k t.fresh ids)) (all f c.loop-k.k (omega (arith, c.loop-k-test.false, c.applied_id_count-k-end.ensures)))))
    (node-full k t f (g.met.L.LanguageChildren.fits c.args.node.now) c.requires.children)

pub returns-clause-fills : goal.returns-clause-fills
returns-clause-fills g c =
    let k : Kept = c.args.store.now in
    let t : Table = c.args.table.now in
    let f = g.L.LanguageChildren.form c.args.node.now in
    subst (FillsChildren k t f) (sym (c.loop-k.invariant.node ∙ ap (λ ids. node_over f (filled_ids k t.fresh ids)) (all f c.loop-k.k (omega (arith, c.loop-k-test.false, c.applied_id_count-k-end.ensures)))))
    (node-fills k t f (g.met.L.LanguageChildren.fits c.args.node.now) c.requires.children)

pub returns-clause-beside : goal.returns-clause-beside
returns-clause-beside g c =
    let f = g.L.LanguageChildren.form c.args.node.now in
    subst (IsBeside f) (sym c.loop-k.invariant.node)
    (beside-over f (filled_ids c.args.store.now c.args.table.now.fresh (take c.loop-k.k (child_ids f))) (g.met.L.LanguageChildren.fits c.args.node.now))

pub returns-clause-normal : goal.returns-clause-normal
returns-clause-normal g c =
    let k : Kept = c.args.store.now in
    let t : Table = c.args.table.now in
    let f = g.L.LanguageChildren.form c.args.node.now in
    subst (HasOneNormalForm k f) (sym (c.loop-k.invariant.node ∙ ap (λ ids. node_over f (filled_ids k t.fresh ids)) (all f c.loop-k.k (omega (arith, c.loop-k-test.false, c.applied_id_count-k-end.ensures)))))
    (node-normal k t f (g.met.L.LanguageChildren.fits c.args.node.now) c.requires.children)

pub returns-clause-same : goal.returns-clause-same
returns-clause-same g c =
    let k : Kept = c.args.store.now in
    let t : Table = c.args.table.now in
    let f = g.L.LanguageChildren.form c.args.node.now in
    λ full.
    c.loop-k.invariant.node ∙ (ap (λ ids. node_over f (filled_ids k t.fresh ids)) (all f c.loop-k.k (omega (arith, c.loop-k-test.false, c.applied_id_count-k-end.ensures)))
    ∙ node-whole k t f (g.met.L.LanguageChildren.fits c.args.node.now) full)

pub returns-clause-made : goal.returns-clause-made
returns-clause-made g c =
    let f = g.L.LanguageChildren.form c.args.node.now in
    c.loop-k.invariant.made ∙ ap (λ ids. with_fresh (missing_in c.args.store.now ids) c.args.table.now) (all f c.loop-k.k (omega (arith, c.loop-k-test.false, c.applied_id_count-k-end.ensures)))

pub returns-clause-known : goal.returns-clause-known
returns-clause-known g c =
    let k : Kept = c.args.store.now in
    let t : Table = c.args.table.now in
    let u : Table = c.loop-k.table in
    let f = g.L.LanguageChildren.form c.args.node.now in
    let end = all f c.loop-k.k (omega (arith, c.loop-k-test.false, c.applied_id_count-k-end.ensures)) in
    let made = c.loop-k.invariant.made ∙ ap (λ ids. with_fresh (missing_in k ids) t) end in
    subst (λ (h : Form). KeepsKnown t u f.names h.names) (sym (c.loop-k.invariant.node ∙ ap (λ ids. node_over f (filled_ids k t.fresh ids)) end))
    (node-known k t f (g.met.L.LanguageChildren.fits c.args.node.now) u made)

pub returns-clause-takes : goal.returns-clause-takes
returns-clause-takes g c =
    let k : Kept = c.args.store.now in
    let f = g.L.LanguageChildren.form c.args.node.now in
    let made = c.loop-k.invariant.made ∙ ap (λ ids. with_fresh (missing_in k ids) c.args.table.now) (all f c.loop-k.k (omega (arith, c.loop-k-test.false, c.applied_id_count-k-end.ensures))) in
    record { names = ap (λ (u : Table). u.names) made; taken = let e = ap (λ (u : Table). u.fresh) made in omega (arith, e) }

pub returns-clause-more : goal.returns-clause-more
returns-clause-more g c =
    let f = g.L.LanguageChildren.form c.args.node.now in
    with_fresh-more c.args.table.now c.loop-k.table (missing_in c.args.store.now (take c.loop-k.k (child_ids f))) c.loop-k.invariant.made

-- where a child is refused

pub returns-in_err-child-clause-takes : goal.returns-in_err-child-clause-takes
returns-in_err-child-clause-takes g c =
    let k : Kept = c.args.store.now in
    let f = g.L.LanguageChildren.form c.args.node.now in
    let i = c.loop-k.k in
    let a = to_applied c.applied_id.result.now in
    let lt : i < length (children f.tree) = omega (arith, c.loop-k-test.true, c.applied_id_count-k-end.ensures) in
    let is = child_is f i (0, []) a lt c.applied_id.ensures.id c.applied_id.ensures.keys c.applied_id.ensures.names in
    makes-after (missing_in k (take i (child_ids f))) (missing k a) (missing_of k f) c.args.table.now c.loop-k.table c.fill_id.new.table c.loop-k.invariant.made c.fill_id.ensures.takes
    (omega (arith, ap (missing k) is, missing-within k (child_ids f) i (0, []) (omega (arith, lt, length-ids f.tree f.names))))

pub returns-in_err-child-clause-full : goal.returns-in_err-child-clause-full
returns-in_err-child-clause-full g c out =
    let k : Kept = c.args.store.now in
    let f = g.L.LanguageChildren.form c.args.node.now in
    let i = c.loop-k.k in
    let a = to_applied c.applied_id.result.now in
    let lt : i < length (children f.tree) = omega (arith, c.loop-k-test.true, c.applied_id_count-k-end.ensures) in
    let is = child_is f i (0, []) a lt c.applied_id.ensures.id c.applied_id.ensures.keys c.applied_id.ensures.names in
    runs_out-after (missing_in k (take i (child_ids f))) (missing k a) (missing_of k f) c.args.table.now c.loop-k.table c.fill_id.new.table c.loop-k.invariant.made (c.in_err-child.ensures.full (search rules))
    (omega (arith, ap (missing k) is, missing-within k (child_ids f) i (0, []) (omega (arith, lt, length-ids f.tree f.names))))

pub returns-in_err-child-clause-more : goal.returns-in_err-child-clause-more
returns-in_err-child-clause-more g c =
    let f = g.L.LanguageChildren.form c.args.node.now in
    λ x h.
    c.fill_id.ensures.more x (with_fresh-more c.args.table.now c.loop-k.table (missing_in c.args.store.now (take c.loop-k.k (child_ids f))) c.loop-k.invariant.made x h)
