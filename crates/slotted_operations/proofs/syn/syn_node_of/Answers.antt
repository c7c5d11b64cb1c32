-- The id is filled, and what it is then is given out over the table that made its names.
use Rattle.std.proofs.Common.{◌≡◌, ap, subst, arith, inl, inr, rules}
use Rattle.std.specs.Prelude.{All}
use Rattle.slotted_lists.proofs.Results.{IfOk-both, IfOk-three}
use Rattle.slotted_nodes.specs.Form.{IsSmall}
use Rattle.slotted_slots.specs.Table.{AllKnown}
use Rattle.slotted_model.specs.Applied.{Applied}
use Rattle.slotted_model.specs.Classes.{IsFull}
use Rattle.slotted_proofs.specs.Equations.{to_applied}
use Rattle.slotted_classes.specs.Kept.{nodes_of}
use Rattle.slotted_operations.specs.Canonical.{IsNodeOf}
use Rattle.slotted_operations.specs.Nodes.{child_ids}
use Rattle.slotted_operations.specs.Causes.{IsLargeNode}
use Rattle.slotted_operations.specs.Good.{IsNodeOver, image_of}
use Rattle.slotted_operations.specs.Syn.{FillsFresh, GivesNode, KnowsSlotsAnd, names_lacking, node_binders, slots_for_node}
use Rattle.slotted_operations.proofs.Ids.FilledNames.{filled-full, fills-fresh}
use Rattle.slotted_operations.proofs.Graphs.FreshSlots.{fresh_slots-more}
use Rattle.slotted_operations.proofs.Graphs.Finds.{full-findable}
use Rattle.slotted_operations.proofs.Additions.Tables.{makes-more, makes-then, runs_out-more, runs_out-then}
use Rattle.slotted_operations.proofs.syn.syn_node_of.Goals as goal

pub syn_node-requires-clause-full : goal.syn_node-requires-clause-full
syn_node-requires-clause-full g c =
    filled-full c.args.store.now c.args.table.now (to_applied c.args.a.now) (to_applied c.in_ok-filled.filled) c.requires.findable.1 c.in_ok-filled.ensures.fills

pub returns-clause-ok : goal.returns-clause-ok
returns-clause-ok g c =
    let k = c.args.store.now in
    let t = c.args.table.now in
    let u = c.fill_id.new.table in
    let w = c.syn_node.new.table in
    let a = to_applied c.args.a.now in
    let b = to_applied c.in_ok-filled.filled in
    let nodes = nodes_of k in
    let known = c.requires.findable.1 in
    let at : KnowsSlotsAnd u k c.in_ok-filled.filled.m = (fresh_slots-more t u k c.fill_id.ensures.more c.requires.fresh_slots, c.in_ok-filled.ensures.known known) in
    let fresh : FillsFresh (image_of k) t w a b =
    fills-fresh k t a b known c.in_ok-filled.ensures.fills u w c.in_ok-filled.ensures.id c.in_ok-filled.ensures.made c.syn_node.ensures.more in
    let form = g.L.LanguageChildren.form in
    IfOk-both c.syn_node.result (λ n. IsNodeOf nodes b (form n)) (λ n. IsNodeOver w k (form n) × All (IsFull nodes) (child_ids (form n))) (λ n. GivesNode t w k c.args.a.now (form n))
    (λ n e v. record {
      filled = record { filled = b; fills = fresh; node = e };
      node = λ full. subst (λ (x : Applied). IsNodeOf nodes x (form n)) (c.in_ok-filled.ensures.same full) e;
      valid = v.0;
      children = v.1;
    }) c.syn_node.ensures.node
    (IfOk-three c.syn_node.result (λ n. IsSmall (form n)) (λ n. KnowsSlotsAnd u k c.in_ok-filled.filled.m → AllKnown w (form n).names) (λ n. All (IsFull nodes) (child_ids (form n))) (λ n. IsNodeOver w k (form n) × All (IsFull nodes) (child_ids (form n)))
    (λ n small names children. ((small, names at, λ j d l. full-findable k c.requires.good _ (children j d l)), children)) c.syn_node.ensures.small c.syn_node.ensures.known c.syn_node.ensures.children)

pub returns-clause-takes : goal.returns-clause-takes
returns-clause-takes g c =
    let k = c.args.store.now in
    let t = c.args.table.now in
    let u = c.fill_id.new.table in
    let w = c.syn_node.new.table in
    let a = to_applied c.args.a.now in
    let b = to_applied c.in_ok-filled.filled in
    let nodes = nodes_of k in
    let known = c.requires.findable.1 in
    let at : KnowsSlotsAnd u k c.in_ok-filled.filled.m = (fresh_slots-more t u k c.fill_id.ensures.more c.requires.fresh_slots, c.in_ok-filled.ensures.known known) in
    let class : node_binders nodes b.0 ≡ node_binders nodes a.0 = ap (λ (x : Applied). node_binders nodes x.0) c.in_ok-filled.ensures.id in
    makes-then (names_lacking nodes a) (node_binders nodes b.0) (slots_for_node nodes a) t u w c.fill_id.ensures.takes (c.syn_node.ensures.takes at) (omega (arith, class))

pub returns-clause-full : goal.returns-clause-full
returns-clause-full g c e =
    let k = c.args.store.now in
    let t = c.args.table.now in
    let u = c.fill_id.new.table in
    let w = c.syn_node.new.table in
    let a = to_applied c.args.a.now in
    let b = to_applied c.in_ok-filled.filled in
    let nodes = nodes_of k in
    let known = c.requires.findable.1 in
    let at : KnowsSlotsAnd u k c.in_ok-filled.filled.m = (fresh_slots-more t u k c.fill_id.ensures.more c.requires.fresh_slots, c.in_ok-filled.ensures.known known) in
    let class : node_binders nodes b.0 ≡ node_binders nodes a.0 = ap (λ (x : Applied). node_binders nodes x.0) c.in_ok-filled.ensures.id in
    elim (c.syn_node.ensures.full e at) [
      | inl out ↦ inl (runs_out-then (names_lacking nodes a) (node_binders nodes b.0) (slots_for_node nodes a) t u w c.fill_id.ensures.takes out (omega (arith, class)))
      | inr large ↦ inr (subst (λ (x : Applied). IsLargeNode nodes x.0) c.in_ok-filled.ensures.id large)
    ]

pub returns-in_err-filled-clause-takes : goal.returns-in_err-filled-clause-takes
returns-in_err-filled-clause-takes g c =
    let nodes = nodes_of c.args.store.now in
    let a = to_applied c.args.a.now in
    makes-more (names_lacking nodes a) (slots_for_node nodes a) c.args.table.now c.fill_id.new.table c.fill_id.ensures.takes (omega arith)

pub returns-in_err-filled-clause-full : goal.returns-in_err-filled-clause-full
returns-in_err-filled-clause-full g c e =
    let nodes = nodes_of c.args.store.now in
    let a = to_applied c.args.a.now in
    inl (runs_out-more (names_lacking nodes a) (slots_for_node nodes a) c.args.table.now c.fill_id.new.table (c.in_err-filled.ensures.full (search rules)) (omega arith))
