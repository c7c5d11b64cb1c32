-- The canonical node, and then fresh slots for its binders.
use Rattle.std.proofs.Common.{◌≡◌, ◌∙◌, ◌*◌, ◌<◌, [], arith, inl, inr, length}
use Rattle.std.specs.Prelude.{All, IsTrue}
use Rattle.std.proofs.lemmas.List.Elements.{All-nil}
use Rattle.std.proofs.lemmas.Result.{IfOk-weaker}
use Rattle.slotted_lists.proofs.Results.{IfOk-both}
use Rattle.slotted_slots.specs.Table.{is_known, slot_limit, AllKnown}
use Rattle.slotted_languages.specs.NewNames.{BindersAreUnknown, PutsIn}
use Rattle.slotted_languages.specs.NodeTerm.{nameless_node}
use Rattle.slotted_languages.proofs.PutIn.{answer_is_known}
use Rattle.slotted_model.specs.Classes.{IsFull}
use Rattle.slotted_proofs.specs.Equations.{to_applied}
use Rattle.slotted_classes.specs.Kept.{nodes_of}
use Rattle.slotted_operations.specs.Good.{IsNodeOver}
use Rattle.slotted_operations.specs.Nodes.{child_ids}
use Rattle.slotted_operations.specs.Syn.{HasUnknownBinders, KnowsSlotsAnd, node_binders}
use Rattle.slotted_operations.proofs.Ids.NodesOfIds.{children-full, lacked-by_binders, made-by_binders}
use Rattle.slotted_operations.proofs.Graphs.Finds.{full-findable}
use Rattle.slotted_operations.proofs.Ids.FreshBinders.{as-many_places, binders-of_class, binders-unknown}
use Rattle.slotted_operations.proofs.Additions.Tables.{makes-then, runs_out-then}
use Rattle.slotted_operations.proofs.syn.fresh_node.Goals as goal

pub returns-clause-fresh : goal.returns-clause-fresh
returns-clause-fresh g c =
    let form = g.L.LanguageChildren.form in
    let fits = g.met.L.LanguageChildren.fits in
    let b = c.in_ok-node.node in
    let u = c.syn_node.new.table in
    IfOk-both c.refresh_private.result (λ n. nameless_node (form n) ≡ nameless_node (form b)) (λ n. BindersAreUnknown u (form b) (form n)) (λ n. HasUnknownBinders c.args.table.now (form n))
    (λ n same unknown. binders-unknown (form b) (form n) (fits b) (fits n) same c.args.table.now u c.syn_node.ensures.more unknown) c.refresh_private.ensures.same c.refresh_private.ensures.unused

pub returns-clause-children : goal.returns-clause-children
returns-clause-children g c =
    let form = g.L.LanguageChildren.form in
    let fits = g.met.L.LanguageChildren.fits in
    let k = c.args.store.now in
    IfOk-weaker c.refresh_private.result (λ n. nameless_node (form n) ≡ nameless_node (form c.in_ok-node.node)) (λ n. All (IsFull (nodes_of k)) (child_ids (form n)))
    (λ n same. children-full (nodes_of k) c.requires.good.stored.sane.sound.canonical (to_applied c.args.a.now) c.requires.full.0 (form n) (fits n) (same ∙ c.in_ok-node.ensures.node)) c.refresh_private.ensures.same

pub returns-clause-valid : goal.returns-clause-valid
returns-clause-valid g c =
    let form = g.L.LanguageChildren.form in
    let fits = g.met.L.LanguageChildren.fits in
    let k = c.args.store.now in
    let b = c.in_ok-node.node in
    let u = c.syn_node.new.table in
    let v = c.refresh_private.new.table in
    let at : KnowsSlotsAnd c.args.table.now k c.args.a.now.m = (c.requires.fresh_slots, c.requires.full.1) in
    let known : AllKnown u (form b).names = c.in_ok-node.ensures.known at in
    let few : length (form b).names < slot_limit = c.in_ok-node.ensures.small in
    IfOk-both c.refresh_private.result (λ n. nameless_node (form n) ≡ nameless_node (form b)) (λ n. PutsIn v [] (form b) (form n)) (λ n. IsNodeOver v k (form n))
    (λ n same puts. (
      omega (arith, few, as-many_places (form b) (form n) (fits b) (fits n) same),
      answer_is_known u v [] (form b) (form n) c.refresh_private.ensures.more known (All-nil (λ s. IsTrue (is_known u s))) puts,
      λ j d l. full-findable k c.requires.good _
          (children-full (nodes_of k) c.requires.good.stored.sane.sound.canonical (to_applied c.args.a.now) c.requires.full.0 (form n) (fits n) (same ∙ c.in_ok-node.ensures.node) j d l),
    )) c.refresh_private.ensures.same c.refresh_private.ensures.known

pub returns-clause-takes : goal.returns-clause-takes
returns-clause-takes g c =
    let form = g.L.LanguageChildren.form in
    let fits = g.met.L.LanguageChildren.fits in
    let k = c.args.store.now in
    let t = c.args.table.now in
    let u = c.syn_node.new.table in
    let v = c.refresh_private.new.table in
    let b = form c.in_ok-node.node in
    let n = node_binders (nodes_of k) c.args.a.now.id.0 in
    let at : KnowsSlotsAnd t k c.args.a.now.m = (c.requires.fresh_slots, c.requires.full.1) in
    let count = binders-of_class (nodes_of k) (to_applied c.args.a.now) b (fits c.in_ok-node.node) c.in_ok-node.ensures.node in
    makes-then n n (2 * n) t u v (c.syn_node.ensures.takes at)
    (record { names = c.refresh_private.ensures.kept; taken = made-by_binders u v b [] n count (c.in_ok-node.ensures.known at) (All-nil (λ s. IsTrue (is_known u s))) c.refresh_private.ensures.count })
    (omega arith)

pub returns-clause-full : goal.returns-clause-full
returns-clause-full g c e =
    let form = g.L.LanguageChildren.form in
    let fits = g.met.L.LanguageChildren.fits in
    let k = c.args.store.now in
    let t = c.args.table.now in
    let u = c.syn_node.new.table in
    let v = c.refresh_private.new.table in
    let b = form c.in_ok-node.node in
    let n = node_binders (nodes_of k) c.args.a.now.id.0 in
    let at : KnowsSlotsAnd t k c.args.a.now.m = (c.requires.fresh_slots, c.requires.full.1) in
    let few : length b.names < slot_limit = c.in_ok-node.ensures.small in
    let count = binders-of_class (nodes_of k) (to_applied c.args.a.now) b (fits c.in_ok-node.node) c.in_ok-node.ensures.node in
    elim (c.refresh_private.ensures.full e) [
      | inl large ↦ absurd (omega (arith, large, few))
      | inr out ↦
          inl (runs_out-then n n (2 * n) t u v (c.syn_node.ensures.takes at)
          (lacked-by_binders u v b [] n count (c.in_ok-node.ensures.known at) (All-nil (λ s. IsTrue (is_known u s))) c.refresh_private.ensures.more out) (omega arith))
    ]
