-- The id's map knows the names of the canonical node.
use Rattle.std.proofs.Common.{◌<◌, ◌∙◌, ap, sym, subst, arith, length, inl, inr}
use Rattle.std.specs.Prelude.{All}
use Rattle.std.proofs.lemmas.Bool.{cases_lt}
use Rattle.std.proofs.lemmas.Result.{IfOk-weaker}
use Rattle.slotted_slots.specs.Table.{slot_limit, AllKnown}
use Rattle.slotted_nodes.specs.Form.{Form, IsSmall}
use Rattle.slotted_languages.specs.NodeTerm.{nameless_node}
use Rattle.slotted_languages.proofs.PutIn.{answer_is_known}
use Rattle.slotted_slots.specs.Maps.{values}
use Rattle.slotted_model.specs.Classes.{IsFull}
use Rattle.slotted_theory.specs.FiniteMaps.{filled}
use Rattle.slotted_theory.specs.Nameless.{moved}
use Rattle.slotted_operations.specs.Canonical.{binder_count, place_count}
use Rattle.slotted_classes.specs.Kept.{nodes_of}
use Rattle.slotted_operations.specs.Nodes.{child_ids}
use Rattle.slotted_proofs.specs.Equations.{to_applied}
use Rattle.slotted_operations.specs.Syn.{KnowsSlotsAnd, node_binders}
use Rattle.slotted_operations.proofs.TermsOverIds.Binders.{binders_counted}
use Rattle.slotted_operations.proofs.Graphs.FreshSlots.{stored-known}
use Rattle.slotted_operations.proofs.Ids.NodesOfIds.{children-full, given-size, made-by_binders, lacked-by_binders, err-no_ok}
use Rattle.slotted_classes.proofs.KeptLists.{length-nodes_of}
use Rattle.slotted_classes.proofs.ClassNodes.{node-is}
use Rattle.slotted_operations.proofs.Ids.CanonicalTerms.{knows-names, places-counted}
use Rattle.slotted_operations.proofs.syn.syn_node.Goals as goal

pub apply_slotmap-requires : goal.apply_slotmap-requires
apply_slotmap-requires g c =
    let k = c.args.store.now in
    let a = to_applied c.args.a.now in
    let lt : a.0 < length k.classes = omega (arith, c.requires.full.in_range, length-nodes_of k) in
    knows-names (nodes_of k) a c.requires.full (g.L.LanguageChildren.form c.node_of.result.now) (ap nameless_node c.node_of.ensures ∙ node-is k a.0 lt)

pub returns-clause-full : goal.returns-clause-full
returns-clause-full g c e at =
    let form = g.L.LanguageChildren.form in
    let k = c.args.store.now in
    let a = to_applied c.args.a.now in
    let t = c.args.table.now in
    let f : Form = form c.node_of.result.now in
    let fits = g.met.L.LanguageChildren.fits c.node_of.result.now in
    let lt : a.0 < length k.classes = omega (arith, c.requires.full.in_range, length-nodes_of k) in
    let is = ap nameless_node c.node_of.ensures ∙ node-is k a.0 lt in
    elim (c.apply_slotmap.ensures.full e) [
      | inl large ↦ inr (c.requires.full.in_range, omega (arith, large, ap place_count is, places-counted f fits))
      | inr out ↦
          inl (lacked-by_binders t c.apply_slotmap.new.table f (values a.1) (node_binders (nodes_of k) a.0) (binders_counted f fits ∙ ap binder_count is)
          (subst (λ (x : Form). AllKnown t x.names) (sym c.node_of.ensures) (stored-known t k c.requires.good at.0 a.0 lt)) at.1 c.apply_slotmap.ensures.more out)
    ]

pub returns-clause-children : goal.returns-clause-children
returns-clause-children g c =
    let form = g.L.LanguageChildren.form in
    let k = c.args.store.now in
    let a = to_applied c.args.a.now in
    let lt : a.0 < length k.classes = omega (arith, c.requires.full.in_range, length-nodes_of k) in
    let is = ap nameless_node c.node_of.ensures ∙ node-is k a.0 lt in
    IfOk-weaker c.apply_slotmap.result _ (λ n. All (IsFull (nodes_of k)) (child_ids (form n)))
    (λ n e. children-full (nodes_of k) c.requires.good.stored.sane.sound.canonical a c.requires.full (form n) (g.met.L.LanguageChildren.fits n) (e ∙ ap (moved (filled a.1)) is)) c.apply_slotmap.ensures.renamed

pub returns-clause-small : goal.returns-clause-small
returns-clause-small g c =
    let form = g.L.LanguageChildren.form in
    let f = form c.node_of.result.now in
    let fits = g.met.L.LanguageChildren.fits in
    elim (cases_lt (length f.names) slot_limit) [
      | inl l ↦
          IfOk-weaker c.apply_slotmap.result _ (λ n. IsSmall (form n))
          (λ n e. omega (arith, l, given-size (filled c.args.a.now.m) (nameless_node f) (form n) (fits n) e, places-counted f (fits c.node_of.result.now))) c.apply_slotmap.ensures.renamed
      | inr g' ↦ err-no_ok c.apply_slotmap.result _ (λ n. IsSmall (form n)) (c.apply_slotmap.ensures.large g')
    ]

pub returns-clause-known : goal.returns-clause-known
returns-clause-known g c =
    let form = g.L.LanguageChildren.form in
    let k = c.args.store.now in
    let a = to_applied c.args.a.now in
    let t = c.args.table.now in
    let u = c.apply_slotmap.new.table in
    let lt : a.0 < length k.classes = omega (arith, c.requires.full.in_range, length-nodes_of k) in
    IfOk-weaker c.apply_slotmap.result _ (λ n. KnowsSlotsAnd t k a.1 → AllKnown u (form n).names)
    (λ n put at. answer_is_known t u (values a.1) (form c.node_of.result.now) (form n) c.apply_slotmap.ensures.more
    (subst (λ (x : Form). AllKnown t x.names) (sym c.node_of.ensures) (stored-known t k c.requires.good at.0 a.0 lt)) at.1 put) c.apply_slotmap.ensures.known

pub returns-clause-takes : goal.returns-clause-takes
returns-clause-takes g c at =
    let form = g.L.LanguageChildren.form in
    let k = c.args.store.now in
    let a = to_applied c.args.a.now in
    let t = c.args.table.now in
    let f : Form = form c.node_of.result.now in
    let lt : a.0 < length k.classes = omega (arith, c.requires.full.in_range, length-nodes_of k) in
    let is = ap nameless_node c.node_of.ensures ∙ node-is k a.0 lt in
    record {
      names = c.apply_slotmap.ensures.kept;
      taken = made-by_binders t c.apply_slotmap.new.table f (values a.1) (node_binders (nodes_of k) a.0)
          (binders_counted f (g.met.L.LanguageChildren.fits c.node_of.result.now) ∙ ap binder_count is)
          (subst (λ (x : Form). AllKnown t x.names) (sym c.node_of.ensures) (stored-known t k c.requires.good at.0 a.0 lt)) at.1 c.apply_slotmap.ensures.count;
    }
