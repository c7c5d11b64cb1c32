use Rattle.std.proofs.Common.{◌∙◌, ap, arith, sym, subst}
use Rattle.std.proofs.lemmas.Result.{IfOk-weaker}
use Rattle.slotted_languages.specs.NewNames.{IsRenamedBy, LacksPerBinder}
use Rattle.slotted_languages.specs.NodeTerm.{nameless_node}
use Rattle.slotted_classes.specs.Kept.{nodes_of}
use Rattle.slotted_proofs.specs.Equations.{to_applied}
use Rattle.slotted_classes.proofs.KeptLists.{length-nodes_of}
use Rattle.slotted_rebuilding.specs.Named.{IsNodeOf}
use Rattle.slotted_rebuilding.proofs.Naming.{names_all, named, canonical-at}
use Rattle.slotted_rebuilding.proofs.WideNodes.{own_table_wide}
use Rattle.slotted_rebuilding.proofs.named.named_node.Goals as goal

pub node_of-requires : goal.node_of-requires
node_of-requires g c =
    omega (arith, c.requires.in_range, length-nodes_of c.args.store.now)

pub apply_slotmap-requires : goal.apply_slotmap-requires
apply_slotmap-requires g c = names_all c.args.store.now (to_applied c.args.a.now) c.requires (g.L.LanguageChildren.form c.node_of.result.now) c.node_of.ensures

pub returns-clause-ok : goal.returns-clause-ok
returns-clause-ok g c =
    let k = c.args.store.now in
    let a = to_applied c.args.a.now in
    let form = g.L.LanguageChildren.form in
    let f = form c.node_of.result.now in
    IfOk-weaker c.apply_slotmap.result (λ n. IsRenamedBy a.1 f (form n)) (λ n. IsNodeOf (nodes_of k) a (form n)) (λ n. named k a c.requires f (form n) c.node_of.ensures) c.apply_slotmap.ensures.renamed

pub returns-clause-full : goal.returns-clause-full
returns-clause-full g c e =
    let k = c.args.store.now in
    let a = to_applied c.args.a.now in
    let f = g.L.LanguageChildren.form c.node_of.result.now in
    own_table_wide (nodes_of k) a c.requires f (g.met.L.LanguageChildren.fits c.node_of.result.now) (ap nameless_node c.node_of.ensures ∙ sym (canonical-at k a.0 c.requires.in_range))
    c.apply_slotmap.new.table (subst (λ t. LacksPerBinder a.1 f t c.apply_slotmap.new.table) c.new-table.ensures.empty (c.apply_slotmap.ensures.full e))
