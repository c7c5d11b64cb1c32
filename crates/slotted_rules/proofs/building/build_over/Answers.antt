use Rattle.std.proofs.Common.{◌≡◌, ◌≤◌, ◌∙◌, ap, sym, subst, arith, refl, inr, length, List, map, string_bytes}
use Rattle.std.specs.Prelude.{IfOk, Some, [], is_some}
use Rattle.std.proofs.lemmas.Bool.{false≢true}
use Rattle.std.proofs.lemmas.List.{length-map}
use Rattle.slotted_nodes.specs.Form.{Form, children}
use Rattle.slotted_patterns.specs.Subpatterns.{parts}
use Rattle.slotted_patterns.specs.Tree.{PatternTree, enode, row_of}
use Rattle.slotted_patterns.specs.View.{tree_of}
use Rattle.slotted_patterns.proofs.Folds.{patterns_in-row}
use Rattle.slotted_proofs.specs.Equations.{to_applied}
use Rattle.slotted_model_rules.specs.Matcher.{value_at}
use Rattle.slotted_rule_patterns.specs.Values.{values_of}
use Rattle.slotted_rule_patterns.proofs.Rows.{tree_of-node, tree_of-variable, tree_of-substitution}
use Rattle.slotted_graph.specs.Adding.{AddsSyn}
use Rattle.slotted_rules.proofs.Carrying.{carries-itself, failed-or-for}
use Rattle.slotted_rules.specs.Instances.{HasValues}
use Rattle.slotted_rules.specs.Stacked.{BuildsOver, IsReady, last_ids}
use Rattle.slotted_rules.proofs.Answering.{err-mapped, err-then, ok-added, ok-copied, ok-mapped}
use Rattle.slotted_rules.proofs.Growing.{grows-itself, later-built}
use Rattle.slotted_rules.proofs.Parts.{ready-count, ready-node}
use Rattle.slotted_rules.proofs.StackedInstances.{last-count, last-valid, over-children, over-known, over-node, over-substitution, over-variable}
use Rattle.slotted_rules.proofs.AskedMethods.{asks-built, asks-none}
use Rattle.slotted_rules.proofs.building.build_over.Goals as goal

pub over_last-over-requires : goal.over_last-over-requires
over_last-over-requires g c =
    let form = g.L.LanguageChildren.form in
    let s = values_of c.args.subst.now in
    let t = c.args.graph.now.table in
    let f : Form = form c.in_ok-node-in-ENode.node in
    let qs : List PatternTree = map (tree_of form) c.in-ENode.field-1.items in
    let view : tree_of form c.args.pattern.now ≡ enode f (row_of qs) =
    tree_of-node form c.args.pattern.now c.in-ENode.node c.in-ENode.field-1 c.in-ENode.is ∙ ap (λ n. enode (form n) (row_of qs)) (sym c.in_ok-node-in-ENode.ensures.ok) in
    let many : length qs ≡ length (children f.tree) = ready-count t s f qs (ready-node t s f qs (subst (IsReady t s) view c.requires.ready)) in
    omega (arith, c.requires.enough, ap (λ q. length (parts q)) view, ap length (patterns_in-row qs), many)

pub add_node-requires-clause-known : goal.add_node-requires-clause-known
add_node-requires-clause-known g c =
    let form = g.L.LanguageChildren.form in
    let s = values_of c.args.subst.now in
    let h = c.args.graph.now in
    let f : Form = form c.in_ok-node-in-ENode.node in
    let qs : List PatternTree = map (tree_of form) c.in-ENode.field-1.items in
    let view : tree_of form c.args.pattern.now ≡ enode f (row_of qs) =
    tree_of-node form c.args.pattern.now c.in-ENode.node c.in-ENode.field-1 c.in-ENode.is ∙ ap (λ n. enode (form n) (row_of qs)) (sym c.in_ok-node-in-ENode.ensures.ok) in
    let ready : IsReady h.table s (enode f (row_of qs)) = subst (IsReady h.table s) view c.requires.ready in
    let ids = map to_applied c.args.ids.now.items in
    over-known h f (form c.over_last-over.result) (last_ids (length (children f.tree)) ids) (g.met.L.LanguageChildren.fits c.in_ok-node-in-ENode.node) c.over_last-over.ensures.over ready.known.0 (last-valid h (length (children f.tree)) ids c.requires.valid)

pub add_node-requires-clause-children : goal.add_node-requires-clause-children
add_node-requires-clause-children g c =
    let form = g.L.LanguageChildren.form in
    let s = values_of c.args.subst.now in
    let h = c.args.graph.now in
    let f : Form = form c.in_ok-node-in-ENode.node in
    let qs : List PatternTree = map (tree_of form) c.in-ENode.field-1.items in
    let view : tree_of form c.args.pattern.now ≡ enode f (row_of qs) =
    tree_of-node form c.args.pattern.now c.in-ENode.node c.in-ENode.field-1 c.in-ENode.is ∙ ap (λ n. enode (form n) (row_of qs)) (sym c.in_ok-node-in-ENode.ensures.ok) in
    let many : length qs ≡ length (children f.tree) = ready-count h.table s f qs (ready-node h.table s f qs (subst (IsReady h.table s) view c.requires.ready)) in
    let ids = map to_applied c.args.ids.now.items in
    let enough : length (children f.tree) ≤ length ids = omega (arith, c.requires.enough, ap (λ q. length (parts q)) view, ap length (patterns_in-row qs), many, length-map c.args.ids.now.items to_applied) in
    over-children h f (form c.over_last-over.result) (last_ids (length (children f.tree)) ids) (g.met.L.LanguageChildren.fits c.in_ok-node-in-ENode.node) c.over_last-over.ensures.over (last-count (length (children f.tree)) ids enough) (last-valid h (length (children f.tree)) ids c.requires.valid)

pub returns-in_ok-node-in-ENode-clause-ok : goal.returns-in_ok-node-in-ENode-clause-ok
returns-in_ok-node-in-ENode-clause-ok g c =
    let form = g.L.LanguageChildren.form in
    let m = g.M.OwnSubst.method in
    let s = values_of c.args.subst.now in
    let h = c.args.graph.now in
    let i = c.add_node.new.graph in
    let f : Form = form c.in_ok-node-in-ENode.node in
    let qs : List PatternTree = map (tree_of form) c.in-ENode.field-1.items in
    let view : tree_of form c.args.pattern.now ≡ enode f (row_of qs) =
    tree_of-node form c.args.pattern.now c.in-ENode.node c.in-ENode.field-1 c.in-ENode.is ∙ ap (λ n. enode (form n) (row_of qs)) (sym c.in_ok-node-in-ENode.ensures.ok) in
    let many : length qs ≡ length (children f.tree) = ready-count h.table s f qs (ready-node h.table s f qs (subst (IsReady h.table s) view c.requires.ready)) in
    let ids = map to_applied c.args.ids.now.items in
    let rest = map to_applied c.over_last-over.new.ids.items in
    subst (λ q. IfOk c.add_node.result (λ a. BuildsOver m h i s q ids rest (to_applied a))) (sym view)
    (ok-added c.add_node.result (λ a. BuildsOver m h i s (enode f (row_of qs)) ids rest (to_applied a)) _ _ _ c.add_node.ensures.full c.add_node.ensures.syn c.add_node.ensures.builds
    (λ a full syn builds. over-node m h i s f qs ids rest (to_applied a) (g.met.L.LanguageChildren.fits c.in_ok-node-in-ENode.node) many c.over_last-over.ensures.rest (subst (λ (z : Form). AddsSyn h i z (to_applied a)) c.over_last-over.ensures.over syn) builds full))

pub returns-in_ok-node-in-ENode-clause-err : goal.returns-in_ok-node-in-ENode-clause-err
returns-in_ok-node-in-ENode-clause-err g c =
    let h = c.args.graph.now in
    err-mapped c.add_node.result c.add_node.ensures.err (later-built h h c.add_node.new.graph (grows-itself h c.requires.graph))

pub unreachable-requires : goal.unreachable-requires
unreachable-requires g c =
    let form = g.L.LanguageChildren.form in
    let s = values_of c.args.subst.now in
    let v = string_bytes c.in-PVar.name in
    let has = subst (HasValues s) (tree_of-variable form c.args.pattern.now c.in-PVar.name c.in-PVar.is) c.requires.ready.given 0 [] (omega arith) in
    false≢true (ap is_some (c.in-None.ensures ∙ ap (value_at s) c.as_str.ensures.value) ∙ has)

pub returns-in-Some-clause-ok : goal.returns-in-Some-clause-ok
returns-in-Some-clause-ok g c =
    let form = g.L.LanguageChildren.form in
    let m = g.M.OwnSubst.method in
    let s = values_of c.args.subst.now in
    let h = c.args.graph.now in
    let v = string_bytes c.in-PVar.name in
    let a = c.in-Some.id.now in
    let ids = map to_applied c.args.ids.now.items in
    let found : value_at s v ≡ Some (to_applied a) = sym (c.in-Some.ensures ∙ ap (value_at s) c.as_str.ensures.value) in
    ok-copied c.copy-in-Some.result (λ z. BuildsOver m h h s (tree_of form c.args.pattern.now) ids ids (to_applied z)) a c.copy-in-Some.ensures.ok
    (subst (λ q. BuildsOver m h h s q ids ids (to_applied a)) (sym (tree_of-variable form c.args.pattern.now c.in-PVar.name c.in-PVar.is)) (over-variable m h s v ids ids (to_applied a) c.requires.graph c.requires.values found refl))

pub returns-in-Some-clause-err : goal.returns-in-Some-clause-err
returns-in-Some-clause-err g c = err-then c.copy-in-Some.result (inr (grows-itself c.args.graph.now c.requires.graph))

pub put_last-requires-clause-enough : goal.put_last-requires-clause-enough
put_last-requires-clause-enough g c =
    let form = g.L.LanguageChildren.form in
    omega (arith, c.requires.enough, ap (λ q. length (parts q)) (tree_of-substitution form c.args.pattern.now c.in-Subst.field-0 c.in-Subst.field-1 c.in-Subst.field-2 c.in-Subst.is))

pub returns-in-Subst-clause-ok : goal.returns-in-Subst-clause-ok
returns-in-Subst-clause-ok g c =
    let form = g.L.LanguageChildren.form in
    let m = g.M.OwnSubst.method in
    let s = values_of c.args.subst.now in
    let h = c.args.graph.now in
    let i = c.put_last.new.graph in
    let ids = map to_applied c.args.ids.now.items in
    let rest = map to_applied c.put_last.new.ids.items in
    subst (λ q. IfOk c.put_last.result (λ a. BuildsOver m h i s q ids rest (to_applied a))) (sym (tree_of-substitution form c.args.pattern.now c.in-Subst.field-0 c.in-Subst.field-1 c.in-Subst.field-2 c.in-Subst.is))
    (ok-mapped c.put_last.result c.put_last.ensures.ok
    (λ a p. over-substitution m h i s (tree_of form c.in-Subst.field-0.value) (tree_of form c.in-Subst.field-1.value) (tree_of form c.in-Subst.field-2.value) ids rest (to_applied a) p))

pub returns-in_err-node-in-ENode-clause-carries : goal.returns-in_err-node-in-ENode-clause-carries
returns-in_err-node-in-ENode-clause-carries g c = inr (carries-itself g.N.Analysis.codes g.N.Analysis.meaning g.met.N.Analysis.is_merge c.args.graph.now)

pub returns-in_ok-node-in-ENode-clause-carries : goal.returns-in_ok-node-in-ENode-clause-carries
returns-in_ok-node-in-ENode-clause-carries g c = failed-or-for g.N.Analysis.codes g.N.Analysis.meaning c.args.graph.now c.add_node.new.graph (λ k. tt) c.add_node.ensures.carries

pub returns-in-Some-clause-carries : goal.returns-in-Some-clause-carries
returns-in-Some-clause-carries g c = inr (carries-itself g.N.Analysis.codes g.N.Analysis.meaning g.met.N.Analysis.is_merge c.args.graph.now)

pub returns-in_ok-node-in-ENode-clause-asks : goal.returns-in_ok-node-in-ENode-clause-asks
returns-in_ok-node-in-ENode-clause-asks g c = asks-built g.M.OwnSubst.substitutes c.args.method.now c.args.graph.now c.add_node.new.graph c.add_node.result c.add_node.ensures.builds

pub returns-in-Some-clause-asks : goal.returns-in-Some-clause-asks
returns-in-Some-clause-asks g c = asks-none g.M.OwnSubst.substitutes c.args.method.now c.args.graph.now c.copy-in-Some.result
