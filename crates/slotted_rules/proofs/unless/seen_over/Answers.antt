-- A pattern is looked up over the ids of its parts.
use Rattle.std.proofs.Common.{◌≡◌, ◌∙◌, ap, arith, length, List, map, string_bytes, subst, sym}
use Rattle.std.proofs.lemmas.List.{length-map}
use Rattle.std.proofs.lemmas.List.Elements.{Contains-get_or}
use Rattle.std.specs.Prelude.{IfOk, None, Some, is_some, option_map, slice_index_or}
use Rattle.slotted_nodes.specs.Form.{Form, children}
use Rattle.slotted_patterns.specs.Subpatterns.{parts}
use Rattle.slotted_patterns.specs.Tree.{PatternTree}
use Rattle.slotted_patterns.specs.View.{tree_of}
use Rattle.slotted_patterns.proofs.Folds.{patterns_in-row}
use Rattle.slotted_proofs.specs.Equations.{to_applied}
use Rattle.slotted_model_rules.specs.Matcher.{value_at}
use Rattle.slotted_model_rules.specs.Rules.{id_or_none}
use Rattle.slotted_rule_patterns.specs.Values.{values_of}
use Rattle.slotted_rule_patterns.proofs.KnownVariables.{entry-valued}
use Rattle.slotted_rule_patterns.proofs.Rows.{tree_of-node, tree_of-variable}
use Rattle.slotted_graph.specs.ValidIds.{IsValidId}
use Rattle.slotted_rules.specs.Unless.{SeesOver}
use Rattle.slotted_rules.proofs.Answering.{ok-with}
use Rattle.slotted_rules.proofs.SeenInstances.{miscounted-unseen, node-seen, variable-seen}
use Rattle.slotted_rules.proofs.unless.seen_over.Goals as goal

pub returns-then-len-applied_id_count-clause-ok : goal.returns-then-len-applied_id_count-clause-ok
returns-then-len-applied_id_count-clause-ok g c =
    let form = g.L.LanguageChildren.form in
    let gr = c.args.graph.now in
    let s = values_of c.args.subst.now in
    let f : Form = form c.in-ENode.node in
    let qs : List PatternTree = map (tree_of form) c.in-ENode.children.items in
    let ids = map to_applied c.args.ids.now.items in
    subst (λ q. SeesOver gr s q ids ids None) (sym (tree_of-node form c.args.pattern.now c.in-ENode.node c.in-ENode.children c.in-ENode.is))
    (miscounted-unseen gr s f qs ids (λ e. omega (arith, e, length-map c.in-ENode.children.items (tree_of form), c.len.ensures, c.applied_id_count.ensures, c.if-len-applied_id_count.true)))

pub node_seen-requires-clause-enough : goal.node_seen-requires-clause-enough
node_seen-requires-clause-enough g c =
    let form = g.L.LanguageChildren.form in
    let qs : List PatternTree = map (tree_of form) c.in-ENode.children.items in
    let view = tree_of-node form c.args.pattern.now c.in-ENode.node c.in-ENode.children c.in-ENode.is in
    omega (arith, c.requires.enough, ap (λ q. length (parts q)) view, ap length (patterns_in-row qs), length-map c.in-ENode.children.items (tree_of form), c.len.ensures, c.applied_id_count.ensures, c.if-len-applied_id_count.false)

pub returns-else-len-applied_id_count-clause-ok : goal.returns-else-len-applied_id_count-clause-ok
returns-else-len-applied_id_count-clause-ok g c =
    let form = g.L.LanguageChildren.form in
    let gr = c.args.graph.now in
    let s = values_of c.args.subst.now in
    let f : Form = form c.in-ENode.node in
    let qs : List PatternTree = map (tree_of form) c.in-ENode.children.items in
    let ids = map to_applied c.args.ids.now.items in
    let rest = map to_applied c.node_seen.new.ids.items in
    let many : length qs ≡ length (children f.tree) =
    omega (arith, length-map c.in-ENode.children.items (tree_of form), c.len.ensures, c.applied_id_count.ensures, c.if-len-applied_id_count.false) in
    subst (λ q. IfOk c.node_seen.result (λ o. SeesOver gr s q ids rest (option_map to_applied o))) (sym (tree_of-node form c.args.pattern.now c.in-ENode.node c.in-ENode.children c.in-ENode.is))
    (ok-with c.node_seen.result c.node_seen.ensures.rest c.node_seen.ensures.id (λ o left is. node-seen gr s f qs ids rest (option_map to_applied o) many left is))

pub returns-in_ok-copy-in-Some-clause-ok : goal.returns-in_ok-copy-in-Some-clause-ok
returns-in_ok-copy-in-Some-clause-ok g c =
    let form = g.L.LanguageChildren.form in
    let gr = c.args.graph.now in
    let s = values_of c.args.subst.now in
    let v = string_bytes c.in-PVar.name in
    let ids = map to_applied c.args.ids.now.items in
    let a = to_applied c.in_ok-copy-in-Some.field-0 in
    let found : value_at s v ≡ Some (to_applied c.in-Some.id.now) = sym (c.in-Some.ensures ∙ ap (value_at s) c.as_str.ensures.value) in
    subst (λ q. SeesOver gr s q ids ids (Some a)) (sym (tree_of-variable form c.args.pattern.now c.in-PVar.name c.in-PVar.is))
    (variable-seen gr s v ids a (found ∙ ap (λ k. Some (to_applied k)) (sym c.in_ok-copy-in-Some.ensures.ok)))

pub returns-in_ok-copy-in-Some-clause-valid : goal.returns-in_ok-copy-in-Some-clause-valid
returns-in_ok-copy-in-Some-clause-valid g c =
    let gr = c.args.graph.now in
    let s = values_of c.args.subst.now in
    let v = string_bytes c.in-PVar.name in
    let found : value_at s v ≡ Some (to_applied c.in-Some.id.now) = sym (c.in-Some.ensures ∙ ap (value_at s) c.as_str.ensures.value) in
    let valid = entry-valued (IsValidId gr) s v (λ k d l. c.requires.values (slice_index_or s k d) (Contains-get_or s k d l)) (ap is_some found) in
    subst (λ k. IsValidId gr (to_applied k)) (sym c.in_ok-copy-in-Some.ensures.ok) (subst (IsValidId gr) (ap id_or_none found) valid)
