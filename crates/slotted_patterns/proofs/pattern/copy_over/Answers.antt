use Rattle.std.proofs.Common.{◌≡◌, ◌-◌, length, map, ap, ◌∙◌, arith}
use Rattle.slotted_patterns.specs.View.{tree_of}
use Rattle.slotted_patterns.proofs.PatternCopies.{node-before, node-below, node-few, three-few, three-ok, three-rest}
use Rattle.slotted_patterns.proofs.PatternTrees.{same_node}
use Rattle.slotted_patterns.proofs.pattern.copy_over.Goals as goal

pub overflow_sub-len : goal.overflow_sub-len
overflow_sub-len g c =
    omega (arith, node-few g.L.LanguageChildren.form c.args.pattern.now c.args.copies.now.items c.requires c.in-ENode.node c.in-ENode.children c.in-ENode.is, c.len.ensures, c.len-in-ENode.ensures, c.args.copies.now.ok.0, c.in-ENode.children.ok.0)

pub copy_substitution-requires : goal.copy_substitution-requires
copy_substitution-requires g c =
    three-few g.L.LanguageChildren.form c.args.pattern.now c.args.copies.now.items c.requires c.in-Subst.field-0 c.in-Subst.field-1 c.in-Subst.field-2 c.in-Subst.is

pub returns-in_ok-below-in-ENode-clause-ok : goal.returns-in_ok-below-in-ENode-clause-ok
returns-in_ok-below-in-ENode-clause-ok g c =
    let form = g.L.LanguageChildren.form in
    let all = c.args.copies.now.items in
    let ps = c.in-ENode.children in
    let at = c.len.result - c.len-in-ENode.result in
    let here : at ≡ length all - length ps.items = omega (arith, c.len.ensures, c.len-in-ENode.ensures, c.args.copies.now.ok.0, ps.ok.0) in
    same_node form c.args.pattern.now c.in-ENode.node c.in_ok-node-in-ENode.node ps c.in_ok-below-in-ENode.below c.in-ENode.is (ap form c.in_ok-node-in-ENode.ensures.ok)
    (ap (map (tree_of form)) c.in_ok-below-in-ENode.ensures.tail ∙ node-below form c.args.pattern.now all c.requires c.in-ENode.node ps c.in-ENode.is at here)

pub returns-in_ok-below-in-ENode-clause-rest : goal.returns-in_ok-below-in-ENode-clause-rest
returns-in_ok-below-in-ENode-clause-rest g c =
    let form = g.L.LanguageChildren.form in
    let all = c.args.copies.now.items in
    let ps = c.in-ENode.children in
    let at = c.len.result - c.len-in-ENode.result in
    let here : at ≡ length all - length ps.items = omega (arith, c.len.ensures, c.len-in-ENode.ensures, c.args.copies.now.ok.0, ps.ok.0) in
    ap (map (tree_of form)) c.in_ok-below-in-ENode.ensures.items ∙ node-before form c.args.pattern.now all c.requires c.in-ENode.node ps c.in-ENode.is at here

pub returns-in-Subst-clause-ok : goal.returns-in-Subst-clause-ok
returns-in-Subst-clause-ok g c =
    three-ok g.L.LanguageChildren.form c.args.pattern.now c.args.copies.now.items c.requires c.in-Subst.field-0 c.in-Subst.field-1 c.in-Subst.field-2 c.in-Subst.is c.copy_substitution.new.copies.items c.copy_substitution.result c.copy_substitution.ensures.ok c.copy_substitution.ensures.whole

pub returns-in-Subst-clause-rest : goal.returns-in-Subst-clause-rest
returns-in-Subst-clause-rest g c =
    three-rest g.L.LanguageChildren.form c.args.pattern.now c.args.copies.now.items c.requires c.in-Subst.field-0 c.in-Subst.field-1 c.in-Subst.field-2 c.in-Subst.is c.copy_substitution.new.copies.items c.copy_substitution.result c.copy_substitution.ensures.ok c.copy_substitution.ensures.whole
