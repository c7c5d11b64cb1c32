use Rattle.std.proofs.Common.{◌≡◌, length, arith}
use Rattle.slotted_rule_patterns.proofs.Questions.{miscounted-node}
use Rattle.slotted_rule_patterns.proofs.pattern.MiscountedQuestion.holds.Goals as goal

pub returns-in-ENode : goal.returns-in-ENode
returns-in-ENode g c =
    let count : c.len.result ≡ length c.in-ENode.children.items = omega (arith, c.len.ensures, c.in-ENode.children.ok.0) in
    miscounted-node g.L.LanguageChildren.form c.args.pattern.now c.in-ENode.node c.in-ENode.children c.in-ENode.is c.len.result c.applied_id_count.result count c.applied_id_count.ensures
