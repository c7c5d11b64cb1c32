use Rattle.std.proofs.Common.{map, sym, ap, ◌∙◌, arith}
use Rattle.slotted_patterns.specs.Pieces.{node_weight, pattern_weight}
use Rattle.slotted_patterns.specs.Shown.{node_text, pattern_text}
use Rattle.slotted_patterns.proofs.PatternTexts.{pattern_text-ENode}
use Rattle.slotted_patterns.proofs.PieceTexts.{stacks_as, pattern_weight-ENode, on_ok}
use Rattle.slotted_patterns.proofs.pattern.printing.open.Goals as goal

pub returns-in-ENode-clause-ok : goal.returns-in-ENode-clause-ok
returns-in-ENode-clause-ok g c =
    let w = g.L.LanguageChildren.shown in
    let node = c.in-ENode.node in
    let heavy = ap (pattern_weight w) c.in-ENode.is in
    let listed = ap (λ ps. node_weight (w node) (map (pattern_weight w) ps)) c.deref.ensures.value in
    on_ok c.open_node.result (λ s. stacks_as w (λ t. ap (λ ps. node_text t (w node) (map (pattern_text w t) ps)) c.deref.ensures.value ∙ sym (ap (pattern_text w t) c.in-ENode.is ∙ pattern_text-ENode w t node c.in-ENode.children)) (omega (arith, listed, heavy, pattern_weight-ENode w node c.in-ENode.children)) s) c.open_node.ensures.ok
