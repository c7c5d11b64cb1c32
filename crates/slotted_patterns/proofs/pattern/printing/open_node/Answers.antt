use Rattle.std.proofs.Common.{◌≡◌, map, length, ap, ◌∙◌, ◌++◌, codes, arith}
use Rattle.std.proofs.lemmas.List.{length-map}
use Rattle.slotted_slots.specs.Syntax.{element_of}
use Rattle.slotted_patterns.specs.Shown.{node_text, pattern_text}
use Rattle.slotted_patterns.proofs.PieceTexts.{pushed, then, stacks_as, alone_text, several_text, on_ok}
use Rattle.slotted_patterns.proofs.pattern.printing.open_node.Goals as goal

pub returns-then-is_alone-clause-ok : goal.returns-then-is_alone-clause-ok
returns-then-is_alone-clause-ok g c =
    let w = g.L.LanguageChildren.shown in
    let es = c.in_ok-elements.elements.items in
    let ps = c.args.children.now in
    let pieces = c.in_ok-pieces.ensures.ok in
    let one : length (map element_of es) ≡ 1 = omega (arith, length-map es element_of, c.in_ok-elements.elements.ok.0, c.len-is_alone.ensures, c.if-is_alone.true) in
    on_ok c.stack_up.result (λ s. stacks_as w (λ t. pieces.same t ∙ (alone_text t (map element_of es) (map (pattern_text w t) ps) one ∙ ap (λ fs. node_text t fs (map (pattern_text w t) ps)) c.in_ok-elements.ensures.ok)) (omega (arith, pieces.light, ap length c.in_ok-elements.ensures.ok)) s) c.stack_up.ensures.ok

pub returns-clause-ok : goal.returns-clause-ok
returns-clause-ok g c =
    let w = g.L.LanguageChildren.shown in
    let es = c.in_ok-elements.elements.items in
    let ps = c.args.children.now in
    let pieces = c.in_ok-pieces.ensures.ok in
    let other : ¬ (length (map element_of es) ≡ 1) = λ one. c.if-is_alone.false (omega (arith, one, length-map es element_of, c.in_ok-elements.elements.ok.0, c.len-is_alone.ensures)) in
    let whole = then w c.args.left.now.items c.stack_up-2.new.left.items c.push-2.new.self.items
    (pushed w c.stack_up-2.new.left.items c.push-2.new.self.items _ c.in_ok-push-2.ensures.items)
    (then w c.args.left.now.items c.push.new.self.items c.stack_up-2.new.left.items c.in_ok-stack_up.ensures.ok (pushed w c.args.left.now.items c.push.new.self.items _ c.in_ok-push.ensures.items)) in
    stacks_as w (λ t. ap (λ x. codes "(" ++ (x ++ codes ")")) (pieces.same t) ∙ (several_text t (map element_of es) (map (pattern_text w t) ps) other ∙ ap (λ fs. node_text t fs (map (pattern_text w t) ps)) c.in_ok-elements.ensures.ok)) (omega (arith, pieces.light, ap length c.in_ok-elements.ensures.ok)) whole
