-- A pattern gives way to its own e-node and its parts.
use Rattle.std.proofs.Common.{map}
use Rattle.slotted_patterns.specs.View.{tree_of}
use Rattle.slotted_patterns.proofs.PatternCopies.{mapped_last}
use Rattle.slotted_signatures.specs.Reading.{nodes_of}
use Rattle.slotted_signatures.proofs.ReadingOrder.{fewer, walk}
use Rattle.slotted_signatures.proofs.reading.nodes_in_order.Goals as goal

pub loop-next-smaller : goal.loop-next-smaller
loop-next-smaller g c =
    let form = g.L.LanguageChildren.form in
    let last = mapped_last (λ p. tree_of form p.now) c.loop-next.left.items c.pop.new.self.items c.pop.result c.in-Some.next c.pop.ensures.items c.in-Some.is in
    fewer (map (λ p. tree_of form p.now) c.pop.new.self.items) (map (λ p. tree_of form p.now) c.loop-next.left.items) (map (λ p. tree_of form p.now) c.push_parts.new.left.items) (tree_of form c.in-Some.next.now) last c.in_ok-push_parts.ensures.ok

pub loop-next-preserved : goal.loop-next-preserved
loop-next-preserved g c =
    let form = g.L.LanguageChildren.form in
    let last = mapped_last (λ p. tree_of form p.now) c.loop-next.left.items c.pop.new.self.items c.pop.result c.in-Some.next c.pop.ensures.items c.in-Some.is in
    walk (map (λ n. form n.now) c.loop-next.found.items) (map (λ n. form n.now) c.push_own.new.found.items) (map (λ p. tree_of form p.now) c.pop.new.self.items) (map (λ p. tree_of form p.now) c.loop-next.left.items) (map (λ p. tree_of form p.now) c.push_parts.new.left.items) (nodes_of (tree_of form c.args.pattern.now)) (tree_of form c.in-Some.next.now) last c.in_ok-push_parts.ensures.ok c.in_ok-push_own.ensures.ok c.loop-next.invariant
