-- A pattern gives way to its parts.
use Rattle.std.proofs.Common.{◌∷◌, [], map, ap, ◌∙◌}
use Rattle.std.proofs.lemmas.List.{map-append}
use Rattle.slotted_patterns.specs.Shape.{head, heads, shape}
use Rattle.slotted_patterns.specs.Subpatterns.{subpatterns}
use Rattle.slotted_patterns.specs.View.{tree_of}
use Rattle.slotted_patterns.proofs.Folds.{inside-fewer, inside-walk}
use Rattle.slotted_patterns.proofs.PatternCopies.{mapped_last}
use Rattle.slotted_patterns.proofs.Shapes.{heads-walk}
use Rattle.slotted_patterns.proofs.pattern.all_inside.Goals as goal

pub loop-next-smaller : goal.loop-next-smaller
loop-next-smaller g c =
    let form = g.L.LanguageChildren.form in
    let last = mapped_last (λ p. tree_of form p.now) c.loop-next.left.items c.pop.new.self.items c.pop.result c.in-Some.next c.pop.ensures.items c.in-Some.is in
    inside-fewer (map (λ p. tree_of form p.now) c.pop.new.self.items) (map (λ p. tree_of form p.now) c.loop-next.left.items) (map (λ p. tree_of form p.now) c.push_parts.new.left.items) (tree_of form c.in-Some.next.now) last c.in_ok-push_parts.ensures.ok

pub loop-next-preserved : goal.loop-next-preserved
loop-next-preserved g c =
    let form = g.L.LanguageChildren.form in
    let last = mapped_last (λ p. tree_of form p.now) c.loop-next.left.items c.pop.new.self.items c.pop.result c.in-Some.next c.pop.ensures.items c.in-Some.is in
    let more = ap (map (λ p. tree_of form p.now)) c.in_ok-push-2.ensures.items ∙ map-append (λ p. tree_of form p.now) c.loop-next.found.items (c.in-Some.next ∷ []) in
    let last-shape = mapped_last (λ p. shape p.now) c.loop-next.left.items c.pop.new.self.items c.pop.result c.in-Some.next c.pop.ensures.items c.in-Some.is in
    let more-heads = ap (map (λ p. head (shape p.now))) c.in_ok-push-2.ensures.items ∙ map-append (λ p. head (shape p.now)) c.loop-next.found.items (c.in-Some.next ∷ []) in
    record {
      trees = inside-walk (map (λ p. tree_of form p.now) c.loop-next.found.items) (map (λ p. tree_of form p.now) c.push-in-Some.new.self.items) (map (λ p. tree_of form p.now) c.pop.new.self.items) (map (λ p. tree_of form p.now) c.loop-next.left.items) (map (λ p. tree_of form p.now) c.push_parts.new.left.items) (subpatterns (tree_of form c.args.pattern.now)) (tree_of form c.in-Some.next.now) last c.in_ok-push_parts.ensures.ok more c.loop-next.invariant.trees;
      heads = heads-walk (map (λ p. head (shape p.now)) c.loop-next.found.items) (map (λ p. head (shape p.now)) c.push-in-Some.new.self.items) (map (λ p. shape p.now) c.pop.new.self.items) (map (λ p. shape p.now) c.loop-next.left.items) (map (λ p. shape p.now) c.push_parts.new.left.items) (heads (shape c.args.pattern.now)) (shape c.in-Some.next.now) last-shape c.in_ok-push_parts.ensures.shapes more-heads c.loop-next.invariant.heads;
    }
