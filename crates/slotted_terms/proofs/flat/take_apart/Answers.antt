-- A node gives way to the patterns under it.
use Rattle.std.proofs.Common.{◌≡◌, ◌++◌, ◌∷◌, [], length, map, sym, ap, ◌∙◌, arith, append_assoc}
use Rattle.std.proofs.lemmas.List.{map-append}
use Rattle.std.proofs.lemmas.Result.{err_from_is_err_and}
use Rattle.slotted_patterns.specs.Tree.{row_of}
use Rattle.slotted_patterns.specs.View.{tree_of}
use Rattle.slotted_patterns.proofs.PatternCopies.{mapped_last}
use Rattle.slotted_terms.specs.AsTerm.{as_term}
use Rattle.slotted_terms.specs.Flat.{flat_of, flat_row}
use Rattle.slotted_terms.proofs.AsTerms.{IsRefusal-whole}
use Rattle.slotted_terms.proofs.OpenedPatterns.{are_terms, last-fails, last-flat, last-opens, none-of}
use Rattle.slotted_terms.proofs.flat.take_apart.Goals as goal

pub returns-in_err-node-clause-none : goal.returns-in_err-node-clause-none
returns-in_err-node-clause-none g c =
    let tree = tree_of g.L.LanguageChildren.form in
    let last = mapped_last tree c.loop-next.left.items c.pop.new.self.items c.pop.result c.in-Some.next c.pop.ensures.items c.in-Some.is in
    let from = err_from_is_err_and c.from_residual-in_err-node.result c.from_residual-in_err-node.ensures.1 in
    rw (from.1, from.2)
    (IsRefusal-whole (as_term (tree c.in-Some.next)) (as_term (tree c.args.pattern)) _ c.in_err-node.ensures.none
    (λ h. none-of (as_term (tree c.args.pattern)) (c.loop-next.invariant.terms ∙ (ap are_terms last ∙ last-fails (map tree c.pop.new.self.items) (tree c.in-Some.next) h))))

pub loop-next-smaller : goal.loop-next-smaller
loop-next-smaller g c =
    let form = g.L.LanguageChildren.form in
    let tree = tree_of form in
    let last = mapped_last tree c.loop-next.left.items c.pop.new.self.items c.pop.result c.in-Some.next c.pop.ensures.items c.in-Some.is in
    let o = c.in_ok-node.ensures.ok in
    omega (arith, ap (λ l. length (flat_row (row_of l))) last, ap length (last-flat (map tree c.pop.new.self.items) (tree c.in-Some.next) (form c.in_ok-node.node.node) o.below o.whole), ap (λ l. length (flat_row (row_of l))) o.left)

pub loop-next-preserved : goal.loop-next-preserved
loop-next-preserved g c =
    let form = g.L.LanguageChildren.form in
    let tree = tree_of form in
    let rest = map tree c.pop.new.self.items in
    let last = mapped_last tree c.loop-next.left.items c.pop.new.self.items c.pop.result c.in-Some.next c.pop.ensures.items c.in-Some.is in
    let o = c.in_ok-node.ensures.ok in
    let f = form c.in_ok-node.node.node in
    let found = flat_of form c.loop-next.nodes.items in
    let more : flat_of form c.push-in-Some.new.self.items ≡ found ++ (f, length o.below) ∷ [] =
    ap (flat_of form) c.in_ok-push-2.ensures.items ∙ (map-append (λ n. (form n.node, n.count)) c.loop-next.nodes.items (c.in_ok-node.node ∷ []) ∙ ap (λ k. found ++ (f, k) ∷ []) o.count) in
    record {
      nodes = (λ i. more i ++ flat_row (row_of (o.left i)))
          ∙ (append_assoc found ((f, length o.below) ∷ []) (flat_row (row_of (rest ++ o.below)))
          ∙ (ap (λ l. found ++ l) (sym (ap (λ l. flat_row (row_of l)) last ∙ last-flat rest (tree c.in-Some.next) f o.below o.whole)) ∙ c.loop-next.invariant.nodes));
      terms = c.loop-next.invariant.terms ∙ (ap are_terms last ∙ (last-opens rest (tree c.in-Some.next) f o.below o.whole o.right ∙ ap are_terms (sym o.left)));
    }
