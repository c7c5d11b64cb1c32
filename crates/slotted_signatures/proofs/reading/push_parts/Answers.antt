use Rattle.std.proofs.Common.{◌++◌, ◌∷◌, [], map, reverse, sym, ap, ◌∙◌}
use Rattle.slotted_patterns.specs.View.{tree_of}
use Rattle.slotted_patterns.proofs.PatternCopies.{mapped_three, parts-ENode, parts-Subst}
use Rattle.slotted_patterns.proofs.PieceTexts.{on_ok}
use Rattle.slotted_signatures.proofs.reading.push_parts.Goals as goal

pub returns-in-ENode-clause-ok : goal.returns-in-ENode-clause-ok
returns-in-ENode-clause-ok g c =
    let form = g.L.LanguageChildren.form in
    let parts-are = ap (map (tree_of form)) c.deref.ensures.value ∙ sym (parts-ENode form c.args.pattern.now c.in-ENode.field-0 c.in-ENode.children c.in-ENode.is) in
    on_ok c.push_all.result (λ s. s ∙ ap (λ l. map (λ p. tree_of form p.now) c.args.left.now.items ++ reverse l) parts-are) c.push_all.ensures.ok

pub returns-in_ok-push-in-Subst-3-clause-ok : goal.returns-in_ok-push-in-Subst-3-clause-ok
returns-in_ok-push-in-Subst-3-clause-ok g c =
    let form = g.L.LanguageChildren.form in
    let tree = tree_of form in
    let old = c.args.left.now.items in
    let pushed = mapped_three (λ p. tree p.now) old c.push.new.self.items c.push-in-Subst.new.self.items c.push-in-Subst-2.new.self.items c.deref-in-Subst.result c.deref-in-Subst-2.result c.deref-in-Subst-3.result c.in_ok-push-in-Subst.ensures.items c.in_ok-push-in-Subst-2.ensures.items c.in_ok-push-in-Subst-3.ensures.items in
    pushed
    ∙ ((λ i. map (λ p. tree p.now) old ++ (tree (c.deref-in-Subst.ensures i) ∷ tree (c.deref-in-Subst-2.ensures i) ∷ tree (c.deref-in-Subst-3.ensures i) ∷ []))
    ∙ ap (λ l. map (λ p. tree p.now) old ++ reverse l) (sym (parts-Subst form c.args.pattern.now c.in-Subst.body c.in-Subst.place c.in-Subst.value c.in-Subst.is)))
