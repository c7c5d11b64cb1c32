use Rattle.std.proofs.Common.{◌≡◌, ◌-◌, ◌++◌, ◌∷◌, [], length, map, take, drop, sym, ap, ◌∙◌, arith}
use Rattle.std.proofs.lemmas.List.{length-map, map-append, take-map, drop-map}
use Rattle.slotted_patterns.specs.Tree.{enode, row_of}
use Rattle.slotted_patterns.specs.View.{tree_of}
use Rattle.slotted_patterns.specs.declared.pattern.Pattern.{ENode}
use Rattle.slotted_patterns.proofs.PatternTrees.{tree_of-ENode}
use Rattle.slotted_terms.proofs.flat.close.Goals as goal

pub returns-clause-ok : goal.returns-clause-ok
returns-clause-ok g c =
    let form = g.L.LanguageChildren.form in
    let tree = tree_of form in
    let node = c.args.node.node in
    let n = c.args.node.count in
    let old = c.args.done.now.items in
    let at = c.len.result - n in
    let below = c.in_ok-below.below in
    let index : at ≡ length (map tree old) - n = omega (arith, c.len.ensures, c.args.done.now.ok.0, length-map old tree) in
    let kept = ap (map tree) c.in_ok-below.ensures.items ∙ (sym (take-map tree at old) ∙ ap (λ k. take k (map tree old)) index) in
    let moved = ap (map tree) c.in_ok-below.ensures.tail ∙ (sym (drop-map tree at old) ∙ ap (λ k. drop k (map tree old)) index) in
    let made = tree_of-ENode form node below ∙ ap (λ qs. enode (form node) (row_of qs)) moved in
    ap (map tree) c.in_ok-push.ensures.items ∙ (map-append tree c.split_off.new.self.items (ENode node below ∷ []) ∙ (λ i. kept i ++ made i ∷ []))
