use Rattle.std.proofs.Common.{◌≡◌, ◌-◌, ◌++◌, ◌∷◌, [], length, take, drop, ap, ◌∙◌, arith}
use Rattle.slotted_languages.specs.Filled.{term_of}
use Rattle.slotted_terms.proofs.flat.close_term.Goals as goal

pub returns-clause-ok : goal.returns-clause-ok
returns-clause-ok g c =
    let form = g.L.LanguageChildren.form in
    let n = c.args.node.count in
    let old = c.args.done.now.items in
    let at = c.len.result - n in
    let index : at ≡ length old - n = omega (arith, c.len.ensures, c.args.done.now.ok.0) in
    let kept = c.in_ok-children.ensures.items ∙ ap (λ k. take k old) index in
    let moved = c.in_ok-children.ensures.tail ∙ ap (λ k. drop k old) index in
    c.in_ok-push.ensures.items ∙ (λ i. kept i ++ term_of (form c.args.node.node) (moved i) ∷ [])
