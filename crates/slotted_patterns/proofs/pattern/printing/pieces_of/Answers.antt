-- Each turn makes the pieces of one element.
use lib.Utf8.{encode}
use Rattle.std.proofs.Common.{◌≡◌, ◌+◌, [], ◌∷◌, ◌++◌, map, reverse, drop, length, get_or, codes, refl, sym, subst, ap, ◌∙◌, arith, append-nil}
use Rattle.std.proofs.lemmas.List.{length-map, length-reverse, reverse-reverse}
use Rattle.slotted_lists.proofs.Lists.{length-zero as nothing}
use Rattle.slotted_slots.specs.Syntax.{element_of}
use Rattle.slotted_patterns.specs.Pieces.{pattern_weights, texts, weights}
use Rattle.slotted_patterns.specs.Shown.{part_text, part_texts, pattern_text, spaced}
use Rattle.slotted_patterns.proofs.NodeTexts.{part_texts-step}
use Rattle.slotted_patterns.proofs.PieceTexts.{two_more, two_weigh, reverse_last, length_last}
use Rattle.slotted_patterns.proofs.pattern.printing.pieces_of.Goals as goal

pub loop-element-init : goal.loop-element-init
loop-element-init g c =
    let w = g.L.LanguageChildren.shown in
    let es = c.args.elements.items in
    let ps = c.args.children.now in
    let count = ap length c.reverse.ensures.items in (
      ([], (refl, refl)),
      omega (arith, count, length-reverse es),
      λ t.
          let us = map (pattern_text w t) ps in
          ap (λ qs. texts w t qs ++ spaced [] (part_texts t (map element_of (reverse c.reverse.new.self.items)) us)) c.new-pieces.ensures.items
          ∙ ap (λ fs. spaced [] (part_texts t (map element_of fs) us)) (ap reverse c.reverse.ensures.items ∙ reverse-reverse es),
      omega (arith, ap (weights w) c.new-pieces.ensures.items, count, length-reverse es),
    )

pub loop-element-preserved : goal.loop-element-preserved
unfolding encode
loop-element-preserved g c =
    let w = g.L.LanguageChildren.shown in
    let e = c.in-Some.element in
    let old = c.loop-element.elements.items in
    let rest = c.pop.new.self.items in
    let next = c.loop-element.next in
    let ps = c.args.children.now in
    let qs = c.loop-element.pieces.items in
    let one = c.push.new.self.items in
    let two = c.push-in-Some.new.self.items in
    let sep = c.loop-element.separator.now in
    let fewer = length_last old rest c.pop.result e c.pop.ensures.items c.in-Some.is in
    let weigh = two_weigh w qs one two _ c.piece_of.result c.in_ok-push.ensures.items c.in_ok-push-2.ensures.items in
    let light = c.piece_of.ensures.light in
    let taken = ap (λ k. pattern_weights w (drop (next + k) ps)) c.child_count-width.ensures.count in (
      (32 ∷ [], (refl, refl)),
      omega (arith, fewer, c.child_count-width.ensures.one, c.loop-element.invariant.1),
      λ t.
          let us = map (pattern_text w t) ps in
          let sofar = texts w t qs in
          let child = get_or us next (codes "_") in
          let whole = spaced [] (part_texts t (map element_of c.args.elements.items) us) in
          let head = reverse_last old rest c.pop.result e c.pop.ensures.items c.in-Some.is in
          let before = subst (λ fs. sofar ++ spaced sep (part_texts t (map element_of fs) (drop next us)) ≡ whole) head (c.loop-element.invariant.2 t) in
          let step = part_texts-step element_of t sep sofar child (e ∷ reverse rest) 0 next e us whole (omega arith) refl refl before in
          let made = two_more w t qs one two _ c.piece_of.result c.in_ok-push.ensures.items c.in_ok-push-2.ensures.items ∙ ap (λ x. (sofar ++ sep) ++ x) (c.piece_of.ensures.same t) in
          ap (λ x. x ++ spaced (codes " ") (part_texts t (map element_of (reverse rest)) (drop (next + c.child_count-width.result) us))) made
          ∙ (ap (λ k. ((sofar ++ sep) ++ part_text t (element_of e) child) ++ spaced (codes " ") (part_texts t (map element_of (reverse rest)) (drop (next + k) us))) c.child_count-width.ensures.count ∙ step),
      omega (arith, fewer, weigh, light, taken, c.loop-element.invariant.3),
    )

pub returns-clause-ok : goal.returns-clause-ok
returns-clause-ok g c =
    let w = g.L.LanguageChildren.shown in
    let es = c.loop-element.elements in
    let qs = c.loop-element.pieces.items in
    let ps = c.args.children.now in
    let none = nothing es.items (omega (arith, es.ok.0, c.in_default.ensures.cases.0)) in
    record {
      same = λ t.
          let us = map (pattern_text w t) ps in
          sym (append-nil (texts w t qs))
          ∙ (ap (λ fs. texts w t qs ++ spaced c.loop-element.separator.now (part_texts t (map element_of (reverse fs)) (drop c.loop-element.next us))) (sym none) ∙ c.loop-element.invariant.2 t);
      light = omega (arith, length-map c.args.elements.items element_of, c.loop-element.invariant.3);
    }
