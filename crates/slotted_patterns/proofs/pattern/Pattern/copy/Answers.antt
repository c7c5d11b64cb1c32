-- Each pattern is copied over the copies of its parts.
use Rattle.std.proofs.Common.{◌≡◌, ◌++◌, ◌∷◌, [], length, map, sym, subst, ap, ◌∙◌, arith}
use Rattle.std.proofs.lemmas.List.{length-map, map-append}
use Rattle.slotted_lists.proofs.Lists.{length-zero as nothing}
use Rattle.slotted_patterns.specs.Subpatterns.{before_parts}
use Rattle.slotted_patterns.specs.View.{tree_of}
use Rattle.slotted_patterns.proofs.Folds.{Folds, folds-end, folds-parts, folds-step}
use Rattle.slotted_patterns.proofs.PatternCopies.{mapped_last, mapped_one}
use Rattle.slotted_patterns.proofs.pattern.Pattern.copy.Goals as goal

pub copy_over-requires : goal.copy_over-requires
copy_over-requires g c =
    let tree = tree_of g.L.LanguageChildren.form in
    let last = mapped_last (λ p. tree p.now) c.loop-next.left.items c.pop.new.self.items c.pop.result c.in-Some.next c.pop.ensures.items c.in-Some.is in
    let done = map tree c.loop-next.copies.items in
    folds-parts (tree c.args.self.now) (tree c.in-Some.next.now) (map (λ p. tree p.now) c.pop.new.self.items) done (subst (λ l. Folds (tree c.args.self.now) l done) last c.loop-next.invariant)

pub loop-next-preserved : goal.loop-next-preserved
loop-next-preserved g c =
    let tree = tree_of g.L.LanguageChildren.form in
    let last = mapped_last (λ p. tree p.now) c.loop-next.left.items c.pop.new.self.items c.pop.result c.in-Some.next c.pop.ensures.items c.in-Some.is in
    let done = map tree c.loop-next.copies.items in
    let x = tree c.in-Some.next.now in
    let step = folds-step (tree c.args.self.now) x (map (λ p. tree p.now) c.pop.new.self.items) done (subst (λ l. Folds (tree c.args.self.now) l done) last c.loop-next.invariant) in
    let now : map tree c.push.new.self.items ≡ before_parts x done ++ x ∷ [] =
    ap (map tree) c.in_ok-push.ensures.items ∙ (map-append tree c.copy_over.new.copies.items (c.in_ok-copy.copy ∷ []) ∙ (λ i. c.in_ok-copy.ensures.rest i ++ c.in_ok-copy.ensures.ok i ∷ [])) in
    subst (Folds (tree c.args.self.now) (map (λ p. tree p.now) c.pop.new.self.items)) (sym now) step

pub unreachable-requires : goal.unreachable-requires
unreachable-requires g c =
    let tree = tree_of g.L.LanguageChildren.form in
    let none = nothing c.loop-next.left.items (omega (arith, c.loop-next.left.ok.0, c.in_default.ensures.cases.0)) in
    let done = map tree c.loop-next.copies.items in
    let one = folds-end (tree c.args.self.now) done (subst (λ l. Folds (tree c.args.self.now) (map (λ p. tree p.now) l) done) none c.loop-next.invariant) in
    absurd (omega (arith, ap length one, length-map c.loop-next.copies.items tree, c.loop-next.copies.ok.0, c.in-None.ensures.cases.0))

pub returns-clause-ok : goal.returns-clause-ok
returns-clause-ok g c =
    let tree = tree_of g.L.LanguageChildren.form in
    let none = nothing c.loop-next.left.items (omega (arith, c.loop-next.left.ok.0, c.in_default.ensures.cases.0)) in
    let done = map tree c.loop-next.copies.items in
    let one = folds-end (tree c.args.self.now) done (subst (λ l. Folds (tree c.args.self.now) (map (λ p. tree p.now) l) done) none c.loop-next.invariant) in
    mapped_one tree c.loop-next.copies.items c.pop-2.new.self.items c.pop-2.result c.in-Some-pop.copy (tree c.args.self.now) c.pop-2.ensures.items c.in-Some-pop.is one
