-- Each pattern is looked up over the ids of its parts.
use Rattle.std.proofs.Common.{◌∙◌, ◌∷◌, [], ap, subst, arith, length, map, refl}
use Rattle.std.specs.Prelude.{All, IfSome, None, Some, option_map}
use Rattle.std.proofs.lemmas.List.{length-map, map-append}
use Rattle.slotted_lists.proofs.Lists.{length-zero as nothing}
use Rattle.slotted_patterns.specs.Subpatterns.{parts}
use Rattle.slotted_patterns.specs.View.{tree_of}
use Rattle.slotted_patterns.proofs.PatternCopies.{mapped_last}
use Rattle.slotted_proofs.specs.Equations.{to_applied}
use Rattle.slotted_rule_patterns.specs.Values.{values_of}
use Rattle.slotted_graph.specs.ValidIds.{IsValidId}
use Rattle.slotted_rules.specs.Unless.{SeesOver}
use Rattle.slotted_rules.proofs.SeenInstances.{Sees, sees-end, sees-enough, sees-none, sees-some, sees-start, sees-step, valid-step}
use Rattle.slotted_rules.proofs.StackedInstances.{all-at}
use Rattle.slotted_rules.proofs.unless.seen.Goals as goal

pub loop-next-init : goal.loop-next-init
loop-next-init g c =
    let tree = tree_of g.L.LanguageChildren.form in
    let none = ap (map to_applied) c.new-ids.ensures.items in
    record {
      sees = sees-start c.args.graph.now (values_of c.args.subst.now) (tree c.args.pattern.now) (map (λ p. tree p.now) c.in_ok-left.left.items) (map to_applied c.new-ids.result.items) c.in_ok-left.ensures.ok none;
      valid = λ k d l. absurd (omega (arith, l, ap length none));
    }

pub seen_over-requires-clause-enough : goal.seen_over-requires-clause-enough
seen_over-requires-clause-enough g c =
    let tree = tree_of g.L.LanguageChildren.form in
    let gr = c.args.graph.now in
    let s = values_of c.args.subst.now in
    let p = tree c.args.pattern.now in
    let x = tree c.in-Some.next.now in
    let left = map (λ p. tree p.now) c.pop.new.self.items in
    let ids = map to_applied c.loop-next.ids.items in
    let last = mapped_last (λ p. tree p.now) c.loop-next.left.items c.pop.new.self.items c.pop.result c.in-Some.next c.pop.ensures.items c.in-Some.is in
    omega (arith, sees-enough gr s p x left ids (subst (λ l. Sees gr s p l ids) last c.loop-next.invariant.sees), length-map c.loop-next.ids.items to_applied)

pub loop-next-preserved : goal.loop-next-preserved
loop-next-preserved g c =
    let tree = tree_of g.L.LanguageChildren.form in
    let gr = c.args.graph.now in
    let s = values_of c.args.subst.now in
    let p = tree c.args.pattern.now in
    let x = tree c.in-Some.next.now in
    let left = map (λ p. tree p.now) c.pop.new.self.items in
    let ids = map to_applied c.loop-next.ids.items in
    let rest = map to_applied c.seen_over.new.ids.items in
    let a = to_applied c.in-Some-2.id in
    let last = mapped_last (λ p. tree p.now) c.loop-next.left.items c.pop.new.self.items c.pop.result c.in-Some.next c.pop.ensures.items c.in-Some.is in
    let o : SeesOver gr s x ids rest (Some a) = subst (λ o. SeesOver gr s x ids rest (option_map to_applied o)) c.in-Some-2.is c.in_ok-id.ensures.ok in
    let valid : IsValidId gr a = subst (λ o. IfSome o (λ b. IsValidId gr (to_applied b))) c.in-Some-2.is c.in_ok-id.ensures.valid in
    let more = ap (map to_applied) c.in_ok-push-in-Some-2.ensures.items ∙ map-append to_applied c.seen_over.new.ids.items (c.in-Some-2.id ∷ []) in
    record {
      sees = sees-step gr s p x left ids (subst (λ l. Sees gr s p l ids) last c.loop-next.invariant.sees) rest (map to_applied c.push.new.self.items) a o more;
      valid = valid-step gr s (length (parts x)) ids rest (map to_applied c.push.new.self.items) a c.loop-next.invariant.valid (o.left a refl) valid more;
    }

pub returns-in-None-clause-ok : goal.returns-in-None-clause-ok
returns-in-None-clause-ok g c =
    let tree = tree_of g.L.LanguageChildren.form in
    let gr = c.args.graph.now in
    let s = values_of c.args.subst.now in
    let p = tree c.args.pattern.now in
    let x = tree c.in-Some.next.now in
    let left = map (λ p. tree p.now) c.pop.new.self.items in
    let ids = map to_applied c.loop-next.ids.items in
    let rest = map to_applied c.seen_over.new.ids.items in
    let last = mapped_last (λ p. tree p.now) c.loop-next.left.items c.pop.new.self.items c.pop.result c.in-Some.next c.pop.ensures.items c.in-Some.is in
    let o : SeesOver gr s x ids rest None = subst (λ o. SeesOver gr s x ids rest (option_map to_applied o)) c.in-None.is c.in_ok-id.ensures.ok in
    sees-none gr s p x left ids (subst (λ l. Sees gr s p l ids) last c.loop-next.invariant.sees) rest o

pub unreachable-requires : goal.unreachable-requires
unreachable-requires g c =
    let tree = tree_of g.L.LanguageChildren.form in
    let gr = c.args.graph.now in
    let s = values_of c.args.subst.now in
    let p = tree c.args.pattern.now in
    let ids = map to_applied c.loop-next.ids.items in
    let none = nothing c.loop-next.left.items (omega (arith, c.loop-next.left.ok.0, c.in_default.ensures.cases.0)) in
    let some = sees-some gr s p ids (subst (λ l. Sees gr s p (map (λ p. tree p.now) l) ids) none c.loop-next.invariant.sees) in
    absurd (omega (arith, some, length-map c.loop-next.ids.items to_applied, c.loop-next.ids.ok.0, c.in-None-pop.ensures.cases.0))

pub returns-clause-ok : goal.returns-clause-ok
returns-clause-ok g c =
    let tree = tree_of g.L.LanguageChildren.form in
    let gr = c.args.graph.now in
    let s = values_of c.args.subst.now in
    let p = tree c.args.pattern.now in
    let ids = map to_applied c.loop-next.ids.items in
    let none = nothing c.loop-next.left.items (omega (arith, c.loop-next.left.ok.0, c.in_default.ensures.cases.0)) in
    sees-end gr s p ids (map to_applied c.pop-2.new.self.items) (to_applied c.in-Some-pop.id) (subst (λ l. Sees gr s p (map (λ p. tree p.now) l) ids) none c.loop-next.invariant.sees)
    (mapped_last to_applied c.loop-next.ids.items c.pop-2.new.self.items c.pop-2.result c.in-Some-pop.id c.pop-2.ensures.items c.in-Some-pop.is)

pub returns-clause-valid : goal.returns-clause-valid
returns-clause-valid g c =
    let gr = c.args.graph.now in
    let rest = map to_applied c.pop-2.new.self.items in
    let last = mapped_last to_applied c.loop-next.ids.items c.pop-2.new.self.items c.pop-2.result c.in-Some-pop.id c.pop-2.ensures.items c.in-Some-pop.is in
    all-at (IsValidId gr) rest (to_applied c.in-Some-pop.id) [] (subst (All (IsValidId gr)) last c.loop-next.invariant.valid)
