-- Both instances have ids, and `eq` was asked of these.
use Rattle.std.proofs.Common.{subst}
use Rattle.std.specs.Prelude.{Some, option_map}
use Rattle.slotted_patterns.specs.View.{tree_of}
use Rattle.slotted_proofs.specs.Equations.{to_applied}
use Rattle.slotted_rule_patterns.specs.Values.{values_of}
use Rattle.slotted_rules.specs.Unless.{SaysSeen}
use Rattle.slotted_rules.proofs.Answering.{ok-mapped}
use Rattle.slotted_rules.proofs.SeenInstances.{alike-seen, seen-alike}
use Rattle.slotted_rules.proofs.unless.are_seen_equal.Goals as goal

pub returns-clause-equal : goal.returns-clause-equal
returns-clause-equal g c =
    let tree = tree_of g.L.LanguageChildren.form in
    let gr = c.args.graph.now in
    let s = values_of c.args.subst.now in
    let p = tree c.args.left.now in
    let q = tree c.args.right.now in
    let a = to_applied c.in-Some-2.a in
    let b = to_applied c.in-Some.b in
    let left : SaysSeen gr s p (Some a) = subst (λ o. SaysSeen gr s p (option_map to_applied o)) c.in-Some-2.is c.in_ok-a.ensures.ok in
    let right : SaysSeen gr s q (Some b) = subst (λ o. SaysSeen gr s q (option_map to_applied o)) c.in-Some.is c.in_ok-b.ensures.ok in
    ok-mapped c.eq.result c.eq.ensures.found (λ y found. (λ t. alike-seen gr s p q a b left right (found.0 t), λ e. found.1 (seen-alike gr s p q a b left right e)))
