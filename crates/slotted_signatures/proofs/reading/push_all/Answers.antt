-- The patterns are yielded from the last one to the first.
use Rattle.std.proofs.Common.{◌++◌, map, ap, ◌∙◌}
use Rattle.std.proofs.lemmas.Iterator.Adapters.{YieldsList-from_rev_slice}
use Rattle.std.proofs.lemmas.Iterator.Consumers.{YieldsList-end}
use Rattle.slotted_patterns.specs.View.{tree_of}
use Rattle.slotted_signatures.proofs.ReadingOrder.{map-reverse, mapped-now}
use Rattle.slotted_signatures.proofs.reading.push_all.Goals as goal

pub returns-clause-ok : goal.returns-clause-ok
returns-clause-ok g c =
    let tree = tree_of g.L.LanguageChildren.form in
    let e = YieldsList-end (YieldsList-from_rev_slice c.args.patterns.now cc) c.loop-pattern.yielded _ c.loop-pattern.yielded_by _ _ c.in-None.is c.next.ensures.steps in
    c.loop-pattern.invariant ∙ ap (λ l. map (λ p. tree p.now) c.args.left.now.items ++ l) (mapped-now tree c.loop-pattern.yielded _ e.0 ∙ map-reverse tree c.args.patterns.now)
