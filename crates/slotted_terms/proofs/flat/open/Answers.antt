use Rattle.std.proofs.Common.{map, arith}
use Rattle.std.proofs.lemmas.List.{length-map}
use Rattle.slotted_patterns.specs.View.{tree_of}
use Rattle.slotted_terms.proofs.OpenedPatterns.{node_miscounted}
use Rattle.slotted_terms.proofs.flat.open.Goals as goal

pub returns-then-count-applied_id_count-clause-none : goal.returns-then-count-applied_id_count-clause-none
returns-then-count-applied_id_count-clause-none g c =
    let form = g.L.LanguageChildren.form in
    let below = c.in-Some.below in
    node_miscounted (tree_of form c.args.pattern) (form c.in-Some.node) (map (tree_of form) below.items) (c.in-Some.ensures.some)
    (λ e. c.if-count-applied_id_count.true (omega (arith, e, length-map below.items (tree_of form), c.len-count.ensures, below.ok.0, c.applied_id_count.ensures)))
