use Rattle.std.proofs.Common.{sym, ◌∙◌}
use Rattle.std.proofs.lemmas.Bool.{false≢true}
use Rattle.slotted_changes.proofs.Differences.{none-mapped}
use Rattle.slotted_changes.proofs.Places.{apart_nodes, no_difference, one_node-rows}
use Rattle.slotted_changes.proofs.differing.differing_child.Goals as goal

pub returns-then-not-branch-clause-none : goal.returns-then-not-branch-clause-none
returns-then-not-branch-clause-none g c =
    let form = g.L.LanguageChildren.form in
    apart_nodes (form c.args.one.now) (form c.args.two.now) c.args.ones.now c.args.twos.now (λ h. absurd (false≢true (sym c.if-not-branch.true ∙ c.in_ok-are_of_one_node.ensures.ok.1 h)))

pub only_difference-requires : goal.only_difference-requires
only_difference-requires g c =
    let form = g.L.LanguageChildren.form in
    one_node-rows (form c.args.one.now) (form c.args.two.now) c.args.ones.now c.args.twos.now (c.in_ok-are_of_one_node.ensures.ok.0 c.if-not-branch.false)

pub returns-clause-none : goal.returns-clause-none
returns-clause-none g c =
    let form = g.L.LanguageChildren.form in
    none-mapped c.only_difference.result (no_difference (form c.args.one.now) (form c.args.two.now) c.args.ones.now c.args.twos.now) c.only_difference.ensures.none
