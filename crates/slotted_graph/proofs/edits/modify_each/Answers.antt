use Rattle.std.proofs.Common.{◌∙◌, ◌+◌, ap, sym, take}
use Rattle.std.specs.Prelude.{◌||◌}
use Rattle.std.proofs.lemmas.List.{take_more}
use Rattle.slotted_operations.proofs.Graphs.Reports.{numbers-then}
use Rattle.slotted_operations.specs.Reports.{class_numbers}
use Rattle.slotted_graph.specs.Rounds.{all_modified}
use Rattle.slotted_graph.proofs.Leaving.{each-leaves, each-then}
use Rattle.slotted_graph.proofs.Saying.{more-then}
use Rattle.slotted_graph.proofs.edits.modify_each.Goals.{then-branch, else-branch}
use Rattle.slotted_graph.proofs.edits.modify_each.Goals as goal

pub loop-id-init : goal.loop-id-init
loop-id-init g c = (c.requires, all_modified)

pub loop-id-preserved : goal.loop-id-preserved
loop-id-preserved g c =
    let ids = c.args.ids.now in
    let i = c.loop-id.id-index in
    let y = c.loop-id.asked in (
      c.in_ok-modify_class.ensures.leaves.graph,
      each-then g.N.Analysis.codes g.N.Analysis.meaning g.met.N.Analysis.is_merge g.N.Analysis.may_ask c.loop-id.invariant.1 c.in_ok-modify_class.ensures.modifies (class_numbers (take (i + 1) ids))
          (ap class_numbers (take_more ids i _ c.loop-id-test.true) ∙ numbers-then (take i ids) _)
          c.if-branch.asked
          (elim c.if-branch.branch [
            | then-branch w ↦ w.asked-is ∙ sym (ap (λ b. b || y) w.if-branch.true)
            | else-branch w ↦ w.asked-is ∙ sym (ap (λ b. b || y) w.if-branch.false)
          ]),
    )

pub returns-in_err-modify_class-clause-more : goal.returns-in_err-modify_class-clause-more
returns-in_err-modify_class-clause-more g c =
    let before = each-leaves g.N.Analysis.codes g.N.Analysis.meaning g.met.N.Analysis.is_merge g.N.Analysis.may_ask c.requires c.loop-id.invariant.1 in
    more-then c.args.graph.now.table c.loop-id.graph.table c.modify_class.new.graph.table before.extends.more c.modify_class.ensures.more

pub returns-clause-more : goal.returns-clause-more
returns-clause-more g c = (each-leaves g.N.Analysis.codes g.N.Analysis.meaning g.met.N.Analysis.is_merge g.N.Analysis.may_ask c.requires c.loop-id.invariant.1).extends.more
