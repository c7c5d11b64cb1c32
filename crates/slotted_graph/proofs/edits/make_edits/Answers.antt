use Rattle.std.proofs.Common.{subst, sym, inr}
use Rattle.std.proofs.lemmas.List.{take_more}
use Rattle.slotted_data.specs.Edits.{IsValidEdit}
use Rattle.slotted_proofs.specs.Equations.{to_applied}
use Rattle.slotted_graph.specs.Edited.{MakesEdit, MakesEdits, all_made, then_edit}
use Rattle.slotted_graph.proofs.Leaving.{edits-extend}
use Rattle.slotted_graph.proofs.Saying.{edit-later, more-then}
use Rattle.slotted_graph.proofs.edits.make_edits.Goals as goal

pub loop-edit-init : goal.loop-edit-init
loop-edit-init g c = (c.requires.graph, all_made)

pub make_edit-requires-clause-class : goal.make_edit-requires-clause-class
make_edit-requires-clause-class g c = inr ((edits-extend g.N.Analysis.codes g.N.Analysis.meaning c.loop-edit.invariant.1).valid (to_applied c.args.class.now) c.requires.class)

pub make_edit-requires-clause-edit : goal.make_edit-requires-clause-edit
make_edit-requires-clause-edit g c =
    let e = c.edit-item.result in
    inr (edit-later c.args.graph.now.table c.loop-edit.graph.table (edits-extend g.N.Analysis.codes g.N.Analysis.meaning c.loop-edit.invariant.1).more e
    (subst (IsValidEdit c.args.graph.now.table) (sym c.edit-item.is) (c.requires.edits c.loop-edit.edit-index e c.loop-edit-test.true)))

pub loop-edit-preserved : goal.loop-edit-preserved
loop-edit-preserved g c =
    let es = c.args.edits.now in
    let i = c.loop-edit.edit-index in
    let e = c.edit-item.result in
    let codes = g.N.Analysis.codes in
    let meaning = g.N.Analysis.meaning in
    let class = to_applied c.args.class.now in
    let one : MakesEdit codes meaning c.loop-edit.graph c.make_edit.new.graph class e = c.in_ok-make_edit.ensures.ok in (
      one.graph,
      subst (λ xs. MakesEdits codes meaning c.args.graph.now class xs c.make_edit.new.graph) (sym (take_more es i e c.loop-edit-test.true))
          (then_edit c.loop-edit.invariant.1 (subst (MakesEdit codes meaning c.loop-edit.graph c.make_edit.new.graph class) c.edit-item.is one)),
    )

pub returns-in_err-make_edit-clause-more : goal.returns-in_err-make_edit-clause-more
returns-in_err-make_edit-clause-more g c =
    more-then c.args.graph.now.table c.loop-edit.graph.table c.make_edit.new.graph.table (edits-extend g.N.Analysis.codes g.N.Analysis.meaning c.loop-edit.invariant.1).more c.make_edit.ensures.more

pub returns-clause-more : goal.returns-clause-more
returns-clause-more g c = (edits-extend g.N.Analysis.codes g.N.Analysis.meaning c.loop-edit.invariant.1).more
