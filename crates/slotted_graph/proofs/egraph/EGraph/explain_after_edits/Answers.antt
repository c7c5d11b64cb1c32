use Rattle.std.proofs.Common.{inr}
use Rattle.slotted_operations.proofs.CallerLemmas.{term_later}
use Rattle.slotted_graph.proofs.Extending.{extends-then}
use Rattle.slotted_graph.proofs.Insides.{given}
use Rattle.slotted_graph.proofs.Writing.{asked-then, explained-after, explained-asked, explains-modified, was-well}
use Rattle.slotted_graph.proofs.egraph.EGraph.explain_after_edits.Goals as goal

pub add_syn_expr-requires-2 : goal.add_syn_expr-requires-2
add_syn_expr-requires-2 g c =
    let e = c.in_ok-add_syn_expr.ensures in
    let well = was-well c.args.self.now c.add_syn_expr.new.self c.add_syn_expr.ensures.stays e.fails.0 in
    inr (term_later c.args.self.now.table c.add_syn_expr.new.self.table e.leaves.extends.more c.args.right.now (given well c.requires.right))

pub explain_quietly-requires-clause-left : goal.explain_quietly-requires-clause-left
explain_quietly-requires-clause-left g c =
    let e = c.in_ok-add_syn_expr.ensures in
    let well = was-well c.args.self.now c.add_syn_expr.new.self c.add_syn_expr.ensures.stays e.fails.0 in
    let both = extends-then c.args.self.now c.add_syn_expr.new.self c.add_syn_expr-2.new.self e.leaves.extends c.in_ok-add_syn_expr-2.ensures.leaves.extends in
    inr (term_later c.args.self.now.table c.add_syn_expr-2.new.self.table both.more c.args.left.now (given well c.requires.left))

pub explain_quietly-requires-clause-right : goal.explain_quietly-requires-clause-right
explain_quietly-requires-clause-right g c =
    let e = c.in_ok-add_syn_expr.ensures in
    let well = was-well c.args.self.now c.add_syn_expr.new.self c.add_syn_expr.ensures.stays e.fails.0 in
    let both = extends-then c.args.self.now c.add_syn_expr.new.self c.add_syn_expr-2.new.self e.leaves.extends c.in_ok-add_syn_expr-2.ensures.leaves.extends in
    inr (term_later c.args.self.now.table c.add_syn_expr-2.new.self.table both.more c.args.right.now (given well c.requires.right))

pub returns-clause-leaves : goal.returns-clause-leaves
returns-clause-leaves g c =
    let e = c.explain_quietly.ensures in
    let both = asked-then g.N.Analysis.codes g.N.Analysis.meaning g.met.N.Analysis.is_merge g.N.Analysis.may_ask c.args.self.now c.add_syn_expr.new.self c.add_syn_expr-2.new.self c.in_ok-add_syn_expr.ensures.leaves c.in_ok-add_syn_expr-2.ensures.leaves in
    explained-after g.N.Analysis.codes g.N.Analysis.meaning g.met.N.Analysis.is_merge g.N.Analysis.may_ask c.args.self.now c.add_syn_expr-2.new.self c.explain_quietly.new.self both
    (explained-asked g.N.Analysis.codes g.N.Analysis.meaning g.met.N.Analysis.is_merge g.N.Analysis.may_ask c.add_syn_expr-2.new.self c.explain_quietly.new.self e.adds e.more e.carries)

pub returns-clause-modified : goal.returns-clause-modified
returns-clause-modified g c =
    let e = c.explain_quietly.ensures in
    explains-modified g.N.Analysis.codes g.N.Analysis.meaning g.met.N.Analysis.is_merge g.N.Analysis.may_ask g.N.Analysis.modifies c.args.left.now c.args.right.now c.args.self.now c.add_syn_expr.new.self c.add_syn_expr-2.new.self c.explain_quietly.new.self
    c.in_ok-add_syn_expr.ensures.modified c.in_ok-add_syn_expr-2.ensures.modified e.adds e.kept e.carries

pub returns-clause-more : goal.returns-clause-more
returns-clause-more g c s known = c.explain_quietly.ensures.more s (c.add_syn_expr-2.ensures.more s (c.add_syn_expr.ensures.more s known))
