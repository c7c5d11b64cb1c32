use Rattle.std.proofs.Common.{inr}
use Rattle.std.proofs.lemmas.Bool.{false≢true}
use Rattle.slotted_classes.specs.Kept.{text_bytes}
use Rattle.slotted_graph.proofs.Extending.{extends-united}
use Rattle.slotted_workspace.proofs.Saying.{can-ask, kept-answered, unites}
use Rattle.slotted_workspace.proofs.uniting.unite.Goals as goal

pub union_justified-requires-clause-left : goal.union_justified-requires-clause-left
union_justified-requires-clause-left g c = can-ask c.args.graph.now c.args.left.now c.requires.left

pub union_justified-requires-clause-right : goal.union_justified-requires-clause-right
union_justified-requires-clause-right g c = can-ask c.args.graph.now c.args.right.now c.requires.right

pub returns-clause-ok : goal.returns-clause-ok
returns-clause-ok g c =
    let graph = c.args.graph.now in
    let e = c.in_ok-answer.ensures in
    let y = c.in_ok-answer.answer in
    unites graph c.args.left.now c.args.right.now (kept-answered graph y e.failed c.requires.left) (kept-answered graph y e.failed c.requires.right) c.union_justified.new.self (text_bytes c.args.text) y
    (λ f. false≢true (e.fails.0 f)) (inr e.unites.rounds.leaves.graph) e.union e.text e.table

pub returns-clause-extends : goal.returns-clause-extends
returns-clause-extends g c =
    let e = c.in_ok-answer.ensures in
    inr (extends-united c.args.graph.now c.union_justified.new.self c.args.left.now.id c.args.right.now.id (text_bytes c.args.text) c.in_ok-answer.answer e.union e.text e.table)
