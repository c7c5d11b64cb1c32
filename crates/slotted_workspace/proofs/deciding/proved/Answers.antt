use Rattle.std.proofs.Common.{inr, subst}
use Rattle.slotted_graph.proofs.Extending.{extends-takes, extends-then}
use Rattle.slotted_deciding.specs.Asking.{IsExplained}
use Rattle.slotted_workspace.proofs.Decisions.{goes-well, never-follows, proof-printed}
use Rattle.slotted_workspace.proofs.deciding.proved.Goals as goal

pub returns-in_err-to_string-in-Proved-clause-extends : goal.returns-in_err-to_string-in-Proved-clause-extends
returns-in_err-to_string-in-Proved-clause-extends g c =
    let k = c.decided_explain.new.graph in
    let goes = goes-well c.args.graph.now k c.decided_explain.result c.in_ok-proof.field-0 c.in_ok-proof.was c.decided_explain.ensures.goes c.decided_explain.ensures.fails in
    inr (extends-then c.args.graph.now k c.to_string.new.graph goes.extends (extends-takes k c.to_string.new.graph c.to_string.ensures.takes))

pub returns-in_ok-to_string-in-Proved-clause-extends : goal.returns-in_ok-to_string-in-Proved-clause-extends
returns-in_ok-to_string-in-Proved-clause-extends g c =
    let k = c.decided_explain.new.graph in
    let goes = goes-well c.args.graph.now k c.decided_explain.result c.in_ok-proof.field-0 c.in_ok-proof.was c.decided_explain.ensures.goes c.decided_explain.ensures.fails in
    inr (extends-then c.args.graph.now k c.to_string.new.graph goes.extends (extends-takes k c.to_string.new.graph c.to_string.ensures.takes))

pub returns-in_ok-to_string-in-Proved-clause-ok : goal.returns-in_ok-to_string-in-Proved-clause-ok
returns-in_ok-to_string-in-Proved-clause-ok g c =
    let k = c.decided_explain.new.graph in
    let goes = goes-well c.args.graph.now k c.decided_explain.result c.in_ok-proof.field-0 c.in_ok-proof.was c.decided_explain.ensures.goes c.decided_explain.ensures.fails in
    proof-printed g.L.Printable.written c.args.graph.now k c.to_string.new.graph c.args.left.now.term c.args.right.now.term c.in-Proved.proof _ goes
    (subst (IsExplained k.image c.args.left.now.term c.args.right.now.term) c.in-Proved.is c.in_ok-proof.ensures.explained) c.in_ok-to_string-in-Proved.ensures.text c.to_string.ensures.takes

pub returns-in-Unequal-clause-ok : goal.returns-in-Unequal-clause-ok
returns-in-Unequal-clause-ok g c =
    let k = c.decided_explain.new.graph in (
      goes-well c.args.graph.now k c.decided_explain.result c.in_ok-proof.field-0 c.in_ok-proof.was c.decided_explain.ensures.goes c.decided_explain.ensures.fails,
      never-follows k.image c.args.left.now.term c.args.right.now.term (subst (IsExplained k.image c.args.left.now.term c.args.right.now.term) c.in-Unequal.is c.in_ok-proof.ensures.explained),
    )

pub returns-in-Undecided-clause-ok : goal.returns-in-Undecided-clause-ok
returns-in-Undecided-clause-ok g c =
    let k = c.decided_explain.new.graph in (
      goes-well c.args.graph.now k c.decided_explain.result c.in_ok-proof.field-0 c.in_ok-proof.was c.decided_explain.ensures.goes c.decided_explain.ensures.fails,
      subst (IsExplained k.image c.args.left.now.term c.args.right.now.term) c.in-Undecided.is c.in_ok-proof.ensures.explained,
    )
