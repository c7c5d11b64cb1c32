use Rattle.slotted_lists.proofs.Results.{IfOk-with}
use Rattle.slotted_proofs.specs.Equations.{to_applied}
use Rattle.slotted_deciding.specs.Asking.{IsExplained, IsExplainedOf}
use Rattle.slotted_deciding.specs.Steps.{LeadsTo}
use Rattle.slotted_deciding.proofs.Asked.{explained-terms, stands-later}
use Rattle.slotted_deciding.proofs.Growing.{leads-goes, leads-then, on_ok_by}
use Rattle.slotted_deciding.proofs.asking.explain_terms.Goals as goal

pub returns-clause-explained : goal.returns-clause-explained
returns-clause-explained g c =
    let k = c.add_both.new.graph in
    let h = c.explain_both.new.graph in
    let a = to_applied c.in_ok-both.both.left in
    let b = to_applied c.in_ok-both.both.right in
    let t = c.args.left.now in
    let u = c.args.right.now in
    IfOk-with c.explain_both.result (LeadsTo g.N.Analysis.codes g.N.Analysis.meaning k h) (IsExplainedOf h.image a b) (IsExplained h.image t u)
    (λ x goes is. explained-terms h a b t u (stands-later k h a t (leads-goes g.N.Analysis.codes g.N.Analysis.meaning k h goes) c.in_ok-both.ensures.left) (stands-later k h b u (leads-goes g.N.Analysis.codes g.N.Analysis.meaning k h goes) c.in_ok-both.ensures.right) x is)
    c.explain_both.ensures.goes c.explain_both.ensures.explained

pub returns-clause-goes : goal.returns-clause-goes
returns-clause-goes g c =
    on_ok_by c.explain_both.result (leads-then g.N.Analysis.codes g.N.Analysis.meaning g.met.N.Analysis.is_merge c.args.graph.now c.add_both.new.graph c.explain_both.new.graph c.in_ok-both.ensures.goes) c.explain_both.ensures.goes
