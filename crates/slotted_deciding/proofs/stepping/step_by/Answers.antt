use Rattle.slotted_deciding.proofs.Growing.{leads-then, on_ok_by}
use Rattle.slotted_deciding.proofs.stepping.step_by.Goals as goal

pub returns-clause-goes : goal.returns-clause-goes
returns-clause-goes g c =
    let start = c.args.graph.now in
    let proof = leads-then g.N.Analysis.codes g.N.Analysis.meaning g.met.N.Analysis.is_merge start c.sides_at.new.graph c.proof_of.new.graph c.in_ok-middle.ensures.goes c.in_ok-proof.ensures.goes in
    on_ok_by c.by_middle.result (leads-then g.N.Analysis.codes g.N.Analysis.meaning g.met.N.Analysis.is_merge start c.proof_of.new.graph c.by_middle.new.graph proof) c.by_middle.ensures.goes
