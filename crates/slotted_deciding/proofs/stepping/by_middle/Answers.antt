use Rattle.slotted_deciding.proofs.Growing.{leads-then, on_ok_by}
use Rattle.slotted_deciding.proofs.stepping.by_middle.Goals as goal

pub returns-clause-goes : goal.returns-clause-goes
returns-clause-goes g c =
    let start = c.args.graph.now in
    let back = leads-then g.N.Analysis.codes g.N.Analysis.meaning g.met.N.Analysis.is_merge start c.explained.new.graph c.explained-2.new.graph c.in_ok-there.ensures.goes c.in_ok-back.ensures.goes in
    on_ok_by c.joined.result (leads-then g.N.Analysis.codes g.N.Analysis.meaning g.met.N.Analysis.is_merge start c.explained-2.new.graph c.joined.new.graph back) c.joined.ensures.goes
