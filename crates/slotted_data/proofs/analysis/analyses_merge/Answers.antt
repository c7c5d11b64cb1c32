use Rattle.slotted_data.proofs.Merging.{merge-decided, makes-alike}
use Rattle.slotted_data.proofs.analysis.analyses_merge.Goals as goal

pub returns-clause-merge : goal.returns-clause-merge
returns-clause-merge g c n =
    merge-decided (g.N.Analysis.meaning n) g.N.Data.PartialEq.eq g.met.N.Data.Eq.laws g.met.N.Analysis.equal_is_same (g.met.N.Analysis.is_merge n)

pub returns-clause-alike : goal.returns-clause-alike
returns-clause-alike g c n = makes-alike (g.N.Analysis.meaning n)
