use Rattle.slotted_deciding.proofs.Growing.{on_ok}
use Rattle.slotted_deciding.proofs.stepping.sides_at.Goals as goal

pub returns-clause-goes : goal.returns-clause-goes
returns-clause-goes g c = on_ok c.renamed.result c.in_ok-names.ensures.goes
