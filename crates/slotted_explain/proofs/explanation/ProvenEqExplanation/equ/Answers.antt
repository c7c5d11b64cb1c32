use Rattle.std.proofs.Common.{List, subst}
use Rattle.slotted_proofs.specs.Entries.{Proven, statement_at}
use Rattle.slotted_proofs.specs.Equations.{AreSides, to_applied}
use Rattle.slotted_explain.proofs.explanation.ProvenEqExplanation.equ.Goals as goal

pub returns : goal.returns
returns g c = subst (λ (ps : List Proven). AreSides (statement_at ps c.args.self) (to_applied c.equ.result.now.l) (to_applied c.equ.result.now.r)) c.proofs.ensures.list c.equ.ensures
