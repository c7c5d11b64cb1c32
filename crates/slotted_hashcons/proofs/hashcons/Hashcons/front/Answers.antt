use Rattle.std.proofs.Common.{ℕ, Contains, subst}
use Rattle.slotted_hashcons.specs.FiledRows.{Rows, IsFiled}
use Rattle.slotted_hashcons.proofs.hashcons.Hashcons.front.Goals as goal

pub returns-clause-filed : goal.returns-clause-filed
returns-clause-filed g c = subst (λ (s : Rows). (i : ℕ) → Contains s.waiting i → IsFiled s.filed i) c.self.view_is c.self.invariant.filed
