use Rattle.std.proofs.Common.{sym, subst}
use Rattle.slotted_model.specs.Applied.{keys}
use Rattle.slotted_model.specs.Correspondence.{IsPartialInjection}
use Rattle.slotted_proofs.specs.Equations.{IsWritten, partnered_statement}
use Rattle.slotted_hashcons.proofs.sides.numbered_equation.Goals as goal

pub by_partners-requires : goal.by_partners-requires
by_partners-requires c = subst (IsPartialInjection (keys c.args.right.now.m) (keys c.args.left.now.m)) (sym c.in_ok-partners.ensures.ok) c.requires.partners

pub returns-clause-ok : goal.returns-clause-ok
returns-clause-ok c = subst (λ m. IsWritten (partnered_statement c.args.left.now c.args.right.now m) c.in_ok-equation.equation) c.in_ok-partners.ensures.ok c.in_ok-equation.ensures.ok
