use Rattle.std.proofs.Common.{subst}
use Rattle.slotted_proofs.specs.Equations.{Statement, AreSides, to_applied}
use Rattle.slotted_proofs.specs.Equations as proofs
use Rattle.slotted_outlines.specs.Seen.{lefts, rights}
use Rattle.slotted_alike.proofs.Partners.{partners_partial, partners_equality, written_matches, written_injective}
use Rattle.slotted_alike.proofs.alike.child_equation.Goals as goal

pub by_partners-requires : goal.by_partners-requires
by_partners-requires c =
    partners_partial (lefts c.args.binders.now) (rights c.args.binders.now) c.args.left.now.m c.args.right.now.m c.in_ok-shared.shared c.len.ensures.ascending c.len-3.ensures.ascending c.requires.left c.requires.right c.in_ok-shared.ensures.ok

pub returns-clause-matches : goal.returns-clause-matches
returns-clause-matches c =
    written_matches (lefts c.args.binders.now) (rights c.args.binders.now) (to_applied c.args.left.now) (to_applied c.args.right.now) c.in_ok-equation.equation c.len.ensures.ascending c.len-3.ensures.ascending c.requires.left c.requires.right
    (subst (λ (s : Statement). AreSides s (proofs.to_applied c.in_ok-equation.equation.l) (proofs.to_applied c.in_ok-equation.equation.r))
    (partners_equality (lefts c.args.binders.now) (rights c.args.binders.now) (to_applied c.args.left.now) (to_applied c.args.right.now) c.in_ok-shared.shared c.len.ensures.ascending c.len-3.ensures.ascending c.requires.left c.requires.right c.in_ok-shared.ensures.ok)
    c.in_ok-equation.ensures.ok)

pub returns-clause-injective : goal.returns-clause-injective
returns-clause-injective c = written_injective _ c.in_ok-equation.equation c.in_ok-equation.ensures.ok
