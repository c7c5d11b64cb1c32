use Rattle.std.proofs.Common.{subst}
use Rattle.slotted_proofs.specs.Entries.{statement_at}
use Rattle.slotted_proofs.specs.Equations.{to_applied, IsWritten}
use Rattle.slotted_rebuilding.proofs.AlikeSides.{left-findable, right-findable, alike-nothing, nothing-alike}
use Rattle.slotted_rebuilding.proofs.unions.uniting.sides_find_alike.Goals as goal

pub eq-requires-clause-left : goal.eq-requires-clause-left
eq-requires-clause-left g c =
    let k = c.args.store.now in
    let E = c.equ-equation.result.now in
    let w : IsWritten (statement_at k.proofs c.args.p) E = subst (λ ps. IsWritten (statement_at ps c.args.p) E) c.proofs.ensures c.equ-equation.ensures in
    left-findable k c.requires.good c.args.p c.requires.within (to_applied E.l) (to_applied E.r) w

pub eq-requires-clause-right : goal.eq-requires-clause-right
eq-requires-clause-right g c =
    let k = c.args.store.now in
    let E = c.equ-equation.result.now in
    let w : IsWritten (statement_at k.proofs c.args.p) E = subst (λ ps. IsWritten (statement_at ps c.args.p) E) c.proofs.ensures c.equ-equation.ensures in
    right-findable k c.requires.good c.args.p c.requires.within (to_applied E.l) (to_applied E.r) w

pub returns : goal.returns
returns g c =
    let k = c.args.store.now in
    let E = c.equ-equation.result.now in
    let w : IsWritten (statement_at k.proofs c.args.p) E = subst (λ ps. IsWritten (statement_at ps c.args.p) E) c.proofs.ensures c.equ-equation.ensures in (
      λ t. alike-nothing k c.requires.good c.args.p c.requires.within (to_applied E.l) (to_applied E.r) w (c.eq.ensures.0 t),
      λ n. c.eq.ensures.1 (nothing-alike k c.requires.good c.args.p c.requires.within (to_applied E.l) (to_applied E.r) w n),
    )
