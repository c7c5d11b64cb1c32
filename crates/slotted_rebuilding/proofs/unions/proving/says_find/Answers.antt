-- The sides of the entry find alike, and the right one is what it finds.
use Rattle.std.proofs.Common.{◌<◌, length, sym, subst}
use Rattle.slotted_proofs.specs.Entries.{statement_at}
use Rattle.slotted_proofs.specs.Equations.{to_applied, IsWritten}
use Rattle.slotted_rebuilding.proofs.AlikeSides.{left-findable, right-findable}
use Rattle.slotted_rebuilding.proofs.EnteredProofs.{entry-right}
use Rattle.slotted_rebuilding.proofs.ProofsOfFinds.{right-within}
use Rattle.slotted_rebuilding.proofs.SaidFinds.{said-proves}
use Rattle.slotted_rebuilding.proofs.unions.proving.says_find.Goals as goal

pub is_whole-requires-clause-within : goal.is_whole-requires-clause-within
is_whole-requires-clause-within g c =
    let k = c.args.store.now in
    let E = c.equ-equation.result.now in
    let within = subst (λ ps. c.args.p < length ps) c.proofs-list.ensures (c.is_valid.ensures.0 c.if-not-is_valid.false) in
    subst (λ i. i < length k.classes) (sym (entry-right k c.proofs-list.result.now c.args.p E c.proofs-list.ensures c.equ-equation.ensures))
    (right-within k c.requires.good c.args.p within)

pub eq-requires-clause-left : goal.eq-requires-clause-left
eq-requires-clause-left g c =
    let k = c.args.store.now in
    let E = c.equ-equation.result.now in
    let within = subst (λ ps. c.args.p < length ps) c.proofs-list.ensures (c.is_valid.ensures.0 c.if-not-is_valid.false) in
    let w : IsWritten (statement_at k.proofs c.args.p) E = subst (λ ps. IsWritten (statement_at ps c.args.p) E) c.proofs-list.ensures c.equ-equation.ensures in
    left-findable k c.requires.good c.args.p within (to_applied E.l) (to_applied E.r) w

pub eq-requires-clause-right : goal.eq-requires-clause-right
eq-requires-clause-right g c =
    let k = c.args.store.now in
    let E = c.equ-equation.result.now in
    let within = subst (λ ps. c.args.p < length ps) c.proofs-list.ensures (c.is_valid.ensures.0 c.if-not-is_valid.false) in
    let w : IsWritten (statement_at k.proofs c.args.p) E = subst (λ ps. IsWritten (statement_at ps c.args.p) E) c.proofs-list.ensures c.equ-equation.ensures in
    right-findable k c.requires.good c.args.p within (to_applied E.l) (to_applied E.r) w

pub returns : goal.returns
returns g c =
    let k = c.args.store.now in
    let E = c.equ-equation.result.now in
    let within = subst (λ ps. c.args.p < length ps) c.proofs-list.ensures (c.is_valid.ensures.0 c.if-not-is_valid.false) in
    let w : IsWritten (statement_at k.proofs c.args.p) E = subst (λ ps. IsWritten (statement_at ps c.args.p) E) c.proofs-list.ensures c.equ-equation.ensures in
    λ t. said-proves k c.requires.good c.args.p within (to_applied E.l) (to_applied E.r) w (c.eq.ensures.0 t) (c.is_whole.ensures c.if-not-is_whole.false) c.args.id c.if-equation-id.false
