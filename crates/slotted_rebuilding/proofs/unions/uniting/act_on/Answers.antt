use Rattle.std.proofs.Common.{◌∙◌, sym}
use Rattle.slotted_rebuilding.proofs.EnteredProofs.{entry-left, entry-right}
use Rattle.slotted_rebuilding.proofs.unions.uniting.act_on.Goals as goal

pub list_once-requires-clause-one_class : goal.list_once-requires-clause-one_class
list_once-requires-clause-one_class g c =
    let k = c.args.store.now in
    let E = c.equ-equation.result.now in
    let l = entry-left k c.proofs.result.now c.args.q E c.proofs.ensures c.equ-equation.ensures in
    let r = entry-right k c.proofs.result.now c.args.q E c.proofs.ensures c.equ-equation.ensures in
    sym l ∙ (c.if-equation.true ∙ r)

pub list_once-requires-clause-moves : goal.list_once-requires-clause-moves
list_once-requires-clause-moves g c =
    let k = c.args.store.now in
    let E = c.equ-equation.result.now in
    let l = entry-left k c.proofs.result.now c.args.q E c.proofs.ensures c.equ-equation.ensures in
    let r = entry-right k c.proofs.result.now c.args.q E c.proofs.ensures c.equ-equation.ensures in
    λ i. c.requires.moves (sym l ∙ (c.if-equation.true ∙ r), i)

pub link_either-requires-clause-different : goal.link_either-requires-clause-different
link_either-requires-clause-different g c =
    let k = c.args.store.now in
    let E = c.equ-equation.result.now in
    let l = entry-left k c.proofs.result.now c.args.q E c.proofs.ensures c.equ-equation.ensures in
    let r = entry-right k c.proofs.result.now c.args.q E c.proofs.ensures c.equ-equation.ensures in
    λ i. c.if-equation.false (l ∙ (i ∙ sym r))
