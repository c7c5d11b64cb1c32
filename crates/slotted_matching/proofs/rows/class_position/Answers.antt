use Rattle.std.proofs.Common.{◌≢◌, ◌∙◌, ◌<◌, length, sym, arith}
use Rattle.std.proofs.lemmas.Bool.{eqb-true, eq-eqb, false≢true}
use Rattle.slotted_matching.proofs.Positions.{later-none, position-there, position-past, position-none}
use Rattle.slotted_matching.proofs.rows.class_position.Goals as goal

pub loop-i-init : goal.loop-i-init
loop-i-init c = later-none _

pub returns-then-eq : goal.returns-then-eq
returns-then-eq c =
    let F = c.args.found.now in
    let i = c.loop-i.i in
    let v = c.value_at.result in
    let h : i < length F = omega (arith, c.loop-i-test.true, c.len-i-end.ensures.len) in
    position-there F c.args.slot i v h c.value_at.ensures (eqb-true v c.args.slot (sym c.eq.ensures ∙ c.if-eq.true)) c.loop-i.invariant

pub loop-i-preserved : goal.loop-i-preserved
loop-i-preserved c =
    let F = c.args.found.now in
    let i = c.loop-i.i in
    let v = c.value_at.result in
    let h : i < length F = omega (arith, c.loop-i-test.true, c.len-i-end.ensures.len) in
    let other : v ≢ c.args.slot = λ e. false≢true (sym c.if-eq.false ∙ (c.eq.ensures ∙ eq-eqb v c.args.slot e)) in
    position-past F c.args.slot i v h c.value_at.ensures other c.loop-i.invariant

pub returns : goal.returns
returns c = position-none c.args.found.now c.args.slot c.loop-i.i (omega (arith, c.loop-i-test.false, c.len-i-end.ensures.len)) c.loop-i.invariant
