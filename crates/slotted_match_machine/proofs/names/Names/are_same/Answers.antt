use Rattle.std.proofs.Common.{sym, ◌∙◌, arith}
use Rattle.slotted_match_machine.specs.Views.{names_at}
use Rattle.slotted_match_machine.proofs.Naming.{numbers_eq-lengths, numbers_eq-more, numbers_eq-differ, numbers_eq-end}
use Rattle.slotted_match_machine.proofs.names.Names.are_same.Goals as goal

pub returns-then-len : goal.returns-then-len
returns-then-len c =
    let frames = c.args.frames.now in
    numbers_eq-lengths (names_at frames c.args.self.now) (names_at frames c.args.other.now)
    (λ e. c.if-len.true (c.len.ensures frames c.requires.own ∙ (e ∙ sym (c.len-2.ensures frames c.requires.other))))

pub returns-then-get : goal.returns-then-get
returns-then-get c =
    let frames = c.args.frames.now in
    let own = c.len.ensures frames c.requires.own in
    let other = c.len-2.ensures frames c.requires.other in
    let end = c.len-position-end.ensures frames c.requires.own in
    sym (c.loop-position.invariant
    ∙ numbers_eq-differ (names_at frames c.args.self.now) (names_at frames c.args.other.now) c.loop-position.position (omega (arith, end)) (omega (arith, own, other, end))
    (λ e. c.if-get.true (c.get.ensures ∙ (e ∙ sym c.get-in-loop-position.ensures))))

pub loop-position-preserved : goal.loop-position-preserved
loop-position-preserved c =
    let frames = c.args.frames.now in
    let own = c.len.ensures frames c.requires.own in
    let other = c.len-2.ensures frames c.requires.other in
    let end = c.len-position-end.ensures frames c.requires.own in
    c.loop-position.invariant
    ∙ numbers_eq-more (names_at frames c.args.self.now) (names_at frames c.args.other.now) c.loop-position.position (omega (arith, end)) (omega (arith, own, other, end))
    (sym c.get.ensures ∙ (c.if-get.false ∙ c.get-in-loop-position.ensures))

pub returns : goal.returns
returns c =
    let frames = c.args.frames.now in
    let own = c.len.ensures frames c.requires.own in
    let other = c.len-2.ensures frames c.requires.other in
    let end = c.len-position-end.ensures frames c.requires.own in
    sym (c.loop-position.invariant
    ∙ numbers_eq-end (names_at frames c.args.self.now) (names_at frames c.args.other.now) c.loop-position.position (omega (arith, end)) (omega (arith, own, other, end)))
