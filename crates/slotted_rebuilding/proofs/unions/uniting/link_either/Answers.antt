use Rattle.std.proofs.Common.{rules}
use Rattle.slotted_rebuilding.proofs.EnteredProofs.{many-large, entry-left, entry-right}
use Rattle.slotted_rebuilding.proofs.TurnedEntries.{turned-stored, turned-live, turned-all, turned-links, left-links}
use Rattle.slotted_rebuilding.proofs.unions.uniting.link_either.Goals as goal

pub returns-in_err-turned-clause-full : goal.returns-in_err-turned-clause-full
returns-in_err-turned-clause-full g c h =
    many-large c.args.store.now c.requires.good c.args.q c.args.q c.requires.within c.requires.within
    (c.in_err-turned.ensures.full (search rules))

pub link-requires-2-clause-good : goal.link-requires-2-clause-good
link-requires-2-clause-good g c = turned-stored c.args.store.now c.requires.good c.args.q c.requires.within
    c.requires.live c.turn.new.self c.in_ok-turned.turned c.in_ok-turned.ensures.ok

pub link-requires-2-clause-live : goal.link-requires-2-clause-live
link-requires-2-clause-live g c = turned-live c.args.store.now c.requires.good c.args.q c.requires.within
    c.requires.live c.turn.new.self c.in_ok-turned.turned c.in_ok-turned.ensures.ok

pub link-requires-2-clause-pairs_all : goal.link-requires-2-clause-pairs_all
link-requires-2-clause-pairs_all g c = turned-all c.args.store.now c.requires.good c.args.q c.requires.within
    c.requires.live c.turn.new.self c.in_ok-turned.turned c.in_ok-turned.ensures.ok c.requires.pairs_all

pub returns-clause-ok : goal.returns-clause-ok
returns-clause-ok g c = turned-links c.args.store.now c.requires.good c.args.q c.requires.within c.requires.live
    c.turn.new.self c.in_ok-turned.turned c.in_ok-turned.ensures.ok c.link-2.new.store c.in_ok-link-2.ensures.ok
    c.equ-equation.result.now.r.id.0 (entry-right c.args.store.now c.proofs.result.now c.args.q c.equ-equation.result.now c.proofs.ensures c.equ-equation.ensures)

pub returns-then-left_dies-clause-ok : goal.returns-then-left_dies-clause-ok
returns-then-left_dies-clause-ok g c = left-links c.args.store.now c.requires.good c.args.q c.requires.within c.requires.live
    c.link.new.store c.in_ok-link.ensures.ok
    c.equ-equation.result.now.l.id.0 (entry-left c.args.store.now c.proofs.result.now c.args.q c.equ-equation.result.now c.proofs.ensures c.equ-equation.ensures)
