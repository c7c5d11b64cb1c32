use Rattle.slotted_proofs.specs.Equations.{to_applied}
use Rattle.slotted_rebuilding.proofs.WrittenEntries.{left-in_range, lacks-some, lacks-none}
use Rattle.slotted_rebuilding.proofs.unions.dropping.lacking_slot.Goals as goal

pub entry-requires : goal.entry-requires
entry-requires g c =
    let r = c.requires in
    left-in_range c.args.store.now r.good c.args.q r.within c.proofs.result.now c.proofs.ensures c.equ.result.now c.equ.ensures

pub returns-clause-some : goal.returns-clause-some
returns-clause-some g c =
    let r = c.requires in
    let v = c.value_without_key in
    lacks-some c.args.store.now r.good c.args.q r.within c.proofs.result.now c.proofs.ensures c.equ.result.now c.equ.ensures
    r.live (to_applied c.entry.result.now) c.entry.ensures c.args.pairs.now r.pairs v.result v.ensures.some

pub returns-clause-none : goal.returns-clause-none
returns-clause-none g c =
    let r = c.requires in
    let v = c.value_without_key in
    lacks-none c.args.store.now r.good c.args.q r.within c.proofs.result.now c.proofs.ensures c.equ.result.now c.equ.ensures
    r.live (to_applied c.entry.result.now) c.entry.ensures c.args.pairs.now r.pairs v.result v.ensures.none
