use Rattle.std.proofs.Common.{◌∙◌, ap, subst, sym}
use Rattle.std.proofs.lemmas.Result.{on_ok_weaker}
use Rattle.slotted_model.specs.Applied.{Applied}
use Rattle.slotted_model.specs.Find.{IsLive}
use Rattle.slotted_proofs.specs.Equations.{to_applied}
use Rattle.slotted_classes.specs.Kept.{entries_of}
use Rattle.slotted_rebuilding.proofs.ChangedEntries.{linked-left}
use Rattle.slotted_rebuilding.proofs.EnteredProofs.{entry-left}
use Rattle.slotted_rebuilding.proofs.WrittenEntries.{left-in_range}
use Rattle.slotted_rebuilding.proofs.unions.linking.link.Goals as goal

pub set_link-requires-clause-within : goal.set_link-requires-clause-within
set_link-requires-clause-within g c =
    let r = c.requires in
    left-in_range c.args.store.now r.good c.args.q r.within c.proofs.result.now c.proofs.ensures c.equ.result.now c.equ.ensures

pub set_link-requires-clause-live : goal.set_link-requires-clause-live
set_link-requires-clause-live g c =
    let left = entry-left c.args.store.now c.proofs.result.now c.args.q c.equ.result.now c.proofs.ensures c.equ.ensures in
    subst (IsLive (entries_of c.args.store.now)) (sym left) c.requires.live.left_lives

pub set_link-requires-clause-different : goal.set_link-requires-clause-different
set_link-requires-clause-different g c =
    let left = entry-left c.args.store.now c.proofs.result.now c.args.q c.equ.result.now c.proofs.ensures c.equ.ensures in
    λ e. c.requires.different (sym left ∙ (sym e ∙ ap (λ (a : Applied). a.0) c.in_ok-heir.ensures.ok))

pub returns-clause-ok : goal.returns-clause-ok
returns-clause-ok g c =
    let r = c.requires in
    on_ok_weaker c.set_link.result (λ is. linked-left c.args.store.now r.good c.args.q r.within r.live r.different r.pairs_all
    c.equ.result.now.l.id.0 (entry-left c.args.store.now c.proofs.result.now c.args.q c.equ.result.now c.proofs.ensures c.equ.ensures)
    (to_applied c.in_ok-heir.heir) c.in_ok-heir.ensures.ok c.set_link.new.self is) c.set_link.ensures.ok
