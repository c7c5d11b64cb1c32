use Rattle.std.proofs.Common.{rules, ap, sym, subst}
use Rattle.slotted_model.specs.Applied.{Applied, values}
use Rattle.slotted_model.specs.Find.{used_slots}
use Rattle.slotted_model.proofs.Finds.NormalIds.{values-identity}
use Rattle.slotted_classes.specs.Kept.{entries_of}
use Rattle.slotted_lookup.specs.Enodes.{AllKnownTo}
use Rattle.slotted_lookup.specs.Reports.{class_sources}
use Rattle.slotted_reports.specs.Nodes.{RunsOutForKeys, TakesForKeys}
use Rattle.slotted_reports.proofs.dumping.own_nodes.Goals as goal

pub enodes_applied-requires-clause-known : goal.enodes_applied-requires-clause-known
enodes_applied-requires-clause-known g c =
    let k = c.args.store.now in
    let t = c.args.table.now in
    let i = c.args.class in
    subst (λ (x : Applied). AllKnownTo t (values x.1)) (sym c.in_ok-a.ensures.ok)
    (subst (AllKnownTo t) (sym (values-identity (used_slots (entries_of k) i))) (c.requires.known i c.requires.within))

pub returns-clause-small : goal.returns-clause-small
returns-clause-small g c j d h = (c.in_ok-answer.ensures.ok.nodes.each j d h).small

pub returns-in_err-answer-clause-full : goal.returns-in_err-answer-clause-full
returns-in_err-answer-clause-full g c e =
    let k = c.args.store.now in
    let r = c.args.nodes.now in
    subst (λ i. RunsOutForKeys r (class_sources k r i) c.args.table.now c.enodes_applied.new.table) (ap (λ (x : Applied). x.0) c.in_ok-a.ensures.ok) (c.in_err-answer.ensures.full (search rules))

pub returns-in_err-answer-clause-takes : goal.returns-in_err-answer-clause-takes
returns-in_err-answer-clause-takes g c =
    let k = c.args.store.now in
    let r = c.args.nodes.now in
    subst (λ i. TakesForKeys r (class_sources k r i) c.args.table.now c.enodes_applied.new.table) (ap (λ (x : Applied). x.0) c.in_ok-a.ensures.ok) c.enodes_applied.ensures.takes

pub returns-clause-takes : goal.returns-clause-takes
returns-clause-takes g c =
    let k = c.args.store.now in
    let r = c.args.nodes.now in
    subst (λ i. TakesForKeys r (class_sources k r i) c.args.table.now c.enodes_applied.new.table) (ap (λ (x : Applied). x.0) c.in_ok-a.ensures.ok) c.enodes_applied.ensures.takes
