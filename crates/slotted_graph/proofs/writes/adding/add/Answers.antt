use Rattle.std.proofs.Common.{subst, sym}
use Rattle.slotted_hashcons.specs.FiledRows.{Rows}
use Rattle.slotted_data.specs.Meaning.{by_bare_nodes}
use Rattle.slotted_data.specs.Carrying.{Carried}
use Rattle.slotted_operations.proofs.Graphs.Finds.{good-finds}
use Rattle.slotted_operations.proofs.Graphs.AtRest.{at-rest}
use Rattle.slotted_graph.proofs.Since.{rested-since}
use Rattle.slotted_graph.proofs.writes.adding.add.Goals as goal

pub carry-requires-clause-good : goal.carry-requires-clause-good
carry-requires-clause-good g c =
    let k = c.args.store.now in
    let r = c.args.nodes.now in
    let l = c.add.new.store in
    let q = c.add.new.nodes in
    let added = c.in_ok-id.ensures.ok in
    good-finds l added.good

pub carry-requires-clause-rests : goal.carry-requires-clause-rests
carry-requires-clause-rests g c =
    let k = c.args.store.now in
    let r = c.args.nodes.now in
    let l = c.add.new.store in
    let q = c.add.new.nodes in
    let added = c.in_ok-id.ensures.ok in
    at-rest l q added.good added.rests

pub carry-requires-clause-since : goal.carry-requires-clause-since
carry-requires-clause-since g c =
    let k = c.args.store.now in
    let r = c.args.nodes.now in
    let l = c.add.new.store in
    let q = c.add.new.nodes in
    let added = c.in_ok-id.ensures.ok in
    (k, r, rested-since (by_bare_nodes (g.N.Analysis.meaning c.args.analysis.now)) k r c.args.data.now c.requires.since l q added.goes_on added.notes)

pub returns-clause-carried : goal.returns-clause-carried
returns-clause-carried g c =
    let a = by_bare_nodes (g.N.Analysis.meaning c.args.analysis.now) in
    let k = c.args.store.now in
    let r = c.args.nodes.now in
    let l = c.add.new.store in
    let q = c.add.new.nodes in
    let added = c.in_ok-id.ensures.ok in
    subst (λ (s : Rows). Carried a k r l s c.args.data.now c.carry.new.data) (sym c.in_ok-carry.ensures.same)
    (c.in_ok-carry.ensures.carried k r (rested-since a k r c.args.data.now c.requires.since l q added.goes_on added.notes))
