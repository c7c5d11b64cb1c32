use Rattle.indexmap.proofs.MapLemmas.{OnOk-map}
use Rattle.slotted_rebuilding.specs.Filed.{UnitesFiled}
use Rattle.slotted_rebuilding.specs.Turns.{NarrowsOnce}
use Rattle.slotted_rebuilding.proofs.CongruenceEntries.{narrowed-once, proved-count, proved-large, proved-within}
use Rattle.slotted_rebuilding.proofs.LargeClasses.{same-error}
use Rattle.slotted_rebuilding.proofs.NormalNodes.{first-waits, waiting-within}
use Rattle.slotted_rebuilding.proofs.narrowing.narrow.Goals as goal

pub twin_proof-requires-clause-left : goal.twin_proof-requires-clause-left
twin_proof-requires-clause-left g c =
    let r = c.args.nodes.now in
    waiting-within c.args.store.now r c.args.class c.requires.good (first-waits r c.args.class c.requires.first)

pub twin_proof-requires-clause-right : goal.twin_proof-requires-clause-right
twin_proof-requires-clause-right g c =
    let r = c.args.nodes.now in
    waiting-within c.args.store.now r c.args.class c.requires.good (first-waits r c.args.class c.requires.first)

pub twin_proof-requires-clause-shape : goal.twin_proof-requires-clause-shape
twin_proof-requires-clause-shape g c = (c.requires.node.0, c.requires.node.1, c.requires.node.1)

pub unite-requires-clause-good : goal.unite-requires-clause-good
unite-requires-clause-good g c = c.in_ok-p.ensures.ok.only.stored

pub unite-requires-clause-within : goal.unite-requires-clause-within
unite-requires-clause-within g c = proved-within c.args.store.now c.twin_proof.new.store c.args.class c.args.class c.in_ok-p.p c.in_ok-p.ensures.ok

pub unite-requires-clause-count : goal.unite-requires-clause-count
unite-requires-clause-count g c =
    proved-count c.args.store.now c.twin_proof.new.store c.args.class c.args.class c.in_ok-p.p c.in_ok-p.ensures.ok c.args.nodes.now c.requires.good.count

pub returns-in_err-p-clause-full : goal.returns-in_err-p-clause-full
returns-in_err-p-clause-full g c h = c.in_err-p.ensures.full (same-error c.from_residual.result c.in_err-p.field-0.0 _ c.from_residual.ensures.1 h)

pub returns-clause-full : goal.returns-clause-full
returns-clause-full g c h = proved-large c.args.store.now c.twin_proof.new.store c.args.class c.args.class c.in_ok-p.p c.in_ok-p.ensures.ok (c.unite.ensures.full h)

pub returns-clause-ok : goal.returns-clause-ok
returns-clause-ok g c =
    let k = c.args.store.now in
    let r = c.args.nodes.now in
    let m = c.twin_proof.new.store in
    let l = c.unite.new.store in
    let q = c.unite.new.nodes in
    OnOk-map c.unite.result (UnitesFiled c.in_ok-p.p m r l q) (NarrowsOnce k r l q)
    (narrowed-once k m r c.args.class c.in_ok-p.p c.requires.good (first-waits r c.args.class c.requires.first) c.requires.lacks c.in_ok-p.ensures.ok l q)
    c.unite.ensures.ok
