use Rattle.indexmap.proofs.MapLemmas.{OnOk-map}
use Rattle.slotted_rebuilding.specs.Filed.{UnitesFiled}
use Rattle.slotted_rebuilding.specs.NewClasses.{BeginsAdding}
use Rattle.slotted_rebuilding.proofs.CongruenceEntries.{proved-count, proved-large, proved-within}
use Rattle.slotted_rebuilding.proofs.LargeClasses.{same-error}
use Rattle.slotted_rebuilding.proofs.NewestClasses.{joined, newest-within}
use Rattle.slotted_rebuilding.proofs.newest.join.Goals as goal

pub collision-requires-clause-within : goal.collision-requires-clause-within
collision-requires-clause-within g c = newest-within c.args.store.now c.args.nodes.now c.args.class c.requires.newest

pub unite-requires-clause-good : goal.unite-requires-clause-good
unite-requires-clause-good g c = c.in_ok-p.ensures.ok.only.stored

pub unite-requires-clause-within : goal.unite-requires-clause-within
unite-requires-clause-within g c = proved-within c.args.store.now c.collision.new.store c.args.class c.args.other c.in_ok-p.p c.in_ok-p.ensures.ok

pub unite-requires-clause-count : goal.unite-requires-clause-count
unite-requires-clause-count g c =
    proved-count c.args.store.now c.collision.new.store c.args.class c.args.other c.in_ok-p.p c.in_ok-p.ensures.ok c.args.nodes.now c.requires.newest.filed.count

pub returns-in_err-p-clause-full : goal.returns-in_err-p-clause-full
returns-in_err-p-clause-full g c h = c.in_err-p.ensures.full (same-error c.from_residual.result c.in_err-p.field-0.0 _ c.from_residual.ensures.1 h)

pub returns-clause-full : goal.returns-clause-full
returns-clause-full g c h = proved-large c.args.store.now c.collision.new.store c.args.class c.args.other c.in_ok-p.p c.in_ok-p.ensures.ok (c.unite.ensures.full h)

pub returns-clause-ok : goal.returns-clause-ok
returns-clause-ok g c =
    let k = c.args.store.now in
    let r = c.args.nodes.now in
    let m = c.collision.new.store in
    let l = c.unite.new.store in
    let q = c.unite.new.nodes in
    OnOk-map c.unite.result (UnitesFiled c.in_ok-p.p m r l q) (BeginsAdding k r l q)
    (joined k r c.args.class c.requires.newest m l q c.args.names.now c.args.other c.in_ok-p.p c.requires.shape c.in_ok-p.ensures.ok)
    c.unite.ensures.ok
