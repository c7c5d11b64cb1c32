use Rattle.indexmap.proofs.MapLemmas.{OnOk-map}
use Rattle.slotted_hashcons.specs.FiledRows.{QueuesUp}
use Rattle.slotted_rebuilding.specs.NewClasses.{BeginsAdding}
use Rattle.slotted_rebuilding.proofs.Collisions.{children-within}
use Rattle.slotted_rebuilding.proofs.NewestClasses.{filed-quietly, filed-waiting, is-filed, newest-place, newest-unfiled, newest-within}
use Rattle.slotted_rebuilding.proofs.newest.file.Goals as goal

pub is_covered-covered-requires-clause-within : goal.is_covered-covered-requires-clause-within
is_covered-covered-requires-clause-within g c = newest-within c.args.store.now c.args.nodes.now c.args.class c.requires.newest

pub file-requires-clause-within : goal.file-requires-clause-within
file-requires-clause-within g c = newest-place c.args.store.now c.args.nodes.now c.args.class c.requires.newest

pub file-requires-clause-free : goal.file-requires-clause-free
file-requires-clause-free g c = newest-unfiled c.args.store.now c.args.nodes.now c.args.class c.requires.newest

pub file-requires-clause-children : goal.file-requires-clause-children
file-requires-clause-children g c =
    let k = c.args.store.now in
    let r = c.args.nodes.now in
    children-within k r c.args.class (g.L.LanguageChildren.form c.args.node.key) c.args.node.names c.requires.newest.filed (newest-within k r c.args.class c.requires.newest) c.requires.node

pub returns-then-covered-clause-ok : goal.returns-then-covered-clause-ok
returns-then-covered-clause-ok g c =
    let key = c.args.node.key in
    filed-quietly c.args.store.now c.args.nodes.now c.args.class c.requires.newest (g.L.LanguageChildren.form key) c.args.node.names (g.met.L.LanguageChildren.fits key) c.requires.node c.requires.new_key
    c.file.new.self c.in_ok-file.ensures.ok (c.is_covered-covered.ensures.0 c.if-covered.true)

pub wait-requires : goal.wait-requires
wait-requires g c =
    let key = c.args.node.key in
    is-filed c.args.store.now c.args.nodes.now c.args.class c.requires.newest (g.L.LanguageChildren.form key) c.args.node.names (g.met.L.LanguageChildren.fits key) c.requires.node c.requires.new_key
    c.file.new.self c.in_ok-file.ensures.ok

pub returns-clause-ok : goal.returns-clause-ok
returns-clause-ok g c =
    let key = c.args.node.key in
    let k = c.args.store.now in
    let r = c.args.nodes.now in
    let s = c.file.new.self in
    let t = c.wait.new.self in
    OnOk-map c.wait.result (QueuesUp s t c.args.class) (BeginsAdding k r k t)
    (filed-waiting k r c.args.class c.requires.newest (g.L.LanguageChildren.form key) c.args.node.names (g.met.L.LanguageChildren.fits key) c.requires.node c.requires.new_key s t c.in_ok-file.ensures.ok)
    c.wait.ensures.ok
