use Rattle.std.proofs.Common.{◌∙◌, sym, Some}
use Rattle.indexmap.proofs.MapLemmas.{OnOk-map}
use Rattle.slotted_hashcons.specs.FiledRows.{TakesTurn}
use Rattle.slotted_rebuilding.specs.Turns.{TakesTurns}
use Rattle.slotted_rebuilding.proofs.FiledStates.{first-still}
use Rattle.slotted_proofs.proofs.Refusals.{slots_left}
use Rattle.slotted_rebuilding.proofs.LargeClasses.{large-grown, same-error}
use Rattle.slotted_rebuilding.proofs.NormalNodes.{first-waits, waiting-within}
use Rattle.slotted_rebuilding.proofs.Collisions.{children-within, files-it, new-to-others, other-has, turns-then}
use Rattle.slotted_rebuilding.proofs.turning.take_turn.Goals as goal

pub collide-requires-clause-good : goal.collide-requires-clause-good
collide-requires-clause-good g c = c.in_ok-node.ensures.ok.filed

pub collide-requires-clause-first : goal.collide-requires-clause-first
collide-requires-clause-first g c = first-still c.args.nodes.now c.narrowed.new.nodes c.args.class c.in_ok-node.ensures.ok.waits c.requires.first

pub collide-requires-clause-shape : goal.collide-requires-clause-shape
collide-requires-clause-shape g c =
    let key = c.in_ok-node.node.key in
    record {
      key = g.L.LanguageChildren.form key;
      fits = g.met.L.LanguageChildren.fits key;
      node = c.in_ok-node.ensures.ok.node;
      filed = other-has c.narrowed.new.nodes.filed c.args.class c.unwrap_or-other.result (g.L.LanguageChildren.form key) c.source_of.result c.source_of.ensures.some (sym c.unwrap_or-other.ensures) c.if-other-class.true;
    }

pub returns-then-other-class-clause-full : goal.returns-then-other-class-clause-full
returns-then-other-class-clause-full g c h = large-grown c.args.store.now c.narrowed.new.store c.in_ok-node.ensures.ok.grows (c.collide.ensures.full h)

pub returns-then-other-class-clause-ok : goal.returns-then-other-class-clause-ok
returns-then-other-class-clause-ok g c =
    let k = c.args.store.now in
    let r = c.args.nodes.now in
    let l = c.narrowed.new.store in
    let q = c.narrowed.new.nodes in
    OnOk-map c.collide.result (TakesTurns l q c.collide.new.store c.collide.new.nodes) (TakesTurns k r c.collide.new.store c.collide.new.nodes)
    (turns-then k r c.args.class l q (g.L.LanguageChildren.form c.in_ok-node.node.key) c.in_ok-node.node.names c.collide.new.store c.collide.new.nodes c.in_ok-node.ensures.ok)
    c.collide.ensures.ok

pub returns-in_err-node-clause-full : goal.returns-in_err-node-clause-full
returns-in_err-node-clause-full g c h = c.in_err-node.ensures.full (same-error c.from_residual.result c.in_err-node.field-0.0 _ c.from_residual.ensures.1 h)

pub returns-clause-full : goal.returns-clause-full
returns-clause-full g c h = absurd (slots_left c.refile.result c.refile.ensures.err h)

pub refile-requires-clause-front : goal.refile-requires-clause-front
refile-requires-clause-front g c = first-still c.args.nodes.now c.narrowed.new.nodes c.args.class c.in_ok-node.ensures.ok.waits c.requires.first

pub refile-requires-clause-new_key : goal.refile-requires-clause-new_key
refile-requires-clause-new_key g c =
    new-to-others c.narrowed.new.nodes.filed c.args.class (g.L.LanguageChildren.form c.in_ok-node.node.key) c.source_of.result c.source_of.ensures.some c.source_of.ensures.none c.source_of.ensures.once
    (sym c.unwrap_or-other.ensures ∙ c.if-other-class.false)

pub refile-requires-clause-children : goal.refile-requires-clause-children
refile-requires-clause-children g c =
    let l = c.narrowed.new.store in
    let q = c.narrowed.new.nodes in
    let t = c.in_ok-node.ensures.ok in
    let first = first-still c.args.nodes.now q c.args.class t.waits c.requires.first in
    children-within l q c.args.class (g.L.LanguageChildren.form c.in_ok-node.node.key) c.in_ok-node.node.names t.filed (waiting-within l q c.args.class t.filed (first-waits q c.args.class first)) t.node

pub returns-clause-ok : goal.returns-clause-ok
returns-clause-ok g c =
    let form = g.L.LanguageChildren.form in
    let k = c.args.store.now in
    let r = c.args.nodes.now in
    let l = c.narrowed.new.store in
    let q = c.narrowed.new.nodes in
    let t = c.in_ok-node.ensures.ok in
    let key = form c.in_ok-node.node.key in
    let first = first-still r q c.args.class t.waits c.requires.first in
    let new = new-to-others q.filed c.args.class key c.source_of.result c.source_of.ensures.some c.source_of.ensures.none c.source_of.ensures.once (sym c.unwrap_or-other.ensures ∙ c.if-other-class.false) in
    let names = c.in_ok-node.node.names in
    let s = c.refile.new.self in
    OnOk-map c.refile.result (TakesTurn q s c.args.class (Some (key, names))) (TakesTurns k r l s)
    (λ u. turns-then k r c.args.class l q key names l s t
    (files-it l q t.filed c.args.class (first-waits q c.args.class first) key names (g.met.L.LanguageChildren.fits c.in_ok-node.node.key) t.node t.covered new s u))
    c.refile.ensures.ok
