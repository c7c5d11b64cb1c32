use Rattle.std.proofs.Common.{subst}
use Rattle.std.specs.Prelude.{IfNone, IfSome}
use Rattle.slotted_hashcons.specs.Filed.{HasKey, IsNewKey}
use Rattle.slotted_proofs.proofs.Refusals.{slots_left}
use Rattle.slotted_rebuilding.proofs.LargeClasses.{same-error}
use Rattle.slotted_rebuilding.proofs.NormalNodes.{findable, too-large}
use Rattle.slotted_rebuilding.proofs.NewestClasses.{newest-within}
use Rattle.slotted_rebuilding.proofs.newest.join_or_file.Goals as goal

pub found_node-requires-clause-within : goal.found_node-requires-clause-within
found_node-requires-clause-within g c = newest-within c.args.store.now c.args.nodes.now c.args.class c.requires.newest

pub found_node-requires-clause-children : goal.found_node-requires-clause-children
found_node-requires-clause-children g c =
    let k = c.args.store.now in
    let r = c.args.nodes.now in
    findable k r c.args.class c.requires.newest.filed (newest-within k r c.args.class c.requires.newest)

pub returns-in_err-node-clause-full : goal.returns-in_err-node-clause-full
returns-in_err-node-clause-full g c h =
    let k = c.args.store.now in
    let r = c.args.nodes.now in
    too-large k r c.args.class c.requires.newest.filed (newest-within k r c.args.class c.requires.newest) (c.in_err-node.ensures.full (same-error c.from_residual.result c.in_err-node.field-0.0 _ c.from_residual.ensures.1 h))

pub join-requires-clause-shape : goal.join-requires-clause-shape
join-requires-clause-shape g c =
    let key = c.in_ok-node.node.key in
    record {
      key = g.L.LanguageChildren.form key;
      fits = g.met.L.LanguageChildren.fits key;
      node = c.in_ok-node.ensures.ok;
      filed = subst (λ o. IfSome o (λ i. HasKey c.args.nodes.now.filed i (g.L.LanguageChildren.form key))) c.in-Some.is c.source_of.ensures.some;
    }

pub file-requires-clause-new_key : goal.file-requires-clause-new_key
file-requires-clause-new_key g c =
    subst (λ o. IfNone o (IsNewKey c.args.nodes.now.filed (g.L.LanguageChildren.form c.in_ok-node.node.key))) c.in-None.is c.source_of.ensures.none

pub returns-in-Some-clause-ok : goal.returns-in-Some-clause-ok
returns-in-Some-clause-ok g c = c.join.ensures.ok

pub returns-in-Some-clause-full : goal.returns-in-Some-clause-full
returns-in-Some-clause-full g c h = c.join.ensures.full h

pub returns-in-None-clause-full : goal.returns-in-None-clause-full
returns-in-None-clause-full g c h = absurd (slots_left c.file.result c.file.ensures.err h)
