-- The row of the node's shape, as the filed nodes have it.
use Rattle.std.proofs.Common.{◌∙◌, Some, ap}
use Rattle.slotted_model.specs.Find.{find}
use Rattle.slotted_model.specs.State.{look_up_normal}
use Rattle.slotted_classes.specs.Kept.{entries_of}
use Rattle.slotted_classes.specs.Names.{between}
use Rattle.slotted_classes.proofs.StoredFinds.{stored-finds}
use Rattle.slotted_hashcons.specs.WellFiled.{state_in}
use Rattle.slotted_lookup.specs.LookUp.{slots_beside}
use Rattle.slotted_lookup.proofs.LookUpRows.{none-looked_up, numbers-are, some-looked_up}
use Rattle.slotted_lookup.proofs.lookup.look_up.Goals as goal

pub normal_shape-requires-clause-good : goal.normal_shape-requires-clause-good
normal_shape-requires-clause-good g c = stored-finds c.args.store.now c.requires.good.stored

pub found_source-requires-clause-names : goal.found_source-requires-clause-names
found_source-requires-clause-names g c =
    let key = g.L.LanguageChildren.form c.in_ok-key.key in
    let n = c.in_ok-key.ensures.ok in
    let h = c.in-Some.ensures.some in
    record {
      key = key;
      slots = h.0;
      filed = h.1;
      numbers = numbers-are c.args.store.now c.args.nodes.now c.requires.good n.node key c.in_ok-key.names n.fits (g.met.L.LanguageChildren.fits c.in_ok-key.key) n.shape c.in-Some.class h.0 h.1;
    }

pub returns-in-Some-clause-ok : goal.returns-in-Some-clause-ok
returns-in-Some-clause-ok g c =
    let k = c.args.store.now in
    let r = c.args.nodes.now in
    let i = c.in-Some.class in
    let n = c.in_ok-key.ensures.ok in
    let h = c.in-Some.ensures.some in
    ap Some (c.in_ok-found_source-in-Some.ensures.ok ∙ ap (λ m. find (entries_of k) (i, between m c.in_ok-key.names)) (ap slots_beside h.1))
    ∙ (some-looked_up k r c.requires.good n.node (g.L.LanguageChildren.form c.in_ok-key.key) c.in_ok-key.names n.fits (g.met.L.LanguageChildren.fits c.in_ok-key.key) n.shape i h.0 h.1 ∙ ap (look_up_normal (state_in k r)) n.normal)

pub returns-clause-ok : goal.returns-clause-ok
returns-clause-ok g c =
    let k = c.args.store.now in
    let r = c.args.nodes.now in
    let n = c.in_ok-key.ensures.ok in
    none-looked_up k r c.requires.good n.node (g.L.LanguageChildren.form c.in_ok-key.key) c.in_ok-key.names n.fits (g.met.L.LanguageChildren.fits c.in_ok-key.key) n.shape c.in-None.ensures.none ∙ ap (look_up_normal (state_in k r)) n.normal
