use Rattle.std.proofs.Common.{◌∙◌}
use Rattle.slotted_classes.proofs.OwnIds.{has-row, own-map}
use Rattle.slotted_classes.proofs.store.Store.own_id.Goals as goal

pub names_of-slots-requires : goal.names_of-slots-requires
names_of-slots-requires g c = has-row c.args.self.now c.requires.rows c.args.class c.requires.within

pub returns-clause-ok : goal.returns-clause-ok
returns-clause-ok g c =
    let e = c.in_ok-map_between.ensures.ok ∙ own-map c.args.self.now c.requires.rows c.args.class c.requires.within c.names_of-slots.result.now c.names_of-slots.ensures in
    λ i. (c.args.class, e i)
