use Rattle.slotted_matching.proofs.IndexedClasses.{indexed}
use Rattle.slotted_matching.proofs.index.row_index.Goals as goal

pub returns-clause-ok : goal.returns-clause-ok
returns-clause-ok g c =
    indexed c.args.store.now c.args.nodes.now c.requires c.class_rows.new.skeletons (record { classes = c.in_ok-classes.classes; live = c.in_ok-live.live })
    c.in_ok-classes.ensures.rows c.in_ok-live.ensures.ok
