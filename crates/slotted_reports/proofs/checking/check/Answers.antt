use Rattle.slotted_classes.proofs.StoredFinds.{stored-finds}
use Rattle.slotted_reports.proofs.checking.check.Goals as goal

pub classes_fit-requires : goal.classes_fit-requires
classes_fit-requires g c = stored-finds c.args.store.now c.requires.stored
