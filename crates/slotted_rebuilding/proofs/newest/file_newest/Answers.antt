use Rattle.slotted_rebuilding.proofs.LargeClasses.{had-slots, large-grown, same-error}
use Rattle.slotted_rebuilding.proofs.NewestClasses.{files-newest, newest-added}
use Rattle.slotted_rebuilding.proofs.newest.file_newest.Goals as goal

pub join_or_file-requires : goal.join_or_file-requires
join_or_file-requires g c =
    record { newest = newest-added c.args.store.now c.args.nodes.now c.add_class.new.self c.class_count-class.result c.requires.unfiled c.class_count-class.ensures c.in_ok-add_class.ensures.ok }

pub returns-in_err-add_class-clause-full : goal.returns-in_err-add_class-clause-full
returns-in_err-add_class-clause-full g c h = absurd (had-slots c.from_residual.result c.in_err-add_class.field-0.0 c.from_residual.ensures.1 c.in_err-add_class.ensures.err h)

pub returns-in_err-join_or_file-clause-full : goal.returns-in_err-join_or_file-clause-full
returns-in_err-join_or_file-clause-full g c h = c.in_err-join_or_file.ensures.full (same-error c.from_residual-in_err-join_or_file.result c.in_err-join_or_file.field-0.0 _ c.from_residual-in_err-join_or_file.ensures.1 h)

pub returns-in_err-rebuild-clause-full : goal.returns-in_err-rebuild-clause-full
returns-in_err-rebuild-clause-full g c h =
    large-grown c.args.store.now c.join_or_file.new.store c.in_ok-join_or_file.ensures.ok.grows (c.in_err-rebuild.ensures.full (same-error c.from_residual-in_err-rebuild.result c.in_err-rebuild.field-0.0 _ c.from_residual-in_err-rebuild.ensures.1 h))

pub returns-clause-ok : goal.returns-clause-ok
returns-clause-ok g c =
    files-newest c.args.store.now c.args.nodes.now c.add_class.new.self c.join_or_file.new.store c.join_or_file.new.nodes c.rebuild.new.store c.rebuild.new.nodes c.in_ok-rebuild.field-0 c.in_ok-add_class.ensures.ok
    c.in_ok-join_or_file.ensures.ok c.in_ok-rebuild.ensures.ok
