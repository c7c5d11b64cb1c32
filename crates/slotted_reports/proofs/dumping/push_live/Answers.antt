-- The classes in turn.
use Rattle.std.proofs.Common.{rules, ◌<◌, ◌+◌, ◌∙◌, ap, length, sym, subst, arith}
use Rattle.std.specs.List.{range_with_len}
use Rattle.slotted_slots.specs.Table.{KnowsMore, Table}
use Rattle.slotted_reports.specs.Nodes.{TakesForClasses}
use Rattle.slotted_reports.proofs.ClassesInTurn.{knows-more, runs_out-next, takes-next, takes-of_all}
use Rattle.slotted_reports.proofs.dumping.push_live.Goals.{then-is_alive+in_ok-push_whole, else-is_alive}
use Rattle.slotted_reports.proofs.dumping.push_live.Goals as goal

pub push_whole-requires-clause-known : goal.push_whole-requires-clause-known
push_whole-requires-clause-known g c = knows-more c.args.table.now c.loop-class.table c.args.store.now c.loop-class.invariant.more c.requires.known

pub loop-class-preserved : goal.loop-class-preserved
loop-class-preserved g c =
    let k = c.args.store.now in
    let r = c.args.nodes.now in
    let s = c.args.table.now in
    let t = c.loop-class.table in
    let i = c.loop-class.class in
    let so_far = c.loop-class.invariant in
    elim c.if-is_alive.branch [
      | then-is_alive+in_ok-push_whole w ↦ record {
        more = subst (KnowsMore s) (sym w.table-is) (λ x h. w.push_whole.ensures.more x (so_far.more x h));
        kept = ap (λ (u : Table). u.names) w.table-is ∙ (w.push_whole.ensures.kept ∙ so_far.kept);
        taken = subst (TakesForClasses k r (range_with_len 0 (i + 1)) s) (sym w.table-is) (takes-next k r s t w.push_whole.new.table i so_far.taken w.push_whole.ensures.takes);
      }
      | else-is_alive w ↦ record {
        more = subst (KnowsMore s) (sym w.table-is) so_far.more;
        kept = ap (λ (u : Table). u.names) w.table-is ∙ so_far.kept;
        taken = subst (TakesForClasses k r (range_with_len 0 (i + 1)) s) (sym w.table-is) (takes-of_all k r s t i (i + 1) (omega arith) so_far.taken);
      }
    ]

pub returns-in_err-push_whole-clause-takes : goal.returns-in_err-push_whole-clause-takes
returns-in_err-push_whole-clause-takes g c =
    let k = c.args.store.now in
    let r = c.args.nodes.now in
    let s = c.args.table.now in
    let u = c.push_whole.new.table in
    let i = c.loop-class.class in
    let lt : i < length k.classes = omega (arith, c.loop-class-test.true, c.loop-class.auto.class-end, c.class_count-class-end.ensures) in
    takes-of_all k r s u (i + 1) (length k.classes) (omega (arith, lt)) (takes-next k r s c.loop-class.table u i c.loop-class.invariant.taken c.push_whole.ensures.takes)

pub returns-in_err-push_whole-clause-full : goal.returns-in_err-push_whole-clause-full
returns-in_err-push_whole-clause-full g c e =
    let k = c.args.store.now in
    let i = c.loop-class.class in
    let lt : i < length k.classes = omega (arith, c.loop-class-test.true, c.loop-class.auto.class-end, c.class_count-class-end.ensures) in
    runs_out-next k c.args.nodes.now c.args.table.now c.loop-class.table c.push_whole.new.table i (length k.classes) lt c.loop-class.invariant.taken (c.in_err-push_whole.ensures.full (search rules))
