-- The classes in turn.
use Rattle.std.proofs.Common.{rules, ap, length, subst, sym, arith, ◌<◌, ◌≤◌, ◌+◌, ◌∙◌}
use Rattle.slotted_operations.specs.Image.{Image}
use Rattle.slotted_pictures.proofs.Taken.{HasTaken, all-taken, class-full, class-passed, class-taken, none-taken}
use Rattle.slotted_pictures.proofs.graphs.push_classes.Goals.{then-is_alive+in_ok-push_class, else-is_alive}
use Rattle.slotted_pictures.proofs.graphs.push_classes.Goals as goal

pub loop-class-init : goal.loop-class-init
loop-class-init g c = none-taken c.args.graph.now

pub loop-class-preserved : goal.loop-class-preserved
loop-class-preserved g c =
    let s = c.args.graph.now in
    let h = c.loop-class.graph in
    let i = c.loop-class.class in
    let so_far = c.loop-class.invariant in
    elim c.if-is_alive.branch [
      | then-is_alive+in_ok-push_class w ↦ subst (HasTaken s (i + 1)) (sym w.graph-is) (class-taken s h w.push_class.new.graph i so_far w.push_class.ensures.takes w.push_class.ensures.count)
      | else-is_alive w ↦ subst (HasTaken s (i + 1)) (sym w.graph-is) (class-passed s h i so_far)
    ]

pub returns-in_err-push_class-clause-count : goal.returns-in_err-push_class-clause-count
returns-in_err-push_class-clause-count g c =
    let s = c.args.graph.now in
    let h = c.loop-class.graph in
    let i = c.loop-class.class in
    let lt : i < length s.image.canonical = omega (arith, (c.is_alive.ensures.0 c.if-is_alive.true).0.1, ap (λ (x : Image). length x.canonical) c.loop-class.invariant.takes.reads.image) in
    all-taken s c.push_class.new.graph (i + 1) (class-taken s h c.push_class.new.graph i c.loop-class.invariant c.push_class.ensures.takes c.push_class.ensures.count) (omega (arith, lt))

pub returns-in_err-push_class-clause-full : goal.returns-in_err-push_class-clause-full
returns-in_err-push_class-clause-full g c e =
    let s = c.args.graph.now in
    let i = c.loop-class.class in
    let lt : i < length s.image.canonical = omega (arith, (c.is_alive.ensures.0 c.if-is_alive.true).0.1, ap (λ (x : Image). length x.canonical) c.loop-class.invariant.takes.reads.image) in
    class-full s c.loop-class.graph i c.push_class.new.graph.table c.loop-class.invariant lt (c.in_err-push_class.ensures.full (search rules))
