use Rattle.std.proofs.Common.{◌≡◌, ◌++◌, length}
use Rattle.slotted_data.proofs.class_data.drain.Given as goal

-- those that were taken, and those that still wait
abbrev pub invariant-loop-class : goal.invariant-loop-class
invariant-loop-class l = record {
  all : l.taken.items ++ l.waiting.queue ≡ l.fn.waiting.queue;
  count : l.waiting.count ≡ l.fn.waiting.count;
}

abbrev pub decreases-loop-class : goal.decreases-loop-class
decreases-loop-class l = length l.waiting.queue
