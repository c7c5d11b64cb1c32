use Rattle.slotted_hashcons.proofs.Together.{WaitsSoFar}
use Rattle.slotted_hashcons.proofs.hashcons.wait_over.Given as goal

-- the sources so far that are over the class wait
abbrev pub invariant-loop-k : goal.invariant-loop-k
invariant-loop-k g l = WaitsSoFar l.nodes l.class l.fn.waiting l.waiting l.sources l.k
