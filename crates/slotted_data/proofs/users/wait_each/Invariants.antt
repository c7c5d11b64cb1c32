use Rattle.std.proofs.Common.{take}
use Rattle.slotted_data.specs.Users.{WaitEach}
use Rattle.slotted_data.proofs.users.wait_each.Given as goal

-- those so far wait
abbrev pub invariant-loop-source : goal.invariant-loop-source
invariant-loop-source g l = WaitEach l.fn.nodes l.nodes (take l.source-index l.sources)
