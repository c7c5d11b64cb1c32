use Rattle.std.proofs.Common.{take}
use Rattle.slotted_data.proofs.Buried.{MovesFirst}
use Rattle.slotted_data.proofs.burying.move_users.Given as goal

-- the users so far have moved
abbrev pub invariant-loop-source : goal.invariant-loop-source
invariant-loop-source g l = MovesFirst l.from l.to (take l.source-index l.source-items) l.fn.data l.data
