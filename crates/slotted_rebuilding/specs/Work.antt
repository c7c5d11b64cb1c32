-- What falls with each turn of a class and with each act on a symmetry.
--     work g     the size times one more than the rows, and what waits
use Rattle.std.specs.Prelude.{ℕ, suc, ◌+◌, ◌*◌, length}
use Rattle.slotted_model.specs.Rest.{size}
use Rattle.slotted_model.specs.State.{State}

abbrev pub work : State → ℕ
work g = size g * suc (length g.rows) + length g.waiting
