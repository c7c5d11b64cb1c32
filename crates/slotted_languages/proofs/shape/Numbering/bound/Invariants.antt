use Rattle.std.proofs.Common.{◌≡◌, drop, None}
use Rattle.slotted_languages.specs.Walk.{bound_number}
use Rattle.slotted_languages.proofs.shape.Numbering.bound.Given as goal

abbrev pub invariant-loop-binder : goal.invariant-loop-binder
invariant-loop-binder l =
    bound_number (drop l.binder-index l.binder-items) l.name l.place l.found ≡ bound_number l.binder-items l.name l.place None
