use Rattle.slotted_rebuilding.specs.Shortcuts.{Shortens}
use Rattle.slotted_rebuilding.proofs.unions.shortening.shorten_each.Given as goal

-- paths were shortened
abbrev pub invariant-loop-id : goal.invariant-loop-id
invariant-loop-id g l = Shortens l.fn.store l.store
