-- The values so far lack no name.
use Rattle.std.proofs.Common.{◌≡◌, ◌++◌, List}
use Rattle.std.specs.Prelude.{String}
use Rattle.std.specs.declared.alloc.Global.{Global}
use Rattle.slotted_slots.specs.declared.types.AppliedId.{AppliedId}
use Rattle.slotted_rules.specs.Filled.{AreFullValues}
use Rattle.slotted_rules.proofs.FilledValues.{shown}
use Rattle.slotted_rules.proofs.filling.are_full.Given as goal

abbrev pub invariant-loop-name : goal.invariant-loop-name
invariant-loop-name g l = (done : List (String Global × AppliedId)) × (done ++ l._name-iterator ≡ l.fn.subst.entries) × AreFullValues l.graph (shown done)
