-- The pairs that are made, and those that are left.
use Rattle.std.specs.Prelude.{reverse}
use Rattle.std.proofs.Common.{◌≡◌, drop}
use Rattle.slotted_model_rules.specs.Goals.{paired_all}
use Rattle.slotted_match_machine.specs.Scratch.{GrowsTo}
use Rattle.slotted_match_machine.specs.Views.{names_at}
use Rattle.slotted_match_machine.proofs.pairing.pair_all.Given as goal

abbrev pub invariant-loop-position : goal.invariant-loop-position
invariant-loop-position l = record {
  paired : paired_all (reverse l.initial.pairs.items) (names_at l.frames l.names) l.slots ≡ paired_all (reverse l.pairs.items) (drop l.position (names_at l.frames l.names)) (drop l.position l.slots);
  grows : GrowsTo l.initial.pairs.items l.pairs.items;
}
