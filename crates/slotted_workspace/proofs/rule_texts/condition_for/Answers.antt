use Rattle.std.proofs.Common.{Ok, refl}
use Rattle.slotted_commands.proofs.Steps.{sound_graph}
use Rattle.slotted_workspace.specs.RuleTexts.{lacks, occurs}
use Rattle.slotted_workspace.proofs.rule_texts.condition_for.Goals as goal

pub returns-then-not-asked-clause-ok : goal.returns-then-not-asked-clause-ok
returns-then-not-asked-clause-ok g c =
    let slot = c.in_ok-slot.slot in
    let a = c.in_ok-slot_free_in in
    record {
      well = sound_graph c.args.graph.now.failed (Ok slot) slot refl c.in_ok-slot.ensures.failed.1;
      slot = slot;
      named = c.in_ok-slot.ensures.slot;
      is = lacks a.field-0 refl c.if-not-asked.true a.ensures.slot a.ensures.variable;
    }

pub returns-clause-ok : goal.returns-clause-ok
returns-clause-ok g c =
    let slot = c.in_ok-slot.slot in
    let a = c.in_ok-slot_free_in in
    record {
      well = sound_graph c.args.graph.now.failed (Ok slot) slot refl c.in_ok-slot.ensures.failed.1;
      slot = slot;
      named = c.in_ok-slot.ensures.slot;
      is = occurs a.field-0 c.in_ok-new.field-0 refl c.in_ok-new.ensures.ok c.if-not-asked.false a.ensures.slot a.ensures.variable;
    }
