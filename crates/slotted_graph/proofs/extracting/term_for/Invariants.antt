-- What is made of the stack is what was asked for.
use Rattle.std.proofs.Common.{◌≡◌, ◌≤◌, ◌+◌}
use Rattle.slotted_slots.specs.Maps.{values}
use Rattle.slotted_slots.specs.Table.{KnowsMore}
use Rattle.slotted_proofs.specs.Equations.{to_applied}
use Rattle.slotted_graph.specs.Frames.{IsFreshStack, IsKnownStack, IsStackFor, slots_left, work_left}
use Rattle.slotted_graph.specs.Terms.{slots_for}
use Rattle.slotted_graph.proofs.extracting.term_for.Given as goal

abbrev pub decreases-loop-stack : goal.decreases-loop-stack
decreases-loop-stack g l = work_left g.L.LanguageChildren.form l.terms.entries.items l.stack

abbrev pub invariant-loop-stack : goal.invariant-loop-stack
invariant-loop-stack g l = record {
  stack : IsStackFor g.L.LanguageChildren.form l.terms.entries.items (to_applied l.a) l.stack;
  known : IsKnownStack g.L.LanguageChildren.form l.table l.stack;
  more : KnowsMore l.fn.table l.table;
  kept : l.table.names ≡ l.fn.table.names;
  fresh : IsFreshStack g.L.LanguageChildren.form l.fn.table (values l.a.m) l.stack;
  made : l.table.fresh + slots_left g.L.LanguageChildren.form l.terms.entries.items l.stack ≤ l.fn.table.fresh + slots_for g.L.LanguageChildren.form l.terms.entries.items l.a.id.0;
}
