use Rattle.std.proofs.Common.{◌≡◌, ◌<◌, ℕ, slice_index}
use Rattle.slotted_outlines.specs.Seen.{owns_seen, lefts, rights}
use Rattle.slotted_outlines.proofs.outlines.Outlines.same_owns.Given as goal

abbrev pub invariant-loop-i : goal.invariant-loop-i
invariant-loop-i g l = record {
  same : (j : ℕ) → j < l.i → slice_index (owns_seen (g.L.LanguageChildren.form l.self.one) (lefts l.initial.binders.items)) j ≡ slice_index (owns_seen (g.L.LanguageChildren.form l.self.two) (rights l.initial.binders.items)) j;
  kept : l.binders.items ≡ l.initial.binders.items;
}
