use Rattle.std.proofs.Common.{◌≡◌, length}
use Rattle.slotted_data.proofs.NewData.{FirstValues}
use Rattle.slotted_data.proofs.making.child_data.Given as goal

-- the data of the children so far
abbrev pub invariant-loop-k : goal.invariant-loop-k
invariant-loop-k g l = record {
  values : FirstValues l.store l.data.values (g.L.LanguageChildren.form l.node) l.k l.each.items;
  count : length l.each.items ≡ l.k;
}
