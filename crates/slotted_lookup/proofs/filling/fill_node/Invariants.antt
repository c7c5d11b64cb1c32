use Rattle.std.proofs.Common.{◌≡◌, take}
use Rattle.slotted_lookup.specs.Filling.{filled_ids, missing_in, node_over, with_fresh}
use Rattle.slotted_classes.specs.ChildIds.{child_ids}
use Rattle.slotted_lookup.proofs.filling.fill_node.Given as goal

-- the children so far are filled, and a fresh slot was made for each name that they lack
abbrev pub invariant-loop-k : goal.invariant-loop-k
invariant-loop-k g l =
    let f = g.L.LanguageChildren.form l.node in
    record {
      node : g.L.LanguageChildren.form l.filled ≡ node_over f (filled_ids l.store l.fn.table.fresh (take l.k (child_ids f)));
      made : l.table ≡ with_fresh (missing_in l.store (take l.k (child_ids f))) l.fn.table;
    }
