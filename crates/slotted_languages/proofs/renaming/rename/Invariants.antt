use Rattle.std.proofs.Common.{◌≡◌, ◌++◌, take, true}
use Rattle.std.specs.Prelude.{ℕ}
use Rattle.slotted_slots.specs.Maps.{is_among, values}
use Rattle.slotted_slots.specs.Table.{KnowsMore, Takes, TakesAtMost}
use Rattle.slotted_languages.specs.Fresh.{IsInUse, ValuesAreIn}
use Rattle.slotted_languages.proofs.Counting.{binders_below}
use Rattle.slotted_languages.proofs.Renamings.{IsRenaming}
use Rattle.slotted_languages.proofs.renaming.rename.Given as goal

abbrev pub invariant-loop-i : goal.invariant-loop-i
invariant-loop-i g l =
    let form = g.L.LanguageChildren.form in
    record {
      renamed : IsRenaming l.fn.table l.table (form l.node) l.avoid l.free l.names (form l.numbered) l.i;
      more : KnowsMore l.fn.table l.table;
      taken : Takes l.fn.table l.table (IsInUse l.avoid (values l.names) (form l.node).names);
      placed : (z : ℕ) → is_among z (values l.names) ≡ true → is_among z (take l.i (form l.numbered).names) ≡ true;
      count : TakesAtMost (binders_below (form l.node) l.i) (l.avoid ++ (form l.node).names) l.fn.table l.table;
      valued : ValuesAreIn l.table (l.avoid ++ (form l.node).names) l.names;
      kept : l.table.names ≡ l.fn.table.names;
    }
