-- For the patterns that were taken ids of instances wait.
use Rattle.std.proofs.Common.{◌≤◌, length, map, take}
use Rattle.slotted_patterns.specs.Subpatterns.{subpatterns}
use Rattle.slotted_patterns.specs.View.{tree_of}
use Rattle.slotted_proofs.specs.Equations.{to_applied}
use Rattle.slotted_rule_patterns.specs.Values.{values_of}
use Rattle.slotted_rules.specs.Carried.{CarriesIf}
use Rattle.slotted_rules.specs.Methods.{AsksMethod, IsKnownMethod}
use Rattle.slotted_rules.proofs.StackedInstances.{Waits}
use Rattle.slotted_rules.proofs.building.build_listed.Given as goal

abbrev pub invariant-loop-left : goal.invariant-loop-left
invariant-loop-left g l =
    let p = tree_of g.L.LanguageChildren.form l.listed.pattern.now in
    record {
      some : 1 ≤ l.left;
      within : l.left ≤ length l.inside;
      waits : Waits g.M.OwnSubst.method l.fn.graph l.graph (values_of l.subst) p (take l.left (subpatterns p)) (map to_applied l.ids.items);
      carries : CarriesIf (IsKnownMethod g.M.OwnSubst.method) g.N.Analysis.codes g.N.Analysis.meaning l.fn.graph l.graph;
      asks : AsksMethod g.M.OwnSubst.substitutes l.fn.method l.fn.graph l.method l.graph;
    }

abbrev pub decreases-loop-left : goal.decreases-loop-left
decreases-loop-left g l = l.left
