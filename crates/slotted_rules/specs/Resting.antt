-- A rule that rests finds nothing, which can be applied as what a search finds can.
use Rattle.std.proofs.Common.{◌≡◌, List, [], sym, subst, inl, inr}
use Rattle.std.specs.Prelude.{◌⊎◌}
use Rattle.slotted_lists.proofs.Contained.{Contains-nil}
use Rattle.slotted_patterns.specs.Tree.{PatternTree}
use Rattle.slotted_model_rules.specs.Conditions.{Values}
use Rattle.slotted_operations.specs.Graph.{Graph, OnlyTakesSlots}
use Rattle.slotted_rules.specs.Rewriting.{CanBeApplied, IsSearched}
use Rattle.slotted_rules.specs.WrittenLaws.{found-applies}

nothing-applies : (t : PatternTree) (g : Graph) → CanBeApplied t [] g
nothing-applies t g = record {
  valid = λ s c. absurd (Contains-nil s c);
  whole = λ s c. absurd (Contains-nil s c);
  values = λ s c. absurd (Contains-nil s c);
}

pub rested-fits : (t : PatternTree) (g : Graph) (found : List Values) (h : Graph) → OnlyTakesSlots g h × ((found ≡ []) ⊎ IsSearched t g found h) → CanBeApplied t found h
rested-fits t g found h s = elim s.1 [
  | inl none ↦ subst (λ fs. CanBeApplied t fs h) (sym none) (nothing-applies t h)
  | inr all ↦ found-applies t g found h all
]
