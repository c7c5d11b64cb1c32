-- What a caller of rules says.
--     HasAppliedEach form g h rules    for each rule and each of its matches instances of both sides are equal by what is asserted
use Rattle.std.specs.Prelude.{List, Contains}
use Rattle.slotted_nodes.specs.Form.{Form}
use Rattle.slotted_patterns.specs.View.{tree_of}
use Rattle.slotted_operations.specs.Graph.{Graph}
use Rattle.slotted_rules.specs.EqualInstances.{HasAppliedMatches}
use Rattle.slotted_rules.specs.declared.rewrite.Rewrite.{Rewrite}

abbrev pub HasAppliedEach : {L C : Type 0} → (L → Form) → Graph → Graph → List (Rewrite L C) → Type 0
HasAppliedEach {L} {C} form g h rules = (r : Rewrite L C) → Contains rules r → HasAppliedMatches g h (tree_of form r.left) (tree_of form r.right)
