-- Costs of terms whose nodes stand in one list.
--     closed_costs w f n xs    the last costs of a list, so many, give way to that of a node over them
use Rattle.std.specs.Prelude.{ℕ, List, [], ◌∷◌, ◌++◌, ◌-◌, length, take, drop}
use Rattle.slotted_theory.specs.Nameless.{DTerm}
use Rattle.slotted_nodes.specs.Form.{Form}
use Rattle.slotted_outlines.specs.BareNodes.{bare_node}

abbrev pub closed_costs : {C : Type 0} → (DTerm → List C → C) → Form → ℕ → List C → List C
closed_costs w f n xs = take (length xs - n) xs ++ w (bare_node f) (drop (length xs - n) xs) ∷ []
