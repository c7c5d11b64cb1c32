-- Substitutions whose values lack no name.
--     AreFullValues g s             each value is a full id of the graph
--     FillsBeside t nodes older a b     b is a with its missing names: none of them was known to the table t, or stands in `older`
--     FillsValues t nodes older s f     f has the variables of s, each with such an id of its value, where no missing name stands for two
use Rattle.std.specs.Prelude.{◌≡◌, ◌++◌, ℕ, List, [], ◌∷◌, All}
use Rattle.slotted_slots.specs.Maps.{values}
use Rattle.slotted_slots.specs.Table.{Table, AllKnown}
use Rattle.slotted_theory.specs.Nameless.{DTerm}
use Rattle.slotted_model.specs.Applied.{Applied}
use Rattle.slotted_model.specs.Filling.{IsFilling}
use Rattle.slotted_graph.specs.Graph.{Graph, IsFullId}
use Rattle.slotted_model_rules.specs.Conditions.{Values}

abbrev pub AreFullValues : Graph → Values → Type 0
AreFullValues g s = All (λ e. IsFullId g e.1) s

abbrev pub FillsBeside : Table → List DTerm → List ℕ → Applied → Applied → Type 0
FillsBeside t nodes older a b = (given : List ℕ) → AllKnown t given → IsFilling nodes (older ++ given) a b

-- `older` are the names of the values before these
abbrev pub FillsValues : Table → List DTerm → List ℕ → Values → Values → Type 0
FillsValues t nodes older [] [] = Unit {0}
FillsValues t nodes older [] (d ∷ f) = ⊥
FillsValues t nodes older (e ∷ s) [] = ⊥
FillsValues t nodes older (e ∷ s) (d ∷ f) = (d.0 ≡ e.0) × FillsBeside t nodes older e.1 d.1 × FillsValues t nodes (values d.1.1 ++ older) s f
