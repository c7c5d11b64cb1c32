-- Substitution over a graph.
--     HasNameBeside m n       some value of m is none of n
--     StandsForReplaced h x t b a     the term of a is that of b with the term of t for each topmost part that is the term of x
--     Replaces g h x t b a    from g to h a is built, whose term is that of b with the term of t for each topmost part that is the term of x
use Rattle.std.specs.Prelude.{◌≡◌, ℕ, List, Contains}
use Rattle.slotted_slots.specs.Maps.{values}
use Rattle.slotted_model.specs.Applied.{Applied}
use Rattle.slotted_model.specs.Classes.{term_of}
use Rattle.slotted_graph.specs.Graph.{Graph, IsFullId}
use Rattle.slotted_model_rules.specs.Substitution.{substituted}
use Rattle.slotted_model_rules.specs.ReplacedIds.{IsReplaced}
use Rattle.slotted_rules.specs.Building.{Builds}

abbrev pub HasNameBeside : List (ℕ × ℕ) → List (ℕ × ℕ) → Type 0
HasNameBeside m n = (y : ℕ) × Contains (values m) y × (¬ Contains (values n) y)

pub record Replaces (g h : Graph) (x t b a : Applied) : Type 0 where
  pub builds : Builds g h
  pub full : IsFullId h a
  pub replaced : IsReplaced h.image.canonical x t b a

abbrev pub StandsForReplaced : Graph → Applied → Applied → Applied → Applied → Type 0
StandsForReplaced h x t b a =
    term_of h.image.canonical a ≡ substituted (term_of h.image.canonical x) (term_of h.image.canonical t) (term_of h.image.canonical b)
