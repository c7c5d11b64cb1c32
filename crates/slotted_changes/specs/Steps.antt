-- The steps down to a place as levels of terms.
use Rattle.std.specs.Prelude.{◌≡◌, ℕ, List, [], ◌∷◌, map, string_bytes}
use Rattle.slotted_theory.specs.Term.{Term}
use Rattle.slotted_theory.specs.Nameless.{Alpha}
use Rattle.slotted_nodes.specs.Form.{Form}
use Rattle.slotted_slots.specs.Syntax.{Element}
use Rattle.slotted_slots.specs.Table.{Table}
use Rattle.slotted_terms.specs.Shown.{term_text}
use Rattle.slotted_changes.specs.Changes.{AreLevels, DifferInOne, Level, Surround, below, in_marks}
use Rattle.slotted_changes.specs.declared.around.Step.{Step}
use Rattle.slotted_changes.specs.declared.marking.Marked.{Marked}
use Rattle.slotted_changes.specs.declared.marking.Place.{Place}

abbrev pub level : Form → List Term → ℕ → Level
level f ts k = record { node = f; row = ts; at = k }

abbrev pub level_of : {L : Type 0} → (L → Form) → Step L → Level
level_of form s = level (form s.node.now) s.children.now s.at

abbrev pub levels_of : {L : Type 0} → (L → Form) → List (Step L) → List Level
levels_of form ss = map (level_of form) ss

-- the terms below the steps of a place differ, and are no two of one node of whose children one alone differs
pub record IsPlace {L : Type 0} (form : L → Form) (one two : Term) (p : Place L) : Type 0 where
  pub are_levels : AreLevels (levels_of form p.steps.items)
  pub one_is : one ≡ below (levels_of form p.steps.items) p.from.now
  pub two_is : Alpha (below (levels_of form p.steps.items) p.to.now) two
  pub differ : ¬ Alpha p.from.now p.to.now
  pub smallest : ¬ DifferInOne p.from.now p.to.now

-- two texts stand around these, as far as a level goes
abbrev pub SurroundTexts : (Term → List Element) → Table → Level → Marked → Marked → Type 0
SurroundTexts written t l inner outer =
    Surround written t (l ∷ []) (string_bytes inner.first) (string_bytes inner.second) (string_bytes outer.first) (string_bytes outer.second)

-- they are the texts around a place, which is marked
abbrev pub SurroundsPlace : {L : Type 0} → (L → Form) → (Term → List Element) → Table → Place L → Marked → Type 0
SurroundsPlace form written t p texts =
    Surround written t (levels_of form p.steps.items) (in_marks (term_text written t p.from.now)) (in_marks (term_text written t p.to.now)) (string_bytes texts.first) (string_bytes texts.second)
