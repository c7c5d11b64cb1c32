-- What follows from the explicit leaves of an entry alone.
--     FollowsFromLeaves g p a b   the terms of a and b are derivable from the leaves of the entry p
--     EntriesFollow g             what each entry says is
use Rattle.std.specs.Prelude.{◌≡◌, ℕ, ◌<◌, List, length, map}
use Rattle.slotted_theory.specs.Term.{Term}
use Rattle.slotted_theory.specs.Nameless.{nameless}
use Rattle.slotted_theory.specs.Derives.{Derives, nameless_pair}
use Rattle.slotted_model.specs.Applied.{Applied}
use Rattle.slotted_model.specs.Classes.{term_of, IsFull}
use Rattle.slotted_model.specs.Leaves.{HasLeaves}
use Rattle.slotted_model.specs.ProofList.{equation_of, equation_at}
use Rattle.slotted_operations.specs.Image.{Image}

-- named terms of which a and b are the nameless form are derivable from all named equations that have the leaves of the entry p
abbrev pub FollowsFromLeaves : Image → ℕ → Applied → Applied → Type 0
FollowsFromLeaves g p a b =
    (E : List (Term × Term)) (t u : Term) → HasLeaves (map nameless_pair E) g.canonical g.entries p →
    nameless t ≡ term_of g.canonical a → nameless u ≡ term_of g.canonical b → Derives E t u

-- of each entry the two sides, whatever their names, follow from its leaves
abbrev pub EntriesFollow : Image → Type 0
EntriesFollow g =
    (p : ℕ) → p < length g.entries → (a b : Applied) → IsFull g.canonical a → IsFull g.canonical b →
    equation_of a b ≡ equation_at g.entries p →
    FollowsFromLeaves g p a b
