-- What holds of a graph later: it stays one as slots are taken, and as it grows ids stand for their terms.
use Rattle.std.proofs.Common.{◌≡◌, ◌∙◌, inl, inr, sym}
use Rattle.std.specs.Prelude.{◌⊎◌, IsTrue}
use Rattle.slotted_theory.specs.Nameless.{nameless}
use Rattle.slotted_theory.specs.Term.{Term}
use Rattle.slotted_model.specs.Applied.{Applied}
use Rattle.slotted_model.specs.Classes.{term_of}
use Rattle.slotted_model.specs.State.{State}
use Rattle.slotted_operations.specs.Graph.{Graph, IsFullId, OnlyTakesSlots}
use Rattle.slotted_operations.specs.ValidIds.{IsValidId}
use Rattle.slotted_operations.proofs.CallerLemmas.{full-valid}
use Rattle.slotted_operations.proofs.Graphs.FreshSlots.{fresh_slots-more}
use Rattle.slotted_graph.specs.Extension.{ExtendsTo}
use Rattle.slotted_graph.specs.States.{IsGraph, IsStateOf}
use Rattle.slotted_graph.proofs.Extending.{extends-then, full-extends}

-- fresh slots leave a state one
pub state-takes : (g h : Graph) (x : State) → IsStateOf g x → OnlyTakesSlots g h → IsStateOf h x
state-takes g h x s takes = record {
  kept = s.kept;
  rows = s.rows;
  good = s.good;
  rests = s.rests;
  fresh = fresh_slots-more g.table h.table s.kept takes.reads.more s.fresh;
  image = s.image ∙ sym takes.reads.image;
  filed = s.filed ∙ sym takes.reads.filed;
  state = s.state;
}

-- fresh slots leave a graph one
pub graph-takes : (g h : Graph) → IsGraph g → OnlyTakesSlots g h → IsGraph h
graph-takes g h is takes = record { well = takes.reads.failed ∙ is.well; state = is.state; is_state = state-takes g h is.state is.is_state takes }

-- a refused call leaves a failed graph, or one that the turn extends
pub later-extends : (g f h : Graph) → ExtendsTo g f → IsTrue h.failed ⊎ ExtendsTo f h → IsTrue h.failed ⊎ ExtendsTo g h
later-extends g f h first (inl failed) = inl failed
later-extends g f h first (inr more) = inr (extends-then g f h first more)

-- an id that stood for a term stands for it later
pub stands-later : (g h : Graph) (id : Applied) (t : Term) → ExtendsTo g h → IsFullId g id → term_of g.image.canonical id ≡ nameless t → term_of h.image.canonical id ≡ nameless t
stands-later g h id t e full stands = e.canonical.terms id full.full ∙ stands

pub still-valid : (g h : Graph) (id : Applied) → IsFullId g id → IsTrue h.failed ⊎ ExtendsTo g h → IsTrue h.failed ⊎ IsValidId h id
still-valid g h id full (inl failed) = inl failed
still-valid g h id full (inr grows) = inr (full-valid h id (full-extends g h id grows full))
