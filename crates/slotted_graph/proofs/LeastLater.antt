-- Entries of least cost stay so where a graph is read alone, so that one extractor serves a run of calls.
use Rattle.std.proofs.Common.{◌≡◌, ◌<◌, ◌∙◌, List, Option, length, sym, subst}
use Rattle.std.specs.declared.cmp.Ordering.{Ordering}
use Rattle.slotted_nodes.specs.Form.{Form}
use Rattle.slotted_model.specs.Cost.{CostFunction}
use Rattle.slotted_operations.specs.Causes.{class_found}
use Rattle.slotted_operations.specs.Graph.{Graph, OnlyReads}
use Rattle.slotted_operations.specs.Image.{Image}
use Rattle.slotted_graph.specs.Chosen.{AreChosen}
use Rattle.slotted_graph.specs.declared.entry.TermEntry.{TermEntry}
use Rattle.slotted_graph.specs.LeastTerms.{AreChosenOf, AreLeastOf, HasEachLiveClass}

module _ {L C : Type 0} (form : L → Form) (g h : Graph) (reads : OnlyReads g h) (es : List (Option (TermEntry L C))) where
  pub least_read : (costs : CostFunction C) → AreLeastOf form g costs es → AreLeastOf form h costs es
  least_read costs of = record {
    kept = of.kept;
    rows = of.rows;
    good = of.good;
    rests = of.rests;
    image = of.image ∙ sym reads.image;
    filed = of.filed ∙ sym reads.filed;
    least = of.least;
  }

  pub each_read : HasEachLiveClass g es → HasEachLiveClass h es
  each_read each c live = each c (subst (λ (i : Image). (c < length i.canonical) × (class_found i c ≡ c)) reads.image live)

  pub chosen_read : (order : L → L → Ordering) (costs : CostFunction C) → AreChosenOf form order g costs es → AreChosenOf form order h costs es
  chosen_read order costs chosen = subst (λ (i : Image). AreChosen form order costs (class_found i) h.filed es) (sym reads.image) (subst (λ rows. AreChosen form order costs (class_found g.image) rows es) (sym reads.filed) chosen)
