-- Entries of a table at the places of their classes.
--     IsTermFor k e n t        t is the entry e of rank n, with the class's slots in the place of those of its source
--     ArePlaced k es n v       v has the entries from the place n on, each at its class, and nothing else
--     ClassesDiffer es         no two entries have one class
--     IsWithin k n e           the class is below n, and the source is a class of the graph
use Rattle.std.specs.Prelude.{◌≡◌, ◌<◌, ◌≤◌, ℕ, List, Option, Some, length, slice_get}
use Rattle.slotted_model.specs.Correspondence.{same_names}
use Rattle.slotted_model.specs.Find.{find_map}
use Rattle.slotted_classes.specs.Kept.{Kept, entries_of}
use Rattle.slotted_costs.specs.declared.entry.CostEntry.{CostEntry}
use Rattle.slotted_graph.specs.declared.entry.TermEntry.{TermEntry}
use Rattle.slotted_graph.specs.Terms.{entry_at}

pub record IsTermFor {L C : Type 0} (k : Kept) (e : CostEntry L C) (n : ℕ) (t : TermEntry L C) : Type 0 where
  pub cost : t.cost ≡ e.cost
  pub rank : t.rank ≡ n
  pub node : t.node ≡ e.node
  pub names : t.names ≡ same_names e.names (find_map (entries_of k) e.source)

pub record IsPlaced {L C : Type 0} (k : Kept) (es : List (CostEntry L C)) (n c : ℕ) (t : TermEntry L C) : Type 0 where
  pub place : ℕ
  pub entry : CostEntry L C
  pub past : n ≤ place
  pub there : slice_get es place ≡ Some entry
  pub class : entry.class ≡ c
  pub term : IsTermFor k entry place t

pub record HasPlace {L C : Type 0} (k : Kept) (v : List (Option (TermEntry L C))) (e : CostEntry L C) (i : ℕ) : Type 0 where
  pub entry : TermEntry L C
  pub there : entry_at v e.class ≡ Some entry
  pub term : IsTermFor k e i entry

pub record ArePlaced {L C : Type 0} (k : Kept) (es : List (CostEntry L C)) (n : ℕ) (v : List (Option (TermEntry L C))) : Type 0 where
  pub from : (c : ℕ) (t : TermEntry L C) → entry_at v c ≡ Some t → IsPlaced k es n c t
  pub has : (i : ℕ) (e : CostEntry L C) → n ≤ i → slice_get es i ≡ Some e → HasPlace k v e i

abbrev pub ClassesDiffer : {L C : Type 0} → List (CostEntry L C) → Type 0
ClassesDiffer {L} {C} es = (i j : ℕ) (d e : CostEntry L C) → slice_get es i ≡ Some d → slice_get es j ≡ Some e → d.class ≡ e.class → i ≡ j

pub record IsWithin {L C : Type 0} (k : Kept) (n : ℕ) (e : CostEntry L C) : Type 0 where
  pub class : e.class < n
  pub source : e.source < length k.classes
