-- What a step of a union leaves as it was, and what grows.
--     Grows k l    classes and rows are as they were, and the proof list, the listed symmetries and those that died grew at their ends
--     GrowsUncounted k l   the same, but that rebuilds may have been noted
use Rattle.std.specs.Prelude.{◌≡◌, ℕ, List, ◌++◌}
use Rattle.slotted_proofs.specs.Entries.{Proven}
use Rattle.slotted_classes.specs.Kept.{Kept, SymmetryEntry, node_at, nodes_of, with_counts}

-- from k to l no class is made and none gets another node, entries and symmetries stay, with their texts, and classes that died stay dead
pub record Grows (k l : Kept) : Type 0 where
  pub nodes : nodes_of l ≡ nodes_of k
  pub forms : (i : ℕ) → node_at l i ≡ node_at k i
  pub rows : l.rows ≡ k.rows
  pub more : List Proven
  pub proofs : l.proofs ≡ k.proofs ++ more
  pub listed : List SymmetryEntry
  pub symmetries : l.symmetries ≡ k.symmetries ++ listed
  pub gone : List ℕ
  pub deaths : l.deaths ≡ k.deaths ++ gone
  pub counts : l.counts ≡ k.counts

abbrev pub GrowsUncounted : Kept → Kept → Type 0
GrowsUncounted k l = Grows k (with_counts l k.counts)
