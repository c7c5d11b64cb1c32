-- What the last rebuild did, and totals over all rebuilds.
--     Counts      the last rebuild: how many filed nodes and which size it found, which size it left, and how many turns it took; and the
--                 totals over all rebuilds, of turns and of bounds
--     no_counts   those of a graph without classes
--     noted c ..  those after one more rebuild
use Rattle.std.specs.Prelude.{ℕ, suc, ◌+◌, ◌-◌, ◌*◌, ◌^◌, min, refl}
use Rattle.std.specs.Coded.{Coded, code_by, coded×, coded_ℕ}
use Rattle.slotted_classes.specs.declared.counts.RebuildCount.{RebuildCount}

pub record Counts : Type 0 where
  pub nodes : ℕ
  pub size_before : ℕ
  pub size_after : ℕ
  pub turns : ℕ
  pub total_turns : ℕ
  pub total_bound : ℕ

-- how they are told apart
abbrev pub counts_code : Coded Counts
counts_code =
    code_by (ℕ × (ℕ × (ℕ × (ℕ × (ℕ × ℕ))))) (coded× coded_ℕ (coded× coded_ℕ (coded× coded_ℕ (coded× coded_ℕ (coded× coded_ℕ coded_ℕ)))))
    (λ c. (c.nodes, (c.size_before, (c.size_after, (c.turns, (c.total_turns, c.total_bound))))))
    (λ p. record { nodes = p.0; size_before = p.1.0; size_after = p.1.1.0; turns = p.1.1.1.0; total_turns = p.1.1.1.1.0; total_bound = p.1.1.1.1.1 }) (λ _. refl)

abbrev pub no_counts : Counts
no_counts = record { nodes = 0; size_before = 0; size_after = 0; turns = 0; total_turns = 0; total_bound = 0 }

-- the totals end at these
abbrev pub most_turns : ℕ
most_turns = 2 ^ 64 - 1

abbrev pub most_bound : ℕ
most_bound = 2 ^ 128 - 1

-- how many turns the rebuild of as many nodes may take
abbrev pub turn_bound : ℕ → ℕ → ℕ → ℕ
turn_bound nodes before after = min (nodes * suc (before - after)) most_bound

-- a rebuild of as many nodes led from one size to another in as many turns
abbrev pub noted : Counts → ℕ → ℕ → ℕ → ℕ → Counts
noted c nodes before after turns = record {
  nodes = nodes;
  size_before = before;
  size_after = after;
  turns = turns;
  total_turns = min (c.total_turns + turns) most_turns;
  total_bound = min (c.total_bound + turn_bound nodes before after) most_bound;
}

-- what is kept of a graph's last rebuild
abbrev pub last_count : Counts → RebuildCount
last_count c = record { nodes = c.nodes; size_before = c.size_before; size_after = c.size_after; turns = c.turns }

-- the counts by their parts
abbrev pub counts_of : RebuildCount → ℕ → ℕ → Counts
counts_of last turns bound = record {
  nodes = last.nodes;
  size_before = last.size_before;
  size_after = last.size_after;
  turns = last.turns;
  total_turns = turns;
  total_bound = bound;
}
