-- How many nodes, variables and substitutions stand in a pattern.
use Rattle.std.proofs.Common.{ℕ, suc, ◌+◌}
use Rattle.slotted_patterns.specs.Tree.{PatternTree, enode, pvar, substitution, PatternRow, no_more, one_more}

abbrev mutual
  pub pattern_size : PatternTree → ℕ
  pattern_size (enode f row) = suc (row_size row)
  pattern_size (pvar v) = 1
  pattern_size (substitution b x v) = suc (pattern_size b + pattern_size x + pattern_size v)

  pub row_size : PatternRow → ℕ
  row_size no_more = 0
  row_size (one_more q rest) = pattern_size q + row_size rest
