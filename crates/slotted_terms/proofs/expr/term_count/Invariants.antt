use Rattle.std.proofs.Common.{◌≡◌, ◌<◌, ℕ, get_or}
use Rattle.slotted_theory.specs.Term.{Term}
use Rattle.slotted_terms.proofs.expr.term_count.Given as goal

abbrev pub invariant-loop-term : goal.invariant-loop-term
invariant-loop-term g l = record {
  count : l.count ≡ l.term-index;
  terms : (k : ℕ) (d : Term) → k < l.term-index → 0 < (get_or l.row k d).op;
}
