-- The whole is valid if the term at hand and those that are left are, and only then.
use Rattle.std.proofs.Common.{◌≤◌, ◌+◌, ◌*◌, map, take}
use Rattle.std.specs.Prelude.{All}
use Rattle.slotted_theory.specs.Term.{term_size}
use Rattle.slotted_operations.specs.SmallNodes.{IsSmallValidTerm, IsTermOver, total_size}
use Rattle.slotted_operations.proofs.terms.+valid.Given as goal

abbrev pub decreases-is_valid_term : goal.decreases-is_valid_term
decreases-is_valid_term g l = 3 * term_size l.term.now + 2

abbrev pub decreases-push_or_ask : goal.decreases-push_or_ask
decreases-push_or_ask g l = 3 * term_size l.term.now + 3

abbrev pub decreases-push_or_ask_all : goal.decreases-push_or_ask_all
decreases-push_or_ask_all g l = 3 * total_size l.terms.now + 1

abbrev pub invariant-is_valid_term-loop-next : goal.invariant-is_valid_term-loop-next
invariant-is_valid_term-loop-next g l =
    let form = g.L.LanguageChildren.form in
    let left = map (λ t. t.now) l.left.items in
    record {
      valid : IsTermOver l.table l.next → All (IsTermOver l.table) left → IsTermOver l.table l.fn.term;
      exact : IsSmallValidTerm form l.table l.fn.term → IsSmallValidTerm form l.table l.next × All (IsSmallValidTerm form l.table) left;
      light : term_size l.next + total_size left ≤ term_size l.fn.term;
    }

abbrev pub decreases-is_valid_term-loop-next : goal.decreases-is_valid_term-loop-next
decreases-is_valid_term-loop-next g l = term_size l.next + total_size (map (λ t. t.now) l.left.items)

abbrev pub invariant-push_or_ask_all-loop-term : goal.invariant-push_or_ask_all-loop-term
invariant-push_or_ask_all-loop-term g l =
    let form = g.L.LanguageChildren.form in
    let old = map (λ t. t.now) l.initial.left.items in
    let left = map (λ t. t.now) l.left.items in
    let so_far = take l.term-index l.terms in
    record {
      valid : All (IsTermOver l.table) left → All (IsTermOver l.table) old × All (IsTermOver l.table) so_far;
      exact : All (IsSmallValidTerm form l.table) old → All (IsSmallValidTerm form l.table) so_far → All (IsSmallValidTerm form l.table) left;
      light : total_size left ≤ total_size old + total_size so_far;
    }
