use Rattle.std.proofs.Common.{◌≡◌, ◌++◌, map, take}
use Rattle.slotted_terms.proofs.flat.push_all.Given as goal

abbrev pub invariant-loop-term : goal.invariant-loop-term
invariant-loop-term g l = map (λ t. t.now) l.left.items ≡ map (λ t. t.now) l.initial.left.items ++ take l.term-index l.terms
