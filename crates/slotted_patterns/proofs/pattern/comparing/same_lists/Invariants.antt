-- The lists are equal exactly if they are equal from the place at hand on.
use Rattle.std.proofs.Common.{◌≡◌, drop, map}
use Rattle.std.specs.Cmp.Lexicographic.{pointwise}
use Rattle.slotted_patterns.specs.Compared.{head_eq}
use Rattle.slotted_patterns.specs.Shape.{head, shape}
use Rattle.slotted_patterns.proofs.pattern.comparing.same_lists.Given as goal

abbrev pub invariant-loop-k : goal.invariant-loop-k
invariant-loop-k g l =
    let same = pointwise (head_eq g.L.PartialEq.eq) in
    let heads = map (λ p. head (shape p.now)) in
    same (heads (drop l.k l.ones)) (heads (drop l.k l.twos)) ≡ same (heads l.ones) (heads l.twos)
