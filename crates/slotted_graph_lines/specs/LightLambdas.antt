-- What nodes weigh where a lambda adds nothing to its body.
use Rattle.std.specs.Prelude.{ℕ, cond, nat_eq}
use Rattle.slotted_theory.specs.Nameless.{DTerm}

-- 0 for a lambda, and 1 for each other node: the operator of a term's node is one more than the node's
abbrev pub lambda_weight : DTerm → ℕ
lambda_weight d = cond (nat_eq d.op 1) 0 1
