-- What nodes weigh where products are dear.
use Rattle.std.specs.Prelude.{ℕ, cond, nat_eq}
use Rattle.slotted_theory.specs.Nameless.{DTerm}

-- 5 for a product, and 1 for each other node: the operator of a term's node is one more than the node's
abbrev pub product_weight : DTerm → ℕ
product_weight d = cond (nat_eq d.op 7) 5 1
