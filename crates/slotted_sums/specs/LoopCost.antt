-- What nodes weigh where a loop is dear.
use Rattle.std.specs.Prelude.{ℕ, List, [], cond, nat_eq, bytes_eq, codes, slice_index_or}
use Rattle.slotted_theory.specs.Nameless.{DTerm}

-- 20 for the word `sum`, and 1 for each other node: the operator of a term's node is one more than the node's
abbrev pub loop_weight : DTerm → ℕ
loop_weight d = cond (nat_eq d.op 9) (cond (bytes_eq (slice_index_or d.payloads 0 []) (codes "sum")) 20 1) 1
