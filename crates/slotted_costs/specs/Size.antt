-- Costs that count nodes, up to the largest number.
use Rattle.std.specs.Prelude.{ℕ, ◌-◌, ◌^◌, List}
use Rattle.slotted_theory.specs.Nameless.{DTerm}
use Rattle.slotted_model.specs.Cost.{limited_size}

-- the largest number of 64 bits
abbrev pub largest : ℕ
largest = 2 ^ 64 - 1

-- one more than the costs of the children, or the largest number
abbrev pub size_cost : DTerm → List ℕ → ℕ
size_cost = (limited_size largest).node_cost
