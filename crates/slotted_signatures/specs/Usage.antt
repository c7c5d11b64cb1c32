-- A usage: one way in which an operator may be used.
use Rattle.std.specs.Prelude.{ℕ, List, Bool}

-- the operator's word, the kinds of its arguments, whether any number of children may follow these, and the example's text
pub record Usage : Type 0 where
  pub word : List ℕ
  pub kinds : List ℕ
  pub more : Bool
  pub example : List ℕ
