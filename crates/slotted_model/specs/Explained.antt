-- Explanations: a proof list that grows by steps, and asserts nothing more.
use Rattle.std.specs.Prelude.{◌≡◌, ℕ, ◌<◌, List, ◌++◌, length}
use Rattle.slotted_theory.specs.Nameless.{DTerm}
use Rattle.slotted_model.specs.ProofList.{Equation, ProofEntry, equation_at, Proved, asserted}

-- entries can be appended by which the list stays proved and asserts nothing more, and has the equation at some number
pub record Explained (nodes : List DTerm) (proofs : List ProofEntry) (e : Equation) : Type 0 where
  pub more : List ProofEntry
  pub proved : Proved nodes (proofs ++ more)
  pub asserts_nothing : asserted nodes (proofs ++ more) ≡ asserted nodes proofs
  pub number : ℕ
  pub in_range : number < length (proofs ++ more)
  pub equation : equation_at (proofs ++ more) number ≡ e
