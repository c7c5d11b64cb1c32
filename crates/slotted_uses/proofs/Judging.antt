-- Verdicts by what a proof was answered with.
use Rattle.std.proofs.Common.{◌≡◌, ◌≢◌, List}
use Rattle.std.specs.Prelude.{String}
use Rattle.slotted_slots.specs.Syntax.{Element}
use Rattle.slotted_theory.specs.Term.{Term}
use Rattle.slotted_workspace.specs.Asked.{OfBoth}
use Rattle.slotted_workspace.specs.Spaces.{Space}
use Rattle.slotted_workspace.specs.declared.handle.Handle.{Handle}

module _ (s : Space) (a b : Handle) where
  pub weaker : (P Q : Term → Term → Type 0) → ((t u : Term) → P t u → Q t u) → OfBoth s a b P → OfBoth s a b Q
  weaker P Q f p = (p.0, p.1, p.2, p.3, f p.0 p.1 p.4)
