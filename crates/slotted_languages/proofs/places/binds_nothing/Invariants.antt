-- No place so far is a binder.
use Rattle.std.proofs.Common.{◌<◌, ℕ}
use Rattle.slotted_languages.specs.Children.{IsBinder}
use Rattle.slotted_languages.proofs.places.binds_nothing.Given as goal

abbrev pub invariant-loop-i : goal.invariant-loop-i
invariant-loop-i g l = (j : ℕ) → j < l.i → ¬ IsBinder (g.L.LanguageChildren.form l.node) j
