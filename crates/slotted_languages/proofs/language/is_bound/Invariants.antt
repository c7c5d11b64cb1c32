use Rattle.std.proofs.Common.{◌<◌, ◌≡◌, slice_index}
use Rattle.std.specs.Prelude.{ℕ}
use Rattle.slotted_languages.specs.Children.{IsBinder}
use Rattle.slotted_languages.proofs.language.is_bound.Given as goal

abbrev pub invariant-loop-j : goal.invariant-loop-j
invariant-loop-j g l =
    let f = g.L.LanguageChildren.form l.node in
    (j : ℕ) → j < l.j → IsBinder f j → slice_index f.names j ≡ l.name → ⊥
