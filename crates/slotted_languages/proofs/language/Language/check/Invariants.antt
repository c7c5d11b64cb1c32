use Rattle.std.proofs.Common.{◌<◌, slice_index}
use Rattle.std.specs.Prelude.{ℕ}
use Rattle.slotted_languages.specs.Children.{IsBound}
use Rattle.slotted_nodes.specs.Public.{IsPublic}
use Rattle.slotted_languages.proofs.language.Language.check.Given as goal

abbrev pub invariant-loop-i : goal.invariant-loop-i
invariant-loop-i g l =
    let f = g.Self.LanguageChildren.form l.self in
    (i : ℕ) → i < l.i → IsPublic f i → IsBound f (slice_index f.names i) → ⊥
