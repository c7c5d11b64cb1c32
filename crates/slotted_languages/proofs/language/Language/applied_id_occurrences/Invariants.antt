use Rattle.std.proofs.Common.{◌≡◌, map}
use Rattle.slotted_languages.specs.Children.{child_value, first_children}
use Rattle.slotted_languages.proofs.language.Language.applied_id_occurrences.Given as goal

abbrev pub invariant-loop-k : goal.invariant-loop-k
invariant-loop-k g l = map (λ a. child_value a.now) l.all.items ≡ first_children (g.Self.LanguageChildren.form l.self) l.k
