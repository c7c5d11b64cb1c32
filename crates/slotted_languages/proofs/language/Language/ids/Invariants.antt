use Rattle.std.proofs.Common.{◌≡◌, map, take}
use Rattle.slotted_nodes.specs.Form.{children}
use Rattle.slotted_languages.proofs.language.Language.ids.Given as goal

abbrev pub invariant-loop-k : goal.invariant-loop-k
invariant-loop-k g l = map (λ i. i.0) l.all.items ≡ map (λ p. p.0) (take l.k (children (g.Self.LanguageChildren.form l.self).tree))
