use Rattle.std.proofs.Common.{◌≡◌}
use Rattle.std.specs.Prelude.{not}
use Rattle.slotted_languages.specs.Occurrences.{names_where}
use Rattle.slotted_nodes.specs.Public.{is_public}
use Rattle.slotted_languages.proofs.places.hidden_names.Given as goal

abbrev pub invariant-loop-i : goal.invariant-loop-i
invariant-loop-i g l = let f = g.L.LanguageChildren.form l.node in l.hidden.items ≡ names_where (λ i. not (is_public f i)) f.names l.i
