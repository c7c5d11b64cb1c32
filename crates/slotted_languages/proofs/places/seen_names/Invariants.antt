use Rattle.std.proofs.Common.{◌≡◌}
use Rattle.slotted_languages.specs.Occurrences.{names_where}
use Rattle.slotted_nodes.specs.Public.{is_public}
use Rattle.slotted_languages.proofs.places.seen_names.Given as goal

abbrev pub invariant-loop-i : goal.invariant-loop-i
invariant-loop-i g l = let f = g.L.LanguageChildren.form l.node in l.seen.items ≡ names_where (is_public f) f.names l.i
