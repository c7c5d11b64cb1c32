use Rattle.std.proofs.Common.{◌≡◌, map, string_bytes, take}
use Rattle.slotted_terms.specs.Shown.{term_text}
use Rattle.slotted_changes.proofs.around.texts_of.Given as goal

abbrev pub invariant-loop-term : goal.invariant-loop-term
invariant-loop-term g l = map string_bytes l.texts.items ≡ map (term_text g.L.Printable.written l.table) (take l.term-index l.terms)
