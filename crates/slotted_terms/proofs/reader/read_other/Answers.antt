use Rattle.std.proofs.Common.{◌∷◌, map, sym, subst, ap, ◌∙◌}
use Rattle.std.proofs.lemmas.List.{map-append}
use Rattle.slotted_slots.specs.Syntax.{element_of, lexeme_of}
use Rattle.slotted_terms.specs.Reader.{Reached}
use Rattle.slotted_terms.proofs.ReaderSteps.{leads_slot}
use Rattle.slotted_terms.proofs.reader.read_other.Goals as goal

pub returns-in_ok-push-in-Slot-clause-ok : goal.returns-in_ok-push-in-Slot-clause-ok
returns-in_ok-push-in-Slot-clause-ok g c =
    let form = g.L.LanguageChildren.form in
    let read = g.L.LanguageChildren.read in
    let es = map element_of c.args.elements.now.items in
    let ts = c.args.terms.now.items in
    λ ls all h.
    subst (λ l. Reached form read all l ts ls) (sym (ap (map element_of) c.in_ok-push-in-Slot.ensures.items ∙ map-append element_of c.args.elements.now.items _))
    (leads_slot form read es ts c.in-Slot.slot ls all (subst (λ l. Reached form read all es ts (lexeme_of l ∷ ls)) c.in-Slot.is h))
