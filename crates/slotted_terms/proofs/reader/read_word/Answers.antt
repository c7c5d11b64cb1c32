use Rattle.std.proofs.Common.{◌∷◌, [], map, sym, subst, ap, ◌∙◌, arith}
use Rattle.std.specs.Prelude.{option_map}
use Rattle.slotted_slots.specs.Syntax.{element_of, text}
use Rattle.slotted_terms.specs.Reader.{Reached}
use Rattle.slotted_terms.proofs.ReaderSteps.{leads_word}
use Rattle.slotted_terms.proofs.reader.read_word.Goals as goal

pub returns-clause-ok : goal.returns-clause-ok
returns-clause-ok g c =
    let form = g.L.LanguageChildren.form in
    let read = g.L.LanguageChildren.read in
    let es = map element_of c.args.elements.now.items in
    let is = sym (ap (λ b. read (text b ∷ [])) c.in_ok-from_str.ensures.ok) ∙ (sym c.in_ok-node.ensures.ok ∙ ap (option_map form) c.in-Some.is) in
    λ ls all h.
    subst (λ l. Reached form read all l c.push_term.new.terms.items ls) (sym c.in_ok-push_term.ensures.elements)
    (leads_word form read es c.args.terms.now.items c.push_term.new.terms.items c.args.text.now c.in-Some.node c.new-children.result ls is c.new-children.ensures.items (omega (arith, c.applied_id_count.ensures, c.if-applied_id_count-gt0.false)) c.in_ok-push_term.ensures.terms all h)
