use Rattle.std.proofs.Common.{map, drop, sym, subst, ap, ◌∙◌, arith}
use Rattle.std.specs.Prelude.{option_map}
use Rattle.std.proofs.lemmas.List.{drop-map, take_rest}
use Rattle.slotted_slots.specs.Syntax.{element_of}
use Rattle.slotted_terms.specs.Reader.{Reached, EndsInBracket}
use Rattle.slotted_terms.proofs.ReaderSteps.{leads_end}
use Rattle.slotted_terms.proofs.reader.read_end.Goals as goal

pub returns-clause-ok : goal.returns-clause-ok
returns-clause-ok g c =
    let form = g.L.LanguageChildren.form in
    let read = g.L.LanguageChildren.read in
    let old = c.args.elements.now.items in
    let es = map element_of old in
    let begin = c.in-Some.begin in
    let ends = subst (λ l. EndsInBracket (map element_of l) begin c.in-Some.count) c.deref.ensures.value c.in-Some.ensures.some in
    let is = ap read (drop-map element_of begin old ∙ ap (map element_of) (ap (drop begin) (sym c.deref-2.ensures.value) ∙ sym (take_rest c.deref-2.result.now begin))) ∙ (sym c.in_ok-node.ensures.ok ∙ ap (option_map form) c.in-Some-2.is) in
    λ ls all h.
    subst (λ l. Reached form read all l c.close.new.terms.items ls) (sym c.in_ok-close.ensures.elements)
    (leads_end form read es c.args.terms.now.items c.close.new.terms.items begin c.in-Some.count c.in-Some-2.node ls ends is (omega (arith, c.applied_id_count.ensures, c.if-applied_id_count-count.false)) c.in_ok-close.ensures.terms all h)
