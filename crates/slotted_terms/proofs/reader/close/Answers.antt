use Rattle.std.proofs.Common.{◌-◌, ◌++◌, ◌∷◌, [], map, length, sym, ap, ◌∙◌, arith}
use Rattle.std.proofs.lemmas.List.{take-map, take-append-drop, length-drop}
use Rattle.slotted_slots.specs.Syntax.{element_of, applied}
use Rattle.slotted_terms.proofs.ReaderSteps.{on_ok}
use Rattle.slotted_terms.proofs.reader.close.Goals as goal

pub returns-clause-elements : goal.returns-clause-elements
returns-clause-elements g c =
    on_ok c.push_term.result c.push_term.ensures.elements (λ e. e ∙ ap (λ l. l ++ applied 0 [] ∷ []) (ap (map element_of) c.truncate.ensures.items ∙ sym (take-map element_of c.args.begin c.args.elements.now.items)))

pub returns-clause-terms : goal.returns-clause-terms
returns-clause-terms g c =
    let old = c.args.terms.now.items in
    let at = c.len.result - c.applied_id_count.result in
    let below = c.in_ok-children.children in
    on_ok c.push_term.result c.push_term.ensures.terms (λ e. record {
      below = below;
      others = c.split_off.new.self.items;
      split = sym ((λ i. c.in_ok-children.ensures.items i ++ c.in_ok-children.ensures.tail i) ∙ take-append-drop at old);
      count = omega (arith, ap length c.in_ok-children.ensures.tail, length-drop at old, c.len.ensures, c.args.terms.now.ok.0, c.applied_id_count.ensures, c.requires);
      whole = e;
    })
