use Rattle.std.proofs.Common.{map, ap, sym, subst, ◌∙◌}
use Rattle.std.proofs.lemmas.Result.{on_ok_weaker}
use Rattle.slotted_hashcons.proofs.KeyChildren.{key_children-read}
use Rattle.slotted_costs.specs.Prices.{filing_children}
use Rattle.slotted_costs.specs.Counts.{UsesMore}
use Rattle.slotted_costs.proofs.users.add_row.Goals as goal

pub returns-clause-ok : goal.returns-clause-ok
returns-clause-ok g c =
    let f = g.L.LanguageChildren.form c.in-Some.node.now in
    on_ok_weaker c.add_to_each-2.result
    (subst (λ cs. UsesMore cs c.args.source c.args.users.now c.add_to_each-2.new.users)
    (ap (map (λ i. i.0)) c.deref.ensures.value ∙ (c.in_ok-ids.ensures.ok ∙ (sym (key_children-read f) ∙ ap filing_children c.in-Some.ensures))))
    c.add_to_each-2.ensures.ok
