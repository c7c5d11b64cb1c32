use Rattle.std.proofs.Common.{◌≡◌, ℕ, List, Some, length, ap, refl, subst, sym, true, ◌∙◌}
use Rattle.std.specs.Prelude.{All, option_map}
use Rattle.std.proofs.lemmas.List.{length-map}
use Rattle.std.specs.Ordering.{is_lt}
use Rattle.slotted_nodes.specs.Form.{children}
use Rattle.slotted_model.specs.Extraction.{costs_in}
use Rattle.slotted_model.proofs.LeastTerms.Tables.{costs-length}
use Rattle.slotted_hashcons.specs.Filed.{filed_of}
use Rattle.slotted_hashcons.specs.FiledRows.{key_children}
use Rattle.slotted_hashcons.proofs.KeyChildren.{key_children-read}
use Rattle.slotted_costs.specs.Costs.{bare_node, costs_by}
use Rattle.slotted_costs.specs.Entries.{table_of}
use Rattle.slotted_costs.specs.Prices.{children_of, filing_children}
use Rattle.slotted_costs.proofs.Rows.{cost-by}
use Rattle.slotted_costs.proofs.Ties.{cheaper-iff}
use Rattle.slotted_costs.proofs.pricing.candidate.Goals as goal

pub cost-requires : goal.cost-requires
cost-requires g c =
    let form = g.L.LanguageChildren.form in
    let f = form c.in-Some.key.now in
    let there = sym c.in_ok-each.ensures.ok ∙ ap (option_map (λ v. v.items)) c.in-Some-2.is in
    ap length c.deref.ensures.value
    ∙ (costs-length (table_of form c.args.table.now.entries.items) (key_children f) c.in-Some-2.each.items there
    ∙ (ap length (key_children-read f) ∙ length-map (children f.tree) (λ (p : ℕ × List ℕ). p.0)))

pub returns-clause-some : goal.returns-clause-some
returns-clause-some g c =
    let f = g.L.LanguageChildren.form c.in-Some.key.now in
    let cmp = g.F.Cost.Ord.cmp in
    let weight = g.F.CostFunction.node_cost c.args.costs.now in
    let table = table_of g.L.LanguageChildren.form c.args.table.now.entries.items in
    let v = c.args.nodes.now.filed in
    let filed : filed_of v c.args.source ≡ Some (f, c.in-Some.field-0-1.now) = sym c.in-Some.ensures in
    let there : costs_in table (key_children f) ≡ Some c.in-Some-2.each.items = sym c.in_ok-each.ensures.ok ∙ ap (option_map (λ v. v.items)) c.in-Some-2.is in
    let here : costs_in table (children_of v c.args.source) ≡ Some c.in-Some-2.each.items = ap (λ o. costs_in table (filing_children o)) filed ∙ there in
    let cheaper = cheaper-iff cmp g.met.F.Cost.Ord.total weight table (children_of v c.args.source) c.in-Some-2.each.items here c.in_ok-cost.cost in
    let same = c.deref-2.ensures.value in
    record {
      source = refl;
      key = (c.in-Some.field-0-1.now, filed);
      cost = cost-by (costs_by cmp weight) table v c.args.source (f, c.in-Some.field-0-1.now) c.in-Some-2.each.items filed there ∙ ap Some (sym (c.in_ok-cost.ensures.ok ∙ ap (weight (bare_node f)) c.deref.ensures.value));
      cheaper = (λ h. cheaper.0 (subst (All (λ y. is_lt (cmp y c.in_ok-cost.cost) ≡ true)) same (c.are_less-over_cheaper.ensures.0 h)), λ o. c.are_less-over_cheaper.ensures.1 (subst (All (λ y. is_lt (cmp y c.in_ok-cost.cost) ≡ true)) (sym same) (cheaper.1 o)));
    }
