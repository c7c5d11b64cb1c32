use Rattle.std.proofs.Common.{◌<◌, ◌≤◌, ℕ, List, [], length, Some, ap, map, sym, ◌∙◌, arith}
use Rattle.std.proofs.lemmas.List.{take_all}
use Rattle.slotted_nodes.specs.Form.{children}
use Rattle.slotted_model.specs.Extraction.{cost_in, costs_in}
use Rattle.slotted_hashcons.proofs.KeyChildren.{key_children-read}
use Rattle.slotted_costs.specs.Entries.{table_of}
use Rattle.slotted_costs.proofs.Tables.{costs-step, costs-missed}
use Rattle.slotted_costs.proofs.pricing.child_costs.Goals as goal

pub returns-in-None-clause-ok : goal.returns-in-None-clause-ok
returns-in-None-clause-ok g c =
    let form = g.L.LanguageChildren.form in
    let table = table_of form c.args.table.now.entries.items in
    let f = form c.args.node.now in
    let within : c.loop-k.k < length (children f.tree) = omega (arith, c.loop-k-test.true, c.applied_id_count-k-end.ensures) in
    sym (ap (costs_in table) (key_children-read f) ∙ costs-missed table (λ (p : ℕ × List ℕ). p.0) (children f.tree) c.loop-k.k (0, []) within (ap (cost_in table) (sym c.applied_id.ensures.id) ∙ sym c.in-None.ensures.cost))

pub loop-k-preserved : goal.loop-k-preserved
loop-k-preserved g c =
    let form = g.L.LanguageChildren.form in
    let table = table_of form c.args.table.now.entries.items in
    let f = form c.args.node.now in
    let within : c.loop-k.k < length (children f.tree) = omega (arith, c.loop-k-test.true, c.applied_id_count-k-end.ensures) in
    costs-step table (λ (p : ℕ × List ℕ). p.0) (children f.tree) c.loop-k.k (0, []) c.loop-k.each.items _ c.in_ok-copy-in-Some.field-0 within c.loop-k.invariant
    (ap (cost_in table) (sym c.applied_id.ensures.id) ∙ (sym c.in-Some.ensures.cost ∙ ap Some (sym c.in_ok-copy-in-Some.ensures.ok))) c.in_ok-push-in-Some.ensures.items

pub returns-clause-ok : goal.returns-clause-ok
returns-clause-ok g c =
    let form = g.L.LanguageChildren.form in
    let table = table_of form c.args.table.now.entries.items in
    let f = form c.args.node.now in
    let past : length (children f.tree) ≤ c.loop-k.k = omega (arith, c.loop-k-test.false, c.applied_id_count-k-end.ensures) in
    sym (ap (costs_in table) (key_children-read f) ∙ (ap (λ ws. costs_in table (map (λ (p : ℕ × List ℕ). p.0) ws)) (sym (take_all c.loop-k.k (children f.tree) past)) ∙ c.loop-k.invariant))
