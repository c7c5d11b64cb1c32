use Rattle.std.proofs.Common.{◌≡◌, Ok, inr, refl, subst}
use Rattle.std.specs.Prelude.{string_bytes}
use Rattle.std.proofs.lemmas.Result.{err_from_is_err_and}
use Rattle.slotted_slots.specs.Table.{Table}
use Rattle.slotted_terms.specs.Shown.{term_text}
use Rattle.slotted_costs.specs.Costs.{costs_by}
use Rattle.slotted_graph.proofs.Extending.{extends-takes}
use Rattle.slotted_commands.proofs.Steps.{sound_graph}
use Rattle.slotted_workspace.proofs.Extractions.{extract-ends, extract-refused, extracts}
use Rattle.slotted_workspace.proofs.Saying.{can-ask, kept-answered}
use Rattle.slotted_workspace.proofs.extracting.cheapest.Goals as goal

pub extract_by-requires : goal.extract_by-requires
extract_by-requires g c = can-ask c.args.graph.now c.args.kept.now c.requires

pub returns-in_err-cost-clause-err : goal.returns-in_err-cost-clause-err
returns-in_err-cost-clause-err g c =
    let e = c.in_err-cost.ensures in
    let p = err_from_is_err_and c.from_residual.result c.from_residual.ensures.1 in
    let costs = costs_by g.C.Cost.Ord.cmp (g.C.CostFunction.node_cost c.args.costs) in
    rw (p.1, p.2) (extract-refused g.L.LanguageChildren.form costs g.C.CostFunction.refuses c.args.graph.now c.extract_by.new.eg c.args.kept.now c.requires e.takes e.stays c.in_err-cost.field-0.0 e.failed e.full e.only)

pub returns-in_err-cost-clause-extends : goal.returns-in_err-cost-clause-extends
returns-in_err-cost-clause-extends g c = inr (extends-takes c.args.graph.now c.extract_by.new.eg c.in_err-cost.ensures.takes)

pub returns-in_err-text-clause-err : goal.returns-in_err-text-clause-err
returns-in_err-text-clause-err g c =
    let graph = c.args.graph.now in
    let t = c.in_ok-cost.ensures in
    let p = err_from_is_err_and c.from_residual-in_err-text.result c.from_residual-in_err-text.ensures.1 in
    let costs = costs_by g.C.Cost.Ord.cmp (g.C.CostFunction.node_cost c.args.costs) in
    rw (p.1, p.2) (extract-ends g.L.LanguageChildren.form g.L.Printable.written costs graph c.extract_by.new.eg c.args.kept.now (kept-answered graph _ t.failed c.requires) t.takes g.C.CostFunction.refuses c.in_err-text.field-0.0
    (sound_graph graph.failed (Ok _) _ refl t.failed.1) c.in_err-text.ensures.err)

pub returns-in_err-text-clause-extends : goal.returns-in_err-text-clause-extends
returns-in_err-text-clause-extends g c = inr (extends-takes c.args.graph.now c.extract_by.new.eg c.in_ok-cost.ensures.takes)

pub returns-clause-ok : goal.returns-clause-ok
returns-clause-ok g c =
    let graph = c.args.graph.now in
    let term = c.in_ok-cost.term in
    let t = c.in_ok-cost.ensures in
    let costs = costs_by g.C.Cost.Ord.cmp (g.C.CostFunction.node_cost c.args.costs) in
    extracts g.L.LanguageChildren.form g.L.Printable.written costs graph c.extract_by.new.eg c.args.kept.now (kept-answered graph _ t.failed c.requires) t.takes term c.in_ok-cost.cost c.in_ok-text.text (sound_graph graph.failed (Ok _) _ refl t.failed.1) t.least t.valid t.count t.cost
    (subst (λ (y : Table). string_bytes c.in_ok-text.text ≡ term_text g.L.Printable.written y term) c.table.ensures c.in_ok-text.ensures.ok)

pub returns-clause-extends : goal.returns-clause-extends
returns-clause-extends g c = inr (extends-takes c.args.graph.now c.extract_by.new.eg c.in_ok-cost.ensures.takes)
