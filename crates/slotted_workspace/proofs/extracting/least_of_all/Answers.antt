use Rattle.std.proofs.Common.{◌≡◌, Ok, refl, subst}
use Rattle.std.specs.Prelude.{IfErr, string_bytes}
use Rattle.std.proofs.lemmas.Result.{err_from_is_err_and}
use Rattle.slotted_slots.specs.Table.{Table}
use Rattle.slotted_terms.specs.Shown.{term_text}
use Rattle.slotted_costs.specs.Costs.{costs_by}
use Rattle.slotted_decided.proofs.DecidedTurns.{goes-extends}
use Rattle.slotted_commands.proofs.Steps.{sound_graph}
use Rattle.slotted_workspace.specs.Decided.{ExtractDecidedRefused}
use Rattle.slotted_workspace.proofs.DecidedExtractions.{extraction-refused, extracts-decided, text-refused}
use Rattle.slotted_workspace.proofs.Saying.{can-ask, kept-answered}
use Rattle.slotted_workspace.proofs.extracting.least_of_all.Goals as goal

pub extract_decided-requires : goal.extract_decided-requires
extract_decided-requires g c = can-ask c.args.graph.now c.args.kept.now c.requires

pub returns-in_err-least-clause-err : goal.returns-in_err-least-clause-err
returns-in_err-least-clause-err g c =
    let h = c.extract_decided.new.graph in
    let e = c.extract_decided.ensures in
    let p = err_from_is_err_and c.from_residual.result c.from_residual.ensures.1 in
    rw (p.1, p.2) (subst (λ r. IfErr r (ExtractDecidedRefused g.C.CostFunction.refuses c.args.graph.now h)) c.in_err-least.was
    (extraction-refused g.C.CostFunction.refuses c.args.graph.now h c.extract_decided.result e.failed e.stays (goes-extends c.args.graph.now h e.goes) e.only))

pub returns-in_err-least-clause-extends : goal.returns-in_err-least-clause-extends
returns-in_err-least-clause-extends g c = goes-extends c.args.graph.now c.extract_decided.new.graph c.extract_decided.ensures.goes

pub returns-in_err-text-clause-err : goal.returns-in_err-text-clause-err
returns-in_err-text-clause-err g c =
    let graph = c.args.graph.now in
    let t = c.in_ok-least.ensures in
    let p = err_from_is_err_and c.from_residual-in_err-text.result c.from_residual-in_err-text.ensures.1 in
    rw (p.1, p.2) (text-refused g.C.CostFunction.refuses graph c.extract_decided.new.graph c.in_err-text.field-0.0 (sound_graph graph.failed (Ok _) _ refl t.failed.1) t.goes c.in_err-text.ensures.err)

pub returns-in_err-text-clause-extends : goal.returns-in_err-text-clause-extends
returns-in_err-text-clause-extends g c = goes-extends c.args.graph.now c.extract_decided.new.graph c.extract_decided.ensures.goes

pub returns-clause-ok : goal.returns-clause-ok
returns-clause-ok g c =
    let graph = c.args.graph.now in
    let least = c.in_ok-least.least in
    let t = c.in_ok-least.ensures in
    let costs = costs_by g.C.Cost.Ord.cmp (g.C.CostFunction.node_cost c.args.costs) in
    extracts-decided g.L.Printable.written costs graph c.extract_decided.new.graph c.args.kept.now (kept-answered graph _ t.failed c.requires) (sound_graph graph.failed (Ok _) _ refl t.failed.1) least.term
    (record { cost = least.cost; text = c.in_ok-text.text; is_decided = least.is_decided }) t.least t.cost t.valid
    (subst (λ (y : Table). string_bytes c.in_ok-text.text ≡ term_text g.L.Printable.written y least.term) c.table.ensures c.in_ok-text.ensures.ok)

pub returns-clause-extends : goal.returns-clause-extends
returns-clause-extends g c = goes-extends c.args.graph.now c.extract_decided.new.graph c.extract_decided.ensures.goes
