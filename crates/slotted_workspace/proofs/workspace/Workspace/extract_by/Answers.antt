use Rattle.std.proofs.lemmas.Result.{err_from_is_err_and}
use Rattle.slotted_costs.specs.Costs.{costs_by}
use Rattle.slotted_workspace.specs.Asked.{ExtractByRefused, ExtractsBy}
use Rattle.slotted_workspace.proofs.Methods.{is-kept, one-answered, one-refused, one-unknown}
use Rattle.slotted_workspace.proofs.Staying.{sane-later}
use Rattle.slotted_workspace.proofs.workspace.Workspace.extract_by.Goals as goal

pub returns-in_err-kept-clause-err : goal.returns-in_err-kept-clause-err
returns-in_err-kept-clause-err g c =
    let w = c.self.inside in
    let p = err_from_is_err_and c.from_residual.result c.from_residual.ensures.1 in
    rw (p.1, p.2) (one-unknown g.L.LanguageChildren.form w.number w.graph w.kept.items w.rules.items w.sparing c.args.self.now c.self.view_is c.deref.result.now c.deref.ensures.value c.args.a
    (λ t. ExtractByRefused g.L.LanguageChildren.form (costs_by g.C.Cost.Ord.cmp (g.C.CostFunction.node_cost c.args.costs)) g.C.CostFunction.refuses c.args.self.now.graph c.args.self.now.graph t) c.in_err-kept.field-0.0 c.in_err-kept.ensures.err)

pub cheapest-requires : goal.cheapest-requires
cheapest-requires g c =
    let w = c.self.inside in
    is-kept g.L.LanguageChildren.form w.number w.graph w.kept.items w.rules.items w.sparing c.args.self.now c.self.view_is c.deref.result.now c.deref.ensures.value c.args.a c.in_ok-kept.kept.now c.self.invariant c.in_ok-kept.ensures.ok

pub invariant_of-self : goal.invariant_of-self
invariant_of-self g c =
    let w = c.self.inside in
    sane-later g.L.LanguageChildren.form w.graph c.cheapest.new.graph w.kept.items w.rules.items c.in_err-cheapest.ensures.extends c.in_err-cheapest.ensures.stays c.self.invariant

pub returns-in_err-cheapest-clause-err : goal.returns-in_err-cheapest-clause-err
returns-in_err-cheapest-clause-err g c =
    let w = c.self.inside in
    let p = err_from_is_err_and c.from_residual-in_err-cheapest.result c.from_residual-in_err-cheapest.ensures.1 in
    rw (p.1, p.2) (one-refused g.L.LanguageChildren.form w.number w.graph w.kept.items w.rules.items w.sparing c.args.self.now c.self.view_is c.deref.result.now c.deref.ensures.value c.args.a c.in_ok-kept.kept.now c.in_ok-kept.ensures.ok
    (λ x. ExtractByRefused g.L.LanguageChildren.form (costs_by g.C.Cost.Ord.cmp (g.C.CostFunction.node_cost c.args.costs)) g.C.CostFunction.refuses x c.cheapest.new.graph) c.cheapest.new.graph c.in_err-cheapest.field-0.0 c.in_err-cheapest.ensures.err)

pub invariant_of-self-2 : goal.invariant_of-self-2
invariant_of-self-2 g c =
    let w = c.self.inside in
    sane-later g.L.LanguageChildren.form w.graph c.cheapest.new.graph w.kept.items w.rules.items c.in_ok-cheapest.ensures.extends c.in_ok-cheapest.ensures.stays c.self.invariant

pub returns-clause-ok : goal.returns-clause-ok
returns-clause-ok g c =
    let w = c.self.inside in
    let x = c.in_ok-cheapest.field-0 in
    one-answered g.L.LanguageChildren.form w.number w.graph w.kept.items w.rules.items w.sparing c.args.self.now c.self.view_is c.deref.result.now c.deref.ensures.value c.args.a c.in_ok-kept.kept.now c.in_ok-kept.ensures.ok
    (λ h t. ExtractsBy g.L.LanguageChildren.form g.L.Printable.written (costs_by g.C.Cost.Ord.cmp (g.C.CostFunction.node_cost c.args.costs)) h c.cheapest.new.graph t x.cost x.text) c.in_ok-cheapest.ensures.ok
