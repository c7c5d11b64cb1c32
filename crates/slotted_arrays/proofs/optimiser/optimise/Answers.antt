use Rattle.std.proofs.Common.{◌≡◌, ◌∙◌, subst, sym}
use Rattle.std.proofs.lemmas.Result.{err_from_is_err_and}
use Rattle.slotted_lists.proofs.Options.{Some-same}
use Rattle.slotted_theory.specs.Term.{Term}
use Rattle.slotted_terms.specs.Valid.{IsWhole}
use Rattle.slotted_costs.specs.Costs.{costs_by, cost_of_term}
use Rattle.slotted_workspace.proofs.Handles.{stands-changed}
use Rattle.slotted_arrays.specs.Optimising.{Derives, not_added, not_derived, not_priced, not_run}
use Rattle.slotted_arrays.proofs.Deriving.{of-term}
use Rattle.slotted_arrays.proofs.optimiser.optimise.Goals as goal

pub cost_of-requires : goal.cost_of-requires
cost_of-requires g c =
    let a = c.in_ok-given.ensures.ok in
    λ t stands. subst (λ (u : Term). IsWhole u.args) (Some-same a.term t (sym a.stands ∙ stands)) a.valid.whole

pub returns-clause-ok : goal.returns-clause-ok
returns-clause-ok g c =
    let costs = costs_by g.C.Cost.Ord.cmp (g.C.CostFunction.node_cost c.args.costs) in
    let a = c.in_ok-given.ensures.ok in
    let asked = c.add.new.self in
    let ran = c.saturate.new.self in
    let v = c.derive.new.workspace in
    let given = c.in_ok-given.given in
    let only = c.in_ok-ended.ensures.rest in
    record {
      asked = asked;
      given = given;
      adds = a;
      before = of-term asked given a.term (λ t. c.in_ok-before.before ≡ cost_of_term costs t) a.stands c.in_ok-before.ensures.ok;
      ran = ran;
      runs = c.in_ok-ended.ensures.ok;
      only_rules = only;
      derives = of-term ran given a.term (λ t. Derives g.L.LanguageChildren.form g.L.LanguageChildren.read g.L.Printable.written costs ran v t c.in_ok-derivation.derivation) (stands-changed asked ran given a.term only a.stands) c.in_ok-derivation.ensures.ok;
    }

pub returns-in_err-given-clause-err : goal.returns-in_err-given-clause-err
returns-in_err-given-clause-err g c =
    let p = err_from_is_err_and c.from_residual.result c.from_residual.ensures.1 in
    rw (p.1, p.2) (not_added c.in_err-given.ensures.err)

pub returns-in_err-before-clause-err : goal.returns-in_err-before-clause-err
returns-in_err-before-clause-err g c =
    let p = err_from_is_err_and c.from_residual-in_err-before.result c.from_residual-in_err-before.ensures.1 in
    rw (p.1, p.2) (not_priced c.in_ok-given.given c.in_ok-given.ensures.ok c.in_err-before.ensures.err)

pub returns-in_err-ended-clause-err : goal.returns-in_err-ended-clause-err
returns-in_err-ended-clause-err g c =
    let p = err_from_is_err_and c.from_residual-in_err-ended.result c.from_residual-in_err-ended.ensures.1 in
    rw (p.1, p.2) (not_run c.add.new.self c.in_ok-given.given c.in_ok-given.ensures.ok c.in_err-ended.ensures.err)

pub returns-in_err-derivation-clause-err : goal.returns-in_err-derivation-clause-err
returns-in_err-derivation-clause-err g c =
    let p = err_from_is_err_and c.from_residual-in_err-derivation.result c.from_residual-in_err-derivation.ensures.1 in
    rw (p.1, p.2) (not_derived c.add.new.self c.saturate.new.self c.in_ok-given.given c.in_ok-ended.ended c.in_ok-given.ensures.ok c.in_ok-ended.ensures.ok c.in_ok-ended.ensures.rest c.in_err-derivation.ensures.err)
