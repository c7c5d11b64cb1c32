-- Each step is handed what the steps before it left, in a graph that extends the ones before.
use Rattle.std.proofs.Common.{◌≡◌, false, inr, refl, subst, sym}
use Rattle.std.proofs.lemmas.Result.{err_from_is_err_and}
use Rattle.slotted_lists.proofs.Booleans.{unless-true}
use Rattle.slotted_model.specs.Cost.{AtMost}
use Rattle.slotted_languages.proofs.HandedOn.{other-refusal, run-refused}
use Rattle.slotted_costs.specs.Costs.{costs_by, cost_of_term}
use Rattle.slotted_proofs.specs.Equations.{to_applied}
use Rattle.slotted_graph.specs.Extension.{ExtendsTo}
use Rattle.slotted_graph.proofs.Extending.{extends-then, full-extends}
use Rattle.slotted_graph.proofs.StatesLater.{later-extends, stands-later, still-valid}
use Rattle.slotted_rules.specs.Applying.{AreModified}
use Rattle.slotted_rules.proofs.AppliedRules.{ok-well}
use Rattle.slotted_rules.proofs.Modified.{modified-extends}
use Rattle.slotted_rules.specs.Seen.{parts_of}
use Rattle.slotted_rules.specs.WrittenLaws.{can-search}
use Rattle.slotted_queries.specs.Planning.{not_found, not_given, not_run}
use Rattle.slotted_queries.proofs.Planned.{best-follows, best-no-larger, runs-rules, well-refused}
use Rattle.slotted_queries.proofs.planner.find_plan.Goals as goal

pub returns-in_err-id-clause-err : goal.returns-in_err-id-clause-err
returns-in_err-id-clause-err g c =
    let p = err_from_is_err_and c.from_residual.result c.from_residual.ensures.1 in
    rw (p.1, p.2) (not_given c.in_err-id.ensures.err)

pub returns-in_err-id-clause-extends : goal.returns-in_err-id-clause-extends
returns-in_err-id-clause-extends g c = c.give.ensures.extends

pub run-requires : goal.run-requires
run-requires g c =
    let gives = c.in_ok-id.ensures.ok.1 in
    let first = unless-true c.give.new.graph.failed gives.sound c.give.ensures.extends in
    can-search g.L.LanguageChildren.form c.args.planner.now.egraph c.give.new.graph c.args.rules.now gives.well first c.requires

pub returns-in_err-run-clause-err : goal.returns-in_err-run-clause-err
returns-in_err-run-clause-err g c =
    let gives = c.in_ok-id.ensures.ok.1 in
    let e = c.in_err-run.ensures in
    let p = err_from_is_err_and c.from_residual-in_err-run.result c.from_residual-in_err-run.ensures.1 in
    rw (p.1, p.2) (not_run gives.well (run-refused c.in_err-run.field-0.0 (other-refusal c.give.new.graph.failed c.in_err-run.field-0.0 gives.sound e.failed e.err)))

pub returns-in_err-run-clause-extends : goal.returns-in_err-run-clause-extends
returns-in_err-run-clause-extends g c =
    let gives = c.in_ok-id.ensures.ok.1 in
    let first = unless-true c.give.new.graph.failed gives.sound c.give.ensures.extends in
    later-extends c.args.planner.now.egraph c.give.new.graph c.run.new.self.egraph first c.run.ensures.extends

pub least-requires : goal.least-requires
least-requires g c =
    still-valid c.give.new.graph c.run.new.self.egraph (to_applied c.in_ok-id.id) c.in_ok-id.ensures.ok.1.full c.run.ensures.extends

pub returns-in_err-after-clause-err : goal.returns-in_err-after-clause-err
returns-in_err-after-clause-err g c =
    let p = err_from_is_err_and c.from_residual-in_err-after.result c.from_residual-in_err-after.ensures.1 in
    let ran = c.run.new.self.egraph in
    let well : ran.failed ≡ false = ok-well _ ran.failed c.run.result c.in_ok-run.field-0 c.in_ok-run.was c.run.ensures.fails.0 in
    rw (p.1, p.2) (not_found c.in_ok-id.ensures.ok.1.well (well-refused g.C.CostFunction.refuses ran c.in_err-after.field-0.0 well c.in_err-after.ensures.err))

pub returns-in_err-after-clause-extends : goal.returns-in_err-after-clause-extends
returns-in_err-after-clause-extends g c =
    let gives = c.in_ok-id.ensures.ok.1 in
    let ran = c.run.new.self.egraph in
    let first = unless-true c.give.new.graph.failed gives.sound c.give.ensures.extends in
    let well : ran.failed ≡ false = ok-well _ ran.failed c.run.result c.in_ok-run.field-0 c.in_ok-run.was c.run.ensures.fails.0 in
    let grows : ExtendsTo c.give.new.graph ran = unless-true ran.failed well c.run.ensures.extends in
    inr (extends-then c.args.planner.now.egraph ran c.least.new.graph (extends-then c.args.planner.now.egraph c.give.new.graph ran first grows) c.least.ensures.extends)

pub returns-clause-extends : goal.returns-clause-extends
returns-clause-extends g c =
    let gives = c.in_ok-id.ensures.ok.1 in
    let ran = c.run.new.self.egraph in
    let first = unless-true c.give.new.graph.failed gives.sound c.give.ensures.extends in
    let well : ran.failed ≡ false = ok-well _ ran.failed c.run.result c.in_ok-run.field-0 c.in_ok-run.was c.run.ensures.fails.0 in
    let grows : ExtendsTo c.give.new.graph ran = unless-true ran.failed well c.run.ensures.extends in
    inr (extends-then c.args.planner.now.egraph ran c.least.new.graph (extends-then c.args.planner.now.egraph c.give.new.graph ran first grows) c.least.ensures.extends)

pub returns-clause-ok : goal.returns-clause-ok
returns-clause-ok g c =
    let form = g.L.LanguageChildren.form in
    let costs = costs_by g.C.Cost.Ord.cmp (g.C.CostFunction.node_cost c.args.costs) in
    let given = c.in_ok-id.ensures.ok in
    let t = given.0 in
    let gives = given.1 in
    let added = c.give.new.graph in
    let p = parts_of c.args.planner.now in
    let ran = parts_of c.run.new.self in
    let id = to_applied c.in_ok-id.id in
    let well : ran.graph.failed ≡ false = ok-well _ ran.graph.failed c.run.result c.in_ok-run.field-0 c.in_ok-run.was c.run.ensures.fails.0 in
    let grows : ExtendsTo added ran.graph = unless-true ran.graph.failed well c.run.ensures.extends in
    let full = full-extends added ran.graph id grows gives.full in
    let stands = stands-later added ran.graph id t grows gives.full gives.term in
    let best = c.in_ok-after.ensures.ok in
    let after = AreModified g.N.Analysis.codes g.N.Analysis.meaning g.N.Analysis.may_ask g.N.Analysis.modifies in
    record {
      term = t;
      id = id;
      added = added;
      gives = gives;
      before = given.2;
      ran = ran;
      by_run = runs-rules form g.Q.Cond.answers after c.args.rules.now (λ a b m. modified-extends g.N.Analysis.codes g.N.Analysis.meaning g.N.Analysis.may_ask g.N.Analysis.modifies a b m) g.K.Clock.tells (record p { graph = added }) ran c.in_ok-run.ensures.ok.told c.in_ok-run.ensures.ok.run;
      best = best;
      follows = best-follows costs ran.graph id t best.term full stands best.least;
      no_larger = subst (λ n. AtMost costs c.in_ok-after.after n) (sym given.2) (subst (λ n. AtMost costs n (cost_of_term costs t)) (sym best.size) (best-no-larger costs ran.graph id t best.term full stands best.least));
      rest = refl;
    }
