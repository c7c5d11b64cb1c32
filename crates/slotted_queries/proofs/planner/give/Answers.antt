use Rattle.std.proofs.Common.{◌∙◌, inl, inr, refl}
use Rattle.std.proofs.lemmas.Bool.{false≢true}
use Rattle.std.proofs.lemmas.Result.{err_from_is_err_and}
use Rattle.slotted_languages.proofs.HandedOn.{answered-well, other-refusal}
use Rattle.slotted_graph.proofs.Extending.{extends-read, extends-then}
use Rattle.slotted_queries.specs.Planning.{cost_refused, ran_out}
use Rattle.slotted_queries.proofs.Planned.{refused-text, unfailed}
use Rattle.slotted_queries.proofs.planner.give.Goals as goal

pub returns-in_err-term-clause-err : goal.returns-in_err-term-clause-err
returns-in_err-term-clause-err g c =
    let e = c.in_err-term.ensures in
    let p = err_from_is_err_and c.from_residual.result c.from_residual.ensures.1 in
    rw (p.1, p.2) (refused-text g.L.LanguageChildren.read g.C.CostFunction.refuses c.args.graph.now c.parse_expr.new.self c.args.text.now c.in_err-term.field-0.0 e.reads e.failed e.answer)

pub returns-in_err-term-clause-extends : goal.returns-in_err-term-clause-extends
returns-in_err-term-clause-extends g c = inr (extends-read c.args.graph.now c.parse_expr.new.self c.in_err-term.ensures.reads)

pub cost_rec-requires : goal.cost_rec-requires
cost_rec-requires g c = c.in_ok-term.ensures.valid.whole

pub returns-in_err-cost-clause-err : goal.returns-in_err-cost-clause-err
returns-in_err-cost-clause-err g c =
    let p = err_from_is_err_and c.from_residual-in_err-cost.result c.from_residual-in_err-cost.ensures.1 in
    rw (p.1, p.2) (cost_refused (answered-well c.args.graph.now.failed c.in_ok-term.term c.in_ok-term.ensures.failed) c.in_err-cost.ensures.err)

pub returns-in_err-cost-clause-extends : goal.returns-in_err-cost-clause-extends
returns-in_err-cost-clause-extends g c = inr (extends-read c.args.graph.now c.parse_expr.new.self c.in_ok-term.ensures.reads)

pub add_syn_expr-requires : goal.add_syn_expr-requires
add_syn_expr-requires g c = inr c.in_ok-term.ensures.valid

pub returns-in_err-id-clause-err : goal.returns-in_err-id-clause-err
returns-in_err-id-clause-err g c =
    let t = c.in_ok-term.ensures in
    let e = c.in_err-id.ensures in
    let p = err_from_is_err_and c.from_residual-in_err-id.result c.from_residual-in_err-id.ensures.1 in
    let well = answered-well c.args.graph.now.failed c.in_ok-term.term t.failed in
    rw (p.1, p.2) (ran_out well (other-refusal c.parse_expr.new.self.failed c.in_err-id.field-0.0 (t.reads.failed ∙ well) e.failed e.only))

pub returns-in_err-id-clause-extends : goal.returns-in_err-id-clause-extends
returns-in_err-id-clause-extends g c = inl (c.in_err-id.ensures.fails.1 refl)

pub returns-clause-ok : goal.returns-clause-ok
returns-clause-ok g c =
    let t = c.in_ok-term.ensures in
    let a = c.in_ok-id.ensures in
    let well = answered-well c.args.graph.now.failed c.in_ok-term.term t.failed in (
      c.in_ok-term.term,
      record {
        well = well;
        between = c.parse_expr.new.self;
        reads = t.answer well;
        only = t.reads;
        asked = a.leaves;
        sound = unfailed c.add_syn_expr.new.self.failed (λ f. false≢true (a.fails.0 f));
        full = a.valid;
        term = a.term;
      },
      c.in_ok-cost.ensures.ok,
    )

pub returns-clause-extends : goal.returns-clause-extends
returns-clause-extends g c =
    inr (extends-then c.args.graph.now c.parse_expr.new.self c.add_syn_expr.new.self (extends-read c.args.graph.now c.parse_expr.new.self c.in_ok-term.ensures.reads) c.in_ok-id.ensures.leaves.extends)
