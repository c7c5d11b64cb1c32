use Rattle.std.proofs.Common.{◌<◌, get_or, ap, ◌∙◌, below_more, arith}
use Rattle.std.proofs.lemmas.List.{get_or_default}
use Rattle.slotted_theory.specs.Term.{Term}
use Rattle.slotted_terms.proofs.expr.term_count.Goals as goal
use Rattle.slotted_terms.proofs.expr.term_count.Goals.{then-operator-gt0, else-operator-gt0}

pub loop-term-preserved : goal.loop-term-preserved
loop-term-preserved g c =
    let row = c.args.row.now in
    let here : (d : Term) → 0 < (get_or row c.loop-term.term-index d).op =
    λ d. let e = ap (λ (x : Term). x.op) (c.term-item.is ∙ get_or_default row c.loop-term.term-index c.term-item.result d c.loop-term-test.true) in
    omega (arith, e, c.operator.ensures.op, c.operator.ensures.positive) in
    record {
      count = elim c.if-operator-gt0.branch [
        | then-operator-gt0 w ↦ omega (arith, w.count-is, c.loop-term.invariant.count)
        | else-operator-gt0 w ↦ omega (arith, w.if-operator-gt0.false, c.operator.ensures.positive)
      ];
      terms = λ j d. below_more (λ i. 0 < (get_or row i d).op) c.loop-term.term-index (λ i. c.loop-term.invariant.terms i d) (here d) j;
    }

pub returns : goal.returns
returns g c = record {
  count = omega (arith, c.loop-term.invariant.count, c.loop-term-test.false, c.loop-term.auto.term-index-end);
  terms = λ k d h. c.loop-term.invariant.terms k d (omega (arith, h, c.loop-term-test.false));
}
