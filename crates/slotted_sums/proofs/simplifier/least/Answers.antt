use Rattle.std.proofs.Common.{◌≡◌, Bool, true, false, inl, inr, subst}
use Rattle.std.specs.Prelude.{string_bytes}
use Rattle.std.proofs.lemmas.Result.{err_from_is_err_and}
use Rattle.slotted_slots.specs.Table.{Table}
use Rattle.slotted_languages.proofs.HandedOn.{answered-well}
use Rattle.slotted_terms.specs.Shown.{term_text}
use Rattle.slotted_graph.proofs.Extending.{extends-takes}
use Rattle.slotted_sums.proofs.Simplified.{least-refused}
use Rattle.slotted_sums.proofs.simplifier.least.Goals as goal

pub extract_by-requires : goal.extract_by-requires
extract_by-requires g c = c.requires

pub returns-in_err-cost-clause-err : goal.returns-in_err-cost-clause-err
returns-in_err-cost-clause-err g c =
    let e = c.in_err-cost.ensures in
    let p = err_from_is_err_and c.from_residual.result c.from_residual.ensures.1 in
    rw (p.1, p.2) (least-refused g.C.CostFunction.refuses c.args.graph.now c.in_err-cost.field-0.0 e.failed e.only)

pub returns-in_err-cost-clause-extends : goal.returns-in_err-cost-clause-extends
returns-in_err-cost-clause-extends g c = extends-takes c.args.graph.now c.extract_by.new.eg c.in_err-cost.ensures.takes

pub returns-in_err-text-clause-err : goal.returns-in_err-text-clause-err
returns-in_err-text-clause-err g c =
    let p = err_from_is_err_and c.from_residual-in_err-text.result c.from_residual-in_err-text.ensures.1 in
    rw (p.1, p.2) (inr (answered-well c.args.graph.now.failed _ c.in_ok-cost.ensures.failed, inl (inl c.in_err-text.ensures.err)))

pub returns-in_err-text-clause-extends : goal.returns-in_err-text-clause-extends
returns-in_err-text-clause-extends g c = extends-takes c.args.graph.now c.extract_by.new.eg c.in_ok-cost.ensures.takes

pub returns-clause-ok : goal.returns-clause-ok
returns-clause-ok g c =
    let t = c.in_ok-cost.ensures in
    record {
      well = answered-well c.args.graph.now.failed _ t.failed;
      term = c.in_ok-cost.term;
      least = t.least;
      size = t.cost;
      bytes = subst (λ (y : Table). string_bytes c.in_ok-text.text ≡ term_text g.L.Printable.written y c.in_ok-cost.term) c.table.ensures c.in_ok-text.ensures.ok;
      takes = t.takes;
    }

pub returns-clause-extends : goal.returns-clause-extends
returns-clause-extends g c = extends-takes c.args.graph.now c.extract_by.new.eg c.in_ok-cost.ensures.takes
