-- A valid id lacks no name.
use Rattle.std.proofs.Common.{◌∙◌, ap, inr, rules}
use Rattle.slotted_slots.specs.Table.{Table}
use Rattle.slotted_proofs.specs.Equations.{to_applied}
use Rattle.slotted_graph.proofs.CallerLemmas.{full-valid}
use Rattle.slotted_graph.proofs.FilledNames.{term_makes, term_runs_out}
use Rattle.slotted_explain.proofs.print.side_text.Goals as goal

pub get_syn_expr-requires : goal.get_syn_expr-requires
get_syn_expr-requires g c = inr (full-valid c.args.graph.now (to_applied c.args.a.now) c.requires.valid)

pub returns-clause-text : goal.returns-clause-text
returns-clause-text g c = record {
  term = c.in_ok-term.term;
  table = c.table.result.now;
  is = c.in_ok-term.ensures.term c.requires.valid.full;
  known = c.in_ok-term.ensures.valid;
  names = ap (λ (t : Table). t.names) c.table.ensures ∙ c.get_syn_expr.ensures.takes.names;
  bytes = c.in_ok-text.ensures.ok;
}

pub returns-clause-count : goal.returns-clause-count
returns-clause-count g c = term_makes c.args.graph.now c.get_syn_expr.new.self (to_applied c.args.a.now) c.requires.valid.full c.get_syn_expr.ensures.count

pub returns-in_err-term-clause-count : goal.returns-in_err-term-clause-count
returns-in_err-term-clause-count g c = term_makes c.args.graph.now c.get_syn_expr.new.self (to_applied c.args.a.now) c.requires.valid.full c.get_syn_expr.ensures.count

pub returns-in_err-term-clause-full : goal.returns-in_err-term-clause-full
returns-in_err-term-clause-full g c e =
    term_runs_out c.args.graph.now c.get_syn_expr.new.self (to_applied c.args.a.now) c.requires.valid.full (c.in_err-term.ensures.full (search rules))

pub returns-in_err-text-clause-count : goal.returns-in_err-text-clause-count
returns-in_err-text-clause-count g c = term_makes c.args.graph.now c.get_syn_expr.new.self (to_applied c.args.a.now) c.requires.valid.full c.get_syn_expr.ensures.count
