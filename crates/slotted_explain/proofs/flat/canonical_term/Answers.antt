-- A valid id lacks no name.
use Rattle.std.proofs.Common.{inr, rules}
use Rattle.slotted_proofs.specs.Equations.{to_applied}
use Rattle.slotted_graph.specs.Graph.{IsFullId}
use Rattle.slotted_graph.proofs.CallerLemmas.{full-valid}
use Rattle.slotted_graph.proofs.FilledNames.{term_makes, term_runs_out}
use Rattle.slotted_explain.proofs.flat.canonical_term.Goals as goal

pub get_syn_expr-requires : goal.get_syn_expr-requires
get_syn_expr-requires g c = inr (full-valid c.args.graph.now (to_applied c.args.a.now) (c.is_full.ensures.0 c.if-not-is_full.false).1)

pub returns-clause-count : goal.returns-clause-count
returns-clause-count g c =
    let valid : IsFullId c.args.graph.now (to_applied c.args.a.now) = (c.is_full.ensures.0 c.if-not-is_full.false).1 in
    term_makes c.args.graph.now c.get_syn_expr.new.self (to_applied c.args.a.now) valid.full c.get_syn_expr.ensures.count

pub returns-in_err-term-clause-count : goal.returns-in_err-term-clause-count
returns-in_err-term-clause-count g c =
    let valid : IsFullId c.args.graph.now (to_applied c.args.a.now) = (c.is_full.ensures.0 c.if-not-is_full.false).1 in
    term_makes c.args.graph.now c.get_syn_expr.new.self (to_applied c.args.a.now) valid.full c.get_syn_expr.ensures.count

pub returns-in_err-term-clause-full : goal.returns-in_err-term-clause-full
returns-in_err-term-clause-full g c e =
    let valid : IsFullId c.args.graph.now (to_applied c.args.a.now) = (c.is_full.ensures.0 c.if-not-is_full.false).1 in
    term_runs_out c.args.graph.now c.get_syn_expr.new.self (to_applied c.args.a.now) valid.full (c.in_err-term.ensures.full (search rules))
