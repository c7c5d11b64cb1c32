use Rattle.std.proofs.Common.{◌∙◌, inl, inr, refl}
use Rattle.std.specs.Prelude.{Err}
use Rattle.std.proofs.lemmas.Result.{err_from_is_err_and}
use Rattle.slotted_explain.specs.Nodes.{to_applied}
use Rattle.slotted_explain.proofs.CallerLemmas.{term_later}
use Rattle.slotted_graph.proofs.Extending.{extends-read}
use Rattle.slotted_commands.specs.Sessions.{canonically}
use Rattle.slotted_commands.proofs.Steps.{gains_syn, runs_out}
use Rattle.slotted_workspace.specs.Asked.{term_refused}
use Rattle.slotted_workspace.proofs.Readings.{extends-gained, term-read, text-refused}
use Rattle.slotted_workspace.proofs.Saying.{well-answered}
use Rattle.slotted_workspace.proofs.reading.read_term.Goals as goal

pub returns-in_err-term-clause-err : goal.returns-in_err-term-clause-err
returns-in_err-term-clause-err g c =
    let e = c.in_err-term.ensures in
    let p = err_from_is_err_and c.from_residual.result c.from_residual.ensures.1 in
    rw (p.1, p.2) (text-refused g.L.LanguageChildren.read c.args.graph.now c.parse_expr.new.self c.args.text.now e.reads c.in_err-term.field-0.0 e.failed e.stays e.answer)

pub returns-in_err-term-clause-extends : goal.returns-in_err-term-clause-extends
returns-in_err-term-clause-extends g c = inr (extends-read c.args.graph.now c.parse_expr.new.self c.in_err-term.ensures.reads)

pub add_syn_expr-requires : goal.add_syn_expr-requires
add_syn_expr-requires g c = inr c.in_ok-term.ensures.valid

pub returns-in_err-id-clause-err : goal.returns-in_err-id-clause-err
returns-in_err-id-clause-err g c =
    let t = c.in_ok-term.ensures in
    let e = c.in_err-id.ensures in
    let p = err_from_is_err_and c.from_residual-in_err-id.result c.from_residual-in_err-id.ensures.1 in
    let one = term-read g.L.LanguageChildren.read c.args.graph.now c.parse_expr.new.self c.args.text.now t.reads c.in_ok-term.term t.failed t.answer in
    rw (p.1, p.2) (term_refused c.in_ok-term.term c.parse_expr.new.self one.0 one.1
    (runs_out canonically c.parse_expr.new.self c.add_syn_expr.new.self c.in_ok-term.term (Err c.in_err-id.field-0.0) c.in_err-id.field-0.0 refl (t.reads.failed ∙ one.0) e.failed.0 e.fails.1 (λ o. (e.full o, e.unknown o)) e.only e.more))

pub returns-in_err-id-clause-extends : goal.returns-in_err-id-clause-extends
returns-in_err-id-clause-extends g c = inl (c.in_err-id.ensures.fails.1 refl)

pub returns-in_err-id-clause-stays : goal.returns-in_err-id-clause-stays
returns-in_err-id-clause-stays g c = well-answered c.args.graph.now c.in_ok-term.term c.in_ok-term.ensures.failed

pub returns-clause-ok : goal.returns-clause-ok
returns-clause-ok g c =
    let t = c.in_ok-term.ensures in
    let a = c.in_ok-id.ensures in
    let one = term-read g.L.LanguageChildren.read c.args.graph.now c.parse_expr.new.self c.args.text.now t.reads c.in_ok-term.term t.failed t.answer in
    record {
      well = one.0;
      between = c.parse_expr.new.self;
      writes = one.1;
      gains = gains_syn c.parse_expr.new.self c.add_syn_expr.new.self c.in_ok-term.term c.in_ok-id.id a.fails.0 a.valid a.term a.found a.extends a.adds a.more a.kept a.filed a.takes;
    }

pub returns-clause-valid : goal.returns-clause-valid
returns-clause-valid g c = term_later c.parse_expr.new.self.table c.add_syn_expr.new.self.table c.in_ok-id.ensures.more c.in_ok-term.term c.in_ok-term.ensures.valid

pub returns-clause-extends : goal.returns-clause-extends
returns-clause-extends g c =
    let a = c.in_ok-id.ensures in
    extends-gained c.args.graph.now c.parse_expr.new.self c.add_syn_expr.new.self c.in_ok-term.term (to_applied c.in_ok-id.id) c.in_ok-term.ensures.reads
    (gains_syn c.parse_expr.new.self c.add_syn_expr.new.self c.in_ok-term.term c.in_ok-id.id a.fails.0 a.valid a.term a.found a.extends a.adds a.more a.kept a.filed a.takes)

pub returns-clause-stays : goal.returns-clause-stays
returns-clause-stays g c = well-answered c.args.graph.now c.in_ok-term.term c.in_ok-term.ensures.failed
