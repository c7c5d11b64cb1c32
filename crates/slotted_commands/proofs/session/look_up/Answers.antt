use Rattle.std.proofs.Common.{[], ◌∷◌, inr, refl, ◌∙◌}
use Rattle.std.specs.Prelude.{Ok, Err}
use Rattle.std.proofs.lemmas.Result.{err_from_is_err_and}
use Rattle.slotted_commands.specs.Sessions.{by_look_up, next_text, no_text, runs_out_here}
use Rattle.slotted_commands.proofs.Steps.{gains_found, in_manner, runs_out, sound_graph, terms_run_out, text_refused, writes_term}
use Rattle.slotted_commands.proofs.session.look_up.Goals as goal

pub returns-in_err-term-clause-err : goal.returns-in_err-term-clause-err
returns-in_err-term-clause-err g c =
    let at = c.in_err-term.ensures in
    let p = err_from_is_err_and c.from_residual.result c.from_residual.ensures.1 in
    rw (p.1, p.2) (in_manner by_look_up g.L.LanguageChildren.read g.L.Printable.written c.args.graph.now c.parse_expr.new.self (c.args.text.now ∷ []) c.in_err-term.field-0.0
    (text_refused g.L.LanguageChildren.read g.L.Printable.written c.args.graph.now c.parse_expr.new.self c.args.text.now [] c.in_err-term.field-0.0 at.reads at.stays (λ failed. cc (at.failed.1 failed)) at.answer))

pub add_expr-requires : goal.add_expr-requires
add_expr-requires g c = inr c.in_ok-term.ensures.valid

pub returns-in_err-id-clause-err : goal.returns-in_err-id-clause-err
returns-in_err-id-clause-err g c =
    let sound = sound_graph c.args.graph.now.failed (Ok c.in_ok-term.term) c.in_ok-term.term refl c.in_ok-term.ensures.failed.1 in
    let at = c.in_ok-term.ensures in
    let e = c.in_err-id.ensures in
    let p = err_from_is_err_and c.from_residual-in_err-id.result c.from_residual-in_err-id.ensures.1 in
    let writes = writes_term g.L.LanguageChildren.read c.args.graph.now c.parse_expr.new.self c.args.text.now at.reads c.in_ok-term.term (at.answer sound) in
    let short = runs_out by_look_up c.parse_expr.new.self c.add_expr.new.self c.in_ok-term.term (Err c.in_err-id.field-0.0) c.in_err-id.field-0.0 refl (at.reads.failed ∙ sound) e.failed.0 e.fails.1 e.full e.only e.more in
    rw (p.1, p.2) (terms_run_out by_look_up g.L.LanguageChildren.read g.L.Printable.written c.args.graph.now c.parse_expr.new.self c.add_expr.new.self (c.args.text.now ∷ []) (c.in_ok-term.term ∷ []) c.in_err-id.field-0.0 sound (next_text writes no_text) (runs_out_here short))

pub returns-clause-ok : goal.returns-clause-ok
returns-clause-ok g c =
    let sound = sound_graph c.args.graph.now.failed (Ok c.in_ok-term.term) c.in_ok-term.term refl c.in_ok-term.ensures.failed.1 in
    let at = c.in_ok-term.ensures in
    let e = c.in_ok-id.ensures in
    let writes = writes_term g.L.LanguageChildren.read c.args.graph.now c.parse_expr.new.self c.args.text.now at.reads c.in_ok-term.term (at.answer sound) in
    record {
      term = c.in_ok-term.term;
      before = c.parse_expr.new.self;
      sound = sound;
      writes = next_text writes no_text;
      gains = gains_found c.parse_expr.new.self c.add_expr.new.self c.in_ok-term.term c.in_ok-id.id e.fails.0 e.id e.found e.equal e.kept e.answers e.extends e.adds e.more e.filed (at.reads.failed ∙ sound) e.takes;
    }
