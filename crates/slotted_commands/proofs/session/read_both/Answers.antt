use Rattle.std.proofs.Common.{[], ◌∷◌, refl, ◌∙◌}
use Rattle.std.specs.Prelude.{Ok}
use Rattle.std.proofs.lemmas.Result.{err_from_is_err_and}
use Rattle.slotted_commands.specs.Sessions.{refused_here, refused_later, next_text, no_text}
use Rattle.slotted_explain.proofs.CallerLemmas.{term_later}
use Rattle.slotted_commands.proofs.Steps.{sound_graph, text_refused, later_text_refused, writes_term, is_refused}
use Rattle.slotted_commands.proofs.session.read_both.Goals as goal

pub returns-in_err-left-clause-err : goal.returns-in_err-left-clause-err
returns-in_err-left-clause-err g c =
    let at = c.in_err-left.ensures in
    let p = err_from_is_err_and c.from_residual.result c.from_residual.ensures.1 in
    rw (p.1, p.2) (text_refused g.L.LanguageChildren.read g.L.Printable.written c.args.graph.now c.parse_expr.new.self c.args.left.now (c.args.right.now ∷ []) c.in_err-left.field-0.0 at.reads at.stays (λ failed. cc (at.failed.1 failed)) at.answer)

pub returns-in_err-right-clause-err : goal.returns-in_err-right-clause-err
returns-in_err-right-clause-err g c =
    let sound = sound_graph c.args.graph.now.failed (Ok c.in_ok-left.left) c.in_ok-left.left refl c.in_ok-left.ensures.failed.1 in
    let one = c.in_ok-left.ensures in
    let at = c.in_err-right.ensures in
    let p = err_from_is_err_and c.from_residual-in_err-right.result c.from_residual-in_err-right.ensures.1 in
    let writes_one = writes_term g.L.LanguageChildren.read c.args.graph.now c.parse_expr.new.self c.args.left.now one.reads c.in_ok-left.left (one.answer sound) in
    rw (p.1, p.2) (later_text_refused g.L.LanguageChildren.read g.L.Printable.written c.args.graph.now c.parse_expr-2.new.self (c.args.left.now ∷ c.args.right.now ∷ []) c.in_err-right.field-0.0 sound
    (refused_later writes_one (refused_here (is_refused g.L.LanguageChildren.read c.parse_expr.new.self c.parse_expr-2.new.self c.args.right.now at.reads _ (at.answer (one.reads.failed ∙ sound))))))

pub returns-clause-ok : goal.returns-clause-ok
returns-clause-ok g c =
    let sound = sound_graph c.args.graph.now.failed (Ok c.in_ok-left.left) c.in_ok-left.left refl c.in_ok-left.ensures.failed.1 in
    let one = c.in_ok-left.ensures in
    let two = c.in_ok-right.ensures in
    let sound_later = one.reads.failed ∙ sound in
    let writes_one = writes_term g.L.LanguageChildren.read c.args.graph.now c.parse_expr.new.self c.args.left.now one.reads c.in_ok-left.left (one.answer sound) in
    let writes_two = writes_term g.L.LanguageChildren.read c.parse_expr.new.self c.parse_expr-2.new.self c.args.right.now two.reads c.in_ok-right.right (two.answer sound_later) in
    record {
      sound = sound;
      writes = next_text writes_one (next_text writes_two no_text);
      sound_now = two.reads.failed ∙ sound_later;
      left_valid = term_later c.parse_expr.new.self.table c.parse_expr-2.new.self.table two.reads.more c.in_ok-left.left one.valid;
      right_valid = two.valid;
    }
