use Rattle.std.proofs.Common.{[], ◌∷◌, inr, refl, ◌∙◌}
use Rattle.std.specs.Prelude.{Err}
use Rattle.std.proofs.lemmas.Result.{err_from_is_err_and}
use Rattle.slotted_explain.specs.Nodes.{to_applied}
use Rattle.slotted_commands.specs.Sessions.{canonically, runs_out_here, runs_out_later, next_term, no_term}
use Rattle.slotted_explain.proofs.CallerLemmas.{term_later, id_later}
use Rattle.slotted_commands.proofs.Steps.{gains_syn, in_manner, runs_out, terms_run_out}
use Rattle.slotted_commands.proofs.session.add_both.Goals as goal

pub returns-in_err-one-clause-err : goal.returns-in_err-one-clause-err
returns-in_err-one-clause-err g c =
    let p = err_from_is_err_and c.from_residual.result c.from_residual.ensures.1 in
    rw (p.1, p.2) (in_manner canonically g.L.LanguageChildren.read g.L.Printable.written c.args.graph.now c.read_both.new.graph (c.args.left.now ∷ c.args.right.now ∷ []) c.in_err-one.field-0.0 c.in_err-one.ensures.err)

pub add_syn_expr-requires : goal.add_syn_expr-requires
add_syn_expr-requires g c = inr c.in_ok-one.ensures.ok.left_valid

pub returns-in_err-left-clause-err : goal.returns-in_err-left-clause-err
returns-in_err-left-clause-err g c =
    let read = c.in_ok-one.ensures.ok in
    let e = c.in_err-left.ensures in
    let p = err_from_is_err_and c.from_residual-in_err-left.result c.from_residual-in_err-left.ensures.1 in
    let short = runs_out canonically c.read_both.new.graph c.add_syn_expr.new.self c.in_ok-one.one (Err c.in_err-left.field-0.0) c.in_err-left.field-0.0 refl read.sound_now e.failed.0 e.fails.1 (λ o. (e.full o, e.unknown o)) e.only e.more in
    rw (p.1, p.2) (terms_run_out canonically g.L.LanguageChildren.read g.L.Printable.written c.args.graph.now c.read_both.new.graph c.add_syn_expr.new.self (c.args.left.now ∷ c.args.right.now ∷ []) (c.in_ok-one.one ∷ c.in_ok-one.two ∷ []) c.in_err-left.field-0.0 read.sound read.writes (runs_out_here short))

pub add_syn_expr-requires-2 : goal.add_syn_expr-requires-2
add_syn_expr-requires-2 g c = inr (term_later c.read_both.new.graph.table c.add_syn_expr.new.self.table c.in_ok-left.ensures.more c.in_ok-one.two c.in_ok-one.ensures.ok.right_valid)

pub returns-in_err-right-clause-err : goal.returns-in_err-right-clause-err
returns-in_err-right-clause-err g c =
    let read = c.in_ok-one.ensures.ok in
    let left = c.in_ok-left.ensures in
    let gains_one = gains_syn c.read_both.new.graph c.add_syn_expr.new.self c.in_ok-one.one c.in_ok-left.left left.fails.0 left.valid left.term left.found left.extends left.adds left.more left.kept left.filed left.takes in
    let e = c.in_err-right.ensures in
    let p = err_from_is_err_and c.from_residual-in_err-right.result c.from_residual-in_err-right.ensures.1 in
    let short = runs_out canonically c.add_syn_expr.new.self c.add_syn_expr-2.new.self c.in_ok-one.two (Err c.in_err-right.field-0.0) c.in_err-right.field-0.0 refl gains_one.sound e.failed.0 e.fails.1 (λ o. (e.full o, e.unknown o)) e.only e.more in
    rw (p.1, p.2) (terms_run_out canonically g.L.LanguageChildren.read g.L.Printable.written c.args.graph.now c.read_both.new.graph c.add_syn_expr-2.new.self (c.args.left.now ∷ c.args.right.now ∷ []) (c.in_ok-one.one ∷ c.in_ok-one.two ∷ []) c.in_err-right.field-0.0 read.sound read.writes (runs_out_later (to_applied c.in_ok-left.left) gains_one (runs_out_here short)))

pub returns-clause-ok : goal.returns-clause-ok
returns-clause-ok g c =
    let read = c.in_ok-one.ensures.ok in
    let left = c.in_ok-left.ensures in
    let gains_one = gains_syn c.read_both.new.graph c.add_syn_expr.new.self c.in_ok-one.one c.in_ok-left.left left.fails.0 left.valid left.term left.found left.extends left.adds left.more left.kept left.filed left.takes in
    let right = c.in_ok-right.ensures in
    let gains_two = gains_syn c.add_syn_expr.new.self c.add_syn_expr-2.new.self c.in_ok-one.two c.in_ok-right.right right.fails.0 right.valid right.term right.found right.extends right.adds right.more right.kept right.filed right.takes in
    record {
      first = c.in_ok-one.one;
      second = c.in_ok-one.two;
      before = c.read_both.new.graph;
      sound = read.sound;
      writes = read.writes;
      gains = next_term gains_one (next_term gains_two no_term);
      sound_now = gains_two.sound;
      left_valid = id_later c.add_syn_expr.new.self c.add_syn_expr-2.new.self (to_applied c.in_ok-left.left) right.extends right.more left.valid;
      right_valid = right.valid;
      left_term = right.extends.terms (to_applied c.in_ok-left.left) left.valid.full ∙ left.term;
      right_term = right.term;
    }
