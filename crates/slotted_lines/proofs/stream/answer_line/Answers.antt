use Rattle.std.proofs.Common.{[], sym, ◌∙◌, subst}
use Rattle.std.specs.Io.BufRead.{strip_last}
use Rattle.slotted_lines.specs.Streams.{LineWrites, empty_line}
use Rattle.slotted_lines.specs.States.{state_of}
use Rattle.slotted_lines.proofs.Reading.{Appends-nothing, is_empty, line_answered, line_left, on_ok}
use Rattle.slotted_lines.proofs.stream.answer_line.Goals as goal

pub returns-then-is_empty-clause-answers : goal.returns-then-is_empty-clause-answers
returns-then-is_empty-clause-answers g c =
    let none = is_empty c.in-Ok.text.now (sym c.is_empty.ensures ∙ c.if-is_empty.true) in
    let line = sym none ∙ (c.in-Ok.ensures.cases.0 ∙ c.without_line_feed.ensures) in
    ([], subst (λ l. LineWrites g.L.LanguageChildren.read g.L.Printable.written g.L.LanguageChildren.form (state_of c.args.session.now) l [] (state_of c.args.session.now)) line empty_line, Appends-nothing (g.W.Write.contents c.args.output.now))

pub returns-clause-answers : goal.returns-clause-answers
returns-clause-answers g c =
    on_ok c.flush.result
    (line_answered g.L.LanguageChildren.read g.L.Printable.written g.L.LanguageChildren.form (state_of c.args.session.now) (state_of c.answer_in-told.new.session) c.answer_in-told.result (strip_last 10 c.args.line.now) c.without_line_feed.result.now c.in-Ok.text.now
    (g.W.Write.contents c.args.output.now) (g.W.Write.contents c.writeln.new.self) (g.W.Write.contents c.flush.new.self)
    c.without_line_feed.ensures c.in-Ok.ensures.cases.0 c.in-Ok.ensures.cases.1 (sym c.is_empty.ensures ∙ c.if-is_empty.false) c.answer_in-told.ensures.answers c.in_ok-writeln.ensures.bytes c.flush.ensures.bytes)

pub returns-then-is_empty-clause-leaves : goal.returns-then-is_empty-clause-leaves
returns-then-is_empty-clause-leaves g c utf8 =
    let none = is_empty c.in-Ok.text.now (sym c.is_empty.ensures ∙ c.if-is_empty.true) in
    let line = sym none ∙ (c.in-Ok.ensures.cases.0 ∙ c.without_line_feed.ensures) in
    ([], subst (λ l. LineWrites g.L.LanguageChildren.read g.L.Printable.written g.L.LanguageChildren.form (state_of c.args.session.now) l [] (state_of c.args.session.now)) line empty_line)

pub returns-in_err-writeln-clause-leaves : goal.returns-in_err-writeln-clause-leaves
returns-in_err-writeln-clause-leaves g c utf8 =
    line_left g.L.LanguageChildren.read g.L.Printable.written g.L.LanguageChildren.form (state_of c.args.session.now) (state_of c.answer_in-told.new.session) c.answer_in-told.result (strip_last 10 c.args.line.now) c.without_line_feed.result.now c.in-Ok.text.now
    c.without_line_feed.ensures c.in-Ok.ensures.cases.0 c.in-Ok.ensures.cases.1 (sym c.is_empty.ensures ∙ c.if-is_empty.false) c.answer_in-told.ensures.answers

pub returns-clause-leaves : goal.returns-clause-leaves
returns-clause-leaves g c utf8 =
    line_left g.L.LanguageChildren.read g.L.Printable.written g.L.LanguageChildren.form (state_of c.args.session.now) (state_of c.answer_in-told.new.session) c.answer_in-told.result (strip_last 10 c.args.line.now) c.without_line_feed.result.now c.in-Ok.text.now
    c.without_line_feed.ensures c.in-Ok.ensures.cases.0 c.in-Ok.ensures.cases.1 (sym c.is_empty.ensures ∙ c.if-is_empty.false) c.answer_in-told.ensures.answers
