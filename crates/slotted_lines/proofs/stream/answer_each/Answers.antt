use Rattle.std.proofs.Common.{arith}
use Rattle.slotted_lines.proofs.Reading.{so_far_ends, so_far_steps, stays_at_end, only_line}
use Rattle.slotted_lines.specs.States.{state_of}
use Rattle.slotted_lines.proofs.stream.answer_each.Goals as goal

pub returns-then-branch-eq0-clause-answers : goal.returns-then-branch-eq0-clause-answers
returns-then-branch-eq0-clause-answers g c =
    so_far_ends g.L.LanguageChildren.read g.L.Printable.written g.L.LanguageChildren.form (state_of c.args.session.now) (state_of c.loop.session) (g.R.Read.remaining c.args.input.now) (g.R.Read.remaining c.loop.input) (g.W.Write.contents c.args.output.now) (g.W.Write.contents c.loop.output)
    c.loop.invariant.0 (c.in_ok-read_until.ensures.end c.if-branch-eq0.true)

pub returns-then-branch-eq0-clause-end : goal.returns-then-branch-eq0-clause-end
returns-then-branch-eq0-clause-end g c =
    stays_at_end g.L.LanguageChildren.read g.L.Printable.written g.L.LanguageChildren.form (state_of c.args.session.now) (state_of c.loop.session) (g.R.Read.remaining c.args.input.now) (g.R.Read.remaining c.loop.input) (g.R.Read.remaining c.read_until.new.self) (g.W.Write.contents c.args.output.now) (g.W.Write.contents c.loop.output)
    c.loop.invariant.0 (c.in_ok-read_until.ensures.end c.if-branch-eq0.true) c.in_ok-read_until.ensures.rest

pub loop-preserved : goal.loop-preserved
loop-preserved g c =
    let e = c.in_ok-read_until.ensures in
    let answers = c.in_ok-answer_line.ensures.answers in (
      so_far_steps g.L.LanguageChildren.read g.L.Printable.written g.L.LanguageChildren.form (state_of c.args.session.now) (state_of c.loop.session) (state_of c.answer_line.new.session) (g.R.Read.remaining c.args.input.now) (g.R.Read.remaining c.loop.input) (g.R.Read.remaining c.read_until.new.self)
          (g.W.Write.contents c.args.output.now) (g.W.Write.contents c.loop.output) (g.W.Write.contents c.answer_line.new.output) c.deref.result.now answers.0
          c.loop.invariant.0 (only_line (g.R.Read.remaining c.loop.input) c.clear.new.self.items c.read_until.new.buf.items c.deref.result.now e.bytes c.clear.ensures.items c.deref.ensures.value)
          e.rest (omega (arith, c.deref.ensures.len, e.ok, c.clear.ensures.len, c.if-branch-eq0.false)) answers.1 answers.2,
      c.in_ok-answer_line.ensures.valid,
    )
