-- A term prints as the pattern of its nodes.
use Rattle.std.proofs.Common.{refl, ◌∙◌}
use Rattle.slotted_terms.specs.Shown.{term_text}
use Rattle.slotted_terms.proofs.PatternPrints.{patterns_print}
use Rattle.slotted_terms.proofs.expr.RecExpr.text.Goals as goal

pub returns-clause-ok : goal.returns-clause-ok
returns-clause-ok g c =
    let written = g.L.Printable.written in
    let t = c.args.table.now in
    let u = c.args.self.now in
    c.in_ok-text.ensures.ok
    ∙ patterns_print g.L.LanguageChildren.form g.L.LanguageChildren.shown written g.met.L.Printable.written_as t u (term_text written t u) refl c.in_ok-pattern.pattern c.in_ok-pattern.ensures.ok

pub returns-clause-patterns : goal.returns-clause-patterns
returns-clause-patterns g c =
    patterns_print g.L.LanguageChildren.form g.L.LanguageChildren.shown g.L.Printable.written g.met.L.Printable.written_as c.args.table.now c.args.self.now _ (returns-clause-ok g c)
