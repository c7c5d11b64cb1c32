use Rattle.std.proofs.Common.{map}
use Rattle.std.proofs.lemmas.Result.{err_from_is_err_and}
use Rattle.slotted_slots.specs.Syntax.{lexeme_of}
use Rattle.slotted_patterns.specs.declared.grammar.Point.TheVariants.{Due, Base}
use Rattle.slotted_patterns.proofs.ReaderSteps.{followed, follows_whole, refuses_followed}
use Rattle.slotted_patterns.proofs.grammar.read_pattern.Goals as goal

pub returns-in_err-at-in-Due-clause-none : goal.returns-in_err-at-in-Due-clause-none
returns-in_err-at-in-Due-clause-none g c =
    let p = err_from_is_err_and c.from_residual.result c.from_residual.ensures.1 in
    rw (p.1, p.2)
    (refuses_followed g.L.LanguageChildren.form g.L.LanguageChildren.read (map lexeme_of c.args.tokens.now.items) (map lexeme_of c.loop-at.tokens.items) c.loop-at.stack.items c.loop-at.at Due _ c.loop-at.invariant c.in-Due.is c.in_err-at-in-Due.ensures.none)

pub returns-in_err-at-in-Base-clause-none : goal.returns-in_err-at-in-Base-clause-none
returns-in_err-at-in-Base-clause-none g c =
    let p = err_from_is_err_and c.from_residual-in_err-at-in-Base.result c.from_residual-in_err-at-in-Base.ensures.1 in
    rw (p.1, p.2)
    (refuses_followed g.L.LanguageChildren.form g.L.LanguageChildren.read (map lexeme_of c.args.tokens.now.items) (map lexeme_of c.loop-at.tokens.items) c.loop-at.stack.items c.loop-at.at (Base c.in-Base.base) _ c.loop-at.invariant c.in-Base.is c.in_err-at-in-Base.ensures.none)

pub returns-in-Whole-clause-ok : goal.returns-in-Whole-clause-ok
returns-in-Whole-clause-ok g c =
    follows_whole g.L.LanguageChildren.form g.L.LanguageChildren.read (map lexeme_of c.args.tokens.now.items) (map lexeme_of c.loop-at.tokens.items) c.loop-at.stack.items c.loop-at.at c.in-Whole.pattern c.loop-at.invariant c.in-Whole.is

pub loop-at-preserved-in_ok-at-in-Due : goal.loop-at-preserved-in_ok-at-in-Due
loop-at-preserved-in_ok-at-in-Due g c =
    followed g.L.LanguageChildren.form g.L.LanguageChildren.read (map lexeme_of c.args.tokens.now.items) (map lexeme_of c.loop-at.tokens.items) (map lexeme_of c.read_base.new.tokens.items) c.loop-at.stack.items c.read_base.new.stack.items c.loop-at.at Due c.in_ok-at-in-Due.at c.loop-at.invariant c.in-Due.is c.in_ok-at-in-Due.ensures.ok

pub loop-at-preserved : goal.loop-at-preserved
loop-at-preserved g c =
    followed g.L.LanguageChildren.form g.L.LanguageChildren.read (map lexeme_of c.args.tokens.now.items) (map lexeme_of c.loop-at.tokens.items) (map lexeme_of c.read_on.new.tokens.items) c.loop-at.stack.items c.read_on.new.stack.items c.loop-at.at (Base c.in-Base.base) c.in_ok-at-in-Base.at c.loop-at.invariant c.in-Base.is c.in_ok-at-in-Base.ensures.ok
