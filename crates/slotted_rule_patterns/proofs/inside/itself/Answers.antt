use Rattle.std.proofs.Common.{ap, sym, ◌∙◌}
use Rattle.std.specs.Prelude.{Some, None, cond}
use Rattle.slotted_patterns.specs.View.{tree_of}
use Rattle.slotted_rule_patterns.proofs.inside.itself.Goals as goal

pub returns-then-holds : goal.returns-then-holds
returns-then-holds g c = ap (λ b. cond b (Some (tree_of g.L.LanguageChildren.form c.args.pattern.now)) None) (sym c.if-holds.true ∙ c.holds.ensures)

pub returns : goal.returns
returns g c = ap (λ b. cond b (Some (tree_of g.L.LanguageChildren.form c.args.pattern.now)) None) (sym c.if-holds.false ∙ c.holds.ensures)
