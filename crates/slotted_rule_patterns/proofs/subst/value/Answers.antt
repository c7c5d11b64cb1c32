use Rattle.std.proofs.Common.{ap, ◌∙◌}
use Rattle.std.specs.Prelude.{option_map}
use Rattle.slotted_proofs.specs.Equations.{to_applied}
use Rattle.slotted_rule_patterns.proofs.Values.{value-found, copied}
use Rattle.slotted_rule_patterns.proofs.subst.value.Goals as goal

pub returns : goal.returns
returns c = copied c.get.result ∙ (ap (option_map to_applied) c.get.ensures.value ∙ value-found c.args.subst.now c.args.variable.now)
