use Rattle.std.proofs.Common.{sym, ◌∙◌, ap, map, subst, List}
use Rattle.std.specs.Prelude.{Contains, string_bytes}
use Rattle.slotted_model_rules.specs.Conditions.{Values}
use Rattle.slotted_proofs.specs.Equations.{to_applied}
use Rattle.slotted_matching.proofs.AnswersOver.{names-of_answer}
use Rattle.slotted_matching.proofs.matches.Matches.variables.Goals as goal

pub returns-clause-each : goal.returns-clause-each
returns-clause-each c s h =
    let m = c.self.inside in
    names-of_answer (map string_bytes m.variables.items) (map to_applied m.ids.items) m.count c.self.invariant.count s
    (subst (λ (l : List Values). Contains l s) (sym c.self.view_is) h)
    ∙ ap (map string_bytes) (sym c.deref.ensures.value)
