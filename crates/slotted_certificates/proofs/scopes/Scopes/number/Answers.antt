use Rattle.std.proofs.Common.{◌∙◌, ap, arith}
use Rattle.slotted_check.proofs.WalkSteps.{some-map}
use Rattle.slotted_certificates.specs.Scopes.{numbering}
use Rattle.slotted_certificates.proofs.Levels.{bound_number, free_number}
use Rattle.slotted_certificates.proofs.scopes.Scopes.number.Goals as goal

pub returns-then-level-eq0 : goal.returns-then-level-eq0
returns-then-level-eq0 c =
    let is = free_number c.self.inside.opened.items c.self.inside.levels.items c.args.name c.depth_of-depth.result c.level_of-level.result c.self.invariant c.depth_of-depth.ensures c.level_of-level.ensures (omega (arith, c.if-level-eq0.true)) in
    some-map c.sum.result (λ n e. e ∙ (is ∙ ap (λ xs. numbering xs c.args.name) c.self.view_is)) c.sum.ensures

pub returns : goal.returns
returns c =
    let is = bound_number c.self.inside.opened.items c.self.inside.levels.items c.args.name c.depth_of-depth.result c.level_of-level.result c.self.invariant c.depth_of-depth.ensures c.level_of-level.ensures (λ z. absurd (omega (arith, c.if-level-eq0.false, z))) in
    some-map c.difference.result (λ n e. e ∙ (is ∙ ap (λ xs. numbering xs c.args.name) c.self.view_is)) c.difference.ensures
