use Rattle.std.proofs.Common.{[], ◌∷◌, ◌∙◌, ap}
use Rattle.slotted_certificates.specs.Scopes.{names, turned}
use Rattle.slotted_certificates.proofs.Levels.{entered-levels, names-more}
use Rattle.slotted_certificates.proofs.scopes.Scopes.enter.Goals as goal

pub invariant_of-self-2 : goal.invariant_of-self-2
invariant_of-self-2 c =
    entered-levels c.self.inside.opened.items c.push.new.self.items c.self.inside.levels.items c.make_room.new.levels.items c.set_level.new.levels.items
    c.args.name c.level_of-level.result c.depth_of.result c.self.invariant c.make_room.ensures.same c.level_of-level.ensures c.in_ok-push.ensures.items c.depth_of.ensures c.set_level.ensures

pub returns : goal.returns
returns c = record {
  entered = ap (λ os. names (turned os [])) c.in_ok-push.ensures.items ∙ (names-more c.self.inside.opened.items c.args.name c.level_of-level.result ∙ ap (λ xs. c.args.name ∷ xs) c.self.view_is);
}
