use Rattle.std.proofs.Common.{[], sym, ◌∙◌, ap}
use Rattle.slotted_certificates.specs.Scopes.{names, turned}
use Rattle.slotted_certificates.proofs.Levels.{left-has, left-levels, names-more}
use Rattle.slotted_certificates.proofs.scopes.Scopes.leave.Goals as goal

pub invariant_of-self-then-has_room : goal.invariant_of-self-then-has_room
invariant_of-self-then-has_room c =
    left-levels c.pop.new.self.items c.self.inside.opened.items c.self.inside.levels.items c.set_level.new.levels.items c.in-Some.name c.in-Some.before
    c.self.invariant c.in-Some.ensures.items c.set_level.ensures

pub invariant_of-self-else-has_room : goal.invariant_of-self-else-has_room
invariant_of-self-else-has_room c =
    left-has c.pop.new.self.items c.self.inside.opened.items c.self.inside.levels.items c.in-Some.name c.in-Some.before
    c.self.invariant c.in-Some.ensures.items (c.has_room.ensures.no c.if-has_room.false)

pub returns-then-has_room : goal.returns-then-has_room
returns-then-has_room c = record {
  left = sym c.self.view_is ∙ (ap (λ os. names (turned os [])) c.in-Some.ensures.items ∙ names-more c.pop.new.self.items c.in-Some.name c.in-Some.before);
}

pub returns-else-has_room : goal.returns-else-has_room
returns-else-has_room c = record {
  left = sym c.self.view_is ∙ (ap (λ os. names (turned os [])) c.in-Some.ensures.items ∙ names-more c.pop.new.self.items c.in-Some.name c.in-Some.before);
}
