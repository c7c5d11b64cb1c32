use Rattle.std.proofs.Common.{◌≡◌, ap, sym, ◌∙◌, subst}
use Rattle.std.specs.Prelude.{None, IsSome}
use Rattle.slotted_theory.specs.FiniteMaps.{value_of}
use Rattle.slotted_matching.specs.Naming.{NamesMore}
use Rattle.slotted_matching.proofs.Names.{name-added, named-last, no-name}
use Rattle.slotted_matching.proofs.naming.name_number.Goals as goal

pub returns-clause-named : goal.returns-clause-named
returns-clause-named c =
    let xs = c.args.names.now.items in
    let new : value_of xs c.args.number ≡ None = no-name xs c.args.number c.name_of.result c.is_some.result (c.name_of.ensures ∙ ap (λ ys. value_of ys c.args.number) c.deref.ensures.value) c.is_some.ensures c.if-is_some.false in
    subst (λ ys. IsSome (value_of ys c.args.number)) (sym c.in_ok-push.ensures.items) (named-last xs c.args.number c.in_ok-slot.slot new)

pub returns-clause-names : goal.returns-clause-names
returns-clause-names c =
    let xs = c.args.names.now.items in
    let new : value_of xs c.args.number ≡ None = no-name xs c.args.number c.name_of.result c.is_some.result (c.name_of.ensures ∙ ap (λ ys. value_of ys c.args.number) c.deref.ensures.value) c.is_some.ensures c.if-is_some.false in
    subst (NamesMore c.args.table.now xs c.fresh.new.self) (sym c.in_ok-push.ensures.items)
    (name-added c.args.table.now c.fresh.new.self xs c.args.number c.in_ok-slot.slot new c.in_ok-slot.ensures.unused c.in_ok-slot.ensures.known c.fresh.ensures.more)
