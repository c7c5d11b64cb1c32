use Rattle.std.proofs.Common.{◌≡◌, ◌∙◌, sym, None, inl, inr}
use Rattle.slotted_slots.specs.Maps.{value_of}
use Rattle.slotted_languages.specs.Fresh.{at_hand}
use Rattle.slotted_languages.proofs.Chosen.{entered_known, entered_new, no_value}
use Rattle.slotted_languages.proofs.HandedOn.{handed_memory, handed_short, no_slots, not_refused, slots_handed, takes_nothing}
use Rattle.slotted_languages.proofs.Taken.{entered_taken}
use Rattle.slotted_languages.proofs.renaming.new_name.Goals as goal

pub returns-clause-taken : goal.returns-clause-taken
returns-clause-taken g c =
    let m = c.args.names.now in
    let missing : value_of m c.args.number ≡ None = sym c.get.ensures ∙ c.in_default.is in
    entered_taken c.args.table.now c.choose_name.new.table c.args.avoid.now (g.L.LanguageChildren.form c.args.node.now).names m c.insert.new.self c.args.number c.in_ok-new.new missing c.in_ok-insert.ensures.ok c.in_ok-new.ensures.taken

pub returns-in-Some-clause-ok : goal.returns-in-Some-clause-ok
returns-in-Some-clause-ok g c = entered_known (g.L.LanguageChildren.form c.args.node.now).names c.args.avoid.now c.args.free.now c.args.names.now c.args.number c.args.name c.args.table.now c.in-Some.new (sym c.get.ensures ∙ c.in-Some.is)

pub returns-in-Some-clause-count : goal.returns-in-Some-clause-count
returns-in-Some-clause-count g c = takes_nothing 1 (at_hand c.args.avoid.now c.args.names.now (g.L.LanguageChildren.form c.args.node.now)) c.args.table.now

pub returns-in-Some-clause-full : goal.returns-in-Some-clause-full
returns-in-Some-clause-full g c is = not_refused c.in-Some.new is

pub returns-in-Some-clause-needed : goal.returns-in-Some-clause-needed
returns-in-Some-clause-needed g c is = not_refused c.in-Some.new is

pub returns-in_err-new-clause-spared : goal.returns-in_err-new-clause-spared
returns-in_err-new-clause-spared g c h = c.choose_name.ensures.spared (elim h [
  | inl q ↦ no_value (value_of c.args.names.now c.args.number) (sym c.get.ensures ∙ c.in_default.is) q
  | inr q ↦ q
])

pub returns-in_err-new-clause-full : goal.returns-in_err-new-clause-full
returns-in_err-new-clause-full g c is = c.choose_name.ensures.full (c.in_err-new.was ∙ slots_handed c.from_residual.result c.in_err-new.field-0.0 c.from_residual.ensures.1 is)

pub returns-in_err-new-clause-needed : goal.returns-in_err-new-clause-needed
returns-in_err-new-clause-needed g c is h = elim h [
  | inl q ↦ no_value (value_of c.args.names.now c.args.number) (sym c.get.ensures ∙ c.in_default.is) q
  | inr q ↦ no_value (value_of c.args.free.now c.args.number) (c.choose_name.ensures.needed (c.in_err-new.was ∙ slots_handed c.from_residual.result c.in_err-new.field-0.0 c.from_residual.ensures.1 is)) q
]

pub returns-in_err-new-clause-only : goal.returns-in_err-new-clause-only
returns-in_err-new-clause-only g c = handed_short c.from_residual.result c.in_err-new.field-0.0 c.from_residual.ensures.1 (inr c.in_err-new.ensures.only)

pub returns-in_err-insert-clause-spared : goal.returns-in_err-insert-clause-spared
returns-in_err-insert-clause-spared g c h = c.choose_name.ensures.spared (elim h [
  | inl q ↦ no_value (value_of c.args.names.now c.args.number) (sym c.get.ensures ∙ c.in_default.is) q
  | inr q ↦ q
])

pub returns-in_err-insert-clause-full : goal.returns-in_err-insert-clause-full
returns-in_err-insert-clause-full g c is = no_slots c.from_residual-in_err-insert.result c.in_err-insert.field-0.0 c.from_residual-in_err-insert.ensures.1 c.in_err-insert.ensures.memory is

pub returns-in_err-insert-clause-needed : goal.returns-in_err-insert-clause-needed
returns-in_err-insert-clause-needed g c is = no_slots c.from_residual-in_err-insert.result c.in_err-insert.field-0.0 c.from_residual-in_err-insert.ensures.1 c.in_err-insert.ensures.memory is

pub returns-in_err-insert-clause-only : goal.returns-in_err-insert-clause-only
returns-in_err-insert-clause-only g c = handed_memory c.from_residual-in_err-insert.result c.in_err-insert.field-0.0 c.from_residual-in_err-insert.ensures.1 c.in_err-insert.ensures.memory

pub returns-in_err-new-clause-count : goal.returns-in_err-new-clause-count
returns-in_err-new-clause-count g c = c.choose_name.ensures.count

pub returns-in_err-insert-clause-count : goal.returns-in_err-insert-clause-count
returns-in_err-insert-clause-count g c = c.choose_name.ensures.count

pub returns-clause-ok : goal.returns-clause-ok
returns-clause-ok g c = entered_new (g.L.LanguageChildren.form c.args.node.now).names c.args.avoid.now c.args.free.now c.args.names.now c.args.number c.args.name c.args.table.now c.choose_name.new.table c.insert.new.self c.in_ok-new.new (sym c.get.ensures ∙ c.in_default.is) c.in_ok-new.ensures.ok c.in_ok-insert.ensures.ok

pub returns-clause-spared : goal.returns-clause-spared
returns-clause-spared g c h = c.choose_name.ensures.spared (elim h [
  | inl q ↦ no_value (value_of c.args.names.now c.args.number) (sym c.get.ensures ∙ c.in_default.is) q
  | inr q ↦ q
])

pub returns-clause-count : goal.returns-clause-count
returns-clause-count g c = c.choose_name.ensures.count

pub returns-clause-full : goal.returns-clause-full
returns-clause-full g c is = not_refused c.in_ok-new.new is

pub returns-clause-needed : goal.returns-clause-needed
returns-clause-needed g c is = not_refused c.in_ok-new.new is
