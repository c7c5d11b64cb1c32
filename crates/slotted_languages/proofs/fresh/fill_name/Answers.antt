use Rattle.std.proofs.Common.{◌≡◌, ◌∙◌, sym, ap, None, inr}
use Rattle.slotted_slots.specs.Maps.{is_among, value_of, values}
use Rattle.slotted_languages.specs.Fresh.{at_hand}
use Rattle.slotted_languages.proofs.HandedOn.{handed_memory, handed_short, no_slots, not_refused, slots_handed, takes_nothing}
use Rattle.slotted_languages.proofs.Counting.{values_filled}
use Rattle.slotted_languages.proofs.Fills.{one_filled, lacks_of}
use Rattle.slotted_languages.proofs.Taken.{entered_taken, value_kept}
use Rattle.slotted_languages.proofs.fresh.fill_name.Goals as goal

pub returns-clause-ok : goal.returns-clause-ok
returns-clause-ok g c =
    let f = g.L.LanguageChildren.form c.args.node.now in
    let m = c.args.names.now in
    let e = c.in_ok-new.ensures in
    let missing : value_of m c.args.name ≡ None = lacks_of m c.args.name (sym c.contains_key.ensures ∙ c.if-contains_key.false) in
    one_filled c.args.table.now c.fresh_apart.new.table f.names m c.insert.new.self c.args.name c.in_ok-new.new missing c.in_ok-insert.ensures.ok e.unused e.known e.node e.names

pub returns-clause-grown : goal.returns-clause-grown
returns-clause-grown g c z h =
    let m = c.args.names.now in
    let missing : value_of m c.args.name ≡ None = lacks_of m c.args.name (sym c.contains_key.ensures ∙ c.if-contains_key.false) in
    ap (λ n. is_among z (values n)) c.in_ok-insert.ensures.ok ∙ value_kept m c.args.name c.in_ok-new.new z missing h

pub returns-clause-taken : goal.returns-clause-taken
returns-clause-taken g c =
    let m = c.args.names.now in
    let missing : value_of m c.args.name ≡ None = lacks_of m c.args.name (sym c.contains_key.ensures ∙ c.if-contains_key.false) in
    entered_taken c.args.table.now c.fresh_apart.new.table c.args.avoid.now (g.L.LanguageChildren.form c.args.node.now).names m c.insert.new.self c.args.name c.in_ok-new.new missing c.in_ok-insert.ensures.ok c.in_ok-new.ensures.taken

pub returns-clause-values : goal.returns-clause-values
returns-clause-values g c =
    values_filled c.fresh_apart.new.table c.args.names.now c.insert.new.self c.args.name c.in_ok-new.new c.in_ok-insert.ensures.ok c.in_ok-new.ensures.known

pub returns-then-contains_key-clause-values : goal.returns-then-contains_key-clause-values
returns-then-contains_key-clause-values g c z h = inr h

pub returns-then-contains_key-clause-count : goal.returns-then-contains_key-clause-count
returns-then-contains_key-clause-count g c = takes_nothing 1 (at_hand c.args.avoid.now c.args.names.now (g.L.LanguageChildren.form c.args.node.now)) c.args.table.now

pub returns-then-contains_key-clause-full : goal.returns-then-contains_key-clause-full
returns-then-contains_key-clause-full g c is = not_refused tt is

pub returns-in_err-new-clause-full : goal.returns-in_err-new-clause-full
returns-in_err-new-clause-full g c is = c.fresh_apart.ensures.full (c.in_err-new.was ∙ slots_handed c.from_residual.result c.in_err-new.field-0.0 c.from_residual.ensures.1 is)

pub returns-in_err-new-clause-only : goal.returns-in_err-new-clause-only
returns-in_err-new-clause-only g c = handed_short c.from_residual.result c.in_err-new.field-0.0 c.from_residual.ensures.1 (inr c.in_err-new.ensures.only)

pub returns-in_err-insert-clause-full : goal.returns-in_err-insert-clause-full
returns-in_err-insert-clause-full g c is = no_slots c.from_residual-in_err-insert.result c.in_err-insert.field-0.0 c.from_residual-in_err-insert.ensures.1 c.in_err-insert.ensures.memory is

pub returns-in_err-insert-clause-only : goal.returns-in_err-insert-clause-only
returns-in_err-insert-clause-only g c = handed_memory c.from_residual-in_err-insert.result c.in_err-insert.field-0.0 c.from_residual-in_err-insert.ensures.1 c.in_err-insert.ensures.memory

pub returns-in_err-new-clause-count : goal.returns-in_err-new-clause-count
returns-in_err-new-clause-count g c = c.fresh_apart.ensures.count

pub returns-in_err-insert-clause-count : goal.returns-in_err-insert-clause-count
returns-in_err-insert-clause-count g c = c.fresh_apart.ensures.count

pub returns-clause-count : goal.returns-clause-count
returns-clause-count g c = c.fresh_apart.ensures.count

pub returns-clause-full : goal.returns-clause-full
returns-clause-full g c is = not_refused tt is
