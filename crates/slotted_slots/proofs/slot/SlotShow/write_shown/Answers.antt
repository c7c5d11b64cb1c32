-- Each kind prints its own way.
use Rattle.std.proofs.Common.{◌≡◌, ◌/◌, ◌++◌, codes, decimal, subst, sym, arith}
use Rattle.slotted_slots.specs.Table.{shown_slot}
use Rattle.slotted_slots.proofs.Printing.{shown_slot-numeric, shown_slot-fresh, shown_slot-name, shown_slot-absent, shown_slot-unused}
use Rattle.slotted_slots.proofs.slot.SlotShow.write_shown.Goals as goal

pub returns-in-0 : goal.returns-in-0
returns-in-0 g c plain ok =
    let text = subst (λ n. shown_slot c.args.table.now n ≡ codes "$" ++ decimal (c.self.inside.0 / 4)) c.self.view_is (shown_slot-numeric _ _ c.in-0.is) in
    rw text (c.write.ensures.writes plain ok)

pub returns-in-1 : goal.returns-in-1
returns-in-1 g c plain ok =
    let text = subst (λ n. shown_slot c.args.table.now n ≡ codes "$f" ++ decimal (c.self.inside.0 / 4)) c.self.view_is (shown_slot-fresh _ _ c.in-1.is) in
    rw text (c.write-in-1.ensures.writes plain ok)

pub returns-in-Some : goal.returns-in-Some
returns-in-Some g c plain ok =
    let text = subst (λ n. shown_slot c.args.table.now n ≡ codes "$" ++ c.in-Some.name.now) c.self.view_is (shown_slot-name _ _ _ c.in-2.is (sym c.in-Some.ensures)) in
    rw text (c.write-in-Some.ensures.writes plain ok)

pub returns-in-None : goal.returns-in-None
returns-in-None g c plain ok =
    let text = subst (λ n. shown_slot c.args.table.now n ≡ codes "$?") c.self.view_is (shown_slot-absent _ _ c.in-2.is (sym c.in-None.ensures)) in
    rw text (c.write-in-None.ensures.writes plain ok)

pub returns-in_default : goal.returns-in_default
returns-in_default g c plain ok =
    let text = subst (λ n. shown_slot c.args.table.now n ≡ codes "$?") c.self.view_is (shown_slot-unused _ _ (omega arith)) in
    rw text (c.write-in_default.ensures.writes plain ok)
