use Rattle.std.proofs.Common.{ℕ, List, ◌≡◌, ◌∙◌, ◌++◌, sym, subst}
use Rattle.std.proofs.lemmas.List.{append-nil}
use Rattle.slotted_slots.specs.Ascending.{IsAscending}
use Rattle.slotted_model.specs.Applied.{keys}
use Rattle.slotted_model.specs.Correspondence.{same_names}
use Rattle.slotted_outlines.specs.Seen.{lefts, rights}
use Rattle.slotted_alike.specs.Frames.{numbers_under}
use Rattle.slotted_alike.proofs.Partners.{pairing_more, pairing_none}
use Rattle.slotted_alike.proofs.alike.partners.Goals as goal

pub loop-slot-init : goal.loop-slot-init
loop-slot-init c =
    let whole : c.into_iter-slot-iterator.result ≡ c.args.right.now = c.into_iter-slot-iterator.ensures.into_iter_gives ∙ c.iter-slot-items.ensures.pairs in
    record {
      pairs = (λ i. c.new-map.ensures i ++ same_names (numbers_under (rights c.args.binders.now) (whole i)) (numbers_under (lefts c.args.binders.now) c.args.left.now));
      ascends = subst (λ (m : List (ℕ × ℕ)). IsAscending (keys m)) (sym (λ i. c.new-map.ensures i ++ whole i)) c.iter-slot-items.ensures.ascending;
    }

pub loop-slot-preserved-in-Continue-1 : goal.loop-slot-preserved-in-Continue-1
loop-slot-preserved-in-Continue-1 c =
    pairing_more c.args.right.now c.loop-slot.map c.loop-slot.slot-iterator c.next.new.self c.insert.new.self (rights c.args.binders.now) (numbers_under (lefts c.args.binders.now) c.args.left.now) c.in-Some.slot c.in-Some.name c.in-Some-partner.other
    c.loop-slot.invariant c.in-Some.ensures.steps (sym c.partner.ensures ∙ c.in-Some-partner.is) c.in_ok-insert.ensures.ok

pub loop-slot-preserved : goal.loop-slot-preserved
loop-slot-preserved c =
    pairing_none c.args.right.now c.loop-slot.map c.loop-slot.slot-iterator c.next.new.self (rights c.args.binders.now) (numbers_under (lefts c.args.binders.now) c.args.left.now) c.in-Some.slot c.in-Some.name
    c.loop-slot.invariant c.in-Some.ensures.steps (sym c.partner.ensures ∙ c.in_default.is)

pub returns-clause-ok : goal.returns-clause-ok
returns-clause-ok c =
    sym (append-nil c.loop-slot.map) ∙ ((λ i. c.loop-slot.map ++ same_names (numbers_under (rights c.args.binders.now) (sym c.in-None.ensures.steps.0 i)) (numbers_under (lefts c.args.binders.now) c.args.left.now)) ∙ c.loop-slot.invariant.pairs)
