use Rattle.std.proofs.Common.{ℕ, List, ◌∙◌, sym, ap}
use Rattle.std.proofs.lemmas.Bool.{false≢true}
use Rattle.slotted_theory.specs.FiniteMaps.{value_of}
use Rattle.slotted_theory.specs.Shape.{number_in}
use Rattle.slotted_model.specs.Correspondence.{flipped}
use Rattle.slotted_outlines.specs.Seen.{lefts, rights}
use Rattle.slotted_alike.specs.Frames.{numbers_under}
use Rattle.slotted_alike.proofs.Partners.{partner_found, partner_next}
use Rattle.slotted_alike.proofs.alike.partner.Goals as goal

pub loop-slot-init : goal.loop-slot-init
loop-slot-init c =
    ap (λ (m : List (ℕ × ℕ)). value_of (flipped (numbers_under (lefts c.args.binders.now) m)) (number_in (rights c.args.binders.now) c.args.name)) (sym (c.into_iter-slot-iterator.ensures.into_iter_gives ∙ c.iter-slot-items.ensures.pairs))

pub returns-then-same_name : goal.returns-then-same_name
returns-then-same_name c =
    partner_found (lefts c.args.binders.now) c.args.left.now c.loop-slot.slot-iterator c.next.new.self (number_in (rights c.args.binders.now) c.args.name) c.in-Some.slot c.in-Some.own c.loop-slot.invariant c.in-Some.ensures.steps (c.same_name.ensures.0 c.if-same_name.true)

pub loop-slot-preserved : goal.loop-slot-preserved
loop-slot-preserved c =
    partner_next (lefts c.args.binders.now) c.args.left.now c.loop-slot.slot-iterator c.next.new.self (number_in (rights c.args.binders.now) c.args.name) c.in-Some.slot c.in-Some.own c.loop-slot.invariant c.in-Some.ensures.steps (λ e. false≢true (sym c.if-same_name.false ∙ c.same_name.ensures.1 e))

pub returns : goal.returns
returns c = sym (c.loop-slot.invariant ∙ ap (λ (m : List (ℕ × ℕ)). value_of (flipped (numbers_under (lefts c.args.binders.now) m)) (number_in (rights c.args.binders.now) c.args.name)) c.in-None.ensures.steps.0)
