-- The laws of drops, fillings and congruences by finds applied to small graphs, which meet their premises.
use Rattle.std.proofs.Common.{◌≡◌, ℕ, ◌<◌, List, [], ◌∷◌, refl, sym, ◌∙◌, ap, subst, arith, inl}
use Rattle.std.specs.Prelude.{Contains}
use Rattle.slotted_lists.proofs.Contained.{contains_head, contains_tail}
use Rattle.slotted_theory.specs.Nameless.{DTerm}
use Rattle.slotted_model.specs.Correspondence.{IsPartialInjection}
use Rattle.slotted_model.specs.Find.{IsLive, used_slots}
use Rattle.slotted_model.specs.Link.{kept_equation, CanDrop, IsLater, Refines}
use Rattle.slotted_model.specs.ProofList.{IsOver, HoldsFrom, turned_equation, asserted}
use Rattle.slotted_model.specs.Sound.{Sound}
use Rattle.slotted_model.specs.Rest.{size}
use Rattle.slotted_model.specs.Changes.{IsEvent, Lacks, found_entry}
use Rattle.slotted_model.specs.SoundnessClaims.{SoundnessLaws}
use Rattle.slotted_model.specs.RestClaims.{RestLaws}
use Rattle.slotted_model.proofs.Examples.CompletenessExamples.{one_of}
use Rattle.slotted_model.proofs.Examples.CongruenceExample.{is_later}
use Rattle.slotted_model.proofs.Rebuilding.Touching.{touching, touched-is}
use Rattle.slotted_model.proofs.Examples.TurnExamples.{redundant, f_asserted, f_sane, f_dropped, not_zero, f_united}

-- f 7 8 is asserted to equal f 7 9, so f can drop its second slot
first_slot : (s : ℕ) → Contains (0 ∷ []) s → Contains (0 ∷ 1 ∷ []) s
first_slot s c = subst (Contains (0 ∷ 1 ∷ [])) (sym (one_of c)) (contains_head 0 (1 ∷ []))

redundant-partial : IsPartialInjection (0 ∷ 1 ∷ []) (0 ∷ 1 ∷ []) redundant.pairs
redundant-partial = record {
  in_order = refl;
  within = λ s t c. subst (Contains (0 ∷ 1 ∷ [])) (sym (ap (λ (p : ℕ × ℕ). p.1) (one_of c))) (contains_head 0 (1 ∷ []));
  injective = λ s r t c d. ap (λ (p : ℕ × ℕ). p.0) (one_of {y = (s, t)} c) ∙ sym (ap (λ (p : ℕ × ℕ). p.0) (one_of {y = (r, t)} d));
}

none_died : IsLater f_asserted.found 1
none_died i l d = is_later 1 f_asserted.found (omega arith, (omega arith, tt)) i l

second_slot : Lacks f_asserted (found_entry f_asserted 2)
second_slot = inl (1, contains_tail 0 (1 ∷ []) 1 (contains_head 1 []), not_zero)

redundant-over : IsOver f_asserted.nodes redundant
redundant-over = record { left = omega arith; right = omega arith; pairs = redundant-partial }

module _ (laws : SoundnessLaws) where
  can_drop : CanDrop f_asserted.nodes f_asserted.found 0 (0 ∷ [])
  can_drop = laws.slots_without_partner_can_drop f_asserted.nodes f_asserted.found redundant redundant-over refl first_slot

  drop_is_sound : Sound f_asserted.nodes f_dropped.found f_asserted.proofs
  drop_is_sound = laws.drops_keep_sound f_asserted.nodes f_asserted.found f_asserted.proofs 0 (0 ∷ []) 2 f_sane.sound can_drop (omega arith) refl

  keeps_first_slot : IsLive f_dropped.found 0 × (used_slots f_dropped.found 0 ≡ 0 ∷ [])
  keeps_first_slot = laws.drops_keep_these_slots f_asserted.nodes f_asserted.found f_sane.sound.linked 0 (0 ∷ []) 2 can_drop

  drop_refines : Refines f_asserted.nodes f_asserted.found f_dropped.found
  drop_refines = laws.drops_refine f_asserted.nodes f_asserted.found f_sane.sound.linked 0 (0 ∷ []) 2 can_drop

  drop_keeps_moment : IsLater f_dropped.found 1
  drop_keeps_moment = (laws.other_events_keep_moments f_asserted.nodes f_asserted.found 1 2 f_sane.sound.linked none_died).1 0 (0 ∷ []) can_drop

  module _ (rest : RestLaws) where
    drop_is_event : IsEvent f_asserted f_dropped
    drop_is_event = rest.drops_are_events f_asserted f_sane 0 (0 ∷ []) 2 1 can_drop (omega arith) refl (contains_tail 0 (1 ∷ []) 1 (contains_head 1 [])) not_zero (touching f_asserted 0) (touched-is f_asserted tt 0)

    union_falls : size f_dropped < size f_asserted
    union_falls = rest.lacking_unions_fall 2 f_asserted f_dropped f_united f_sane (omega arith) second_slot

  -- there and back along its own equation f equals itself, whatever name its second slot has
  abbrev pairs : List (DTerm × DTerm)
  pairs = asserted f_asserted.nodes f_asserted.proofs

  redundant_holds : HoldsFrom pairs f_asserted.nodes redundant
  redundant_holds = laws.entries_hold f_asserted.nodes f_sane.sound.canonical f_asserted.proofs f_sane.sound.proved 2 (omega arith)

  turned_holds : HoldsFrom pairs f_asserted.nodes (turned_equation f_asserted.nodes redundant)
  turned_holds = laws.symmetric_is_sound pairs f_asserted.nodes (turned_equation f_asserted.nodes redundant) redundant refl redundant_holds

  kept_holds : HoldsFrom pairs f_asserted.nodes (kept_equation redundant)
  kept_holds =
      laws.transitive_is_sound pairs f_asserted.nodes (kept_equation redundant) redundant (turned_equation f_asserted.nodes redundant)
      redundant-over redundant-over (laws.kept_equations_are_proved f_asserted.nodes redundant redundant-over).1 redundant_holds turned_holds
