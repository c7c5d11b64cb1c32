use Rattle.slotted_proofs.proofs.Entering.{nothing_proved, asserted_provable, reflexive_provable, turned_provable, entries_meet, composite_provable, new_can_enter, entering_proved, entering_sound, entered_stands, entering_asserts, others_assert_nothing, proved_newer}
use Rattle.slotted_proofs.proofs.laws.proof_list_laws_hold.Goals as goal

pub returns : goal.returns
returns c = record {
  nothing_is_proved = nothing_proved;
  asserted_is_provable = asserted_provable;
  reflexive_is_provable = reflexive_provable;
  turned_is_provable = turned_provable;
  composite_is_provable = λ nodes list proved p q h k e. (composite_provable nodes list proved p q h k e, entries_meet nodes list proved p q h k e);
  new_can_enter = λ nodes list x proved. new_can_enter nodes list proved x;
  entering_keeps_proved = entering_proved;
  entering_keeps_sound = entering_sound;
  entered_stands = entered_stands;
  entering_asserts = entering_asserts;
  others_assert_nothing = others_assert_nothing;
  new_classes_keep_slots = proved_newer;
}
