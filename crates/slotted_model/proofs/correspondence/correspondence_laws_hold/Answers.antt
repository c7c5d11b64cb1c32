use Rattle.slotted_model.proofs.Correspondences.PartialInjections.{key_in_order, one_partner, in_order-ext, turned-partial, turned-pair, turned-by, turned-turned, turned-composite, composite-partial, composite-over, composite-by, composite-composite, identity-partial, identity-pair, identity-both, identity-composite, composite-identity}
use Rattle.slotted_model.proofs.Correspondences.FullMaps.{equal_sides_iff, same_names-partial, same_names-over, same_names-by, with_values-full, same_names-with_values, same_names-turned, full-partial}
use Rattle.slotted_model.proofs.Correspondences.Listing.{partial_injection_iff}
use Rattle.slotted_model.proofs.Correspondences.Matching.{same_names_iff, match_iff}
use Rattle.slotted_model.proofs.Correspondences.Middle.{each_occurs, middle_iff}
use Rattle.slotted_model.proofs.Correspondences.Joining.{joined-agree, back_and_forth, can_join_iff, composite-can_join, bridge, find_composite, composite-full}
use Rattle.slotted_model.proofs.Correspondences.Numbers.{numbered-form, numbered-form_only, match-numbered_iff}
use Rattle.slotted_model.proofs.correspondence.correspondence_laws_hold.Goals as goal

pub returns : goal.returns
returns c = record {
  partial_injection_is_plain = partial_injection_iff;
  pairs_are_of_slots = λ P Q A a s t h. (key_in_order P A a.in_order s t h, a.within s t h);
  slots_have_one_partner = λ P Q A a. one_partner P A a.in_order;
  pairs_determine = λ P Q A B a b h. in_order-ext P A B a.in_order b.in_order (λ s t. (h s t).0) (λ s t. (h s t).1);
  turned_is_inverse = λ P Q A a. (turned-partial P Q A a, λ s t. (turned-pair Q A s t, turned-by P Q A a s t));
  composite_goes_over = λ P Q R A B a b. (composite-partial P Q R A B a b, λ s u. (composite-over A B s u, λ r. composite-by Q A B b.in_order s r.0 u r.1 r.2));
  identity_stays = λ P. (identity-partial P, λ s t. (identity-pair P s t, identity-both P s t));
  turned_twice = turned-turned;
  composite_turns = turned-composite;
  composite_associates = composite-composite;
  identity_is_neutral = λ P Q A a. (identity-composite P Q A a, composite-identity P Q A a);
  correspondence_is_sharing = λ P Q m n f g. (same_names-partial P Q m n f g, λ s t. (same_names-over m n s t, λ r. same_names-by Q m n g s t r.0 r.1 r.2));
  renaming_keeps_full_maps = with_values-full;
  renaming_keeps_correspondence = same_names-with_values;
  exchanged_sides_turn = same_names-turned;
  equal_sides_are_identity = equal_sides_iff;
  one_correspondence_is_one_bijection = same_names_iff;
  match_is_one_correspondence = match_iff;
  each_correspondence_occurs = each_occurs;
  middle_exists = middle_iff;
  joining_is_tested = can_join_iff;
  composite_joins = composite-can_join;
  agreeing_maps_join = bridge;
  joined_maps_agree = joined-agree;
  back_and_forth_stays = back_and_forth;
  finds_compose = find_composite;
  full_maps_are_partial_injections = full-partial;
  full_maps_compose = composite-full;
  numbered_is_form = numbered-form;
  numbered_is_only = numbered-form_only;
  match_is_one_numbered_form = match-numbered_iff;
}
