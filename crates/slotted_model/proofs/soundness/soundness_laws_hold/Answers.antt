use Rattle.slotted_model.specs.Find.{find_class, find}
use Rattle.slotted_model.proofs.Correspondences.Pairs.{Contains-value, Contains-of_value}
use Rattle.slotted_model.proofs.Finds.Finding.{leads, find_class-live, find_map-live, find_class-follows, find_map-follows}
use Rattle.slotted_model.proofs.Finds.NormalIds.{found-class_live, found-slots, found-valid, found-again, found-renamed, found-same, found-name, full-is_valid, filling-found}
use Rattle.slotted_model.proofs.Represented.FillingEquations.{filled-equation}
use Rattle.slotted_model.proofs.Finds.NothingAsserted.{nothing-full, nothing-alpha}
use Rattle.slotted_model.proofs.Finds.TwinNumbers.{twins-pair, twins-move}
use Rattle.slotted_model.proofs.Represented.FilledNodes.{a_filled_node, filled-full, filled-normal}
use Rattle.slotted_model.proofs.Finds.Steps.{one_is_enough, reflexive-sound, symmetric-sound, transitive-sound, congruent-sound}
use Rattle.slotted_model.proofs.Finds.Leaves.{leaves-listed, leaves-stay}
use Rattle.slotted_model.proofs.Finds.FindProofs.{left_side-full, right_side-full, sides-equation, entry-holds, leaves-enough, asserted-leaves, proved-holds, find_equation-live, find_equation-follows, find_equation-composite, found_alike-join, found_alike-equal, found_alike-derivable}
use Rattle.slotted_model.proofs.Finds.Entering.{entered-asserted, equation-last, equation-earlier}
use Rattle.slotted_model.proofs.Finds.NewClasses.{later-newer, valid-newer, find-same}
use Rattle.slotted_model.proofs.Finds.Explaining.{found_alike-explained, find_equation-explained, found_equation-explained, by_finds-explained}
use Rattle.slotted_model.proofs.Finds.Shortcuts.{shortcut-sound, shortcut-find, shortcut-later}
use Rattle.slotted_model.proofs.Finds.Keeping.{nothing-sound, entered-sound, link-sound, drop-sound, new_class-sound, new_class-asserted, united}
use Rattle.slotted_model.proofs.Finds.Linking.{link-refines, link-later}
use Rattle.slotted_model.proofs.Finds.Dropping.{kept-over, kept-step, kept-can_drop, drop-later, drop-lives, drop-slots, drop-refines}
use Rattle.slotted_model.proofs.Finds.Replacing.{refined-alike, refines-then}
use Rattle.slotted_model.proofs.Finds.Uniting.{half-over, found_equation-over, half-step, found-step, found_equation-shares, can_link, linked-alike}
use Rattle.slotted_model.specs.Applied.{IsMap}
use Rattle.slotted_model.proofs.Finds.Congruence.{same_normal-congruent, normal-moved, refined-normal, normal_args-live}
use Rattle.slotted_model.proofs.Finds.Twins.{shape-twin, by_finds-holds}
use Rattle.slotted_model.proofs.soundness.soundness_laws_hold.Goals as goal

pub returns : goal.returns
returns c = record {
  live_classes_are_found = λ nodes found l i h live. (find_class-live nodes found (leads nodes found l) i h live, find_map-live nodes found (leads nodes found l) i h live);
  finds_follow_entries = λ nodes found l i h. (find_class-follows nodes found (leads nodes found l) i h, find_map-follows nodes found (leads nodes found l) i h);
  finds_are_live = λ nodes found l a v. (found-class_live nodes found l a v, found-slots nodes found l a v, found-valid nodes found l a v);
  found_is_found_again = found-again;
  finds_move_with_names = found-renamed;
  finds_need_used_slots = found-same;
  finds_have_old_names = λ found a x c.
      let s = Contains-of_value (find found a).1 x c in
      let r = found-name found a s.0 x s.1 in
      Contains-value a.1 r.0 x r.2;
  full_ids_are_valid = full-is_valid;
  fillings_find_alike = filling-found;
  fillings_keep_equations = λ nodes slots a b left right va vb f g. filled-equation nodes slots slots a b left right va vb f g;
  filled_nodes_are_there = a_filled_node;
  filled_nodes_are_full = filled-full;
  filled_nodes_have_one_normal_form = filled-normal;
  one_pair_is_enough = one_is_enough;
  sides_have_the_equation = λ nodes e o. (left_side-full nodes e o, right_side-full nodes e o, sides-equation nodes e o);
  reflexive_is_sound = reflexive-sound;
  symmetric_is_sound = symmetric-sound;
  transitive_is_sound = transitive-sound;
  congruent_is_sound = congruent-sound;
  steps_are_sound = entry-holds;
  leaves_are_enough = leaves-enough;
  leaves_are_asserted = asserted-leaves;
  leaves_are_listed = leaves-listed;
  leaves_stay = leaves-stay;
  entries_hold = proved-holds;
  live_finds_are_entries = find_equation-live;
  finds_are_proved_along = λ nodes found l i h. (find_equation-follows nodes found l i h, find_equation-composite nodes found l i h);
  found_alike_are_joined = found_alike-join;
  found_alike_are_equal = λ nodes found proofs s. found_alike-equal nodes s.canonical found proofs s.linked s.proved s.exact;
  found_alike_are_derivable = λ nodes found proofs s. found_alike-derivable nodes s.canonical found proofs s.linked s.proved s.exact;
  nothing_asserted_is_alpha = λ nodes found proofs s nothing. (nothing-full nodes found proofs s nothing, nothing-alpha nodes found proofs s nothing);
  found_alike_are_explained = λ nodes found proofs s. found_alike-explained nodes found proofs s.linked s.proved s.exact;
  find_equations_are_explained = λ nodes found proofs s. find_equation-explained nodes found proofs s.linked s.proved s.exact;
  found_equations_are_explained = λ nodes found proofs s. found_equation-explained nodes found proofs s.linked s.proved s.exact;
  congruent_by_finds_is_explained = λ nodes found proofs s. by_finds-explained nodes found proofs s.linked s.proved s.exact;
  nothing_is_sound = nothing-sound;
  new_classes_keep_sound = new_class-sound;
  new_classes_assert_nothing = new_class-asserted;
  new_classes_keep_finds = λ older newer found l x one p a v. (valid-newer older newer x one found l p a v, find-same older newer x one found l p a v);
  new_entries_keep_sound = entered-sound;
  new_entries_stand_last = λ proofs entry. (equation-last proofs entry, equation-earlier proofs entry);
  explicit_entries_are_asserted = entered-asserted;
  found_equations_are_proved = λ nodes found l e o. (half-over nodes found l e o, found_equation-over nodes found l e o, half-step nodes found l e o, found-step nodes found l e);
  found_equations_share_names = λ nodes found l a b fa fb i. record { left = find_class found a.0; right = find_class found b.0; pairs = found_equation-shares nodes found l a b fa fb i };
  found_sides_can_link = can_link;
  links_keep_sound = link-sound;
  links_refine = link-refines;
  linked_sides_find_alike = linked-alike;
  unions_unite = united;
  kept_equations_are_proved = λ nodes e o. (kept-over nodes e o, kept-step nodes e o);
  slots_without_partner_can_drop = kept-can_drop;
  drops_keep_sound = drop-sound;
  drops_keep_these_slots = λ nodes found l c slots p can. (drop-lives nodes found l c slots p can, drop-slots nodes found l c slots p can);
  drops_refine = drop-refines;
  shortcuts_keep_sound = shortcut-sound;
  shortcuts_keep_finds = λ nodes found l i p h d a k. shortcut-find nodes found l i p h d a k;
  links_move_moments = link-later;
  other_events_keep_moments = λ nodes found moment proof l later. (
    λ newer x one. later-newer nodes newer x one found l proof moment later,
    λ c slots can. drop-later nodes found l c slots proof can moment later,
    λ i h dead. shortcut-later nodes found l i proof h dead moment later,
  );
  refined_stays_alike = refined-alike;
  refinements_compose = refines-then;
  normal_forms_move_with_names = λ found f d n. normal-moved (λ a. IsMap a.1) found f d n.children;
  normal_forms_are_found = λ nodes found l d c. normal_args-live nodes found l d.args c;
  normal_forms_are_refined = refined-normal;
  one_normal_form_is_congruent = same_normal-congruent;
  twins_pair_by_numbers = λ nodes found a b full twin s t. twins-pair nodes found a b full twin s t;
  twins_move_together = twins-move;
  equal_shapes_have_twins = shape-twin;
  congruent_by_finds_holds = λ nodes found proofs s. by_finds-holds nodes s.canonical found proofs s.linked s.proved s.exact;
}
