use Rattle.std.proofs.Common.{ap}
use Rattle.slotted_model.specs.Link.{CanEnter}
use Rattle.slotted_model.specs.State.{look_up_normal}
use Rattle.slotted_model.specs.ProofList.{ProofEntry, explicit, equation_of}
use Rattle.slotted_model.proofs.Rebuilding.UpTo.{upto-renamed, upto-valid, upto-class, upto-alike, upto-together, linked_to-same, linked_to-turned, linked_to-joined}
use Rattle.slotted_model.proofs.Rebuilding.Rows.{look_up_node-moved, look_up_tree-moved, rest-gives, rest-congruent}
use Rattle.slotted_model.proofs.Rebuilding.EndsGrow.{assertion-exact}
use Rattle.slotted_model.proofs.Rebuilding.QuietTurns.{quiet-run}
use Rattle.slotted_model.proofs.Represented.FilledNodes.{in_turn-normal}
use Rattle.slotted_model.proofs.Rebuilding.RowNodes.{row-looked_up, row-id}
use Rattle.slotted_model.proofs.Rebuilding.Answers.{answer-found}
use Rattle.slotted_model.proofs.Rebuilding.Affected.{affected-marked, unmarked-closed}
use Rattle.slotted_model.proofs.Rebuilding.GoingOn.{goes_on-same, goes_on-then, still-alike, still-equal, still-normal, still-same, still-linked, still-row, still-listed, still-represents}
use Rattle.slotted_model.proofs.Rebuilding.Events.{link-sane, link-goes_on, link-size, drop-sane, drop-goes_on, drop-size, size-live, size-dead}
use Rattle.slotted_model.proofs.Rebuilding.GrowingLists.{proofs-sane, proofs-go_on, symmetry-sane, symmetry-goes_on}
use Rattle.slotted_model.proofs.Rebuilding.Unions.{can_drop-left, can_drop-right, can_link-left, can_link-right, can_list, unites}
use Rattle.slotted_model.proofs.Rebuilding.AfterUnions.{lacking-falls, united-represents}
use Rattle.slotted_model.proofs.Rebuilding.Congruences.{row-shape, congruence-entered}
use Rattle.slotted_model.proofs.Rebuilding.Turning.{turned, acted, waits-below, run, run-no_larger, counted, ended}
use Rattle.slotted_model.proofs.Rebuilding.Ending.{union-ends, next-step, rebuilding-ends}
use Rattle.slotted_model.proofs.Rebuilding.Adding.{adds, filed-sane_on, class-sane, class-goes_on}
use Rattle.slotted_model.proofs.Rebuilding.Asserting.{can_assert, entry-sane, entry-goes_on, entry-represents, asserts, asserting-ends, adding-ends, not_looked_up-new, nothing-rests}
use Rattle.slotted_model.proofs.Rebuilding.KeepingLookUps.{not_looked_up-unfiled}
use Rattle.slotted_model.proofs.Rebuilding.KeepingTrees.{keeps-look_ups}
use Rattle.slotted_model.proofs.Rebuilding.Quiet.{proofs-quiet, shortcut-quiet}
use Rattle.slotted_model.proofs.Rebuilding.Counting.{unites-counts, size-counts, run-lives, run-slots}
use Rattle.slotted_model.proofs.Rebuilding.Aligned.{link-aligned, listed-aligned}
use Rattle.slotted_model.proofs.rest.rest_laws_hold.Goals as goal

pub returns : goal.returns
returns c = record {
  look_ups_move_with_names = λ g s f inj d. (look_up_node-moved g s.sound.linked s.filed f inj d, look_up_tree-moved g s.sound.linked s.filed f inj d);
  equal_in_turn_is_looked_up_alike = λ g d e op payloads f. ap (look_up_normal g) (in_turn-normal g.found d e op payloads f);
  filed_nodes_are_looked_up = λ g rest r c. (row-looked_up g rest r c, row-id g rest r c);
  equality_up_to_moves_with_names = λ g f inj a b e. upto-renamed g f inj e;
  equal_ids_are_valid = λ g s a b e. upto-valid g s.each_listed e;
  equal_ids_find_alike = λ g a b e. (upto-class g e, upto-alike g e);
  aligned_ids_are_found_together = λ g aligned a b e. upto-together g aligned e;
  links_are_an_equivalence = λ g s. (linked_to-same g s.sound.linked, linked_to-turned g, linked_to-joined g);
  rest_is_enough = rest-gives;
  rest_is_congruent = rest-congruent;
  answers_are_found = answer-found;
  affected_is_least = λ g marked covers. (λ c e. affected-marked g marked covers e, unmarked-closed g marked covers);
  going_on_composes = (λ g s. goes_on-same g s.sound.linked, λ f g h s. goes_on-then f g h s.sound.linked);
  going_on_keeps_yeses = λ older newer s on a b. (still-alike older newer s.sound on a b, λ e. still-equal older newer s.sound on e);
  going_on_keeps_normal_forms = λ older newer s on. (still-normal older newer s.sound on, still-same older newer s.sound on, still-linked older newer s.sound on);
  going_on_keeps_rows = λ older newer s on. (still-row older newer s.sound on, still-listed older newer s.sound on);
  links_are_events = λ g s e proof moment can later h says w t. record { sane = link-sane g s e proof moment can later h says w t; goes_on = link-goes_on g s e proof moment can later h says w t; smaller = link-size g s e proof moment can later h says w t };
  drops_are_events = λ g s c slots proof x can h says u n w t. record { sane = drop-sane g s c slots proof can h says w t; goes_on = drop-goes_on g s c slots proof can h says w t; smaller = drop-size g s c slots proof can h says w t x u n };
  links_keep_aligned = λ g s e proof moment can later h says w t all used. link-aligned g s e proof moment can later h says w t all.left used;
  listed_are_aligned = listed-aligned;
  new_classes_keep_sane = λ g s c new. (class-sane g s c new, class-goes_on g s c new);
  new_rows_keep_sane = λ g s c new alone. filed-sane_on g s c new alone;
  quiet_turns = quiet-run;
  assertions_keep_sane = λ g s a b fa fb n.
      let x : ProofEntry = record { equation = equation_of a b; step = explicit } in
      let can : CanEnter g.nodes g.proofs x = can_assert g a b fa fb n in
      (entry-sane g s x can, entry-goes_on g s x can, entry-represents g s x can);
  size_counts_slots = λ g s i h. (size-live g s i h, size-dead g s i h);
  going_on_represents = still-represents;
  new_proofs_keep_sane = λ g s proofs grow. (proofs-sane g s proofs grow, proofs-go_on g s proofs grow);
  new_symmetries_keep_sane = λ g s y l new. (symmetry-sane g s y l new, symmetry-goes_on g s y l new);
  found_entries_can_be_acted_on = λ g s p k. (can_drop-left g s p k, can_drop-right g s p k, can_link-left g s p k, can_link-right g s p k, can_list g s p k);
  unions_unite_sides = λ p g h u s k. unites p u s k;
  unions_keep_counts = unites-counts;
  lacking_unions_fall = λ p g h u s k l. lacking-falls p u s k l;
  unions_represent = united-represents;
  rows_show_congruence = row-shape;
  congruences_can_be_entered = congruence-entered;
  turns_rebuild = λ g h t s. turned t s;
  acts_rebuild = λ g h a s. acted a s;
  no_more_wait_than_rows = waits-below;
  runs_are_counted = λ f n h s r. ((run f s r).rebuilt, run-no_larger f s r, counted f s r);
  runs_keep_counts = (λ g. size-counts 0 g.found, λ f n h s r. (run-lives f s r, run-slots f s r));
  runs_end_at_rest = λ f n h s p r. ended f s p r;
  unions_end = union-ends;
  steps_are_there = next-step;
  rebuilding_ends = rebuilding-ends;
  nothing_rests = nothing-rests;
  adding_ends_at_rest = λ g r c new. (adding-ends g r c new, adds g r c new);
  nodes_not_looked_up_are_new = not_looked_up-new;
  nodes_not_looked_up_are_unfiled = not_looked_up-unfiled;
  adding_keeps_look_ups = keeps-look_ups;
  asserting_ends_at_rest = λ g r a b fa fb. (asserting-ends g r a b fa fb, asserts g r a b fa fb);
  asserting_is_exact = assertion-exact;
  new_proofs_show_nowhere = proofs-quiet;
  shortcuts_show_nowhere = shortcut-quiet;
}
