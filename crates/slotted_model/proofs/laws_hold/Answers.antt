use Rattle.slotted_model.proofs.Represented.Full.{canonical_term-names, term_of-names, full-renamed, term_of-renamed, term_of-layer}
use Rattle.slotted_model.proofs.Represented.Unique.{term_of-same}
use Rattle.slotted_model.proofs.Represented.Ids.{id_of_node-iff, id_of_node-none, id_of-iff}
use Rattle.slotted_model.proofs.Represented.Trees.{term_of-tree, IsNode-full}
use Rattle.slotted_model.proofs.Represented.LookUps.{id_of-moved}
use Rattle.slotted_model.proofs.Represented.Folds.{id_of-iff_value}
use Rattle.slotted_model.proofs.Represented.Growing.{added, IsNew-renamed}
use Rattle.slotted_model.proofs.Represented.Fillings.{valid-iff, filling-iff, a_filling, term_of-filling, valid-same}
use Rattle.slotted_model.proofs.Represented.OtherFillings.{renamed_filling, renamed_together, some_is_every}
use Rattle.slotted_model.proofs.laws_hold.Goals as goal

pub returns : goal.returns
returns c = record {
  canonical_terms_have_their_slots = canonical_term-names;
  terms_have_their_names = term_of-names;
  renaming_moves_terms = λ g can a full f inj. (full-renamed g a full f inj, term_of-renamed g can a full f);
  terms_are_layers = term_of-layer;
  terms_are_trees = term_of-tree;
  full_nodes_are_nodes = IsNode-full;
  terms_tell_ids_apart = term_of-same;
  nodes_are_found = id_of_node-iff;
  trees_are_found = id_of-iff;
  renaming_moves_ids = id_of-moved;
  ids_are_values = id_of-iff_value;
  new_shapes_are_not_found = id_of_node-none;
  new_classes_extend = λ g d can new. added g.canonical d can new;
  renamed_nodes_are_new = IsNew-renamed;
  valid_is_full = valid-iff;
  full_is_filled = filling-iff;
  fillings_exist = a_filling;
  lacking_ids_stand_for_a_filling = term_of-filling;
  fillings_are_renamed = renamed_filling;
  pairs_of_fillings_are_renamed = renamed_together;
  some_filling_is_every_filling = some_is_every;
  valid_ids_are_terms = valid-same;
}
