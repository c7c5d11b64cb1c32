use Rattle.std.specs.Prelude.{false, map}
use Rattle.std.proofs.Common.{sym}
use Rattle.slotted_theory.proofs.Forward.{Derives-equal}
use Rattle.slotted_theory.proofs.Values.{complete}
use Rattle.slotted_theory.specs.Derives.{reflexive, nameless_pair}
use Rattle.slotted_model.specs.Value.{step}
use Rattle.slotted_model.proofs.Finds.Steps.{Equal-between}
use Rattle.slotted_model.proofs.Complete.Marks.{step-moved, value-moved, id_value-same}
use Rattle.slotted_model.specs.Classes.{term_of}
use Rattle.slotted_model.proofs.Represented.Trees.{term_of-tree}
use Rattle.slotted_model.proofs.Complete.LookedUpTrees.{value-look_up, look_up-value}
use Rattle.slotted_model.proofs.Complete.CanonicalValues.{value-full, value-pair, full-alike, filled-alike, congruent-alike, equal-look_up, equal_trees-alike, alike-iff}
use Rattle.slotted_model.proofs.Complete.Spreading.{is_affected-covers, is_affected-iff}
use Rattle.slotted_model.proofs.Complete.LookUpsAreEqual.{node-equal, filled-node_equal, found-node_equal, tree-equal, filled-equal, found-equal}
use Rattle.slotted_model.proofs.Complete.AtRest.{rest-represented, rest-closed, rest-alike, rest-derivable, rest-iff, rest-congruent, rest-look_up, rest-look_up_node, rest-trees, rest-alike_iff, rest-same_classes, rest-same_slots}
use Rattle.slotted_model.proofs.Complete.Corresponding.{each-corresponds, alike-or_affected}
use Rattle.slotted_model.proofs.Complete.SameCounts.{agree}
use Rattle.slotted_model.proofs.Complete.HoldingTrees.{session-holds, sessions-terms, sessions-agree}
use Rattle.slotted_model.proofs.completeness.completeness_laws_hold.Goals as goal

pub returns : goal.returns
returns c = record {
  values_move_with_names = value-moved;
  equal_trees_have_one_value = λ E look marked law h t u e. complete (step look marked) (step-moved look marked law) h e;
  values_are_looked_up = value-look_up;
  look_ups_are_values = λ look t h a. (look_up-value look t a, value-look_up look (λ c. false) t h a);
  one_value_is_one_id = id_value-same;
  canonical_terms_have_found_values = value-full;
  listed_pairs_have_one_value = value-pair;
  equal_terms_are_found_alike = full-alike;
  equal_fillings_are_found_alike = λ nodes can found linked E look marked closed. filled-alike nodes can found E look marked closed linked;
  derivable_terms_are_found_alike = λ nodes can found linked E look marked closed a b left right given more_given va vb fl fr t u et eu d.
      filled-alike nodes can found (map nameless_pair E) look marked closed linked a b left right given more_given va vb fl fr (Equal-between (sym et) (sym eu) (Derives-equal d));
  finding_alike_is_a_congruence = congruent-alike;
  finding_alike_is_equality = alike-iff;
  equal_trees_are_looked_up = equal-look_up;
  equal_trees_are_looked_up_alike = equal_trees-alike;
  rest_is_closed = rest-closed;
  affected_is_decided = λ g. (is_affected-covers g, is_affected-iff g);
  equal_is_found_at_rest = rest-alike;
  derivable_is_found_at_rest = rest-derivable;
  found_is_derivable_at_rest = rest-iff;
  congruent_is_found_at_rest = rest-congruent;
  looked_up_is_equal_at_rest = λ g rest t x p. ((tree-equal g rest t x p).0, λ b given f. filled-equal g rest t x b given p f);
  equal_is_looked_up_at_rest = λ g rest a full n t h. (found-equal g rest a full t, rest-look_up g rest a full n t h);
  terms_are_looked_up_at_rest = λ g rest a full n. rest-look_up g rest a full n (term_of g.nodes a) (term_of-tree g.nodes rest.sane.sound.canonical a full) reflexive;
  looked_up_node_is_equal_at_rest = λ g rest d k x p. ((node-equal g rest d k x p).0, λ b given f. filled-node_equal g rest d k x b given p f);
  equal_node_is_looked_up_at_rest = λ g rest a full n d h k. (found-node_equal g rest a full d k, rest-look_up_node g rest a full n d h k);
  equal_is_represented_at_rest = rest-represented;
  equal_is_looked_up_alike_at_rest = rest-trees;
  graphs_agree_at_rest = λ g h rest_g rest_h none_g none_h same known known_back. (
    rest-alike_iff g h rest_g rest_h none_g none_h same known known_back,
    rest-same_classes g h rest_g rest_h none_g none_h same known known_back,
    rest-same_slots g h rest_g rest_h none_g none_h same known known_back,
  );
  each_id_corresponds = each-corresponds;
  graphs_agree_but_for_affected = alike-or_affected;
  graphs_agree_up_to_classes = agree;
  sessions_hold_just_that = λ trees pairs g s. session-holds s;
  sessions_share_terms = sessions-terms;
  sessions_agree = sessions-agree;
}
