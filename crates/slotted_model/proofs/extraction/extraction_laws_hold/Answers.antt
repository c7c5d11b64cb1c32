use Rattle.slotted_model.proofs.LeastTerms.Tables.{never-falls, least-closed}
use Rattle.slotted_model.proofs.LeastTerms.Queues.{popped-enters, queue-after, passed_over, empty-finished}
use Rattle.slotted_model.proofs.LeastTerms.TableMaking.{made}
use Rattle.slotted_model.proofs.LeastTerms.Optimal.{finished-covers, finished-fits, tree-at_most, term-at_most}
use Rattle.slotted_model.proofs.LeastTerms.Extracting.{extracts, extracted-tree, extracted-look_up, extracted-cost}
use Rattle.slotted_model.proofs.LeastTerms.ExtractedParts.{extracted-moved, extracted-made}
use Rattle.slotted_model.proofs.LeastTerms.AgreeingCosts.{costs-agree}
use Rattle.slotted_model.proofs.LeastTerms.Cheapest.{extracted-equal, least-represented, least-term, least-equal, least-table}
use Rattle.slotted_model.proofs.LeastTerms.KnownCosts.{lawful-everywhere}
use Rattle.slotted_model.proofs.LeastTerms.Sizes.{size-lawful, size-total, size-within}
use Rattle.slotted_model.proofs.extraction.extraction_laws_hold.Goals as goal

pub returns : goal.returns
returns g c = record {
  sizes_are_lawful = λ limit. (size-lawful limit, size-total limit, size-within limit);
  lawful_is_enough = lawful-everywhere;
  costs_never_fall = never-falls;
  least_first_is_closed = least-closed;
  finished_covers = λ s rest k table. finished-covers s k table rest;
  finished_fits = λ s rest k law table. finished-fits s k table rest law;
  tables_can_be_made = made;
  least_of_queue_enters = popped-enters;
  queues_go_on = queue-after;
  queues_pass_over = passed_over;
  empty_queues_finish = empty-finished;
  classes_cost_least = λ s rest k law table fits t a p. let m = tree-at_most s k table rest law fits t a p in (m.cost, m.there, m.at_most);
  terms_cost_no_less = λ s rest k law table fits a full. let m = term-at_most s k table rest law fits a full in (m.cost, m.there, m.at_most);
  no_table_costs_less = least-table;
  extraction_ends = λ s rest k table in_order. extracts s k table rest in_order;
  extracting_moves_with_names = λ s rest k table in_order f inj a t x. extracted-moved s k table rest in_order f inj x;
  extracted_is_of_its_entry = λ s k table in_order a t x. extracted-made s k table in_order x;
  extracted_is_represented = λ s rest k table in_order a t x. (extracted-tree s k table rest in_order x, extracted-look_up s k table rest in_order x);
  extracted_costs_as_named = λ s rest k law table in_order a t x. extracted-cost s k table rest in_order law x;
  extracted_is_equal = extracted-equal;
  extracted_costs_least = λ s rest k law table fits a t x. least-represented s rest k law table fits a t x;
  extracted_costs_no_more_than_terms = λ s rest k law table fits a t x. least-term s rest k law table fits a t x;
  extracted_costs_least_of_equal = λ s rest k law table fits a t x. least-equal s rest k law table fits a t x;
  costs_agree = costs-agree;
}
