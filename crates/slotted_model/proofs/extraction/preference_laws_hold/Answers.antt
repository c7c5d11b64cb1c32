use Rattle.slotted_model.proofs.LeastTerms.KnownCosts.{lawful-for}
use Rattle.slotted_model.proofs.LeastTerms.Queues.{queue-breaks_ties}
use Rattle.slotted_model.proofs.LeastTerms.Ties.{first-of_ties}
use Rattle.slotted_model.proofs.extraction.preference_laws_hold.Goals as goal

pub returns : goal.returns
returns g c = record {
  known_costs_are_enough = lawful-for g.P.Preferences.is_known;
  ties_are_broken = λ s k law table. first-of_ties s k law g.P.Preferences.comes_first table;
  queues_break_ties = λ s k table queue is. queue-breaks_ties s k table queue is g.P.Preferences.comes_first;
}
