use Rattle.slotted_model_analyses.proofs.Absorbing.{absorbs-same, absorbs-then, absorbs-both, merge-keeps, merge-absorbs, merge-least, merges-commute, absorbing-no_higher, merge-no_higher, same-height}
use Rattle.slotted_model_analyses.proofs.data.data_laws_hold.Goals as goal

pub returns : goal.returns
returns g c = record {
  absorbing_is_an_order = λ a law. (absorbs-same a law, absorbs-then a law, absorbs-both a law);
  merges_absorb = λ a law x y. (merge-keeps a law x y, merge-absorbs a law x y, merge-least a law x y);
  merges_commute = merges-commute;
  heights_fall = λ a law x v. (absorbing-no_higher a law x v, merge-no_higher a law x v, same-height a law x v);
}
