use Rattle.std.proofs.Common.{◌+◌, ap, subst}
use Rattle.std.specs.Prelude.{Contains}
use Rattle.slotted_lists.proofs.Contained.{Contains-nil}
use Rattle.slotted_model.proofs.Rebuilding.Counting.{size-counts}
use Rattle.slotted_model_analyses.specs.DataPart.{heights_from}
use Rattle.slotted_model_analyses.proofs.Following.{data-followed, followed, acted-followed}
use Rattle.slotted_model_analyses.proofs.Counts.{below, pending-below, run-with, counted-with, ended-with}
use Rattle.slotted_model_analyses.proofs.Reaching.{carry, follow, follow-act, reaching-rest}
use Rattle.slotted_model_analyses.proofs.FiledAgain.{filed-again, alone-again, rows-again, canonical-absorbed}
use Rattle.slotted_model_analyses.proofs.Rebuilding.{merging-again, unions-carry, steps-there}
use Rattle.slotted_model_analyses.proofs.rebuild.run_laws_hold.Goals as goal

pub returns : goal.returns
returns g c = record {
  merging_again_changes_nothing = merging-again;
  data_can_go_along = λ a law s once different. (
    λ p g h u. carry a law p u s once different,
    λ g h k. follow a law k s once different,
    λ g h k. follow-act a law k s once different,
  );
  unions_carry_data = unions-carry;
  turns_carry_data = λ a law g h k sane s t has f. let x = followed a law k sane s t has f in (x.has, x.classes, x.down, x.falls);
  data_turns_carry_data = λ a law g sane s t has k. let x = data-followed a law g sane s t has k in (x.has, x.classes, x.down, x.falls);
  acts_carry_data = λ a law g h k sane s t has f. let x = acted-followed a law k sane s t has f in (x.0.has, x.0.classes, x.0.down, x.1);
  filing_again_changes_nothing = λ g sane r there n. let k = alone-again g sane r there n in (k.0, k.1, filed-again g sane r there n, rows-again g sane r there n);
  size_adds_heights = λ a d s. ap (λ n. n + heights_from a s.data_of 0 d.found) (size-counts 0 d.found);
  no_more_pending_than_rows = pending-below;
  runs_stand_on_runs = λ a f s n h t r. below a r;
  runs_with_data_are_counted = λ a law f s n h t sane has r. let k = run-with a law f sane has r in (k.rebuilt, k.has, k.smaller, counted-with a law f sane k);
  runs_lower_data = λ a law f s n h t sane has r. let k = run-with a law f sane has r in (k.classes, k.down);
  steps_are_there_with_data = steps-there;
  runs_end_at_rest_with_data = λ a law f s n h t sane has represents r left. ended-with a law f sane has represents r left;
  rebuilding_ends_with_data = λ a law f s sane has represents. reaching-rest a law f sane s has represents;
  rest_absorbs = λ a s d x. (
    λ r there. x.has.absorbs_made r there (λ k. Contains-nil r.source (subst (λ w. Contains w r.source) x.nothing_waits k)),
    λ alike closed known i h. canonical-absorbed g.P.Known.is_known a alike closed s d x known i h,
  );
}
