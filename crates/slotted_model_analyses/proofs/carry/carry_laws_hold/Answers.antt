use Rattle.slotted_model_analyses.proofs.CarriedData.{carried-kept, carried-rests}
use Rattle.slotted_model_analyses.proofs.CarriedSteps.{carried-same, carried-then, adding-carried, nodes-carried, asserting-carried, merging-carried}
use Rattle.slotted_model_analyses.proofs.FollowingWrites.{adding-followed, nodes-followed, asserting-followed}
use Rattle.slotted_model_analyses.proofs.carry.carry_laws_hold.Goals as goal

pub returns : goal.returns
returns g c = record {
  carried_data_is_kept = λ a law alike closed f s x known h t rest goes known_h along.
      carried-kept g.P.Known.is_known a law alike closed f s x known h t rest goes known_h along;
  carried_data_comes_to_rest = λ a law alike closed f s x known h t rest goes known_h along noted.
      carried-rests g.P.Known.is_known a law alike closed f s x known h t rest goes known_h along noted;
  steps_are_carried = λ a law f s x h t. (
    λ d new add. adding-carried a law f s x h t d new add,
    λ n. let y = nodes-carried a law x n in (y.nodes, y.carries),
    λ l r full_l full_r m. asserting-carried a law f s x h t l r full_l full_r m,
    λ i l v m. merging-carried a law f s x h t i l v m,
  );
  data_can_follow_writes = λ a law f s x h. (
    λ d new add. adding-followed a law f s x h d new add,
    λ n. nodes-followed a law x n,
    λ l r full_l full_r m. asserting-followed a law f s x h l r full_l full_r m,
  );
  carrying_goes_on = λ a law f s x. (carried-same a law f s x, λ h k t u on p q. carried-then a law f h k s t u on p q);
}
