use Rattle.std.proofs.Common.{arith}
use Rattle.slotted_model_analyses.proofs.AddedTrees.{tree-added, merged-stays}
use Rattle.slotted_model_analyses.proofs.AddingByLookUps.{tree-looked_up, tree-addable}
use Rattle.slotted_model_analyses.proofs.AddingTrees.{tree-there}
use Rattle.slotted_model_analyses.proofs.LookUpsGoOn.{look_up-goes_on}
use Rattle.slotted_model_analyses.proofs.MakingRounds.{class-edit, rounds-there}
use Rattle.slotted_model_analyses.proofs.RoundsAtRest.{nodes-made, edit-made, round-on, rounds-on, no_rounds-same, none-modified}
use Rattle.slotted_model_analyses.proofs.edit.edit_laws_hold.Goals as goal

pub returns : goal.returns
returns g c = record {
  nodes_can_be_added = λ f rest h n. let m = nodes-made rest n in (m.rest, m.goes_on, m.same_asserted, m.terms);
  edits_end_at_rest = λ a law s d rest k slots e h t m. let p = (edit-made a law s d rest k slots m).0 in (p.carries.rests, p.goes_on, p.carries.down, p.carries.noted);
  rounds_leave_their_changes = λ a law s d rest h t r. let p = (round-on a law g.M.Asks.may_ask s d rest h t r).0 in (p.carries.rests, p.goes_on, p.carries.down, p.carries.noted);
  rounds_end_at_rest = λ a law limit s d rest h t r.
      let p = rounds-on a law g.M.Asks.may_ask rest r.rounds in
      (p.rest, p.goes_on, p.classes, p.asked, λ e. no_rounds-same a g.M.Asks.may_ask r.rounds (let l = r.within in omega arith));
  rounds_are_there = λ a law s d rest. (
    tree-there a law s d rest,
    λ k l e trees. class-edit a law s d rest k l e trees,
    λ answers trees limit. rounds-there a law g.M.Asks.may_ask answers trees s d rest limit,
  );
  rounds_of_nothing = λ a none s d h t r. none-modified a g.M.Asks.may_ask none r.modifies;
  merged_values_stay = λ a law. merged-stays a law g.M.Asks.may_ask;
  trees_can_be_added = λ a law s d rest t tree. (
    tree-looked_up a law s d rest t tree,
    λ answers trees limit. tree-addable a law g.M.Asks.may_ask answers trees limit s d rest t tree,
  );
  added_trees_are_looked_up = λ a law. tree-added a law g.M.Asks.may_ask;
  look_ups_go_on = look_up-goes_on;
}
