use Rattle.slotted_model_analyses.proofs.Growing.{class-has, row-has}
use Rattle.slotted_model_analyses.proofs.Showing.{proofs-keep, shortcut-keeps}
use Rattle.slotted_model_analyses.proofs.QuietData.{new-row-same, quiet-run-with}
use Rattle.slotted_model_analyses.proofs.Writing.{nothing-rests-with, merging, adding, asserting}
use Rattle.slotted_model_analyses.proofs.write.write_laws_hold.Goals as goal

pub returns : goal.returns
returns g c = record {
  nothing_rests_with_data = nothing-rests-with;
  merging_ends_at_rest = merging;
  new_classes_keep_data = λ a k s sane has d new changed noted. (class-has a k sane s d new changed noted has, row-has a k sane s d new changed noted has);
  new_rows_make_the_same = λ a law alike closed d s sane e new known changed noted. new-row-same g.P.Known.is_known a law alike closed d sane s e new known changed noted;
  quiet_turns_with_data = λ a d s i covered other new idle free absorbs. quiet-run-with a d i covered other new idle s free absorbs;
  adding_ends_at_rest_with_data = adding;
  asserting_ends_at_rest_with_data = asserting;
  proofs_and_shortcuts_keep_data = λ a d s rest. (
    λ proofs grow. proofs-keep a d s rest proofs grow,
    λ i proof h dead l e. shortcut-keeps a d s rest i proof h dead l e,
  );
}
