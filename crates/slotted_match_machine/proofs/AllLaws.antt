-- All laws of the machine.
use Rattle.slotted_lists.proofs.Members.{In-Contains}
use Rattle.slotted_match_machine.specs.Machine.{all_answers}
use Rattle.slotted_match_machine.specs.MachineClaims.{MachineLaws}
use Rattle.slotted_match_machine.proofs.MissingRows.{nothing-found}
use Rattle.slotted_match_machine.proofs.Searched.{answers-searched}
use Rattle.slotted_match_machine.proofs.Starting.{class-answers}
use Rattle.slotted_match_machine.proofs.Variables.{program-variables, program-once}
use Rattle.slotted_match_machine.proofs.Whole.{answer-whole}
use Rattle.slotted_match_machine.proofs.WholeIds.{whole-valid}

pub machine-laws : MachineLaws
machine-laws = record {
  answers_are_found = λ g rest order index is variables p steps program c h live. class-answers g rest c h live order index is variables p steps program;
  answers_are_whole = λ g rest order index is variables p steps program x c. answer-whole g rest order index is variables p steps program x (In-Contains (all_answers index steps) x c);
  whole_ids_are_valid = whole-valid;
  answers_are_searched = λ g rest order index is variables p steps program found all. answers-searched g rest order index is variables p steps program found all;
  patterns_need_rows = λ g rest order rows p lacks. nothing-found g rest order (λ r c. (rows r).1 c) p lacks;
  programs_number_variables = record {
    same = λ g order index variables p steps program. program-variables variables p steps program;
    once = λ g order index variables p steps program. program-once variables p steps program;
  };
}
