use Rattle.slotted_proofs.proofs.LineLeaves.{explicit_lines, leaf_numbers}
use Rattle.slotted_proofs.proofs.Fitting.{match_is_one_statement, reflexive_fits, symmetric_fits, transitive_fits, congruent_fits, parts_earlier}
use Rattle.slotted_proofs.proofs.laws.step_laws_hold.Goals as goal

pub returns : goal.returns
returns c = record {
  match_is_one_statement = match_is_one_statement;
  reflexive_step_proves = λ nodes list e full h. reflexive_fits nodes list e full h;
  symmetric_step_proves = λ nodes list e p full h. symmetric_fits nodes list e full p h;
  transitive_step_proves = λ nodes list e p q full h. transitive_fits nodes list e full p q h;
  congruent_step_proves = congruent_fits;
  parts_stand_earlier = parts_earlier;
  explicit_lines_are_leaves = explicit_lines;
  leaves_are_numbered = leaf_numbers;
}
