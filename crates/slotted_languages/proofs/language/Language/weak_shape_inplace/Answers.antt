use Rattle.std.proofs.Common.{arith}
use Rattle.std.proofs.lemmas.Grind.{common_steps}
use Rattle.slotted_languages.proofs.language.Language.weak_shape_inplace.Goals as goal

pub returns-clause-back : goal.returns-clause-back
returns-clause-back g c = grind (arith, common_steps)

pub returns-clause-err : goal.returns-clause-err
returns-clause-err g c = grind (arith, common_steps)

pub returns-clause-keys : goal.returns-clause-keys
returns-clause-keys g c = grind (arith, common_steps)

pub returns-clause-names : goal.returns-clause-names
returns-clause-names g c = grind (arith, common_steps)

pub returns-clause-shape : goal.returns-clause-shape
returns-clause-shape g c = grind (arith, common_steps)
