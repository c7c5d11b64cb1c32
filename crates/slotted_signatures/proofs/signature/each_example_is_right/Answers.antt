use Rattle.slotted_signatures.proofs.OwnExamples.{examples-right}
use Rattle.slotted_signatures.proofs.signature.each_example_is_right.Goals as goal

pub returns : goal.returns
returns c = examples-right
