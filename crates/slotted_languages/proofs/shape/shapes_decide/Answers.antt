use Rattle.slotted_languages.proofs.Shapes.{shapes_iff, shapes_move}
use Rattle.slotted_languages.proofs.shape.shapes_decide.Goals as goal

pub returns : goal.returns
returns c = record { decide = shapes_iff; move = shapes_move }
