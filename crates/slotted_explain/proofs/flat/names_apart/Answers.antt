-- The names are those that were put in.
use Rattle.std.proofs.Common.{refl}
use Rattle.slotted_explain.proofs.flat.names_apart.Goals as goal

pub same-names : goal.same-names
same-names g c = refl
