-- A child has no binders.
use Rattle.std.proofs.Common.{refl}
use Rattle.std.proofs.lemmas.List.{append-nil}
use Rattle.slotted_nodes.specs.Joined.{none_at}
use Rattle.slotted_nodes.proofs.children.AppliedIdLanguageChildren.scope_end.Goals as goal

pub returns : goal.returns
returns c = simp (append-nil, none_at) refl
