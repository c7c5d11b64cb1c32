-- No binder before j hides the place.
use Rattle.std.proofs.Common.{◌≡◌, false}
use Rattle.slotted_nodes.specs.Public.{is_bound_by}
use Rattle.slotted_nodes.proofs.children.LanguageChildren.is_public.Given as goal

abbrev pub invariant-loop-j : goal.invariant-loop-j
invariant-loop-j g l = is_bound_by (g.Self.LanguageChildren.form l.self) l.i l.j ≡ false
