use Rattle.std.proofs.Common.{subst, sym, map}
use Rattle.slotted_hashcons.specs.Filed.{IsIndexed, filed_row}
use Rattle.slotted_hashcons.proofs.Indexed.{indexed-added}
use Rattle.slotted_hashcons.proofs.keys.KeyIndex.add_class.Goals as goal

pub invariant_of-self-2 : goal.invariant_of-self-2
invariant_of-self-2 g c = subst (IsIndexed _) (sym c.in_ok-push.ensures.items) (indexed-added (map (filed_row g.L.LanguageChildren.form) c.self.inside.nodes.entries) c.self.inside.places.items c.self.invariant)
