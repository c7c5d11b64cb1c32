use Rattle.std.proofs.Common.{◌<◌, length, sym, subst}
use Rattle.slotted_slots.specs.Table.{slot_limit}
use Rattle.slotted_nodes.specs.Form.{Form}
use Rattle.slotted_languages.specs.Outline.{outlined_names}
use Rattle.slotted_matching.proofs.SkeletonPlaces.{few-outlined}
use Rattle.slotted_matching.proofs.compile.own_slots.Goals as goal

pub common_slots-requires-clause-small : goal.common_slots-requires-clause-small
common_slots-requires-clause-small g c =
    let form = g.L.LanguageChildren.form in
    let f : Form = form c.args.node.now in
    let few : length (outlined_names c.numeric_at.result f.tree f.names) < slot_limit =
    few-outlined c.numeric_at.result f slot_limit (g.met.L.LanguageChildren.fits c.args.node.now) c.requires in
    subst (λ (h : Form). length h.names < slot_limit) (sym c.in_ok-zero.ensures.ok) few
