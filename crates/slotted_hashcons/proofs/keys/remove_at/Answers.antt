use Rattle.slotted_hashcons.specs.Filed.{filed_row}
use Rattle.slotted_hashcons.proofs.KeyedRows.{removed-rows}
use Rattle.slotted_hashcons.proofs.keys.remove_at.Goals as goal

pub returns : goal.returns
returns g c = removed-rows (filed_row g.L.LanguageChildren.form) c.args.nodes.now.entries c.swap_remove_index.new.self.entries c.args.place c.swap_remove_index.result c.swap_remove_index.ensures.entry c.swap_remove_index.ensures.entries c.requires
