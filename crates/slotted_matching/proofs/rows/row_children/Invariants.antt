use Rattle.std.proofs.Common.{take}
use Rattle.slotted_match_machine.specs.Index.{IsIndexChild, OneByOne}
use Rattle.slotted_matching.specs.KeyRows.{numbered_ids}
use Rattle.slotted_matching.proofs.rows.row_children.Given as goal

abbrev pub invariant-loop-k : goal.invariant-loop-k
invariant-loop-k g l = OneByOne IsIndexChild (take l.k (numbered_ids (g.L.LanguageChildren.form l.node))) l.children.items
