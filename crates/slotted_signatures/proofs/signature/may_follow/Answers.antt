use Rattle.std.proofs.Common.{map, sym, ◌∙◌, rules, tests}
use Rattle.std.proofs.lemmas.Iterator.{YieldsList-from_slice}
use Rattle.std.proofs.lemmas.Iterator.Search.{all_from_yields_List}
use Rattle.slotted_signatures.specs.Kinds.{number}
use Rattle.slotted_signatures.specs.Shown.{is_child}
use Rattle.slotted_signatures.proofs.Lists.{list_all-map}
use Rattle.slotted_signatures.proofs.Uses.{children-decided, nothing-decided}
use Rattle.slotted_signatures.proofs.signature.may_follow.Goals as goal

pub returns-then-more : goal.returns-then-more
returns-then-more c =
    let each = all_from_yields_List (λ k. is_child (number k)) _ _ c.all.result c.all.ensures.ran (YieldsList-from_slice c.args.others.now cc) (λ x b q k. search (rules, tests)) ∙ sym (list_all-map is_child number c.args.others.now) in
    children-decided c.args.more c.all.result (map number c.args.others.now) c.if-more.true each

pub returns-else-more : goal.returns-else-more
returns-else-more c = nothing-decided c.args.more c.is_empty.result c.args.others.now c.if-more.false c.is_empty.ensures
