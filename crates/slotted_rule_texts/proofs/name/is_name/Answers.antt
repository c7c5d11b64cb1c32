use Rattle.std.proofs.Common.{rules, sym, ◌∙◌}
use Rattle.std.specs.Prelude.{not, ◌&&◌}
use Rattle.std.specs.List.{list_all}
use Rattle.std.specs.Str.{chars}
use Rattle.std.proofs.lemmas.Iterator.Search.{all_from_yields_List}
use Rattle.std.proofs.lemmas.Iterator.{YieldsList-from_chars}
use Rattle.slotted_rule_texts.specs.Names.{is_of_name}
use borrow.Author.Tests.{tests}
use Rattle.slotted_rule_texts.proofs.name.is_name.Goals as goal

pub returns-then-not-is_empty : goal.returns-then-not-is_empty
returns-then-not-is_empty c =
    let all = all_from_yields_List is_of_name _ _ _ c.all.ensures.ran (YieldsList-from_chars c.args.text.now c.utf8.text c.chars.ensures.rest) (λ x b q k. search (rules, tests)) in
    let some = sym c.is_empty.ensures ∙ c.if-not-is_empty.true in
    all ∙ sym (λ i. not (some i) && list_all is_of_name (chars c.args.text.now))
