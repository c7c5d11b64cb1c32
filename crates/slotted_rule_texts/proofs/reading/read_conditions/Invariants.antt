use Rattle.std.specs.Prelude.{◌≡◌, codes, map}
use Rattle.std.specs.Str.Iter.{split_pattern, split_has_more, split_text}
use Rattle.slotted_rule_texts.specs.Asked.{conditions_asked, each_asked}
use Rattle.slotted_rule_texts.specs.Told.{told_condition}
use Rattle.slotted_rule_texts.proofs.Splitting.{pieces_left}
use Rattle.slotted_rule_texts.proofs.Asking.{all_behind}
use Rattle.slotted_rule_texts.proofs.reading.read_conditions.Given as goal

-- the conditions of the text are those so far, and those of the pieces that are left
abbrev pub invariant-loop-part : goal.invariant-loop-part
invariant-loop-part l = record {
  sign : (split_pattern l.part-iterator).now ≡ codes " and $";
  asked : conditions_asked l.text ≡ all_behind (map told_condition l.conditions.items)
      (each_asked (pieces_left (codes " and $") (split_has_more l.part-iterator) (split_text l.part-iterator)));
}
