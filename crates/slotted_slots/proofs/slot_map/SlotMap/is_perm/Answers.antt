-- Keys and values are one set where both tests pass.
use Rattle.std.proofs.Common.{sym, ◌∙◌}
use Rattle.std.proofs.lemmas.Bool.{false≢true}
use Rattle.slotted_slots.proofs.CombiningLaws.{HaveTheSame-from_tests, values_pass, keys_pass}
use Rattle.slotted_slots.proofs.slot_map.SlotMap.is_perm.Goals as goal

pub returns-then-each_value_is_key : goal.returns-then-each_value_is_key
returns-then-each_value_is_key c = (
  λ yes. HaveTheSame-from_tests c.args.self.now (sym c.each_value_is_key.ensures ∙ c.if-each_value_is_key.true) (sym c.each_key_is_value.ensures ∙ yes),
  λ same. c.each_key_is_value.ensures ∙ keys_pass c.args.self.now same,
)

pub returns-else-each_value_is_key : goal.returns-else-each_value_is_key
returns-else-each_value_is_key c = (
  λ yes. absurd (false≢true (sym c.if-each_value_is_key.false ∙ yes)),
  λ same. c.each_value_is_key.ensures ∙ values_pass c.args.self.now same,
)
