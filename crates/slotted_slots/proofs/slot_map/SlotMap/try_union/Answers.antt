-- The test says whether the maps agree.
use Rattle.std.proofs.Common.{refl, sym, ◌∙◌}
use Rattle.std.proofs.lemmas.Bool.{false≢true}
use Rattle.slotted_slots.proofs.CombiningLaws.{Agree-from_test, test_from-Agree}
use Rattle.slotted_slots.proofs.slot_map.SlotMap.try_union.Goals as goal

pub union-requires : goal.union-requires
union-requires c = Agree-from_test c.args.self.now c.args.other.now (sym c.agrees_with.ensures.value ∙ c.if-agrees_with.true)

pub returns-in_ok-union-clause-agree : goal.returns-in_ok-union-clause-agree
returns-in_ok-union-clause-agree c = (
  λ _. Agree-from_test c.args.self.now c.args.other.now (sym c.agrees_with.ensures.value ∙ c.if-agrees_with.true),
  λ _. refl,
)

pub returns-else-agrees_with-clause-agree : goal.returns-else-agrees_with-clause-agree
returns-else-agrees_with-clause-agree c = (
  λ yes. absurd (false≢true yes),
  λ agree. absurd (false≢true (sym c.if-agrees_with.false ∙ (c.agrees_with.ensures.value ∙ test_from-Agree c.args.self.now c.args.other.now c.agrees_with.ensures.ascending agree))),
)
