-- Slots as names for the numbers of an answer.
--     slot_in names n            the slot that names a number
--     Covers names numbers       each of the numbers has a name
--     numbers_of values          the numbers of some occurrences
--     IsNaming t pairs u names   the names of an answer with these pairs, where t was the table before
--     NamesMore t xs u ys        names stay, and more of them are again the names of an answer
use Rattle.std.specs.Prelude.{◌≡◌, ◌⊎◌, ℕ, List, Contains, Some, false, unwrap_or, IsSome, IsTrue}
use Rattle.std.specs.List.{flat_map}
use Rattle.slotted_theory.specs.FiniteMaps.{value_of}
use Rattle.slotted_slots.specs.Table.{Table, KnowsMore, is_known}
use Rattle.slotted_model.specs.Applied.{values}
use Rattle.slotted_match_machine.specs.declared.answer.Occurrence.{Occurrence}

abbrev pub slot_in : List (ℕ × ℕ) → ℕ → ℕ
slot_in names n = unwrap_or (value_of names n) 0

abbrev pub Covers : List (ℕ × ℕ) → List ℕ → Type 0
Covers names numbers = (n : ℕ) → Contains numbers n → IsSome (value_of names n)

abbrev pub numbers_of : List Occurrence → List ℕ
numbers_of values = flat_map (λ (o : Occurrence). o.names.items) values

-- no slot names two numbers; a number that is paired with a slot has it for a name, and each other name is a slot that the table t did not know
pub record IsNaming (t : Table) (pairs : List (ℕ × ℕ)) (u : Table) (names : List (ℕ × ℕ)) : Type 0 where
  pub injective : (m n y : ℕ) → value_of names m ≡ Some y → value_of names n ≡ Some y → m ≡ n
  pub paired : (n y : ℕ) → Contains pairs (n, y) → value_of names n ≡ Some y
  pub origin : (n y : ℕ) → value_of names n ≡ Some y → Contains (values pairs) y ⊎ (is_known t y ≡ false)
  pub known : (n y : ℕ) → value_of names n ≡ Some y → IsTrue (is_known u y)
  pub more : KnowsMore t u

pub record NamesMore (t : Table) (xs : List (ℕ × ℕ)) (u : Table) (ys : List (ℕ × ℕ)) : Type 0 where
  pub stays : (n y : ℕ) → value_of xs n ≡ Some y → value_of ys n ≡ Some y
  pub naming : (start : Table) (pairs : List (ℕ × ℕ)) → IsNaming start pairs t xs → IsNaming start pairs u ys
