-- A list in which all first n numeric slots stand is at least n long.
use Rattle.std.proofs.Common.{◌≡◌, ◌<◌, ◌≤◌, ◌/◌, ℕ, List, [], ◌∷◌, length, map, Bool, true, false, refl, sym, ap, ◌∙◌, arith, inl, inr}
use Rattle.std.specs.List.{list_any}
use Rattle.std.specs.Prelude.{nat_eq, ◌||◌}
use Rattle.std.proofs.lemmas.Bool.{cases_Bool, eq-eqb, eqb-true}
use Rattle.std.proofs.lemmas.List.{length-map}
use Rattle.std.proofs.lemmas.Map.Steps.{le-length_from_below}
use Rattle.slotted_slots.specs.Table.{numeric_slot}

or_true : (a b : Bool) → b ≡ true → (a || b) ≡ true
or_true true b e = refl
or_true false b e = e

-- the number of a slot in the list stands among the numbers of its slots
number_there : (q : ℕ) (slots : List ℕ) → list_any (λ s. nat_eq s (numeric_slot q)) slots ≡ true → list_any (nat_eq q) (map (λ s. s / 4) slots) ≡ true
number_there q [] h = h
number_there q (s ∷ slots) h = elim (cases_Bool (nat_eq s (numeric_slot q))) [
  | inl t ↦
      let same : s ≡ numeric_slot q = eqb-true s (numeric_slot q) t in
      let number : q ≡ s / 4 = omega arith in
      ap (λ (b : Bool). b || list_any (nat_eq q) (map (λ x. x / 4) slots)) (eq-eqb q (s / 4) number)
  | inr f ↦ or_true (nat_eq q (s / 4)) _ (number_there q slots (sym (ap (λ (b : Bool). b || list_any (λ x. nat_eq x (numeric_slot q)) slots) f) ∙ h))
]

pub numbers-few : (slots : List ℕ) (n : ℕ) → ((q : ℕ) → q < n → list_any (λ s. nat_eq s (numeric_slot q)) slots ≡ true) → n ≤ length slots
numbers-few slots n h =
    let few : n ≤ length (map (λ s. s / 4) slots) = le-length_from_below (map (λ s. s / 4) slots) n (λ q l. number_there q slots (h q l)) in
    omega (arith, few, length-map slots (λ (s : ℕ). s / 4))
