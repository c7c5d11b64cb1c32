-- What a table knows as it grows.
use Rattle.std.proofs.Common.{◌≡◌, ℕ, ◌+◌, ◌*◌, ◌/◌, ◌%◌, ◌<◌, ◌≤◌, true, nat_lt, length, refl, arith}
use Rattle.std.proofs.lemmas.Bool.Decides.{nat_tests}
use Rattle.slotted_slots.specs.Table.{Table, numeric_slot, fresh_slot, name_slot, is_known, KnowsMore}

-- a number that is four times k and r more
pub remainder_is : (k r : ℕ) → r < 4 → (4 * k + r) % 4 ≡ r
remainder_is k r lt = omega arith

pub quotient_is : (k r : ℕ) → r < 4 → (4 * k + r) / 4 ≡ k
quotient_is k r lt = omega arith

-- numeric slots are known
pub is_known-numeric_slot : (t : Table) (n : ℕ) → is_known t (numeric_slot n) ≡ true
unfolding is_known
is_known-numeric_slot t n =
    let r : (4 * n) % 4 ≡ 0 = omega arith in
    rw r refl

-- fresh slots are known from their making on
pub is_known-fresh_slot : (t : Table) (n : ℕ) → is_known t (fresh_slot n) ≡ nat_lt n t.fresh
unfolding is_known
is_known-fresh_slot t n = rw (remainder_is n 1 (omega arith), quotient_is n 1 (omega arith)) refl

-- the slot of a name is known where the name is kept
pub is_known-name_slot : (t : Table) (i : ℕ) → is_known t (name_slot i) ≡ nat_lt i (length t.names)
unfolding is_known
is_known-name_slot t i = rw (remainder_is i 2 (omega arith), quotient_is i 2 (omega arith)) refl

-- a table that made more slots and keeps more names knows more
pub KnowsMore-grows : (t u : Table) → t.fresh ≤ u.fresh → length t.names ≤ length u.names → KnowsMore t u
unfolding is_known
KnowsMore-grows t u more_fresh more_names s known = grind (arith, nat_tests)

-- a table knows what it knows
pub KnowsMore-refl : (t : Table) → KnowsMore t t
KnowsMore-refl t s known = known
