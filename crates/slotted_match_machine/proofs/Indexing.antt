-- The rows of a class, by its place in the list of classes.
use Rattle.std.proofs.Common.{◌≡◌, ◌<◌, ◌≤◌, ℕ, zero, suc, List, [], ◌∷◌, length, get_or, ap, refl, arith}
use Rattle.slotted_match_machine.specs.Machine.{rows_in, slot_count_in, no_rows}
use Rattle.slotted_match_machine.specs.declared.index.ClassRows.{ClassRows}

pub rows_in-at : (classes : List ClassRows) (c : ℕ) (k : ClassRows) → c < length classes → k ≡ get_or classes c k → k.rows.items ≡ rows_in classes c
rows_in-at [] c k h e = absurd (omega arith)
rows_in-at (x ∷ classes) zero k h e = ap (λ (y : ClassRows). y.rows.items) e
rows_in-at (x ∷ classes) (suc c) k h e = rows_in-at classes c k (omega arith) e

pub rows_in-past : (classes : List ClassRows) (c : ℕ) → length classes ≤ c → no_rows ≡ rows_in classes c
rows_in-past [] c h = refl
rows_in-past (x ∷ classes) zero h = absurd (omega arith)
rows_in-past (x ∷ classes) (suc c) h = rows_in-past classes c (omega arith)

pub slot_count_in-at : (classes : List ClassRows) (c : ℕ) (k : ClassRows) → c < length classes → k ≡ get_or classes c k → k.slot_count ≡ slot_count_in classes c
slot_count_in-at [] c k h e = absurd (omega arith)
slot_count_in-at (x ∷ classes) zero k h e = ap (λ (y : ClassRows). y.slot_count) e
slot_count_in-at (x ∷ classes) (suc c) k h e = slot_count_in-at classes c k (omega arith) e

pub slot_count_in-past : (classes : List ClassRows) (c : ℕ) → length classes ≤ c → 0 ≡ slot_count_in classes c
slot_count_in-past [] c h = refl
slot_count_in-past (x ∷ classes) zero h = absurd (omega arith)
slot_count_in-past (x ∷ classes) (suc c) h = slot_count_in-past classes c (omega arith)
