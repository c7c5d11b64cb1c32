-- Numbering the places of a node from the left, with the binders that were passed.
use Rattle.std.specs.Prelude.{◌≡◌, ℕ, ◌+◌, List, [], ◌∷◌, ◌++◌, Option, Some, None, cond, ◌&&◌, IsTrue, nat_eq, nat_lt, drop, slice_index}
use Rattle.slotted_slots.specs.Table.{numeric_slot}
use Rattle.slotted_slots.specs.Maps.{value_of}
use Rattle.slotted_languages.specs.declared.shape.Binder.{Binder}
use Rattle.slotted_languages.specs.declared.shape.Numbering.{Numbering}
use Rattle.slotted_nodes.specs.Form.{end_at}
use Rattle.slotted_languages.specs.Shape.{Numbers, number_of, free_number, IsBelow}

-- the next number, the binders that were passed, and the free names that were met, each after its number
pub record Walk : Type 0 where
  pub next : ℕ
  pub binders : List Binder
  pub free : List (ℕ × ℕ)

abbrev pub walk_of : Numbering → Walk
walk_of n = record { next = n.next; binders = n.binders.items; free = n.free }

-- if names stand by name too, the two maps say the same; all numbers are below the next one
pub record IsNumbering (n : Numbering) : Type 0 where
  pub same : IsTrue n.wide → (x : ℕ) → value_of n.numbers x ≡ number_of n.free x
  pub below : IsBelow (numeric_slot n.next) n.free

abbrev pub numbers : Walk → Numbers
numbers w = record { next = w.next; free = w.free }

-- the number of the last binder of this name whose scope has the place, or else the given answer
abbrev pub bound_number : List Binder → ℕ → ℕ → Option ℕ → Option ℕ
bound_number [] x i found = found
bound_number (b ∷ bs) x i found = bound_number bs x i (cond (nat_eq b.name x && nat_lt i b.until) (Some b.number) found)

abbrev pub walk_binder : Walk → ℕ → ℕ → ℕ × Walk
walk_binder w x e =
    (numeric_slot w.next, record { next = w.next + 1; binders = w.binders ++ record { name = x; until = e; number = numeric_slot w.next } ∷ []; free = w.free })

abbrev pub walk_free : Walk → ℕ → ℕ × Walk
walk_free w x =
    let r = free_number (number_of w.free x) (numbers w) x in
    (r.0, record { next = r.1.next; binders = w.binders; free = r.1.free })

abbrev pub walk_own : Option ℕ → Walk → ℕ → ℕ × Walk
walk_own (Some n) w x = (n, w)
walk_own None w x = walk_free w x

-- the number at a place, and what is known after it
abbrev pub walk_at : Walk → ℕ → ℕ → Option ℕ → ℕ × Walk
walk_at w x i (Some e) = walk_binder w x e
walk_at w x i None = walk_own (bound_number w.binders x i None) w x

-- the numbers at places with these scopes and names, the first of them at place i
abbrev pub walk : List (Option ℕ) → List ℕ → ℕ → Walk → List ℕ × Walk
walk [] xs i w = ([], w)
walk (o ∷ ss) xs i w =
    let t = walk_at w (slice_index xs 0) i (end_at i o) in
    let r = walk ss (drop 1 xs) (i + 1) t.1 in
    (t.0 ∷ r.0, r.1)

abbrev pub start : Walk
start = record { next = 0; binders = []; free = [] }
