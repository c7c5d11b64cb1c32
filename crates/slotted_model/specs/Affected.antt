-- Which classes an open symmetry affects, as a test: the classes of open symmetries, and then, round by round, the classes of the rows over those.
--     is_open g y        the sides of the listed symmetry find different ids
--     is_affected g c    the class is affected
--     HasNoOpenSymmetries g, AreAlikeOrAffected g a b   when completeness holds for all ids, and what it says of two ids otherwise
use Rattle.std.specs.Prelude.{◌≡◌, ◌⊎◌, Contains, ℕ, zero, suc, List, ◌++◌, length, map, filter, Bool, not}
use Rattle.std.specs.List.{list_any}
use Rattle.slotted_model.specs.Applied.{Applied, as_term}
use Rattle.slotted_model.specs.Correspondence.{has_slot}
use Rattle.slotted_model.specs.Find.{Entry, find_class, find}
use Rattle.slotted_model.specs.Ids.{term_eq}
use Rattle.slotted_model.specs.State.{Row, Symmetry, State, left_of, right_of, child_classes}
use Rattle.slotted_model.specs.Rest.{IsOpen, IsAffected}

-- whether two applied ids are the same
abbrev pub id_eq : Applied → Applied → Bool
id_eq a b = term_eq (as_term a) (as_term b)

-- whether the two sides of a listed symmetry find different ids
abbrev pub is_open : State → Symmetry → Bool
is_open g y = not (id_eq (find g.found (left_of y)) (find g.found (right_of y)))

-- the classes of the open symmetries
abbrev pub open_classes : State → List ℕ
open_classes g = map (λ (y : Symmetry). find_class g.found y.class) (filter (is_open g) g.symmetries)

-- whether a row stands over a class of the list
abbrev pub stands_over : List ℕ → Row → Bool
stands_over cs r = list_any (has_slot cs) (child_classes r.shape.args)

-- the list after so many rounds: each takes the rows over the list out of the rows, and their classes into the list
abbrev pub spread : List Entry → ℕ → List Row → List ℕ → List ℕ
spread found zero rows cs = cs
spread found (suc n) rows cs =
    spread found n (filter (λ r. not (stands_over cs r)) rows) (map (λ (r : Row). find_class found r.source) (filter (stands_over cs) rows) ++ cs)

-- whether an open symmetry affects the class: a round for each row is enough
abbrev pub is_affected : State → ℕ → Bool
is_affected g c = has_slot (spread g.found (length g.rows) g.rows (open_classes g)) c

-- no listed symmetry is open
abbrev pub HasNoOpenSymmetries : State → Type 0
HasNoOpenSymmetries g = (y : Symmetry) → Contains g.symmetries y → ¬ IsOpen g y

-- the two find alike, or both find affected classes
abbrev pub AreAlikeOrAffected : State → Applied → Applied → Type 0
AreAlikeOrAffected g a b = (find g.found a ≡ find g.found b) ⊎
    (IsAffected g (find_class g.found a.0) × IsAffected g (find_class g.found b.0))
