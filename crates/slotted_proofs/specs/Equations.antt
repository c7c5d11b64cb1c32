-- Equations of applied ids, read up to renaming, and their form with numbered names.
--     Statement         an equation over the slots of its two classes
--     statement_of e    what an equation of the code states
--     IsWritten s e     the equation of the code states s, and its names are numbered from `$0` as they first occur, left side first
--     HasManyNames e    the equation of the code has too many names to be numbered
use Rattle.std.specs.Prelude.{◌≡◌, ◌≤◌, ◌+◌, ℕ, List, [], ◌∷◌, length, cond, is_some, unwrap_or}
use Rattle.slotted_theory.specs.FiniteMaps.{value_of, with_values}
use Rattle.slotted_slots.specs.declared.types.AppliedId.{AppliedId}
use Rattle.slotted_slots.specs.Maps.{value_of as found_at}
use Rattle.slotted_slots.specs.Table.{numeric_slot, slot_limit}
use Rattle.slotted_model.specs.Applied.{Applied, keys}
use Rattle.slotted_model.specs.Correspondence.{IsFullMap, numbered, numbered_from, numbered_after, identity, turned, composite, same_names}
use Rattle.slotted_model.specs.ProofList.{Equation, equation_of}
use Rattle.slotted_proofs.specs.declared.equation.Equation.{Equation as Sides}

-- an equation up to renaming, with the slots of its two classes
pub record Statement : Type 0 where
  pub left_slots : List ℕ
  pub right_slots : List ℕ
  pub equation : Equation

-- an applied id of the code
abbrev pub to_applied : AppliedId → Applied
to_applied a = (a.id.0, a.m)

-- that two applied ids are equal
abbrev pub equality : Applied → Applied → Statement
equality a b = record { left_slots = keys a.1; right_slots = keys b.1; equation = equation_of a b }

-- what an equation of the code states
abbrev pub statement_of : Sides → Statement
statement_of e = equality (to_applied e.l) (to_applied e.r)

-- the slots of the two classes that carry one name
abbrev pub pairs_of : Sides → List (ℕ × ℕ)
pairs_of e = same_names e.l.m e.r.m

-- that two classes are equal, over the slots of two ids of them, where right slots carry the names of their partners
abbrev pub partnered_statement : AppliedId → AppliedId → List (ℕ × ℕ) → Statement
partnered_statement l r partners = record {
  left_slots = keys l.m;
  right_slots = keys r.m;
  equation = record { left = l.id.0; right = r.id.0; pairs = turned (keys l.m) partners };
}

-- that a class with these slots equals itself
abbrev pub reflexive_statement : ℕ → List ℕ → Statement
reflexive_statement i slots = record { left_slots = slots; right_slots = slots; equation = record { left = i; right = i; pairs = identity slots } }

-- the statement with its sides exchanged
abbrev pub turned_statement : Statement → Statement
turned_statement s = record {
  left_slots = s.right_slots;
  right_slots = s.left_slots;
  equation = record { left = s.equation.right; right = s.equation.left; pairs = turned s.right_slots s.equation.pairs };
}

-- the one ends at the class, and over the slots, at which the other begins
pub record Meets (s t : Statement) : Type 0 where
  pub class : s.equation.right ≡ t.equation.left
  pub slots : s.right_slots ≡ t.left_slots

-- first the one, then the other: it shares just the names that go over the middle
abbrev pub composite_statement : Statement → Statement → Statement
composite_statement s t = record {
  left_slots = s.left_slots;
  right_slots = t.right_slots;
  equation = record { left = s.equation.left; right = t.equation.right; pairs = composite s.equation.pairs t.equation.pairs };
}

-- the sides of the correspondence A between the slots P and Q, with the names `$0`, `$1` and so on as they first occur, left side first
abbrev pub numbered_left : List ℕ → List ℕ → List (ℕ × ℕ) → List (ℕ × ℕ)
numbered_left P Q A = with_values numeric_slot (numbered P Q A).0

abbrev pub numbered_right : List ℕ → List ℕ → List (ℕ × ℕ) → List (ℕ × ℕ)
numbered_right P Q A = with_values numeric_slot (numbered P Q A).1

-- the slots Q with the numbered names that their partners have in the left side, and the next ones for those without a partner
abbrev pub numbered_beside : List (ℕ × ℕ) → List (ℕ × ℕ) → List ℕ → List (ℕ × ℕ)
numbered_beside left partners Q =
    with_values numeric_slot (numbered_after (value_of (composite partners (numbered_from 0 (keys left)))) (length left) Q)

-- the slots Q with the names that a map has for them, and the next numbered names, from n on, for the rest
abbrev pub named_after : List (ℕ × ℕ) → ℕ → List ℕ → List (ℕ × ℕ)
named_after known n [] = []
named_after known n (t ∷ Q) = (t, unwrap_or (found_at known t) (numeric_slot n)) ∷ named_after known (cond (is_some (found_at known t)) n (n + 1)) Q

-- a and b are the two sides of the statement, with numbered names
pub record AreSides (s : Statement) (a b : Applied) : Type 0 where
  pub left : a ≡ (s.equation.left, numbered_left s.left_slots s.right_slots s.equation.pairs)
  pub right : b ≡ (s.equation.right, numbered_right s.left_slots s.right_slots s.equation.pairs)
  pub left_full : IsFullMap s.left_slots a.1
  pub right_full : IsFullMap s.right_slots b.1
  pub equation : equation_of a b ≡ s.equation

-- the equation of the code is the statement in its numbered form
abbrev pub IsWritten : Statement → Sides → Type 0
IsWritten s e = AreSides s (to_applied e.l) (to_applied e.r)

-- two sides have too many names between them to number those
abbrev pub HaveManyNames : List (ℕ × ℕ) → List (ℕ × ℕ) → Type 0
HaveManyNames left right = slot_limit ≤ length left + length right

-- an equation of the code has
abbrev pub HasManyNames : Sides → Type 0
HasManyNames e = HaveManyNames e.l.m e.r.m

-- a statement is over too many slots to number their names
abbrev pub HasManySlots : Statement → Type 0
HasManySlots s = slot_limit ≤ length s.left_slots + length s.right_slots
