-- Names that are free in terms without bound names.
--     IsFreeAt x a       the name x, as it is numbered outside, stands in the arguments a
--     free_in_row x ps   whether it stands in a row of pieces
use Rattle.std.specs.Prelude.{◌≡◌, ◌⊎◌, ℕ, suc, Bool, true, false, nat_eq, if◌then◌else◌, List, [], ◌∷◌}
use Rattle.slotted_theory.specs.Nameless.{DArgs, DTerm, stop, place, sub, scope}
use Rattle.slotted_check.specs.declared.pieces.Piece.{Piece}
use Rattle.slotted_check.specs.declared.pieces.Piece.TheVariants.{Head, Name, Scope, Leave, Close}
use Rattle.slotted_check.specs.Rows.{down}

abbrev pub IsFreeAt : ℕ → DArgs → Type 0
IsFreeAt x stop = ⊥
IsFreeAt x (place y rest) = (y ≡ x) ⊎ IsFreeAt x rest
IsFreeAt x (sub op payloads args rest) = IsFreeAt x args ⊎ IsFreeAt x rest
IsFreeAt x (scope inner rest) = IsFreeAt (suc x) inner ⊎ IsFreeAt x rest

-- the name x is free in the term d
abbrev pub IsFreeName : ℕ → DTerm → Type 0
IsFreeName x d = IsFreeAt x d.args

abbrev pub free_in_row : ℕ → List Piece → Bool
free_in_row x [] = false
free_in_row x (Head n ∷ ps) = free_in_row x ps
free_in_row x (Name y ∷ ps) = if nat_eq y x then true else free_in_row x ps
free_in_row x (Scope ∷ ps) = free_in_row (suc x) ps
free_in_row x (Leave ∷ ps) = free_in_row (down x) ps
free_in_row x (Close ∷ ps) = free_in_row x ps
