-- Equality of nameless terms as a test.
use Rattle.std.specs.Prelude.{ℕ, List, [], ◌∷◌, Bool, true, false, ◌&&◌, nat_eq}
use Rattle.slotted_theory.specs.Nameless.{DArgs, stop, place, sub, scope}

-- whether two lists of numbers are the same
abbrev pub numbers_eq : List ℕ → List ℕ → Bool
numbers_eq [] [] = true
numbers_eq (x ∷ xs) (y ∷ ys) = nat_eq x y && numbers_eq xs ys
numbers_eq _ _ = false

-- whether two lists of such lists are the same
abbrev pub lists_eq : List (List ℕ) → List (List ℕ) → Bool
lists_eq [] [] = true
lists_eq (x ∷ xs) (y ∷ ys) = numbers_eq x y && lists_eq xs ys
lists_eq _ _ = false

-- whether two lists of nameless arguments are the same
abbrev pub args_eq : DArgs → DArgs → Bool
args_eq stop stop = true
args_eq (place x rest) (place y rest') = nat_eq x y && args_eq rest rest'
args_eq (sub o p a rest) (sub o' p' a' rest') = nat_eq o o' && (lists_eq p p' && (args_eq a a' && args_eq rest rest'))
args_eq (scope a rest) (scope a' rest') = args_eq a a' && args_eq rest rest'
args_eq _ _ = false
