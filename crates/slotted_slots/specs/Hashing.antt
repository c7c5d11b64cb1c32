-- What lists feed to a hasher.
use Rattle.std.specs.Prelude.{◌≡◌, ◌++◌, ◌+◌, ◌*◌, ◌^◌, ℕ, Bool, true, List, [], ◌∷◌, flat_map, refl}
use Rattle.std.specs.Cmp.{first_so, second_so}
use Rattle.std.specs.Cmp.Lexicographic.{pointwise}
use Rattle.std.specs.Hash.{HashWrites}
use Rattle.std.specs.Hash as fed

-- the elements of lists feed the same, one after another, where equal ones do and the lists are equal in pairs
pub elements_alike : {T : Type 0} {E : T → T → Bool} (F : T → HashWrites) → ((x y : T) → E x y ≡ true → F x ≡ F y) →
    (xs ys : List T) → pointwise E xs ys ≡ true → flat_map F xs ≡ flat_map F ys
elements_alike F alike [] [] h = refl
elements_alike F alike [] (y ∷ ys) h = cc
elements_alike F alike (x ∷ xs) [] h = cc
elements_alike {T} {E} F alike (x ∷ xs) (y ∷ ys) h =
    λ i. alike x y (first_so (E x y) (pointwise E xs ys) h) i ++ elements_alike F alike xs ys (second_so (E x y) (pointwise E xs ys) h) i

-- a key and its value are fed as one number
abbrev pub pair_input : ℕ × ℕ → HashWrites
pair_input p = fed.u64 (p.0 * 2 ^ 32 + p.1)
