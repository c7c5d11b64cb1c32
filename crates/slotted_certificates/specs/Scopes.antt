-- Names under scopes.
--     numbering xs x       what the name x is under the scopes of the names xs, the innermost one first
--     AreLevels os ls      the levels ls are those of the scopes os, the innermost one last
use Rattle.std.specs.Prelude.{◌≡◌, ℕ, suc, List, [], ◌∷◌, length, cond, nat_eq}
use Rattle.std.specs.List.{slice_index_or}
use Rattle.slotted_theory.specs.Nameless.{extend}

abbrev pub numbering : List ℕ → ℕ → ℕ
numbering [] = λ y. y
numbering (x ∷ xs) = extend x (numbering xs)

-- the first ones of pairs
abbrev pub names : List (ℕ × ℕ) → List ℕ
names [] = []
names (p ∷ ps) = p.0 ∷ names ps

-- the members of a list in front of another one, the last one first
abbrev pub turned : {A : Type 0} → List A → List A → List A
turned [] ps = ps
turned (o ∷ os) ps = turned os (o ∷ ps)

-- a function with another value at x
abbrev pub with_value : (ℕ → ℕ) → ℕ → ℕ → ℕ → ℕ
with_value f x v y = cond (nat_eq y x) v (f y)

-- f gives each name the number of scopes up to the innermost one that binds it, and 0 to others; each scope has the value before it
abbrev pub Keeps : List (ℕ × ℕ) → (ℕ → ℕ) → Type 0
Keeps [] f = (y : ℕ) → f y ≡ 0
Keeps (p ∷ ps) f = (f p.0 ≡ suc (length ps)) × Keeps ps (with_value f p.0 p.1)

abbrev pub AreLevels : List (ℕ × ℕ) → List ℕ → Type 0
AreLevels os ls = Keeps (turned os []) (λ y. slice_index_or ls y 0)
