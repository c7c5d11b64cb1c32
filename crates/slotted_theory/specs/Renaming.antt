-- Renaming: a function put on all names of a term, the bound ones too.
use Rattle.std.specs.Prelude.{◌≡◌, ℕ, nat_eq, cond}
use Rattle.slotted_theory.specs.Term.{Args, Term, done, name, child, bind}

-- a function on names with its inverse
pub record Bijection : Type 0 where
  pub to : ℕ → ℕ
  pub back : ℕ → ℕ
  pub back_to : (x : ℕ) → back (to x) ≡ x
  pub to_back : (x : ℕ) → to (back x) ≡ x

-- different names go to different names
abbrev pub IsInjective : (ℕ → ℕ) → Type 0
IsInjective f = (x y : ℕ) → f x ≡ f y → x ≡ y

-- x and z change places, and every other name stays
abbrev pub swapped : ℕ → ℕ → ℕ → ℕ
swapped x z y = cond (nat_eq y x) z (cond (nat_eq y z) x y)

-- the arguments with π on every name
abbrev pub renamed_args : (ℕ → ℕ) → Args → Args
renamed_args π done = done
renamed_args π (name x rest) = name (π x) (renamed_args π rest)
renamed_args π (child op payloads args rest) = child op payloads (renamed_args π args) (renamed_args π rest)
renamed_args π (bind x inner rest) = bind (π x) (renamed_args π inner) (renamed_args π rest)

-- the term with π on every name
abbrev pub renamed : (ℕ → ℕ) → Term → Term
renamed π t = record { op = t.op; payloads = t.payloads; args = renamed_args π t.args }
