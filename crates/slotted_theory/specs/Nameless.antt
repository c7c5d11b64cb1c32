-- Terms without bound names: what terms are up to the choice of bound names.
--     DArgs, DTerm     as Args and Term, but under k binders a number below k is the place of a binder, counted
--                      outwards from 0, and k + x is the free name x
--     nameless t       the term t without its bound names
--     Alpha t u        t and u differ in bound names alone
--     moved f d        the nameless term d with f put on its free names
--     under x d        d as it stands under a binder of the name x
--     opened z d       d, which stands under a binder, with the name z for the bound one
use Rattle.std.specs.Prelude.{◌≡◌, ℕ, zero, suc, List, nat_eq, cond}
use Rattle.slotted_theory.specs.Term.{Args, Term, done, name, child, bind}

-- a list of arguments: a name or a bound place, a child with its own arguments, or a binder with the arguments under it
pub data DArgs : Type 0 where
  stop : DArgs
  place : (x : ℕ) (rest : DArgs) → DArgs
  sub : (op : ℕ) (payloads : List (List ℕ)) (args rest : DArgs) → DArgs
  scope : (inner rest : DArgs) → DArgs
  deriving Discrete as DArgs-discrete
  deriving IsSet as DArgs-set

-- an operator, payloads and arguments
pub record DTerm : Type 0 where
  pub op : ℕ
  pub payloads : List (List ℕ)
  pub args : DArgs

-- the numbers of names under one more binder, of the name x, where ρ numbers them outside
abbrev pub extend : ℕ → (ℕ → ℕ) → ℕ → ℕ
extend x ρ y = cond (nat_eq y x) 0 (suc (ρ y))

-- the arguments without bound names, where ρ numbers the names outside
abbrev pub nameless_args : (ℕ → ℕ) → Args → DArgs
nameless_args ρ done = stop
nameless_args ρ (name x rest) = place (ρ x) (nameless_args ρ rest)
nameless_args ρ (child op payloads args rest) = sub op payloads (nameless_args ρ args) (nameless_args ρ rest)
nameless_args ρ (bind x inner rest) = scope (nameless_args (extend x ρ) inner) (nameless_args ρ rest)

-- the term without bound names, where ρ numbers its free names
abbrev pub nameless_by : (ℕ → ℕ) → Term → DTerm
nameless_by ρ t = record { op = t.op; payloads = t.payloads; args = nameless_args ρ t.args }

-- the term without bound names, where each free name is its own number
abbrev pub nameless : Term → DTerm
nameless t = nameless_by (λ x. x) t

-- t and u differ in bound names alone
abbrev pub Alpha : Term → Term → Type 0
Alpha t u = nameless t ≡ nameless u

-- under a binder its place stays, and names are moved
abbrev pub lift : (ℕ → ℕ) → ℕ → ℕ
lift f zero = zero
lift f (suc n) = suc (f n)

-- the arguments with f on the free names
abbrev pub moved_args : (ℕ → ℕ) → DArgs → DArgs
moved_args f stop = stop
moved_args f (place x rest) = place (f x) (moved_args f rest)
moved_args f (sub op payloads args rest) = sub op payloads (moved_args f args) (moved_args f rest)
moved_args f (scope inner rest) = scope (moved_args (lift f) inner) (moved_args f rest)

-- the term with f on the free names
abbrev pub moved : (ℕ → ℕ) → DTerm → DTerm
moved f d = record { op = d.op; payloads = d.payloads; args = moved_args f d.args }

-- the term under a binder of the name x
abbrev pub under : ℕ → DTerm → DTerm
under x d = moved (extend x (λ y. y)) d

-- out of the innermost binder: its place becomes the name z, and a name is its own number again
abbrev pub entered : ℕ → ℕ → ℕ
entered z zero = z
entered z (suc x) = x

-- a term that stands under a binder, with the name z in the binder's place
abbrev pub opened : ℕ → DTerm → DTerm
opened z d = moved (entered z) d
