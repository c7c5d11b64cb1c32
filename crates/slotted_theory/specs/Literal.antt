-- The literal nameless form: the place of its innermost binder for each bound occurrence, and each free name itself.
use Rattle.std.specs.Prelude.{ℕ, suc, List, [], ◌∷◌, nat_eq, cond}
use Rattle.slotted_theory.specs.Term.{Args, Term, done, name, child, bind}

-- what stands at a name's place: the place of its binder, counted outwards from 0, or a free name
pub data Occurrence : Type 0 where
  bound : (place : ℕ) → Occurrence
  free : (x : ℕ) → Occurrence

-- a list of arguments: an occurrence, a child with its own arguments, or a binder with the arguments under it
pub data LArgs : Type 0 where
  nothing : LArgs
  occurs : (n : Occurrence) (rest : LArgs) → LArgs
  has_child : (op : ℕ) (payloads : List (List ℕ)) (args rest : LArgs) → LArgs
  binder : (inner rest : LArgs) → LArgs

-- an operator, payloads and arguments
pub record LTerm : Type 0 where
  pub op : ℕ
  pub payloads : List (List ℕ)
  pub args : LArgs

-- the same occurrence, seen under one more binder of another name
abbrev pub outer : Occurrence → Occurrence
outer (bound i) = bound (suc i)
outer (free x) = free x

-- what a name is under binders, the innermost first
abbrev pub occurrence : List ℕ → ℕ → Occurrence
occurrence [] x = free x
occurrence (b ∷ bs) x = cond (nat_eq x b) (bound 0) (outer (occurrence bs x))

-- the literal form of arguments under binders
abbrev pub literal_args : List ℕ → Args → LArgs
literal_args bs done = nothing
literal_args bs (name x rest) = occurs (occurrence bs x) (literal_args bs rest)
literal_args bs (child op payloads args rest) = has_child op payloads (literal_args bs args) (literal_args bs rest)
literal_args bs (bind x inner rest) = binder (literal_args (x ∷ bs) inner) (literal_args bs rest)

-- the literal form of a term
abbrev pub literal : Term → LTerm
literal t = record { op = t.op; payloads = t.payloads; args = literal_args [] t.args }
