-- What is left of a row, and what substitution makes of it.
--     shift k d              the term d as it is seen from under k more binders
--     Turned x t es ps qs    the row ps ends all of es, the first one first, and qs is that row with t in the places of x
use Rattle.std.specs.Prelude.{◌≡◌, ◌<◌, ◌+◌, ℕ, suc, List, [], ◌∷◌, ◌++◌, length}
use Rattle.slotted_theory.specs.Nameless.{DArgs, DTerm, moved}
use Rattle.slotted_check.specs.declared.pieces.Piece.{Piece}
use Rattle.slotted_check.specs.declared.pieces.Piece.TheVariants.{Scope, Leave}
use Rattle.slotted_check.specs.Openings.{Closes}
use Rattle.slotted_check.specs.Rows.{End, closing, leaving, down, lifts, moved_row, row, row_args, ArePlain, IsPlain}
use Rattle.slotted_certificates.specs.Substitution.{Substitutes, SubstitutesArgs}

abbrev pub shift : ℕ → DTerm → DTerm
shift k d = moved (λ n. n + k) d

-- how many scopes are open
abbrev pub leaves : List End → ℕ
leaves [] = 0
leaves (closing ∷ es) = leaves es
leaves (leaving ∷ es) = suc (leaves es)

-- how many are open behind a piece
abbrev pub depth_behind : Piece → ℕ → ℕ
depth_behind Scope k = suc k
depth_behind Leave k = down k
depth_behind _ k = k

-- arguments up to an end, and what stands behind
pub record TurnsOne (x t : DTerm) (e : End) (Rest : List Piece → List Piece → Type 0) (ps qs : List Piece) : Type 0 where
  pub args : DArgs
  pub made : DArgs
  pub later : List Piece
  pub more : List Piece
  pub is : SubstitutesArgs x t args made
  pub given : ArePlain args
  pub plain : ArePlain made
  pub from : ps ≡ row_args e args ++ later
  pub to : qs ≡ row_args e made ++ more
  pub rest : Rest later more

abbrev pub Turned : DTerm → DTerm → List End → List Piece → List Piece → Type 0
Turned x t [] ps qs = (ps ≡ []) × (qs ≡ [])
Turned x t (e ∷ es) ps qs = TurnsOne (shift (leaves (e ∷ es)) x) (shift (leaves (e ∷ es)) t) e (Turned x t es) ps qs

-- a part of the row ps is passed up to ps', and adds pieces to what is made
pub record TurnsTo (x t : DTerm) (es : List End) (ps ps' old new : List Piece) (k : ℕ) : Type 0 where
  pub ends : List End
  pub depth : k ≡ leaves ends
  pub closes : Closes ends ps'
  pub pieces : List Piece
  pub made : new ≡ old ++ pieces
  pub goes : (qs : List Piece) → Turned x t ends ps' qs → Turned x t es ps (pieces ++ qs)

-- whatever the rows are of: the part x, the value t, and what is left, which ends es
abbrev pub StepsTo : List Piece → List Piece → ℕ → List Piece → ℕ → List Piece → List Piece → List Piece → Type 0
StepsTo part value depth ps depth' ps' old new = (x t : DTerm) → IsPlain x → IsPlain t → part ≡ row x → value ≡ row t →
    (es : List End) → depth ≡ leaves es → Closes es ps → TurnsTo x t es ps ps' old new depth'

-- the row of a term with t in the places of x
pub record IsSubstitutedRow (x t b : DTerm) (qs : List Piece) : Type 0 where
  pub term : DTerm
  pub is : Substitutes x t b term
  pub plain : IsPlain term
  pub pieces : qs ≡ row term

-- what the row l begins with is, by f under k scopes, what r is, exactly if this holds behind a piece of each
pub record ComesDownTo (f : ℕ → ℕ) (k n : ℕ) (l l' r r' : List Piece) : Type 0 where
  pub forth : (later : List Piece) → l' ≡ moved_row (lifts n f) r' ++ later → l ≡ moved_row (lifts k f) r ++ later
  pub back : (later : List Piece) → l ≡ moved_row (lifts k f) r ++ later → l' ≡ moved_row (lifts n f) r' ++ later
  pub shorter : length r' < length r

abbrev pub Differ : (ℕ → ℕ) → ℕ → List Piece → List Piece → Type 0
Differ f k l r = (later : List Piece) → ¬ (l ≡ moved_row (lifts k f) r ++ later)

-- the first piece is passed, and stands behind what was made
pub record KeepsFirst (ps ps' : List Piece) (k n : ℕ) (old new : List Piece) : Type 0 where
  pub piece : Piece
  pub is : ps ≡ piece ∷ ps'
  pub depth : n ≡ depth_behind piece k
  pub made : new ≡ old ++ piece ∷ []

-- arguments with t in the places of x, at the end of a row
pub record AreTurned (x t : DTerm) (a : DArgs) (old new : List Piece) : Type 0 where
  pub args : DArgs
  pub is : SubstitutesArgs x t a args
  pub plain : ArePlain args
  pub made : new ≡ old ++ row_args closing args
