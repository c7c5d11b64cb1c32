-- Terms without bound names, in rows of pieces.
--     row d              the pieces of the term d
--     moved_row f ps     the pieces with f on the free names
--     lifts k f          f under k scopes
--     IsMoved f k p q n  under k scopes f takes the piece p to q, and behind them n scopes are open
--     SaysAs l r l' r'   one injective renaming takes the equation l = r to l' = r'
use Rattle.std.specs.Prelude.{◌≡◌, ◌<◌, ℕ, zero, suc, List, [], ◌∷◌, ◌++◌, length}
use Rattle.slotted_theory.specs.Nameless.{DArgs, DTerm, stop, place, sub, scope, lift}
use Rattle.slotted_theory.specs.Renaming.{IsInjective}
use Rattle.slotted_check.specs.declared.pieces.Piece.{Piece}
use Rattle.slotted_check.specs.declared.pieces.Piece.TheVariants.{Head, Name, Scope, Leave, Close}

-- what ends a list of arguments: the end of its node, or that of the scope that it stands in
pub data End : Type 0 where
  closing : End
  leaving : End

abbrev pub end_piece : End → Piece
end_piece closing = Close
end_piece leaving = Leave

-- the pieces of arguments
abbrev pub row_args : End → DArgs → List Piece
row_args e stop = end_piece e ∷ []
row_args e (place x rest) = Name x ∷ row_args e rest
row_args e (sub op payloads args rest) = Head op ∷ (row_args closing args ++ row_args e rest)
row_args e (scope inner rest) = Scope ∷ (row_args leaving inner ++ row_args e rest)

abbrev pub row : DTerm → List Piece
row d = Head d.op ∷ row_args closing d.args

-- no payload stands in the arguments: an operator is its number alone
abbrev pub ArePlain : DArgs → Type 0
ArePlain stop = Unit {0}
ArePlain (place x rest) = ArePlain rest
ArePlain (sub op payloads args rest) = (payloads ≡ []) × ArePlain args × ArePlain rest
ArePlain (scope inner rest) = ArePlain inner × ArePlain rest

abbrev pub IsPlain : DTerm → Type 0
IsPlain d = (d.payloads ≡ []) × ArePlain d.args

-- one less, and what a function is outside of the innermost scope
abbrev pub down : ℕ → ℕ
down zero = zero
down (suc n) = n

abbrev pub unlift : (ℕ → ℕ) → ℕ → ℕ
unlift f x = down (f (suc x))

-- what a function on names is behind a piece
abbrev pub behind : Piece → (ℕ → ℕ) → ℕ → ℕ
behind (Head n) f = f
behind (Name x) f = f
behind Scope f = lift f
behind Leave f = unlift f
behind Close f = f

abbrev pub moved_piece : (ℕ → ℕ) → Piece → Piece
moved_piece f (Head n) = Head n
moved_piece f (Name x) = Name (f x)
moved_piece f Scope = Scope
moved_piece f Leave = Leave
moved_piece f Close = Close

abbrev pub moved_row : (ℕ → ℕ) → List Piece → List Piece
moved_row f [] = []
moved_row f (p ∷ ps) = moved_piece f p ∷ moved_row (behind p f) ps

abbrev pub lifts : ℕ → (ℕ → ℕ) → ℕ → ℕ
lifts zero f = f
lifts (suc k) f = lift (lifts k f)

pub record IsMoved (f : ℕ → ℕ) (k : ℕ) (p q : Piece) (n : ℕ) : Type 0 where
  pub piece : moved_piece (lifts k f) p ≡ q
  pub scopes : behind p (lifts k f) ≡ lifts n f

-- f and g, each under k scopes, take the pieces p and q to one, and behind them n scopes are open
pub record AreMoved (f g : ℕ → ℕ) (k : ℕ) (p q : Piece) (n : ℕ) : Type 0 where
  pub piece : moved_piece (lifts k f) p ≡ moved_piece (lifts k g) q
  pub left : behind p (lifts k f) ≡ lifts n f
  pub right : behind q (lifts k g) ≡ lifts n g

pub record SaysAs (l r l' r' : List Piece) : Type 0 where
  pub names : ℕ → ℕ
  pub injective : IsInjective names
  pub left : moved_row names l ≡ l'
  pub right : moved_row names r ≡ r'

-- injective renamings take both halves to one middle, and their ends to the ends of the whole
pub record Joins (l r l1 m1 m2 r2 : List Piece) : Type 0 where
  pub first : ℕ → ℕ
  pub second : ℕ → ℕ
  pub first_injective : IsInjective first
  pub second_injective : IsInjective second
  pub begins : moved_row first l1 ≡ l
  pub meets : moved_row first m1 ≡ moved_row second m2
  pub ends : moved_row second r2 ≡ r

-- the rows are the same but for parts, which are as P says
pub data Walks (P : List Piece → List Piece → Type 0) : List Piece → List Piece → Type 0 where
  ended : Walks P [] []
  same : (p : Piece) {xs ys : List Piece} → Walks P xs ys → Walks P (p ∷ xs) (p ∷ ys)
  part : {a b xs ys : List Piece} → P a b → Walks P xs ys → Walks P (a ++ xs) (b ++ ys)

-- the rows begin with one head, and then are the same but for such parts
pub record IsCongruent (P : List Piece → List Piece → Type 0) (l r : List Piece) : Type 0 where
  pub operator : ℕ
  pub lefts : List Piece
  pub rights : List Piece
  pub left : l ≡ Head operator ∷ lefts
  pub right : r ≡ Head operator ∷ rights
  pub walk : Walks P lefts rights

-- the same piece is passed in front of both rows
pub record PassesPiece (ls rs xs ys : List Piece) : Type 0 where
  pub piece : Piece
  pub left : ls ≡ piece ∷ xs
  pub right : rs ≡ piece ∷ ys

-- of the rows ls and rs so much is passed that what is left makes them the same but for parts
pub record Passes (P : List Piece → List Piece → Type 0) (ls rs xs ys : List Piece) : Type 0 where
  pub walks : Walks P xs ys → Walks P ls rs
  pub shorter : length xs < length ls
