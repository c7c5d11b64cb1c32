-- What a renaming says of names, pieces and rows, whatever names it gets later.
--     TakesName m k a b          under k scopes the name or place a becomes b
--     TakesPiece m k p q n       under k scopes the piece p becomes q, and behind them n scopes are open
--     TakesRow m l r             the row l becomes r
--     MeetAtName m n k a b       under k scopes a becomes by m what b becomes by n
--     MeetAtPiece m n k p q o    under k scopes p becomes by m what q becomes by n, and behind them o scopes are open
--     MeetAtRow m n l r          the row l becomes by m what r becomes by n
use Rattle.std.specs.Prelude.{◌≡◌, ℕ, List}
use Rattle.slotted_check.specs.declared.pieces.Piece.{Piece}
use Rattle.slotted_check.specs.Renamings.{Agrees}
use Rattle.slotted_check.specs.Rows.{AreMoved, IsMoved, lifts, moved_row}

abbrev pub TakesName : List (ℕ × ℕ) → ℕ → ℕ → ℕ → Type 0
TakesName m k a b = (f : ℕ → ℕ) → Agrees f m → lifts k f a ≡ b

abbrev pub TakesPiece : List (ℕ × ℕ) → ℕ → Piece → Piece → ℕ → Type 0
TakesPiece m k p q n = (f : ℕ → ℕ) → Agrees f m → IsMoved f k p q n

abbrev pub TakesRow : List (ℕ × ℕ) → List Piece → List Piece → Type 0
TakesRow m l r = (f : ℕ → ℕ) → Agrees f m → moved_row f l ≡ r

abbrev pub MeetAtName : List (ℕ × ℕ) → List (ℕ × ℕ) → ℕ → ℕ → ℕ → Type 0
MeetAtName m n k a b = (f g : ℕ → ℕ) → Agrees f m → Agrees g n → lifts k f a ≡ lifts k g b

abbrev pub MeetAtPiece : List (ℕ × ℕ) → List (ℕ × ℕ) → ℕ → Piece → Piece → ℕ → Type 0
MeetAtPiece m n k p q o = (f g : ℕ → ℕ) → Agrees f m → Agrees g n → AreMoved f g k p q o

abbrev pub MeetAtRow : List (ℕ × ℕ) → List (ℕ × ℕ) → List Piece → List Piece → Type 0
MeetAtRow m n l r = (f g : ℕ → ℕ) → Agrees f m → Agrees g n → moved_row f l ≡ moved_row g r
