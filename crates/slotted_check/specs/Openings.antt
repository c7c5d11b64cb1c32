-- Rows that end what is open.
--     BeginsNode ps rest    the row ps is a head, and rest behind it
--     Closes es ps    the row ps ends all of es, the first one first, and has nothing behind that
--     ends bs         what is open, the last one first: true stands for a scope, and false for a node
use Rattle.std.specs.Prelude.{◌≡◌, ℕ, Bool, true, false, List, [], ◌∷◌, ◌++◌}
use Rattle.slotted_theory.specs.Nameless.{DArgs}
use Rattle.slotted_check.specs.declared.pieces.Piece.{Piece}
use Rattle.slotted_check.specs.declared.pieces.Piece.TheVariants.{Head}
use Rattle.slotted_check.specs.Rows.{End, closing, leaving, row_args, ArePlain}

pub record BeginsNode (ps rest : List Piece) : Type 0 where
  pub operator : ℕ
  pub is : ps ≡ Head operator ∷ rest

-- arguments up to an end, and such a row behind them
pub record ClosesOne (e : End) (Behind : List Piece → Type 0) (ps : List Piece) : Type 0 where
  pub args : DArgs
  pub plain : ArePlain args
  pub behind : List Piece
  pub is : ps ≡ row_args e args ++ behind
  pub rest : Behind behind

abbrev pub Closes : List End → List Piece → Type 0
Closes [] ps = ps ≡ []
Closes (e ∷ es) ps = ClosesOne e (Closes es) ps

abbrev pub end_of : Bool → End
end_of true = leaving
end_of false = closing

abbrev pub ends_onto : List Bool → List End → List End
ends_onto [] es = es
ends_onto (b ∷ bs) es = ends_onto bs (end_of b ∷ es)

abbrev pub ends : List Bool → List End
ends bs = ends_onto bs []
