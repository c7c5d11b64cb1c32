-- Going past a piece or a part of two rows.
use Rattle.std.proofs.Common.{◌≡◌, List, [], ◌∷◌, length, sym, ap, subst, arith}
use Rattle.std.specs.Prelude.{Option, Some, None, IfSome, Result, Ok, Err, IfOk, Contains}
use Rattle.slotted_check.specs.declared.pieces.Piece.{Piece}
use Rattle.slotted_check.specs.declared.steps.Equation.{Equation}
use Rattle.slotted_check.specs.Rows.{Walks, ended, same, part, Passes, PassesPiece}
use Rattle.slotted_check.specs.Parts.{SaysLine, PassesPart}

walks-along : {P : List Piece → List Piece → Type 0} {xs ys ls rs : List Piece} → ls ≡ xs → rs ≡ ys → Walks P xs ys → Walks P ls rs
walks-along {P} p q w = subst (λ u. u) (λ i. Walks P (sym p i) (sym q i)) w

pub walks-ended : {P : List Piece → List Piece → Type 0} (ls rs : List Piece) → ls ≡ [] → rs ≡ [] → Walks P ls rs
walks-ended ls rs p q = walks-along p q ended

pub passes-piece : (P : List Piece → List Piece → Type 0) (ls rs xs ys : List Piece) → PassesPiece ls rs xs ys → Passes P ls rs xs ys
passes-piece P ls rs xs ys h =
    let n : length ls ≡ length (h.piece ∷ xs) = ap length h.left in
    record {
      walks = λ w. walks-along h.left h.right (same h.piece w);
      shorter = omega arith;
    }

pub passes-part : (lines : List Equation) (line : Equation) (ls rs xs ys : List Piece) → Contains lines line → PassesPart line ls rs xs ys → Passes (SaysLine lines) ls rs xs ys
passes-part lines line ls rs xs ys c h = record {
  walks = λ w. walks-along h.left h.right (part (record { line = line; among = c; says = h.says }) w);
  shorter = h.shorter;
}

pub some-map : {A : Type 0} {P Q : A → Type 0} (o : Option A) → ((a : A) → P a → Q a) → IfSome o P → IfSome o Q
some-map None h p = p
some-map (Some a) h p = h a p

pub ok-map : {A E : Type 0} {P Q : A → Type 0} (r : Result A E) → ((a : A) → P a → Q a) → IfOk r P → IfOk r Q
ok-map (Ok a) h p = h a p
ok-map (Err e) h p = p
