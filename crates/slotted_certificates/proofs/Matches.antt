-- Comparing what a row begins with, piece by piece.
use Rattle.std.proofs.Common.{◌≡◌, ℕ, List, [], ◌∷◌, ◌++◌, length, sym, ◌∙◌, ap, arith}
use Rattle.slotted_check.specs.declared.pieces.Piece.{Piece}
use Rattle.slotted_check.specs.Rows.{IsMoved, lifts, moved_row}
use Rattle.slotted_check.proofs.OneReading.{rest_of}
use Rattle.slotted_certificates.specs.Turning.{ComesDownTo, Differ}

moved-first : (f : ℕ → ℕ) (k n : ℕ) (p q : Piece) (ps : List Piece) → IsMoved f k p q n → moved_row (lifts k f) (p ∷ ps) ≡ q ∷ moved_row (lifts n f) ps
moved-first f k n p q ps m = λ i. m.piece i ∷ moved_row (m.scopes i) ps

pub comes-down : (f : ℕ → ℕ) (k n : ℕ) (l l' r r' : List Piece) (p q s : Piece) → IsMoved f k p q n → r ≡ p ∷ r' → l ≡ s ∷ l' → s ≡ q → ComesDownTo f k n l l' r r'
comes-down f k n l l' r r' p q s m right left same = record {
  forth = λ later h. left ∙ ((λ i. same i ∷ h i) ∙ ap (λ u. u ++ later) (sym (ap (moved_row (lifts k f)) right ∙ moved-first f k n p q r' m)));
  back = λ later h. ap rest_of (sym left ∙ (h ∙ ap (λ u. u ++ later) (ap (moved_row (lifts k f)) right ∙ moved-first f k n p q r' m)));
  shorter = let e : length r ≡ length (p ∷ r') = ap length right in omega arith;
}

abbrev first_or : Piece → List Piece → Piece
first_or p [] = p
first_or p (q ∷ qs) = q

pub differs-here : (f : ℕ → ℕ) (k n : ℕ) (l l' r r' : List Piece) (p q s : Piece) → IsMoved f k p q n → r ≡ p ∷ r' → l ≡ s ∷ l' → ¬ (s ≡ q) → Differ f k l r
differs-here f k n l l' r r' p q s m right left not later h =
    not (ap (first_or s) (sym left ∙ (h ∙ ap (λ u. u ++ later) (ap (moved_row (lifts k f)) right ∙ moved-first f k n p q r' m))))

pub differs-at_end : (f : ℕ → ℕ) (k n : ℕ) (l r r' : List Piece) (p q : Piece) → IsMoved f k p q n → r ≡ p ∷ r' → l ≡ [] → Differ f k l r
differs-at_end f k n l r r' p q m right none later h =
    let e : length l ≡ length (q ∷ (moved_row (lifts n f) r' ++ later)) = ap length (h ∙ ap (λ u. u ++ later) (ap (moved_row (lifts k f)) right ∙ moved-first f k n p q r' m)) in
    let z : length l ≡ 0 = ap length none in
    absurd (omega arith)
