-- What renamings say of equations, as functions on all names.
use Rattle.std.proofs.Common.{◌≡◌, ℕ, List, ◌∷◌, ap, ◌∙◌, sym}
use Rattle.slotted_theory.specs.FiniteMaps.{IsInjectiveMap, filled}
use Rattle.slotted_theory.proofs.Filled.{filled-value_of, filled-injective}
use Rattle.slotted_check.specs.Renamings.{Agrees, Extends}
use Rattle.slotted_check.specs.declared.pieces.Piece.{Piece}
use Rattle.slotted_check.specs.Rows.{SaysAs, Joins, IsMoved, AreMoved, lifts, moved_row}

pub agrees-before : (f : ℕ → ℕ) (m n : List (ℕ × ℕ)) → Extends m n → Agrees f n → Agrees f m
agrees-before f m n e a x v h = a x v (e x v h)

pub extends-itself : (m : List (ℕ × ℕ)) → Extends m m
extends-itself m x v h = h

pub extends-on : (k m n : List (ℕ × ℕ)) → Extends k m → Extends m n → Extends k n
extends-on k m n p q x v h = q x v (p x v h)

pub filled-agrees : (m : List (ℕ × ℕ)) → Agrees (filled m) m
filled-agrees m x v h = filled-value_of m x v h

pub says-by : (m n : List (ℕ × ℕ)) {l r l' r' : List Piece} → IsInjectiveMap n → Extends m n →
    ((f : ℕ → ℕ) → Agrees f m → moved_row f l ≡ l') → ((f : ℕ → ℕ) → Agrees f n → moved_row f r ≡ r') → SaysAs l r l' r'
says-by m n i e p q = record {
  names = filled n;
  injective = filled-injective n i;
  left = p (filled n) (agrees-before (filled n) m n e (filled-agrees n));
  right = q (filled n) (filled-agrees n);
}

pub joins-by : (a b m n : List (ℕ × ℕ)) {l r l1 m1 m2 r2 : List Piece} → IsInjectiveMap m → IsInjectiveMap n → Extends a m → Extends b n →
    ((f : ℕ → ℕ) → Agrees f a → moved_row f l1 ≡ l) → ((g : ℕ → ℕ) → Agrees g b → moved_row g r2 ≡ r) →
    ((f g : ℕ → ℕ) → Agrees f m → Agrees g n → moved_row f m1 ≡ moved_row g m2) → Joins l r l1 m1 m2 r2
joins-by a b m n i j c d p q s = record {
  first = filled m;
  second = filled n;
  first_injective = filled-injective m i;
  second_injective = filled-injective n j;
  begins = p (filled m) (agrees-before (filled m) a m c (filled-agrees m));
  meets = s (filled m) (filled n) (filled-agrees m) (filled-agrees n);
  ends = q (filled n) (agrees-before (filled n) b n d (filled-agrees n));
}

-- one piece more in front
pub moves-more : (f : ℕ → ℕ) (k n : ℕ) (p q : Piece) (ps qs : List Piece) → IsMoved f k p q n → moved_row (lifts n f) ps ≡ qs → moved_row (lifts k f) (p ∷ ps) ≡ q ∷ qs
moves-more f k n p q ps qs s h = λ i. s.piece i ∷ (ap (λ g. moved_row g ps) s.scopes ∙ h) i

pub meets-more : (f g : ℕ → ℕ) (k n : ℕ) (p q : Piece) (ps qs : List Piece) → AreMoved f g k p q n →
    moved_row (lifts n f) ps ≡ moved_row (lifts n g) qs → moved_row (lifts k f) (p ∷ ps) ≡ moved_row (lifts k g) (q ∷ qs)
meets-more f g k n p q ps qs s h = λ i. s.piece i ∷ (ap (λ u. moved_row u ps) s.left ∙ (h ∙ ap (λ u. moved_row u qs) (sym s.right))) i
