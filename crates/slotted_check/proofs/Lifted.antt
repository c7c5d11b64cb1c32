-- A function under scopes: a place stays, and a name is moved.
use Rattle.std.proofs.Common.{◌≡◌, ℕ, zero, suc, ◌+◌, ◌-◌, ◌<◌, ◌≤◌, sym, ◌∙◌, ap, refl, arith}
use Rattle.std.specs.Prelude.{Option, Some, None, IfSome}
use Rattle.slotted_theory.specs.Nameless.{lift}
use Rattle.slotted_check.specs.declared.pieces.Piece.TheVariants.{Name, Scope, Leave}
use Rattle.slotted_check.specs.Rows.{lifts, unlift, IsMoved, AreMoved}

pub lifts-below : (k : ℕ) (f : ℕ → ℕ) (a : ℕ) → a < k → lifts k f a ≡ a
lifts-below zero f a h = absurd (omega arith)
lifts-below (suc k) f zero h = refl
lifts-below (suc k) f (suc a) h = ap suc (lifts-below k f a (omega arith))

pub lifts-above : (k : ℕ) (f : ℕ → ℕ) (a : ℕ) → k ≤ a → lifts k f a ≡ k + f (a - k)
lifts-above zero f a h =
    let e : a ≡ a - 0 = omega arith in
    let z : f (a - 0) ≡ 0 + f (a - 0) = omega arith in
    ap f e ∙ z
lifts-above (suc k) f zero h = absurd (omega arith)
lifts-above (suc k) f (suc a) h =
    let e : a - k ≡ suc a - suc k = omega arith in
    let n : ℕ = f (suc a - suc k) in
    let z : suc (k + n) ≡ suc k + n = omega arith in
    ap suc (lifts-above k f a (omega arith)) ∙ (ap (λ m. suc (k + f m)) e ∙ z)

-- one more scope, and one less
pub lifts-deeper : (k n : ℕ) (f : ℕ → ℕ) → n ≡ k + 1 → lift (lifts k f) ≡ lifts n f
lifts-deeper k n f h = let e : suc k ≡ n = omega arith in ap (λ m. lifts m f) e

pub lifts-shallower : (k n : ℕ) (f : ℕ → ℕ) → k ≡ n + 1 → unlift (lifts k f) ≡ lifts n f
lifts-shallower k n f h = let e : k ≡ suc n = omega arith in ap (λ m. unlift (lifts m f)) e

-- what comparing two pieces answers, where both open a scope, or end one
pub opened-both : (o : Option ℕ) (k : ℕ) (P : (ℕ → ℕ) → Type 0) → IfSome o (λ n. n ≡ k + 1) → IfSome o (λ n. (f : ℕ → ℕ) → P f → IsMoved f k Scope Scope n)
opened-both None k P h = h
opened-both (Some n) k P h = λ f a. record { piece = refl; scopes = lifts-deeper k n f h }

pub left-both : (o : Option ℕ) (k : ℕ) (P : (ℕ → ℕ) → Type 0) → IfSome o (λ n. k ≡ n + 1) → IfSome o (λ n. (f : ℕ → ℕ) → P f → IsMoved f k Leave Leave n)
left-both None k P h = h
left-both (Some n) k P h = λ f a. record { piece = refl; scopes = lifts-shallower k n f h }

pub named-both : (o : Option ℕ) (k a b : ℕ) (P : (ℕ → ℕ) → Type 0) → IfSome o (λ n. (n ≡ k) × ((f : ℕ → ℕ) → P f → lifts k f a ≡ b)) →
    IfSome o (λ n. (f : ℕ → ℕ) → P f → IsMoved f k (Name a) (Name b) n)
named-both None k a b P h = h
named-both (Some n) k a b P h = λ f p. record { piece = ap Name (h.1 f p); scopes = ap (λ m. lifts m f) (sym h.0) }

pub opened-two : (o : Option ℕ) (k : ℕ) (P Q : (ℕ → ℕ) → Type 0) → IfSome o (λ n. n ≡ k + 1) →
    IfSome o (λ n. (f g : ℕ → ℕ) → P f → Q g → AreMoved f g k Scope Scope n)
opened-two None k P Q h = h
opened-two (Some n) k P Q h = λ f g a b. record { piece = refl; left = lifts-deeper k n f h; right = lifts-deeper k n g h }

pub left-two : (o : Option ℕ) (k : ℕ) (P Q : (ℕ → ℕ) → Type 0) → IfSome o (λ n. k ≡ n + 1) →
    IfSome o (λ n. (f g : ℕ → ℕ) → P f → Q g → AreMoved f g k Leave Leave n)
left-two None k P Q h = h
left-two (Some n) k P Q h = λ f g a b. record { piece = refl; left = lifts-shallower k n f h; right = lifts-shallower k n g h }

pub named-two : (o : Option ℕ) (k a b : ℕ) (P Q : (ℕ → ℕ) → Type 0) →
    IfSome o (λ n. (n ≡ k) × ((f g : ℕ → ℕ) → P f → Q g → lifts k f a ≡ lifts k g b)) →
    IfSome o (λ n. (f g : ℕ → ℕ) → P f → Q g → AreMoved f g k (Name a) (Name b) n)
named-two None k a b P Q h = h
named-two (Some n) k a b P Q h = λ f g p q. record { piece = ap Name (h.1 f g p q); left = ap (λ m. lifts m f) (sym h.0); right = ap (λ m. lifts m g) (sym h.0) }
