-- Pieces of a value as they are seen under scopes around the value.
use Rattle.std.proofs.Common.{◌≡◌, ℕ, ◌+◌, ◌-◌, ◌<◌, ◌≤◌, sym, ◌∙◌, ap, refl}
use Rattle.slotted_check.specs.declared.pieces.Piece.TheVariants.{Name, Scope, Leave}
use Rattle.slotted_check.specs.Rows.{IsMoved}
use Rattle.slotted_check.proofs.Lifted.{lifts-above, lifts-below, lifts-deeper, lifts-shallower}

pub place-seen : (f : ℕ → ℕ) (k a : ℕ) → a < k → IsMoved f k (Name a) (Name a) k
place-seen f k a h = record { piece = ap Name (lifts-below k f a h); scopes = refl }

pub name-seen : (f : ℕ → ℕ) (k a m n : ℕ) → k ≤ a → m ≡ f (a - k) → n ≡ k + m → IsMoved f k (Name a) (Name n) k
name-seen f k a m n h e s = record { piece = ap Name (lifts-above k f a h ∙ (ap (λ x. k + x) (sym e) ∙ sym s)); scopes = refl }

pub scope-seen : (f : ℕ → ℕ) (k n : ℕ) → n ≡ k + 1 → IsMoved f k Scope Scope n
scope-seen f k n h = record { piece = refl; scopes = lifts-deeper k n f h }

pub leave-seen : (f : ℕ → ℕ) (k n : ℕ) → k ≡ n + 1 → IsMoved f k Leave Leave n
leave-seen f k n h = record { piece = refl; scopes = lifts-shallower k n f h }
