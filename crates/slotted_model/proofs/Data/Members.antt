-- Membership of a number in a list under a binder, by a walk over the list.
use Rattle.std.proofs.Common.{◌≡◌, ℕ, zero, suc, List, [], ◌∷◌, ap, inl, inr, arith}
use Rattle.slotted_theory.specs.Shape.{outside}
use Rattle.slotted_lists.proofs.Members.{In}

pub In-outside : (x : ℕ) (xs : List ℕ) → In (suc x) xs → In x (outside xs)
In-outside x [] h = h
In-outside x (zero ∷ xs) (inl e) = absurd (omega arith)
In-outside x (zero ∷ xs) (inr h) = In-outside x xs h
In-outside x (suc y ∷ xs) (inl e) = inl (omega arith)
In-outside x (suc y ∷ xs) (inr h) = inr (In-outside x xs h)

pub In-inside : (x : ℕ) (xs : List ℕ) → In x (outside xs) → In (suc x) xs
In-inside x [] h = h
In-inside x (zero ∷ xs) h = inr (In-inside x xs h)
In-inside x (suc y ∷ xs) (inl e) = inl (ap suc e)
In-inside x (suc y ∷ xs) (inr h) = inr (In-inside x xs h)
