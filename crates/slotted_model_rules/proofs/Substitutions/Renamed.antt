-- Ids renamed twice, and ids as terms read back.
use Rattle.std.proofs.Common.{◌≡◌, ℕ, List, [], ◌∷◌, ap, refl}
use Rattle.slotted_theory.specs.FiniteMaps.{with_values}
use Rattle.slotted_model.specs.Applied.{Applied, renamed_id, as_term, applied_of}
use Rattle.slotted_model.proofs.Represented.Children.{zip-places}

with_values-twice : (f g : ℕ → ℕ) (m : List (ℕ × ℕ)) → with_values f (with_values g m) ≡ with_values (λ x. f (g x)) m
with_values-twice f g [] = refl
with_values-twice f g (p ∷ m) = ap (λ l. (p.0, f (g p.1)) ∷ l) (with_values-twice f g m)

with_values-id : (m : List (ℕ × ℕ)) → with_values (λ x. x) m ≡ m
with_values-id [] = refl
with_values-id (p ∷ m) = ap (λ l. p ∷ l) (with_values-id m)

pub renamed-twice : (f g : ℕ → ℕ) (a : Applied) → renamed_id f (renamed_id g a) ≡ renamed_id (λ x. f (g x)) a
renamed-twice f g a = ap (λ m. (a.0, m)) (with_values-twice f g a.1)

pub renamed-id : (a : Applied) → renamed_id (λ x. x) a ≡ a
renamed-id a = ap (λ m. (a.0, m)) (with_values-id a.1)

pub applied-as_term : (a : Applied) → applied_of (as_term a).payloads (as_term a).args ≡ a
applied-as_term a = ap (λ m. (a.0, m)) (zip-places a.1)
