-- The free names of a nameless term: at them alone it matters what a function does.
use Rattle.std.proofs.Common.{◌≡◌, ℕ, zero, suc, ◌<◌, List, [], ◌∷◌, ◌++◌, sym, ◌∙◌, ap, refl, inl, inr, arith}
use Rattle.std.specs.Prelude.{map, Contains}
use Rattle.std.proofs.lemmas.List.{map-append}
use Rattle.std.proofs.lemmas.List.Elements.{Contains-append_left, Contains-append_right}
use Rattle.slotted_lists.proofs.Contained.{contains_head, contains_tail, contains_cases, Contains-nil, map-agrees, above, Contains-below}
use Rattle.slotted_theory.specs.Nameless.{DArgs, DTerm, stop, place, sub, scope, lift, moved, moved_args}
use Rattle.slotted_theory.specs.Shape.{outside, free_names}

-- a name that is free under a binder is free outside it
pub Contains-outside : (xs : List ℕ) (x : ℕ) → Contains xs (suc x) → Contains (outside xs) x
Contains-outside [] x c = absurd (Contains-nil (suc x) c)
Contains-outside (zero ∷ xs) x c = elim (contains_cases zero xs (suc x) c) [
  | inl e ↦ absurd (omega arith)
  | inr h ↦ Contains-outside xs x h
]
Contains-outside (suc y ∷ xs) x c = elim (contains_cases (suc y) xs (suc x) c) [
  | inl e ↦ let p : y ≡ x = omega arith in (0, omega arith, p)
  | inr h ↦ contains_tail y (outside xs) x (Contains-outside xs x h)
]

lift-agrees : (f g : ℕ → ℕ) (xs : List ℕ) → ((x : ℕ) → Contains (outside xs) x → f x ≡ g x) → (x : ℕ) → Contains xs x → lift f x ≡ lift g x
lift-agrees f g xs e zero c = refl
lift-agrees f g xs e (suc x) c = ap suc (e x (Contains-outside xs x c))

-- functions that agree on the free names move a term to one term
pub moved_args-agrees : (f g : ℕ → ℕ) (d : DArgs) → ((x : ℕ) → Contains (free_names d) x → f x ≡ g x) → moved_args f d ≡ moved_args g d
moved_args-agrees f g stop e = refl
moved_args-agrees f g (place x rest) e =
    λ i. place (e x (contains_head x (free_names rest)) i) (moved_args-agrees f g rest (λ y c. e y (contains_tail x (free_names rest) y c)) i)
moved_args-agrees f g (sub op payloads args rest) e =
    λ i. sub op payloads (moved_args-agrees f g args (λ y c. e y (Contains-append_left (free_names args) (free_names rest) y c)) i)
    (moved_args-agrees f g rest (λ y c. e y (Contains-append_right (free_names args) (free_names rest) y c)) i)
moved_args-agrees f g (scope inner rest) e =
    λ i. scope (moved_args-agrees (lift f) (lift g) inner (lift-agrees f g (free_names inner) (λ y c. e y (Contains-append_left (outside (free_names inner)) (free_names rest) y c))) i)
    (moved_args-agrees f g rest (λ y c. e y (Contains-append_right (outside (free_names inner)) (free_names rest) y c)) i)

pub moved-agrees : (f g : ℕ → ℕ) (d : DTerm) → ((x : ℕ) → Contains (free_names d.args) x → f x ≡ g x) → moved f d ≡ moved g d
moved-agrees f g d e = λ i. record { op = d.op; payloads = d.payloads; args = moved_args-agrees f g d.args e i }

outside-lift : (f : ℕ → ℕ) (xs : List ℕ) → outside (map (lift f) xs) ≡ map f (outside xs)
outside-lift f [] = refl
outside-lift f (zero ∷ xs) = outside-lift f xs
outside-lift f (suc x ∷ xs) = ap (λ l. f x ∷ l) (outside-lift f xs)

-- the free names of a moved term are the moved free names
pub free_names-moved : (f : ℕ → ℕ) (d : DArgs) → free_names (moved_args f d) ≡ map f (free_names d)
free_names-moved f stop = refl
free_names-moved f (place x rest) = ap (λ l. f x ∷ l) (free_names-moved f rest)
free_names-moved f (sub op payloads args rest) =
    (λ i. free_names-moved f args i ++ free_names-moved f rest i) ∙ sym (map-append f (free_names args) (free_names rest))
free_names-moved f (scope inner rest) =
    (λ i. (ap outside (free_names-moved (lift f) inner) ∙ outside-lift f (free_names inner)) i ++ free_names-moved f rest i) ∙ sym (map-append f (outside (free_names inner)) (free_names rest))

-- functions that move a term to one term agree on its free names
pub agrees-from_moved : (f g : ℕ → ℕ) (d : DTerm) → moved f d ≡ moved g d → (x : ℕ) → Contains (free_names d.args) x → f x ≡ g x
agrees-from_moved f g d e = map-agrees f g (free_names d.args) (sym (free_names-moved f d.args) ∙ (ap (λ (t : DTerm). free_names t.args) e ∙ free_names-moved g d.args))

-- a number above all free names: beyond it a function does not matter
abbrev pub bound : DArgs → ℕ
bound d = above (free_names d)

pub moved_args-agrees_below : (f g : ℕ → ℕ) (d : DArgs) → ((x : ℕ) → x < bound d → f x ≡ g x) → moved_args f d ≡ moved_args g d
moved_args-agrees_below f g d e = moved_args-agrees f g d (λ x c. e x (Contains-below (free_names d) x c))

pub moved-agrees_below : (f g : ℕ → ℕ) (d : DTerm) → ((x : ℕ) → x < bound d.args → f x ≡ g x) → moved f d ≡ moved g d
moved-agrees_below f g d e = moved-agrees f g d (λ x c. e x (Contains-below (free_names d.args) x c))
