-- The lemmas of slotted_theory that this crate cites, with membership by a walk.
use Rattle.std.proofs.Common.{◌≡◌, ◌≢◌, ℕ, ◌+◌, List, [], ◌∷◌, Some, get_or, sym, ◌∙◌, ap, refl, inl, inr, true}
use Rattle.std.specs.Prelude.{map, nat_eq, cond, unwrap_or}
use Rattle.std.proofs.lemmas.Bool.{cases_eq, eq-eqb, ne_eqb}
use Rattle.slotted_lists.proofs.Members.{In, In-Contains, Contains-In}
use Rattle.slotted_theory.specs.Nameless.{DArgs, DTerm, moved, moved_args}
use Rattle.slotted_theory.specs.FiniteMaps.{top, filled, value_of}
use Rattle.slotted_theory.specs.Decided.{args_eq}
use Rattle.slotted_theory.specs.Shape.{free_names, number_in}
use Rattle.slotted_theory.proofs.Names.{extend-same, extend-other}
use Rattle.slotted_theory.proofs.Laws as laws
use Rattle.slotted_theory.proofs.FreeNames as free
use Rattle.slotted_theory.proofs.Decides.{args_eq_iff}

pub moved_args-agrees : (f g : ℕ → ℕ) (d : DArgs) → ((x : ℕ) → In x (free_names d) → f x ≡ g x) → moved_args f d ≡ moved_args g d
moved_args-agrees f g d e = free.moved_args-agrees f g d (λ x c. e x (In-Contains (free_names d) x c))

pub moved-agrees : (f g : ℕ → ℕ) (d : DTerm) → ((x : ℕ) → In x (free_names d.args) → f x ≡ g x) → moved f d ≡ moved g d
moved-agrees f g d e = free.moved-agrees f g d (λ x c. e x (In-Contains (free_names d.args) x c))

pub moved-moved : (f g : ℕ → ℕ) (d : DTerm) → moved f (moved g d) ≡ moved (λ x. f (g x)) d
moved-moved = laws.moved-moved

pub moved-id : (d : DTerm) → moved (λ x. x) d ≡ d
moved-id = laws.moved-id

pub free_names-moved : (f : ℕ → ℕ) (d : DArgs) → free_names (moved_args f d) ≡ map f (free_names d)
free_names-moved = free.free_names-moved

-- functions that move a term to one term agree on its free names
pub agrees-from_moved : (f g : ℕ → ℕ) (d : DTerm) → moved f d ≡ moved g d → (x : ℕ) → In x (free_names d.args) → f x ≡ g x
agrees-from_moved f g d e x h = free.agrees-from_moved f g d e x (Contains-In (free_names d.args) x h)

-- the name that stands in a mapped list where x stands first in the list
pub get_or-number_in : (f : ℕ → ℕ) (xs : List ℕ) (x : ℕ) → In x xs → get_or (map f xs) (number_in xs x) 0 ≡ f x
get_or-number_in f [] x h = absurd h
get_or-number_in f (y ∷ ys) x h = elim (cases_eq x y) [
  | inl e ↦ ap (λ k. get_or (map f (y ∷ ys)) k 0) (extend-same y (number_in ys) x e) ∙ ap f (sym e)
  | inr n ↦ ap (λ k. get_or (map f (y ∷ ys)) k 0) (extend-other y (number_in ys) x n) ∙ get_or-number_in f ys x (later h n)
]
  where
    later : In x (y ∷ ys) → x ≢ y → In x ys
    later (inl e) n = absurd (n e)
    later (inr k) n = k

pub args_eq-true : (a b : DArgs) → args_eq a b ≡ true → a ≡ b
args_eq-true a b = (args_eq_iff a b).0

pub args_eq-same : (a : DArgs) → args_eq a a ≡ true
args_eq-same a = (args_eq_iff a a).1 refl

-- the map on all names, where what it lacks goes t up
pub past : ℕ → List (ℕ × ℕ) → ℕ → ℕ
past t [] x = t + x
past t (p ∷ m) x = cond (nat_eq x p.0) p.1 (past t m x)

pub past-key : (t : ℕ) (p : ℕ × ℕ) (m : List (ℕ × ℕ)) (x : ℕ) → x ≡ p.0 → past t (p ∷ m) x ≡ p.1
unfolding past
past-key t p m x e = ap (λ b. cond b p.1 (past t m x)) (eq-eqb x p.0 e)

pub past-other : (t : ℕ) (p : ℕ × ℕ) (m : List (ℕ × ℕ)) (x : ℕ) → x ≢ p.0 → past t (p ∷ m) x ≡ past t m x
unfolding past
past-other t p m x n = ap (λ b. cond b p.1 (past t m x)) (ne_eqb x p.0 n)

pub past-nil : (t x : ℕ) → past t [] x ≡ t + x
unfolding past
past-nil t x = refl

pub from-past : (t : ℕ) (m : List (ℕ × ℕ)) (x : ℕ) → unwrap_or (value_of m x) (t + x) ≡ past t m x
unfolding past
from-past t [] x = refl
from-past t (p ∷ m) x = elim (cases_eq x p.0) [
  | inl e ↦ ap (λ b. unwrap_or (cond b (Some p.1) (value_of m x)) (t + x)) (eq-eqb x p.0 e) ∙ sym (past-key t p m x e)
  | inr n ↦ ap (λ b. unwrap_or (cond b (Some p.1) (value_of m x)) (t + x)) (ne_eqb x p.0 n) ∙ (from-past t m x ∙ sym (past-other t p m x n))
]

pub filled-past : (m : List (ℕ × ℕ)) (x : ℕ) → filled m x ≡ past (top m) m x
filled-past m x = from-past (top m) m x
