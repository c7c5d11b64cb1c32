-- What stands at the place of a handle.
use Rattle.std.proofs.Common.{◌≡◌, ◌∙◌, ◌++◌, ℕ, zero, suc, List, [], ◌∷◌, length, ap, subst, refl, arith}
use Rattle.std.specs.Prelude.{All, Bool, true, false, Option, None, Some, if◌then◌else◌, map, nat_eq, option_map, slice_get}
use Rattle.std.proofs.lemmas.Bool.{eq-eqb}
use Rattle.slotted_lists.proofs.Options.{Some-same}
use Rattle.slotted_lists.proofs.Lists.{slice_get-append_end}
use Rattle.slotted_model.proofs.Data.Options.{None-Some}
use Rattle.slotted_theory.specs.Term.{Term}
use Rattle.slotted_workspace.specs.Keeping.{found_in, terms_of}
use Rattle.slotted_workspace.specs.Spaces.{Space, term_at}
use Rattle.slotted_workspace.specs.declared.handle.Handle.{Handle}
use Rattle.slotted_workspace.specs.declared.kept.Kept.{Kept}

get-map : {A B : Type 0} (f : A → B) (xs : List A) (i : ℕ) → slice_get (map f xs) i ≡ option_map f (slice_get xs i)
get-map f [] i = refl
get-map f (x ∷ xs) zero = refl
get-map f (x ∷ xs) (suc i) = get-map f xs i

get-all : {A : Type 0} (P : A → Type 0) (xs : List A) (i : ℕ) (x : A) → All P xs → slice_get xs i ≡ Some x → P x
get-all P [] i x all e = absurd (None-Some x e)
get-all P (y ∷ xs) zero x all e = subst P (Some-same y x e) (all zero y (omega arith))
get-all P (y ∷ xs) (suc i) x all e = get-all P xs i x (λ k d l. all (suc k) d (omega (arith, l))) e

chosen : {A B : Type 0} (f : A → B) (b : Bool) (o : Option A) (p : Option B) → p ≡ option_map f o → (if b then p else None) ≡ option_map f (if b then o else None)
chosen f true o p e = e
chosen f false o p e = refl

taken : {A : Type 0} (b : Bool) (o : Option A) (x : A) → (if b then o else None) ≡ Some x → o ≡ Some x
taken true o x e = e
taken false o x e = absurd (None-Some x e)

-- a workspace with this number and these terms
module _ {L : Type 0} (kept : List (Kept L)) (number : ℕ) (s : Space) (numbered : s.number ≡ number) (terms : s.terms ≡ terms_of kept) (h : Handle) where
  place-term : term_at s h ≡ option_map (λ k. k.term) (found_in kept number h)
  place-term =
      (λ i. if nat_eq h.workspace (numbered i) then slice_get (terms i) h.index else None)
      ∙ chosen (λ k. k.term) (nat_eq h.workspace number) (slice_get kept h.index) (slice_get (terms_of kept) h.index) (get-map (λ k. k.term) kept h.index)

  -- the term of a handle is that of what is kept for it
  pub stands-for : (k : Kept L) → found_in kept number h ≡ Some k → term_at s h ≡ Some k.term
  stands-for k e = place-term ∙ ap (option_map (λ k. k.term)) e

  pub stands-for_none : found_in kept number h ≡ None → term_at s h ≡ None
  stands-for_none e = place-term ∙ ap (option_map (λ k. k.term)) e

-- what is kept for a handle is one of what is kept
pub one-of : {L : Type 0} (P : Kept L → Type 0) (kept : List (Kept L)) (number : ℕ) (h : Handle) (k : Kept L) → All P kept → found_in kept number h ≡ Some k → P k
one-of P kept number h k all e = get-all P kept h.index k all (taken (nat_eq h.workspace number) (slice_get kept h.index) k e)

-- the handle of what comes next
pub stands-next : (s : Space) (before : List Term) (t : Term) → s.terms ≡ before ++ t ∷ [] → term_at s (record { workspace = s.number; index = length before }) ≡ Some t
stands-next s before t terms =
    ap (λ b. if b then slice_get s.terms (length before) else None) (eq-eqb s.number s.number refl) ∙ (ap (λ l. slice_get l (length before)) terms ∙ slice_get-append_end before t)
