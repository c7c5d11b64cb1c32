-- The number of a name can be read off the places before it.
use Rattle.std.proofs.Common.{◌≡◌, ℕ, zero, suc, ◌<◌, List, [], ◌∷◌, ◌++◌, length, get_or, sym, ◌∙◌, ap, refl, arith, inl, inr, append_assoc, length-append}
use Rattle.std.specs.Prelude.{◌+◌, ◌-◌}
use Rattle.std.proofs.lemmas.Bool.{cases_lt}
use Rattle.std.proofs.lemmas.List.{append-nil, get_or_append_left, get_or-append-add}
use Rattle.slotted_lists.proofs.Booleans.{cond-less, cond-not_less}
use Rattle.slotted_theory.specs.Term.{Args, done, name, child, bind}
use Rattle.slotted_theory.specs.Shape.{number_in}
use Rattle.slotted_theory.specs.Flat.{places, open_at, number_of, numbers}

-- as many numbers as places
pub length-numbers : (bs : List ℕ) (a : Args) → length (numbers bs a) ≡ length (places a)
length-numbers bs done = refl
length-numbers bs (name x rest) = ap suc (length-numbers bs rest)
length-numbers bs (child op payloads args rest) =
    omega (arith, length-append (numbers bs args) (numbers bs rest), length-append (places args) (places rest), length-numbers bs args, length-numbers bs rest)
length-numbers bs (bind x inner rest) =
    omega (arith, length-append (numbers (x ∷ bs) inner) (numbers bs rest), length-append (places inner) (places rest), length-numbers (x ∷ bs) inner, length-numbers bs rest)

-- past a whole list of arguments its binders are closed
pub open_at-past : (a : Args) (qs : List (ℕ × ℕ)) (bs : List ℕ) (i j : ℕ) → j ≡ length (places a) + i → open_at (places a ++ qs) j bs ≡ open_at qs i bs
open_at-past done qs bs i j e = let f : j ≡ i = omega arith in ap (λ k. open_at qs k bs) f
open_at-past (name x rest) qs bs i zero e = absurd (omega arith)
open_at-past (name x rest) qs bs i (suc j) e =
    ap (open_at (places rest ++ qs) j) (cond-not_less x bs (suc j) 0 (omega arith)) ∙ open_at-past rest qs bs i j (omega arith)
open_at-past (child op payloads args rest) qs bs i j e =
    let l = length-append (places args) (places rest) in
    rw (append_assoc (places args) (places rest) qs)
    (open_at-past args (places rest ++ qs) bs (length (places rest) + i) j (omega arith) ∙ open_at-past rest qs bs i (length (places rest) + i) refl)
open_at-past (bind x inner rest) qs bs i zero e = absurd (omega arith)
open_at-past (bind x inner rest) qs bs i (suc j) e =
    let l = length-append (places inner) (places rest) in
    ap (open_at ((places inner ++ places rest) ++ qs) j) (cond-not_less x bs (suc j) (suc (length (places inner))) (omega arith))
    ∙ (rw (append_assoc (places inner) (places rest) qs)
    (open_at-past inner (places rest ++ qs) bs (length (places rest) + i) j (omega arith) ∙ open_at-past rest qs bs i (length (places rest) + i) refl))

-- past a whole list of arguments a number is read off the places that follow
pub number_of-past : (a : Args) (qs : List (ℕ × ℕ)) (bs : List ℕ) (i j : ℕ) → j ≡ length (places a) + i → number_of (places a ++ qs) bs j ≡ number_of qs bs i
number_of-past a qs bs i j e =
    let n : get_or (places a ++ qs) j (0, 0) ≡ get_or qs i (0, 0) = ap (λ k. get_or (places a ++ qs) k (0, 0)) e ∙ get_or-append-add (places a) qs i (0, 0) in
    λ k. number_in (open_at-past a qs bs i j e k) (n k).0

-- the same for two lists of arguments, where the second stands outside the binder of the first
number_of-second : (a r : Args) (qs : List (ℕ × ℕ)) (cs bs : List ℕ) (i k : ℕ) → i ≡ length (places a) + k → number_of (places r ++ qs) bs k ≡ get_or (numbers bs r) k 0 → number_of (places a ++ (places r ++ qs)) bs i ≡ get_or (numbers cs a ++ numbers bs r) i 0
number_of-second a r qs cs bs i k e h =
    let f : i ≡ length (numbers cs a) + k = omega (arith, length-numbers cs a) in
    number_of-past a (places r ++ qs) bs k i e
    ∙ (h ∙ (sym (get_or-append-add (numbers cs a) (numbers bs r) k 0) ∙ ap (λ n. get_or (numbers cs a ++ numbers bs r) n 0) (sym f)))

-- the number at a place of the arguments a, with any places after them and any binders outside
pub number_at : (a : Args) (qs : List (ℕ × ℕ)) (bs : List ℕ) (i : ℕ) → i < length (places a) → number_of (places a ++ qs) bs i ≡ get_or (numbers bs a) i 0
number_at done qs bs i h = absurd (omega arith)
number_at (name x rest) qs bs zero h = refl
number_at (name x rest) qs bs (suc i) h =
    ap (λ os. number_of (places rest ++ qs) os i) (cond-not_less x bs (suc i) 0 (omega arith)) ∙ number_at rest qs bs i (omega arith)
number_at (child op payloads args rest) qs bs i h =
    let l = length-append (places args) (places rest) in
    rw (append_assoc (places args) (places rest) qs)
    (elim (cases_lt i (length (places args))) [
      | inl f ↦ number_at args (places rest ++ qs) bs i f ∙ sym (get_or_append_left (numbers bs args) (numbers bs rest) 0 i (omega (arith, length-numbers bs args)))
      | inr f ↦ number_of-second args rest qs bs bs i (i - length (places args)) (omega arith) (number_at rest qs bs (i - length (places args)) (omega arith))
    ])
number_at (bind x inner rest) qs bs zero h = refl
number_at (bind x inner rest) qs bs (suc i) h =
    let l = length-append (places inner) (places rest) in
    rw (append_assoc (places inner) (places rest) qs)
    (elim (cases_lt i (length (places inner))) [
      | inl f ↦ ap (λ os. number_of (places inner ++ (places rest ++ qs)) os i) (cond-less x bs (suc i) (suc (length (places inner))) (omega arith))
          ∙ (number_at inner (places rest ++ qs) (x ∷ bs) i f ∙ sym (get_or_append_left (numbers (x ∷ bs) inner) (numbers bs rest) 0 i (omega (arith, length-numbers (x ∷ bs) inner))))
      | inr f ↦ ap (λ os. number_of (places inner ++ (places rest ++ qs)) os i) (cond-not_less x bs (suc i) (suc (length (places inner))) (omega arith))
          ∙ number_of-second inner rest qs (x ∷ bs) bs i (i - length (places inner)) (omega arith) (number_at rest qs bs (i - length (places inner)) (omega arith))
    ])

-- the same of the arguments alone
pub number_at_place : (a : Args) (i : ℕ) → i < length (places a) → number_of (places a) [] i ≡ get_or (numbers [] a) i 0
number_at_place a i h = ap (λ ps. number_of ps [] i) (sym (append-nil (places a))) ∙ number_at a [] [] i h
