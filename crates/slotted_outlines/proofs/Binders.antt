-- Names under a stack of pairs of binders.
use Rattle.std.proofs.Common.{◌≡◌, ℕ, List, [], ◌∷◌, ◌++◌, length, take, ap, ◌∙◌, arith}
use Rattle.std.specs.Prelude.{map}
use Rattle.std.proofs.lemmas.List.{reverse-append, take-append-le, length-take}
use Rattle.slotted_outlines.specs.Seen.{lefts, rights}

pub lefts-push : (ps : List (ℕ × ℕ)) (a b : ℕ) → lefts (ps ++ (a, b) ∷ []) ≡ a ∷ lefts ps
lefts-push ps a b = ap (map (λ p. p.0)) (reverse-append ps ((a, b) ∷ []))

pub rights-push : (ps : List (ℕ × ℕ)) (a b : ℕ) → rights (ps ++ (a, b) ∷ []) ≡ b ∷ rights ps
rights-push ps a b = ap (map (λ p. p.1)) (reverse-append ps ((a, b) ∷ []))

-- what is below the top of a stack stays when more is pushed
pub kept-push : {A : Type 0} (xs ys : List A) (z : A) → take (length xs) ys ≡ xs → take (length xs) (ys ++ z ∷ []) ≡ xs
kept-push xs ys z e =
    let l : length (take (length xs) ys) ≡ length xs = ap length e in
    take-append-le (length xs) ys (z ∷ []) (omega (arith, length-take (length xs) ys)) ∙ e
