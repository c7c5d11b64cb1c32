-- Readings of a clock, one after another.
use Rattle.std.proofs.Common.{◌≡◌, ℕ, suc, ◌+◌, List, [], ◌∷◌, ◌++◌, length, append_assoc, length-append, refl, sym, subst, arith}
use Rattle.std.proofs.Math.Seq.{get_or-append_seam}
use Rattle.slotted_rules.specs.Turning.{ReadsFrom, TellsAll, reading_in}

module _ {K : Type 0} (tells : K → ℕ → K → Type 0) where
  pub tells-none : (k : K) → TellsAll tells k [] k
  tells-none k = refl

  pub tells-one : (k : K) (r : ℕ) (l : K) → tells k r l → TellsAll tells k (r ∷ []) l
  tells-one k r l t = (l, t, refl)

  pub tells-then : (readings more : List ℕ) (k l m : K) → TellsAll tells k readings l → TellsAll tells l more m → TellsAll tells k (readings ++ more) m
  tells-then [] more k l m t u = subst (λ x. TellsAll tells x more m) t u
  tells-then (r ∷ readings) more k l m t u = (t.0, t.1, tells-then readings more t.0 l m t.2 u)

pub reads-front : (clock : ℕ → ℕ) (n : ℕ) (readings more : List ℕ) → ReadsFrom clock n (readings ++ more) → ReadsFrom clock n readings
reads-front clock n [] more r = tt
reads-front clock n (x ∷ readings) more r = (r.0, reads-front clock (suc n) readings more r.1)

pub reads-back : (clock : ℕ → ℕ) (n : ℕ) (readings more : List ℕ) → ReadsFrom clock n (readings ++ more) → ReadsFrom clock (n + length readings) more
reads-back clock n [] more r = let e : n + 0 ≡ n = omega arith in subst (λ i. ReadsFrom clock i more) (sym e) r
reads-back clock n (x ∷ readings) more r =
    let e : suc n + length readings ≡ n + suc (length readings) = omega arith in
    subst (λ i. ReadsFrom clock i more) e (reads-back clock (suc n) readings more r.1)

reads-rest : (front readings : List ℕ) → ReadsFrom (reading_in (front ++ readings)) (length front) readings
reads-rest front [] = tt
reads-rest front (x ∷ readings) = (
  get_or-append_seam front x readings 0,
  subst (λ n. ReadsFrom (reading_in (front ++ x ∷ readings)) n readings) one-more
      (subst (λ xs. ReadsFrom (reading_in xs) (length (front ++ x ∷ [])) readings) (append_assoc front (x ∷ []) readings) (reads-rest (front ++ x ∷ []) readings)),
)
  where
    one-more : length (front ++ x ∷ []) ≡ suc (length front)
    one-more = let e : length (front ++ x ∷ []) ≡ length front + 1 = length-append front (x ∷ []) in omega arith

-- a list is read as it is
pub reads-itself : (readings : List ℕ) → ReadsFrom (reading_in readings) 0 readings
reads-itself readings = reads-rest [] readings

pub more-readings : (n : ℕ) (readings more : List ℕ) → n + length (readings ++ more) ≡ n + length readings + length more
more-readings n readings more = let e : length (readings ++ more) ≡ length readings + length more = length-append readings more in omega arith
