-- What tests say that are true or false.
use Rattle.std.proofs.Common.{◌≡◌, ◌∙◌, ◌<◌, ◌≤◌, ℕ, List, ◌∷◌, refl, ap, sym, inl, inr}
use Rattle.std.specs.Prelude.{Bool, true, false, not, ◌&&◌, ◌||◌, ◌⊎◌, IsTrue, cond, nat_lt}
use Rattle.std.proofs.lemmas.Bool.{false≢true, true≢false, le-ltb, lt-ltb}

pub or-false : (a b : Bool) → (a || b) ≡ false → (a ≡ false) × (b ≡ false)
or-false false b h = (refl, h)
or-false true b h = cc

pub or-true : (a b : Bool) → (a || b) ≡ true → (a ≡ true) ⊎ (b ≡ true)
or-true true b h = inl refl
or-true false b h = inr h

pub and-true : (a b : Bool) → (a && b) ≡ true → (a ≡ true) × (b ≡ true)
and-true true b e = (refl, e)
and-true false b e = absurd (cc)

pub not_or-true : (w r : Bool) → not (w || r) ≡ true → (w ≡ false) × (r ≡ false)
not_or-true true r h = absurd (true≢false (sym h))
not_or-true false true h = absurd (true≢false (sym h))
not_or-true false false h = (refl, refl)

pub unless-true : {P : Type 0} (b : Bool) → b ≡ false → IsTrue b ⊎ P → P
unless-true b well (inl failed) = absurd (false≢true (sym well ∙ failed))
unless-true b well (inr p) = p

-- a binder whose scope a place has, or has not
pub cond-less : (x : ℕ) (bs : List ℕ) (i s : ℕ) → i < s → cond (nat_lt i s) (x ∷ bs) bs ≡ x ∷ bs
cond-less x bs i s h = ap (λ b. cond b (x ∷ bs) bs) (lt-ltb i s h)

pub cond-not_less : (x : ℕ) (bs : List ℕ) (i s : ℕ) → s ≤ i → cond (nat_lt i s) (x ∷ bs) bs ≡ bs
cond-not_less x bs i s h = ap (λ b. cond b (x ∷ bs) bs) (le-ltb i s h)
