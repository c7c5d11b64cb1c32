-- Ids on a stack, each with the term that it is for.
use Rattle.std.proofs.Common.{◌≡◌, ◌<◌, ℕ, zero, suc, List, [], ◌∷◌, ◌++◌, length, get_or, drop, ap, refl, sym, ◌∙◌, arith, length-append, append_assoc}
use Rattle.std.specs.Prelude.{slice_set}
use Rattle.slotted_theory.specs.Term.{Term}
use Rattle.slotted_model.specs.Applied.{Applied}

-- of the ids and the terms each pair is such
abbrev pub Both : (Applied → Term → Type 0) → List Applied → List Term → Type 0
Both P [] [] = Unit {0}
Both P [] (t ∷ ts) = ⊥
Both P (a ∷ ids) [] = ⊥
Both P (a ∷ ids) (t ∷ ts) = P a t × Both P ids ts

pub Both-length : (P : Applied → Term → Type 0) (ids : List Applied) (ts : List Term) → Both P ids ts → length ids ≡ length ts
Both-length P [] [] h = refl
Both-length P [] (t ∷ ts) h = absurd h
Both-length P (a ∷ ids) [] h = absurd h
Both-length P (a ∷ ids) (t ∷ ts) h = ap suc (Both-length P ids ts h.1)

pub Both-map : (P Q : Applied → Term → Type 0) → ((a : Applied) (t : Term) → P a t → Q a t) → (ids : List Applied) (ts : List Term) → Both P ids ts → Both Q ids ts
Both-map P Q f [] [] h = tt
Both-map P Q f [] (t ∷ ts) h = absurd h
Both-map P Q f (a ∷ ids) [] h = absurd h
Both-map P Q f (a ∷ ids) (t ∷ ts) h = (f a t h.0, Both-map P Q f ids ts h.1)

pub Both-at : (P : Applied → Term → Type 0) (ids : List Applied) (ts : List Term) → Both P ids ts → (j : ℕ) (d : Applied) (e : Term) → j < length ts → P (get_or ids j d) (get_or ts j e)
Both-at P [] [] h j d e l = absurd (omega arith)
Both-at P [] (t ∷ ts) h j d e l = absurd h
Both-at P (a ∷ ids) [] h j d e l = absurd h
Both-at P (a ∷ ids) (t ∷ ts) h zero d e l = h.0
Both-at P (a ∷ ids) (t ∷ ts) h (suc j) d e l = Both-at P ids ts h.1 j d e (omega arith)

pub Both-split : (P : Applied → Term → Type 0) (ids bs : List Applied) (ts us : List Term) → length bs ≡ length us → Both P (ids ++ bs) (ts ++ us) → Both P ids ts × Both P bs us
Both-split P [] bs [] us n h = (tt, h)
Both-split P [] bs (t ∷ ts) us n h = absurd (omega (arith, n, Both-length P bs (t ∷ (ts ++ us)) h, length-append ts us))
Both-split P (a ∷ ids) bs [] us n h = absurd (omega (arith, n, Both-length P (a ∷ (ids ++ bs)) us h, length-append ids bs))
Both-split P (a ∷ ids) bs (t ∷ ts) us n h = let r = Both-split P ids bs ts us n h.1 in ((h.0, r.0), r.1)

pub Both-more : (P : Applied → Term → Type 0) (ids : List Applied) (ts : List Term) (a : Applied) (t : Term) → Both P ids ts → P a t → Both P (ids ++ a ∷ []) (ts ++ t ∷ [])
Both-more P [] [] a t h p = (p, tt)
Both-more P [] (u ∷ ts) a t h p = absurd h
Both-more P (b ∷ ids) [] a t h p = absurd h
Both-more P (b ∷ ids) (u ∷ ts) a t h p = (h.0, Both-more P ids ts a t h.1 p)

-- one more is set, before those that were
drop-set : {X : Type 0} (xs : List X) (k : ℕ) (a : X) → k < length xs → drop k (slice_set xs k a) ≡ a ∷ drop (suc k) xs
drop-set [] k a l = absurd (omega arith)
drop-set (x ∷ xs) zero a l = refl
drop-set (x ∷ xs) (suc k) a l = drop-set xs k a (omega arith)

pub taken-more : (all left rest ids : List Applied) (k j : ℕ) (a : Applied) → all ≡ left ++ drop k ids → left ≡ rest ++ a ∷ [] → k ≡ suc j → j < length ids → all ≡ rest ++ drop j (slice_set ids j a)
taken-more all left rest ids k j a before last is l =
    before
    ∙ ((λ i. last i ++ drop (is i) ids)
    ∙ (append_assoc rest (a ∷ []) (drop (suc j) ids) ∙ ap (λ xs. rest ++ xs) (sym (drop-set ids j a l))))

-- a list of one id, of which the last is known
pub alone : (ids rest : List Applied) (a : Applied) → ids ≡ rest ++ a ∷ [] → length ids ≡ 1 → ids ≡ a ∷ []
alone ids [] a e n = e
alone ids (b ∷ rest) a e n = absurd (omega (arith, n, ap length e, length-append rest (a ∷ [])))
