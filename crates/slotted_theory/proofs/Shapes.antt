-- Shapes are equal exactly for terms that differ by a bijection of names.
use Rattle.std.proofs.Common.{◌≡◌, ◌↔◌, ℕ, suc, List, [], ◌∷◌, sym, ◌∙◌, ap, inl, inr}
use Rattle.std.specs.Prelude.{map, Contains}
use Rattle.std.proofs.lemmas.Bool.{cases_eq}
use Rattle.slotted_lists.proofs.Contained.{contains_cases, Contains-nil}
use Rattle.slotted_theory.specs.Nameless.{DTerm, moved}
use Rattle.slotted_theory.specs.Renaming.{IsInjective}
use Rattle.slotted_theory.specs.Shape.{free_names, number_in, shape, SameUpToNames}
use Rattle.slotted_theory.proofs.Names.{extend-same, extend-other, extend-injective}
use Rattle.slotted_theory.proofs.Laws.{moved-moved}
use Rattle.slotted_theory.proofs.FreeNames.{free_names-moved, moved-agrees}
use Rattle.slotted_theory.proofs.Bijections.{to-injective, then, opposite}
use Rattle.slotted_theory.proofs.ByBijection.{MovesAs, moves_as, moved-back}

-- different names have different numbers
pub number_in-injective : (bs : List ℕ) → IsInjective (number_in bs)
number_in-injective [] x y e = e
number_in-injective (b ∷ bs) x y e = extend-injective b (number_in bs) (number_in-injective bs) x y e

-- an injective function on a list and on a name in it keeps the name's number
pub number_in-map : (f : ℕ → ℕ) → IsInjective f → (bs : List ℕ) (x : ℕ) → Contains bs x → number_in (map f bs) (f x) ≡ number_in bs x
number_in-map f inj [] x c = absurd (Contains-nil x c)
number_in-map f inj (b ∷ bs) x c = elim (cases_eq x b) [
  | inl e ↦ extend-same (f b) (number_in (map f bs)) (f x) (ap f e) ∙ sym (extend-same b (number_in bs) x e)
  | inr n ↦ elim (contains_cases b bs x c) [
    | inl e ↦ absurd (n e)
    | inr h ↦ extend-other (f b) (number_in (map f bs)) (f x) (λ e. n (inj x b e))
        ∙ (ap suc (number_in-map f inj bs x h) ∙ sym (extend-other b (number_in bs) x n))
  ]
]

-- an injective function on the free names keeps the shape
pub shape-moved : (f : ℕ → ℕ) → IsInjective f → (d : DTerm) → shape (moved f d) ≡ shape d
shape-moved f inj d =
    ap (λ ns. moved (number_in ns) (moved f d)) (free_names-moved f d.args)
    ∙ (moved-moved (number_in (map f (free_names d.args))) f d
    ∙ moved-agrees (λ x. number_in (map f (free_names d.args)) (f x)) (number_in (free_names d.args)) d (number_in-map f inj (free_names d.args)))

-- some bijection takes a term to its shape
shape_by : (d : DTerm) → MovesAs (number_in (free_names d.args)) d d
shape_by d = moves_as (number_in (free_names d.args)) (number_in-injective (free_names d.args)) d d

-- two terms have one shape exactly if a bijection of names takes the one to the other
pub shape_iff : (d e : DTerm) → (shape d ≡ shape e) ↔ SameUpToNames d e
shape_iff d e = (
  λ p.
      let r = shape_by d in
      let s = shape_by e in
      (then r.bijection (opposite s.bijection), sym (moved-moved s.bijection.back r.bijection.to d) ∙ (ap (moved s.bijection.back) (r.left ∙ (p ∙ sym s.left)) ∙ moved-back s.bijection e)),
  λ q. sym (shape-moved q.0.to (to-injective q.0) d) ∙ ap shape q.1,
)
