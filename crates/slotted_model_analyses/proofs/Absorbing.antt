-- Data is ordered by what it absorbs.
use Rattle.std.proofs.Common.{◌≡◌, ◌<◌, ◌≤◌, sym, ◌∙◌, ap, inl, inr, arith}
use Rattle.std.specs.Prelude.{◌⊎◌}
use Rattle.slotted_model_analyses.specs.Analysis.{Analysis, IsMerge, Absorbs}

-- what absorbs data absorbs what this absorbs, if the merge is associative
pub absorbs-through : {D : Type 0} (a : Analysis D) → ((x y z : D) → a.merge (a.merge x y) z ≡ a.merge x (a.merge y z)) → (x y z : D) → Absorbs a x y → Absorbs a y z → Absorbs a x z
absorbs-through a associative x y z p q = ap (λ w. a.merge w z) (sym p) ∙ (associative x y z ∙ (ap (a.merge x) q ∙ p))

module _ {D : Type 0} (a : Analysis D) (law : IsMerge D a) where
  pub absorbs-same : (x : D) → Absorbs a x x
  absorbs-same x = law.idempotent x

  pub absorbs-then : (x y z : D) → Absorbs a x y → Absorbs a y z → Absorbs a x z
  absorbs-then = absorbs-through a law.associative

  pub absorbs-both : (x y : D) → Absorbs a x y → Absorbs a y x → x ≡ y
  absorbs-both x y p q = sym p ∙ (law.commutative x y ∙ q)

  pub merge-absorbs : (x y : D) → Absorbs a (a.merge x y) y
  merge-absorbs x y = law.associative x y y ∙ ap (a.merge x) (law.idempotent y)

  pub merge-keeps : (x y : D) → Absorbs a (a.merge x y) x
  merge-keeps x y = ap (λ w. a.merge w x) (law.commutative x y) ∙ (merge-absorbs y x ∙ law.commutative y x)

  pub merge-least : (x y z : D) → Absorbs a z x → Absorbs a z y → Absorbs a z (a.merge x y)
  merge-least x y z p q = sym (law.associative z x y) ∙ (ap (λ w. a.merge w y) p ∙ q)

  pub merges-commute : (x v w : D) → a.merge (a.merge x v) w ≡ a.merge (a.merge x w) v
  merges-commute x v w = law.associative x v w ∙ (ap (a.merge x) (law.commutative v w) ∙ sym (law.associative x w v))

  -- whether data absorbs other data is decided
  pub absorbs-cases : (x v : D) → Absorbs a x v ⊎ (¬ Absorbs a x v)
  absorbs-cases x v = law.decided (a.merge x v) x

  pub merge-no_higher : (x v : D) → a.height (a.merge x v) ≤ a.height x
  merge-no_higher x v = elim (absorbs-cases x v) [
    | inl e ↦ let q : a.height (a.merge x v) ≡ a.height x = ap a.height e in omega arith
    | inr n ↦ let l : a.height (a.merge x v) < a.height x = law.lowers x v n in omega arith
  ]

  pub absorbing-no_higher : (x v : D) → Absorbs a x v → a.height x ≤ a.height v
  absorbing-no_higher x v e =
      let l : a.height (a.merge v x) ≤ a.height v = merge-no_higher v x in
      let q : a.height (a.merge v x) ≡ a.height x = ap a.height (law.commutative v x ∙ e) in
      omega arith

  pub same-height : (x v : D) → a.height (a.merge x v) ≡ a.height x → Absorbs a x v
  same-height x v e = elim (absorbs-cases x v) [
    | inl q ↦ q
    | inr n ↦ let l : a.height (a.merge x v) < a.height x = law.lowers x v n in absurd (omega arith)
  ]
