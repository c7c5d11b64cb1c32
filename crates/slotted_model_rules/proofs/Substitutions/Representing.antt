-- What represents a body: a pair of a list, found by the shape of the node over both terms.
use Rattle.std.proofs.Common.{◌≡◌, ◌⊎◌, ◌↔◌, ℕ, suc, List, [], ◌∷◌, sym, ◌∙◌, ap, refl, inl, inr, true}
use Rattle.std.specs.Prelude.{map, Contains, Bool, IsTrue}
use Rattle.std.proofs.lemmas.Bool.{false≢true, or_left, or_right}
use Rattle.slotted_lists.proofs.Members.{In, In-Contains, Contains-In}
use Rattle.slotted_lists.proofs.Booleans.{or-true}
use Rattle.slotted_theory.specs.Nameless.{DArgs, DTerm, extend, moved}
use Rattle.slotted_theory.specs.Renaming.{Bijection}
use Rattle.slotted_theory.specs.Shape.{shape}
use Rattle.slotted_theory.proofs.Shapes.{shape-moved, shape_iff}
use Rattle.slotted_model.specs.Applied.{Applied}
use Rattle.slotted_model.specs.Ids.{term_eq}
use Rattle.slotted_model.proofs.Represented.Ids.{term_eq-true, term_eq-same}
use Rattle.slotted_model.proofs.Data.Parts.{first_child, after_first}
use Rattle.slotted_model_rules.specs.Patterns.{Pattern, PatternArgs, pattern_node, variable, replacing, no_argument, own_name, child_pattern, binding}
use Rattle.slotted_model_rules.specs.Instances.{IsInstance, IsInstanceArgs, is_itself, IsAnswer}
use Rattle.slotted_model_rules.specs.PatternClaims.{MovesWithNames}
use Rattle.slotted_model_rules.specs.Representing.{pair_node, has_shape, is_listed, represents}

shape-listed : (X : List (DTerm × DTerm)) (s : DTerm) (p : DTerm × DTerm) → In p X → shape (pair_node p.0 p.1) ≡ s → has_shape X s ≡ true
shape-listed [] s p h e = absurd h
shape-listed (q ∷ X) s p (inl k) e =
    or_left (term_eq (shape (pair_node q.0 q.1)) s) (has_shape X s)
    (term_eq-same (shape (pair_node q.0 q.1)) s (ap (λ (z : DTerm × DTerm). shape (pair_node z.0 z.1)) (sym k) ∙ e))
shape-listed (q ∷ X) s p (inr k) e = or_right (term_eq (shape (pair_node q.0 q.1)) s) (has_shape X s) (shape-listed X s p k e)

shape-from : (X : List (DTerm × DTerm)) (s : DTerm) → has_shape X s ≡ true → (p : DTerm × DTerm) × In p X × (shape (pair_node p.0 p.1) ≡ s)
shape-from [] s e = absurd (false≢true e)
shape-from (q ∷ X) s e = elim (or-true (term_eq (shape (pair_node q.0 q.1)) s) (has_shape X s) e) [
  | inl t ↦ (q, inl refl, term_eq-true (shape (pair_node q.0 q.1)) s t)
  | inr t ↦ let r : (p : DTerm × DTerm) × In p X × (shape (pair_node p.0 p.1) ≡ s) = shape-from X s t in (r.0, inr r.1, r.2)
]

-- both tests move with names
pub listed-moves : (X : List (DTerm × DTerm)) → MovesWithNames (is_listed X)
listed-moves X f inj u r e = ap (has_shape X) (shape-moved f inj (pair_node u r)) ∙ e

itself-moves : (f : ℕ → ℕ) (u r : DTerm) → IsTrue (is_itself u r) → IsTrue (is_itself (moved f u) (moved f r))
itself-moves f u r e = term_eq-same (moved f r) (moved f u) (ap (moved f) (term_eq-true r u e))

pub represented-moves : (X : List (DTerm × DTerm)) → MovesWithNames (represents X)
represented-moves X f inj u r e = elim (or-true (is_listed X u r) (is_itself u r) e) [
  | inl t ↦ or_left (is_listed X (moved f u) (moved f r)) (is_itself (moved f u) (moved f r)) (listed-moves X f inj u r t)
  | inr t ↦ or_right (is_listed X (moved f u) (moved f r)) (is_itself (moved f u) (moved f r)) (itself-moves f u r t)
]

-- a pair of the list is listed
pub pair-listed : (X : List (DTerm × DTerm)) (u r : DTerm) → Contains X (u, r) → IsTrue (is_listed X u r)
pair-listed X u r c = shape-listed X (shape (pair_node u r)) (u, r) (In-Contains X (u, r) c) refl

pub listed-represented : (X : List (DTerm × DTerm)) (u r : DTerm) → IsTrue (is_listed X u r) → IsTrue (represents X u r)
listed-represented X u r t = or_left (is_listed X u r) (is_itself u r) t

pub itself-represented : (X : List (DTerm × DTerm)) (u : DTerm) → IsTrue (represents X u u)
itself-represented X u = or_right (is_listed X u u) (is_itself u u) (term_eq-same u u refl)

abbrev IsRenamedPair : List (DTerm × DTerm) → DTerm → DTerm → Type 0
IsRenamedPair X u r = (p : DTerm × DTerm) × Contains X p × (π : Bijection) × (moved π.to p.0 ≡ u) × (moved π.to p.1 ≡ r)

-- what is listed is a renamed pair of the list
pub listed_iff : (X : List (DTerm × DTerm)) (u r : DTerm) → IsTrue (is_listed X u r) ↔ IsRenamedPair X u r
listed_iff X u r = (
  λ e.
      let q : (p : DTerm × DTerm) × In p X × (shape (pair_node p.0 p.1) ≡ shape (pair_node u r)) = shape-from X (shape (pair_node u r)) e in
      let same : (π : Bijection) × (moved π.to (pair_node q.0.0 q.0.1) ≡ pair_node u r) = (shape_iff (pair_node q.0.0 q.0.1) (pair_node u r)).0 q.2 in (
        q.0,
        Contains-In X q.0 q.1,
        same.0,
        ap (λ (d : DTerm). first_child d.args) same.1,
        ap (λ (d : DTerm). first_child (after_first d.args)) same.1,
      ),
  λ k.
      shape-listed X (shape (pair_node u r)) k.0 (In-Contains X k.0 k.1)
      ((shape_iff (pair_node k.0.0 k.0.1) (pair_node u r)).1 (k.2, λ i. pair_node (k.3 i) (k.4 i))),
)

pub represented_iff : (X : List (DTerm × DTerm)) (u r : DTerm) → IsTrue (represents X u r) ↔ (IsTrue (is_listed X u r) ⊎ (r ≡ u))
represented_iff X u r = (
  λ e. elim (or-true (is_listed X u r) (is_itself u r) e) [
    | inl t ↦ inl t
    | inr t ↦ inr (term_eq-true r u t)
  ],
  λ k. elim k [
    | inl t ↦ listed-represented X u r t
    | inr e ↦ or_right (is_listed X u r) (is_itself u r) (term_eq-same r u e)
  ],
)

-- more pairs list more
pub listed-more : (X Y : List (DTerm × DTerm)) → ((p : DTerm × DTerm) → Contains X p → Contains Y p) → (u r : DTerm) → IsTrue (is_listed X u r) → IsTrue (is_listed Y u r)
listed-more X Y more u r e =
    let k : IsRenamedPair X u r = (listed_iff X u r).0 e in
    (listed_iff Y u r).1 (k.0, more k.0 k.1, k.2, k.3, k.4)

pub represented-more : (X Y : List (DTerm × DTerm)) → ((p : DTerm × DTerm) → Contains X p → Contains Y p) → (u r : DTerm) → IsTrue (represents X u r) → IsTrue (represents Y u r)
represented-more X Y more u r e = elim ((represented_iff X u r).0 e) [
  | inl t ↦ listed-represented Y u r (listed-more X Y more u r t)
  | inr p ↦ (represented_iff Y u r).1 (inr p)
]

-- where more is represented there are more instances
module _ (R Q : DTerm → DTerm → Bool) (more : (u r : DTerm) → IsTrue (R u r) → IsTrue (Q u r)) (nodes : List DTerm) (σ : List ℕ → Applied) where
  mutual
    pub instance-represented : (given : List ℕ) (ρ : ℕ → ℕ) (p : Pattern) (t : DTerm) → IsInstance R nodes given σ ρ p t → IsInstance Q nodes given σ ρ p t
    instance-represented given ρ (pattern_node op payloads args) t i = (i.0, i.1, arguments-represented given ρ args i.0 i.2)
    instance-represented given ρ (variable v) t i = i
    instance-represented given ρ (replacing body part value) t i = (
      i.0,
      i.1,
      i.2,
      i.3,
      instance-represented given ρ body i.0 i.4,
      more i.0 i.1 i.5,
      instance-represented given ρ part i.2 i.6,
      instance-represented given ρ value i.3 i.7,
      i.8,
    )

    arguments-represented : (given : List ℕ) (ρ : ℕ → ℕ) (args : PatternArgs) (a : DArgs) → IsInstanceArgs R nodes given σ ρ args a → IsInstanceArgs Q nodes given σ ρ args a
    arguments-represented given ρ no_argument a i = i
    arguments-represented given ρ (own_name x rest) a i = (i.0, i.1, arguments-represented given ρ rest i.0 i.2)
    arguments-represented given ρ (child_pattern p rest) a i = (i.0, i.1, i.2, instance-represented given ρ p i.0 i.3, arguments-represented given ρ rest i.1 i.4)
    arguments-represented given ρ (binding x inner rest) a i =
        (i.0, i.1, i.2, arguments-represented (0 ∷ map suc given) (extend x ρ) inner i.0 i.3, arguments-represented given ρ rest i.1 i.4)

  pub answer-represented : (given : List ℕ) (p : Pattern) (a : Applied) → IsAnswer R nodes given σ p a → IsAnswer Q nodes given σ p a
  answer-represented given p a (inl v) = inl v
  answer-represented given p a (inr i) = inr (i.0, instance-represented given (λ y. y) p _ i.1)
