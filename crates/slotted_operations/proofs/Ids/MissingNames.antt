-- Two ids that lack names: they are filled by names apart, and their pairs of slots with one name are pairs of canonical slots.
use Rattle.std.proofs.Common.{◌≡◌, ℕ, List, refl, sym, ◌∙◌, ap, subst}
use Rattle.std.specs.Prelude.{Option}
use Rattle.slotted_theory.specs.Nameless.{DTerm}
use Rattle.slotted_model.specs.Applied.{Applied, keys, values}
use Rattle.slotted_model.specs.Classes.{canonical_slots, IsFull}
use Rattle.slotted_model.specs.Correspondence.{IsFullMap, IsPartialInjection, same_names, turned}
use Rattle.slotted_model.specs.Filling.{IsValid, IsFilling}
use Rattle.slotted_model.specs.ProofList.{Equation, equation_of, explicit}
use Rattle.slotted_model.proofs.Correspondences.FullIds.{ascending-different, full_map}
use Rattle.slotted_model.proofs.Correspondences.FullMaps.{same_names-by, same_names-over, same_names-partial}
use Rattle.slotted_model.proofs.Correspondences.PartialInjections.{in_order-ext, turned-by, turned-pair, turned-partial}
use Rattle.slotted_model.proofs.Represented.FillingEquations.{filled-equation}
use Rattle.slotted_model.proofs.Represented.Fillings.{a_filling}
use Rattle.slotted_proofs.specs.Entries.{asserted_entry}

module _ (nodes : List DTerm) (lefts rights : ℕ → List ℕ) (a b : Applied) (left : IsValid lefts nodes a) (right : IsValid rights nodes b) where
  pub left_filling : (c : Applied) × IsFilling nodes (values b.1) a c
  left_filling = a_filling nodes lefts (values b.1) a left

  pub right_filling : (d : Applied) × IsFilling nodes (values left_filling.0.1) b d
  right_filling = a_filling nodes rights (values left_filling.0.1) b right

  -- whichever names are filled in, the equation is one
  pub one-equation : (c d e f : Applied) → IsFilling nodes (values b.1) a c → IsFilling nodes (values c.1) b d → IsFilling nodes (values b.1) a e → IsFilling nodes (values e.1) b f → equation_of c d ≡ equation_of e f
  one-equation c d e f cl dr el fr = filled-equation nodes lefts rights a b c d left right cl dr ∙ sym (filled-equation nodes lefts rights a b e f left right el fr)

  pub pairs-partial : IsPartialInjection (canonical_slots nodes a.0) (canonical_slots nodes b.0) (same_names a.1 b.1)
  pairs-partial =
      let c : Applied = left_filling.0 in
      let d : Applied = right_filling.0 in
      let fc : IsFilling nodes (values b.1) a c = left_filling.1 in
      let fd : IsFilling nodes (values c.1) b d = right_filling.1 in
      let e : equation_of c d ≡ equation_of a b = filled-equation nodes lefts rights a b c d left right fc fd in
      subst (IsPartialInjection (canonical_slots nodes a.0) (canonical_slots nodes b.0)) (ap (λ (x : Equation). x.pairs) e)
      (subst (λ i. IsPartialInjection (canonical_slots nodes i) (canonical_slots nodes b.0) (same_names c.1 d.1)) fc.class
      (subst (λ j. IsPartialInjection (canonical_slots nodes c.0) (canonical_slots nodes j) (same_names c.1 d.1)) fd.class
      (same_names-partial (canonical_slots nodes c.0) (canonical_slots nodes d.0) c.1 d.1 (full_map nodes c fc.full) (full_map nodes d fd.full))))

-- an id is full over the slots that it has names for
own_slots : (nodes : List DTerm) (slots : ℕ → List ℕ) (a : Applied) → IsValid slots nodes a → IsFullMap (keys a.1) a.1
own_slots nodes slots a v = record { slots = refl; once = ascending-different (keys a.1) v.ascending; injective = v.injective }

-- the pairs of the right side, turned round, are those of the left
pub pairs-turned : (nodes : List DTerm) (lefts rights : ℕ → List ℕ) (a b : Applied) → IsValid lefts nodes a → IsValid rights nodes b → turned (canonical_slots nodes a.0) (same_names b.1 a.1) ≡ same_names a.1 b.1
pairs-turned nodes lefts rights a b left right =
    let P : List ℕ = canonical_slots nodes a.0 in
    let Q : List ℕ = canonical_slots nodes b.0 in
    let A : List (ℕ × ℕ) = same_names b.1 a.1 in
    let injects : IsPartialInjection Q P A = pairs-partial nodes rights lefts b a right left in
    in_order-ext P (turned P A) (same_names a.1 b.1) (turned-partial Q P A injects).in_order (pairs-partial nodes lefts rights a b left right).in_order
    (λ s t c.
    let r = same_names-over b.1 a.1 t s (turned-pair P A t s c) in
    same_names-by (keys b.1) a.1 b.1 (own_slots nodes rights b right) s t r.0 r.2 r.1)
    (λ s t c.
    let r = same_names-over a.1 b.1 s t c in
    turned-by Q P A injects t s (same_names-by (keys a.1) b.1 a.1 (own_slots nodes lefts a left) t s r.0 r.2 r.1))

-- two assertions of full ids with one equation are one entry
pub one-entry : (nodes : List DTerm) (a b c d : Applied) → IsFull nodes a → IsFull nodes b → IsFull nodes c → IsFull nodes d → equation_of a b ≡ equation_of c d → (text : Option (List ℕ)) → asserted_entry a b text ≡ asserted_entry c d text
one-entry nodes a b c d fa fb fc fd e text =
    let l : keys a.1 ≡ keys c.1 = fa.slots ∙ (ap (λ (x : Equation). canonical_slots nodes x.left) e ∙ sym fc.slots) in
    let r : keys b.1 ≡ keys d.1 = fb.slots ∙ (ap (λ (x : Equation). canonical_slots nodes x.right) e ∙ sym fd.slots) in
    λ i. record { statement = record { left_slots = l i; right_slots = r i; equation = e i }; step = explicit; text = text }
