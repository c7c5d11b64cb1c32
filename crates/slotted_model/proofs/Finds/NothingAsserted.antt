-- Where nothing is asserted: no slot has been dropped, so that valid ids are full, and ids find alike exactly where they stand for one term.
use Rattle.std.proofs.Common.{◌≡◌, ◌↔◌, ℕ, List, [], sym, ap, subst, inl, inr}
use Rattle.std.specs.Prelude.{Contains}
use Rattle.slotted_theory.specs.Nameless.{DTerm}
use Rattle.slotted_theory.specs.Derives.{Equal}
use Rattle.slotted_theory.proofs.FromNothing.{Equal-nothing}
use Rattle.slotted_model.specs.Applied.{Applied, keys, values}
use Rattle.slotted_model.specs.Classes.{canonical_slots, term_of, IsFull}
use Rattle.slotted_model.specs.Filling.{IsValid, IsFilling}
use Rattle.slotted_model.specs.Find.{Entry, used_slots, find}
use Rattle.slotted_model.specs.ProofList.{ProofEntry, asserted}
use Rattle.slotted_model.specs.Sound.{Sound}
use Rattle.slotted_model.proofs.Represented.Fillings.{a_filling, fills-itself, valid-full}
use Rattle.slotted_model.proofs.Represented.FillingEquations.{named}
use Rattle.slotted_model.proofs.Finds.FindProofs.{found_alike-equal}
use Rattle.slotted_model.proofs.Finds.NormalIds.{full-is_valid}
use Rattle.slotted_model.proofs.Represented.Unique.{term_of-same}
use Rattle.slotted_model.proofs.Correspondences.Pairs.{Contains-key, Contains-value}
use Rattle.slotted_model.proofs.Correspondences.FullMaps.{full-name}
use Rattle.slotted_model.proofs.Correspondences.FullIds.{full_map}

module _ (nodes : List DTerm) (found : List Entry) (proofs : List ProofEntry) (sound : Sound nodes found proofs) (nothing : asserted nodes proofs ≡ []) where
  -- ids that find alike have one filling
  one_filling : (a b left right : Applied) (given more_given : List ℕ) → IsValid (used_slots found) nodes a → IsValid (used_slots found) nodes b → find found a ≡ find found b →
      IsFilling nodes given a left → IsFilling nodes more_given b right → left ≡ right
  one_filling a b left right given more_given va vb e f h =
      let equal : Equal (asserted nodes proofs) (term_of nodes left) (term_of nodes right) =
      found_alike-equal nodes sound.canonical found proofs sound.linked sound.proved sound.exact a b left right given more_given va vb e f h in
      (term_of-same nodes sound.canonical left right f.full h.full).0 (Equal-nothing (subst (λ (E : List (DTerm × DTerm)). Equal E (term_of nodes left) (term_of nodes right)) nothing equal))

  -- so no slot is missing: two fillings would differ there
  none_missing : (a : Applied) → IsValid (used_slots found) nodes a → (s : ℕ) → Contains (canonical_slots nodes a.0) s → Contains (keys a.1) s
  none_missing a v s c = elim (named a.1 s) [
    | inl k ↦ Contains-key a.1 s k.0 k.1
    | inr missing ↦
        let b : (x : Applied) × IsFilling nodes [] a x = a_filling nodes (used_slots found) [] a v in
        let d : (x : Applied) × IsFilling nodes (values b.0.1) a x = a_filling nodes (used_slots found) (values b.0.1) a v in
        let same : b.0 ≡ d.0 = one_filling a a b.0 d.0 [] (values b.0.1) v v (λ i. find found a) b.1 d.1 in
        let there : Contains (canonical_slots nodes d.0.0) s = subst (λ j. Contains (canonical_slots nodes j) s) (sym d.1.class) c in
        let x = full-name (canonical_slots nodes d.0.0) d.0.1 (full_map nodes d.0 d.1.full) s there in
        absurd (d.1.fresh s x.0 x.1 missing (subst (λ (y : Applied). Contains (values y.1) x.0) (sym same) (Contains-value d.0.1 s x.0 x.1)))
  ]

  pub nothing-full : (a : Applied) → IsValid (used_slots found) nodes a → IsFull nodes a
  nothing-full a v = valid-full nodes a (record {
    in_range = v.in_range;
    ascending = v.ascending;
    injective = v.injective;
    has_slots = none_missing a v;
    within = v.within;
  })

  pub nothing-alpha : (a b : Applied) → IsFull nodes a → IsFull nodes b → (find found a ≡ find found b) ↔ (term_of nodes a ≡ term_of nodes b)
  nothing-alpha a b fa fb = (
    λ e. ap (term_of nodes) (one_filling a b a b [] [] (full-is_valid nodes found sound.linked a fa) (full-is_valid nodes found sound.linked b fb) e (fills-itself nodes [] a fa) (fills-itself nodes [] b fb)),
    λ e. ap (find found) ((term_of-same nodes sound.canonical a b fa fb).0 e),
  )
