-- Explicit leaves in a small graph: where a = b and b = c are asserted, the entry that turns a = b round rests on the first alone.
use Rattle.std.proofs.Common.{◌≡◌, ℕ, List, [], ◌∷◌, ◌++◌, inl, inr, sym, refl, subst, arith}
use Rattle.std.specs.Prelude.{Contains}
use Rattle.slotted_lists.proofs.Contained.{contains_head, contains_cases, Contains-nil}
use Rattle.slotted_model.specs.ProofList.{ProofEntry, symmetric, HoldsFrom, Proved, equation_at, term_pair}
use Rattle.slotted_model.specs.Leaves.{IsLeaf}
use Rattle.slotted_model.specs.Link.{CanEnter}
use Rattle.slotted_model.specs.SoundnessClaims.{SoundnessLaws}
use Rattle.slotted_model.proofs.Finds.Entering.{entered-proved}
use Rattle.slotted_model.proofs.Finds.Leaves.{leaf_cases}
use Rattle.slotted_model.proofs.Examples.CongruenceExample.{sides, stands_nowhere, nothing_paired}
use Rattle.slotted_model.proofs.Examples.ShortcutExample.{three, b_is_c, b_c_rests}

abbrev turned : ProofEntry
turned = record { equation = sides 1 0; step = symmetric 3 }

abbrev proofs : List ProofEntry
proofs = b_is_c.proofs ++ turned ∷ []

turned_can_enter : CanEnter three.nodes b_is_c.proofs turned
turned_can_enter = record {
  over = record { left = omega arith; right = omega arith; pairs = nothing_paired };
  proved = (omega arith, refl);
  is_new = stands_nowhere (sides 1 0) b_is_c.proofs (omega arith, (omega arith, (omega arith, (omega arith, (omega arith, tt)))));
}

turned_proved : Proved three.nodes proofs
turned_proved = entered-proved three.nodes b_is_c.proofs turned b_c_rests.sane.sound.proved turned_can_enter

-- its one leaf is the first assertion
only_leaf : (q : ℕ) → IsLeaf proofs 5 q → q ≡ 3
only_leaf q l = elim (leaf_cases l) [
  | inl k ↦ absurd (let e = k.1 in cc)
  | inr m ↦ elim (contains_cases 3 [] m.0 m.1) [
    | inl e ↦ of_first (subst (λ r. IsLeaf proofs r q) e m.2)
    | inr c ↦ absurd (Contains-nil m.0 c)
  ]
]
  where
    of_first : IsLeaf proofs 3 q → q ≡ 3
    of_first l = elim (leaf_cases l) [
      | inl k ↦ k.0
      | inr m ↦ absurd (Contains-nil m.0 m.1)
    ]

-- so b = a follows from it alone
module _ (laws : SoundnessLaws) where
  from_the_first : HoldsFrom (term_pair three.nodes (sides 0 1) ∷ []) three.nodes (sides 1 0)
  from_the_first =
      laws.leaves_are_enough (term_pair three.nodes (sides 0 1) ∷ []) three.nodes b_c_rests.sane.sound.canonical proofs turned_proved 5 (omega arith)
      (λ q l. subst (λ r. Contains (term_pair three.nodes (sides 0 1) ∷ []) (term_pair three.nodes (equation_at proofs r))) (sym (only_leaf q l)) (contains_head (term_pair three.nodes (sides 0 1)) []))
