-- The slots that a class uses, looked for among those of its node in normal form.
use Rattle.std.proofs.Common.{◌≡◌, ◌<◌, ℕ, List, [], ◌∷◌, Some, None, length, sym, ap, refl, subst}
use Rattle.std.specs.Prelude.{◌↔◌, Bool, Contains, IsTrue, is_some, slice_index_or}
use Rattle.slotted_lists.proofs.Members.{In-Contains}
use Rattle.slotted_theory.specs.FiniteMaps.{value_of}
use Rattle.slotted_slots.specs.Maps as slots
use Rattle.slotted_model.specs.Applied.{keys, values}
use Rattle.slotted_model.specs.Correspondence.{flipped}
use Rattle.slotted_model.specs.Find.{find_class, find_map}
use Rattle.slotted_model.specs.Rebuild.{IsCovered}
use Rattle.slotted_model.proofs.Correspondences.Pairs.{Contains-value_of}
use Rattle.slotted_languages.proofs.Counting.{In-value}
use Rattle.slotted_classes.specs.Finding.{HasFinds, HasFoundName, HasFoundNames}
use Rattle.slotted_classes.specs.Kept.{Kept, entries_of, find_at}
use Rattle.slotted_classes.proofs.Chasing.{has-name, no-name, each-name, all-names}
use Rattle.slotted_hashcons.specs.FoundNodes.{HasNormalNames, StandsIn, finds_of}

-- the values of a map are the keys of its pairs turned round
pub keys-flipped : (m : List (ℕ × ℕ)) → keys (flipped m) ≡ values m
keys-flipped [] = refl
keys-flipped (p ∷ m) = ap (λ xs. p.1 ∷ xs) (keys-flipped m)

module _ (k : Kept) (good : HasFinds k) (i : ℕ) (within : i < length k.classes) (m : List (ℕ × ℕ)) where
  named : (t : ℕ) → HasFoundName k (i, flipped m) t ↔ StandsIn k i m t
  named t = (
    λ h s c. subst (λ xs. Contains xs s) (keys-flipped m) (h s c),
    λ h s c. subst (λ xs. Contains xs s) (sym (keys-flipped m)) (h s c),
  )

  -- the slot that stands there is one of the map
  pub stands-some : (t s : ℕ) → Some s ≡ value_of (find_map (entries_of k) i) t → (y : Bool) → (IsTrue y ↔ Contains (values m) s) → IsTrue y ↔ StandsIn k i m t
  stands-some t s e y is =
      let h = has-name k good (i, flipped m) within t s e (is_some (slots.value_of (flipped m) s)) refl in (
        λ b. (named t).0 (h.0 (In-value (flipped m) s (In-Contains (keys (flipped m)) s (subst (λ xs. Contains xs s) (sym (keys-flipped m)) (is.0 b))))),
        λ n. is.1 (n s (Contains-value_of (find_map (entries_of k) i) t s (sym e))),
      )

  -- no slot stands there
  pub stands-none : (t : ℕ) → None ≡ value_of (find_map (entries_of k) i) t → StandsIn k i m t
  stands-none t e = (named t).0 (no-name k good (i, flipped m) within t e)

  module _ (names : HasNormalNames k i m) where
    pub covered-each : IsCovered (finds_of k) i → (t : ℕ) → StandsIn k i m t
    covered-each h t =
        (named t).0 (each-name k good (i, flipped m) within (λ s u. subst (λ xs. Contains xs s) (sym (keys-flipped m)) ((names s).1 (h s u))) t)

    pub each-covered : (c : ℕ) → c ≡ find_class (entries_of k) i → c < length k.classes → (n : List (ℕ × ℕ)) → n ≡ (find_at k c).pairs →
        ((j d : ℕ) → j < length (values n) → StandsIn k i m (slice_index_or (values n) j d)) → IsCovered (finds_of k) i
    each-covered c e l n en h s u =
        let all : HasFoundNames k (i, flipped m) = all-names k good (i, flipped m) within c e l n en (λ j d lt. (named (slice_index_or (values n) j d)).1 (h j d lt)) in
        (names s).0 (subst (λ xs. Contains xs s) (keys-flipped m) (all s u))
