-- The numbered form of what a class says of itself: both sides are numbered alike.
use Rattle.std.proofs.Common.{◌≡◌, ℕ, suc, ◌+◌, ◌≤◌, List, [], ◌∷◌, ◌++◌, length, refl, sym, ap, ◌∙◌, inl, inr, arith}
use Rattle.std.specs.Map.{values_of}
use Rattle.slotted_theory.specs.FiniteMaps.{with_values}
use Rattle.slotted_slots.specs.Table.{numeric_slot}
use Rattle.slotted_model.specs.Correspondence.{AllDifferent, IsFullMap, identity, numbered_from, numbered, IsNumberedAfter}
use Rattle.slotted_model.proofs.Correspondences.FullMaps.{with_values-full, same_names-itself}
use Rattle.slotted_model.proofs.Correspondences.Numbers.{from-full, numbered-only}
use Rattle.slotted_proofs.specs.Equations.{reflexive_statement, AreSides}

-- numbers that are all there already
again : (n k : ℕ) (P : List ℕ) → k + length P ≤ n → IsNumberedAfter n (values_of (numbered_from k P))
again n k [] h = tt
again n k (s ∷ P) h = inl (omega arith, again n (suc k) P (omega arith))

-- new numbers in turn, and then those
in_turn : (k : ℕ) (P ys : List ℕ) → ((n : ℕ) → n ≡ k + length P → IsNumberedAfter n ys) → IsNumberedAfter k (values_of (numbered_from k P) ++ ys)
in_turn k [] ys h = h k (omega arith)
in_turn k (s ∷ P) ys h = inr (refl, in_turn (suc k) P ys (λ n e. h n (omega arith)))

-- a class with numbered names, twice, is what it says of itself
pub itself_written : (i : ℕ) (P : List ℕ) → AllDifferent P → AreSides (reflexive_statement i P) (i, with_values numeric_slot (numbered_from 0 P)) (i, with_values numeric_slot (numbered_from 0 P))
itself_written i P once =
    let m : List (ℕ × ℕ) = numbered_from 0 P in
    let full : IsFullMap P m = from-full 0 P once in
    let e : numbered P P (identity P) ≡ (m, m) =
    ap (numbered P P) (sym (same_names-itself P m full)) ∙ numbered-only P P m m full full (in_turn 0 P (values_of m) (λ n e. again n 0 P (omega arith))) in
    let w : IsFullMap P (with_values numeric_slot m) = with_values-full numeric_slot P m full (λ x y c d q. omega arith) in
    record {
      left = λ j. (i, with_values numeric_slot (sym e j).0);
      right = λ j. (i, with_values numeric_slot (sym e j).1);
      left_full = w;
      right_full = w;
      equation = λ j. record { left = i; right = i; pairs = same_names-itself P (with_values numeric_slot m) w j };
    }
