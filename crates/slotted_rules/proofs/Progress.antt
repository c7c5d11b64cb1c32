-- Progress measures: a graph has one, and two that differ are told apart by their numbers.
use Rattle.std.proofs.Common.{◌≡◌, ◌∙◌, ◌↔◌, ℕ, Bool, true, false, refl, sym, ap, eq-eqb, arith}
use Rattle.std.specs.Prelude.{IsTrue, nat_eq, not, ◌&&◌}
use Rattle.std.proofs.lemmas.Bool.{false≢true}
use Rattle.slotted_reports.specs.declared.measure.ProgressMeasure.{ProgressMeasure}
use Rattle.slotted_operations.specs.Image.{Image}
use Rattle.slotted_graph.specs.Measure.{IsProgress}
use Rattle.slotted_rules.specs.Applying.{HasProgressed}

unfoldable pub same_measure : ProgressMeasure → ProgressMeasure → Bool
same_measure n m =
    nat_eq n.number_of_classes m.number_of_classes && (nat_eq n.number_of_live_classes m.number_of_live_classes && (nat_eq n.sum_of_slots m.sum_of_slots && nat_eq n.sum_of_symmetries m.sum_of_symmetries))

one-measure : (g : Image) (m n : ProgressMeasure) → IsProgress g m → IsProgress g n → m ≡ n
one-measure g m n p q = λ i. record {
  number_of_classes = (p.classes ∙ sym q.classes) i;
  number_of_live_classes = (p.live ∙ sym q.live) i;
  sum_of_slots = (p.slots ∙ sym q.slots) i;
  sum_of_symmetries = (p.symmetries ∙ sym q.symmetries) i;
}

same-itself : (m : ProgressMeasure) → same_measure m m ≡ true
unfolding same_measure
same-itself m = grind (arith, itself)
  where
    itself : (x : ℕ) → nat_eq x x ≡ true
    itself x = eq-eqb x x refl

equal-same : (n m : ProgressMeasure) → same_measure n m ≡ true → m ≡ n
unfolding same_measure
equal-same n m e =
    let a = split (nat_eq n.number_of_classes m.number_of_classes) _ e in
    let b = split (nat_eq n.number_of_live_classes m.number_of_live_classes) _ a.1 in
    let c = split (nat_eq n.sum_of_slots m.sum_of_slots) _ b.1 in
    λ i. record {
      number_of_classes = sym (equal n.number_of_classes m.number_of_classes a.0) i;
      number_of_live_classes = sym (equal n.number_of_live_classes m.number_of_live_classes b.0) i;
      sum_of_slots = sym (equal n.sum_of_slots m.sum_of_slots c.0) i;
      sum_of_symmetries = sym (equal n.sum_of_symmetries m.sum_of_symmetries c.1) i;
    }
  where
    split : (x y : Bool) → (x && y) ≡ true → (x ≡ true) × (y ≡ true)
    split true y e = (refl, e)
    split false y e = absurd (false≢true e)

    equal : (x y : ℕ) → nat_eq x y ≡ true → x ≡ y
    equal x y e = grind arith

pub progressed : (g h : Image) (m n : ProgressMeasure) → IsProgress g m → IsProgress h n → (y : Bool) → y ≡ not (same_measure n m) → IsTrue y ↔ HasProgressed g h
progressed g h m n p q y is = (
  λ yes a b r s same.
      let one : m ≡ n = one-measure g m a p r ∙ (same ∙ one-measure h b n s q) in
      false≢true (ap not (sym (same-itself n)) ∙ (ap (λ x. not (same_measure n x)) (sym one) ∙ (sym is ∙ yes))),
  λ differ. decide (same_measure n m) refl differ,
)
  where
    decide : (b : Bool) → same_measure n m ≡ b → HasProgressed g h → IsTrue y
    decide true e differ = absurd (differ m n p q (equal-same n m e))
    decide false e differ = is ∙ ap not e
