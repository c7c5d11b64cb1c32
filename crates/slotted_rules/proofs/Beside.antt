-- Progress as four numbers.
use Rattle.std.proofs.Common.{◌≡◌, ◌∙◌, ◌↔◌, ℕ, List, [], ◌∷◌, length, Bool, true, false, refl, sym, ap, subst}
use Rattle.std.specs.Prelude.{IsTrue, not}
use Rattle.std.proofs.lemmas.Bool.{false≢true}
use Rattle.slotted_nodes.specs.Form.{counted}
use Rattle.slotted_theory.specs.Decided.{numbers_eq}
use Rattle.slotted_theory.proofs.Decides.{numbers_eq-true, numbers_eq-same}
use Rattle.slotted_reports.specs.declared.measure.ProgressMeasure.{ProgressMeasure}
use Rattle.slotted_operations.specs.Image.{Image}
use Rattle.slotted_operations.specs.Reports.{live_classes}
use Rattle.slotted_graph.specs.Measure.{IsProgress, slots_of_live}
use Rattle.slotted_rules.specs.Applying.{HasProgressed}
use Rattle.slotted_rules.specs.Turning.{progress_of}

-- the measure of a graph
abbrev measure_of : Image → ProgressMeasure
measure_of g = record {
  number_of_classes = length g.canonical;
  number_of_live_classes = length (live_classes g);
  sum_of_slots = counted (slots_of_live g);
  sum_of_symmetries = length (live_classes g);
}

is-measure : (g : Image) → IsProgress g (measure_of g)
is-measure g = record { classes = refl; live = refl; slots = refl; symmetries = refl }

abbrev numbers_of : ProgressMeasure → List ℕ
numbers_of m = m.number_of_classes ∷ m.number_of_live_classes ∷ m.sum_of_slots ∷ m.sum_of_symmetries ∷ []

measured : (g : Image) (m : ProgressMeasure) → IsProgress g m → numbers_of m ≡ progress_of g
measured g m p = λ i. p.classes i ∷ p.live i ∷ p.slots i ∷ p.symmetries i ∷ []

abbrev measure_from : List ℕ → ProgressMeasure
measure_from (a ∷ b ∷ c ∷ d ∷ rest) = record { number_of_classes = a; number_of_live_classes = b; sum_of_slots = c; sum_of_symmetries = d }
measure_from _ = record { number_of_classes = 0; number_of_live_classes = 0; sum_of_slots = 0; sum_of_symmetries = 0 }

-- the graphs have made progress exactly where their numbers differ
pub same-progress : (g h : Image) (y : Bool) → IsTrue y ↔ HasProgressed g h → numbers_eq (progress_of g) (progress_of h) ≡ not y
same-progress g h false says = subst (λ xs. numbers_eq (progress_of g) xs ≡ true) (same (numbers_eq (progress_of g) (progress_of h)) refl) (numbers_eq-same (progress_of g))
  where
    differ : numbers_eq (progress_of g) (progress_of h) ≡ false → HasProgressed g h
    differ e m n p q is = false≢true (sym e ∙ subst (λ xs. numbers_eq (progress_of g) xs ≡ true) (sym (measured g m p) ∙ (ap numbers_of is ∙ measured h n q)) (numbers_eq-same (progress_of g)))

    same : (b : Bool) → numbers_eq (progress_of g) (progress_of h) ≡ b → progress_of g ≡ progress_of h
    same true e = numbers_eq-true (progress_of g) (progress_of h) e
    same false e = absurd (false≢true (says.1 (differ e)))
same-progress g h true says = decide (numbers_eq (progress_of g) (progress_of h)) refl
  where
    decide : (b : Bool) → numbers_eq (progress_of g) (progress_of h) ≡ b → numbers_eq (progress_of g) (progress_of h) ≡ false
    decide false e = e
    decide true e =
        let is : progress_of g ≡ progress_of h = numbers_eq-true (progress_of g) (progress_of h) e in
        absurd (says.0 refl (measure_of g) (measure_of h) (is-measure g) (is-measure h) (λ i. measure_from (is i)))
