-- The laws that a cost function keeps make its costs lawful on its language.
use Rattle.std.proofs.Common.{◌≡◌, List, length, true, false, sym, ◌∙◌, ap, refl, subst, inl, inr}
use Rattle.std.specs.Prelude.{◌⊎◌, IsTrue}
use Rattle.std.specs.Cmp.{IsTotalOrder}
use Rattle.std.specs.Ordering.{is_le, is_gt, ordering_reverse}
use Rattle.std.specs.declared.cmp.Ordering.{Ordering}
use Rattle.std.specs.declared.cmp.Ordering.TheVariants.{Less, Equal, Greater}
use Rattle.std.proofs.lemmas.Cmp.{upto, tied_itself}
use Rattle.slotted_theory.specs.Nameless.{DTerm}
use Rattle.slotted_nodes.specs.Form.{Form}
use Rattle.slotted_languages.specs.NodeTerm.{nameless_node}
use Rattle.slotted_model.specs.Cost.{AtMost, child_count}
use Rattle.slotted_costs.specs.Costs.{costs_by, HasValuesFor}
use Rattle.slotted_costs.specs.Laws.{IsOfLanguage, NeverFalls, CoversChildren, CostLaws}
use Rattle.slotted_outlines.proofs.BareNodes.{bare-shape, count-alike}

not-greater : (r : Ordering) → is_le r ≡ true → is_gt r ≡ false
not-greater Less h = refl
not-greater Equal h = refl
not-greater Greater h = cc

at-most : (r : Ordering) → is_gt r ≡ false → is_le r ≡ true
at-most Less h = refl
at-most Equal h = refl
at-most Greater h = cc

either : (r : Ordering) → IsTrue (is_le r) ⊎ IsTrue (is_le (ordering_reverse r))
either Less = inl refl
either Equal = inl refl
either Greater = inr refl

module _ {L C : Type 0} (form : L → Form) (cmp : C → C → Ordering) (order : IsTotalOrder cmp) (weight : DTerm → List C → C) where
  counted : (d : DTerm) (xs : List C) (p : IsOfLanguage form d) → length xs ≡ child_count d.args → HasValuesFor (form p.0) xs
  counted d xs p n = n ∙ count-alike d (form p.0) p.1

  pub cost-laws : NeverFalls form (costs_by cmp weight) → CoversChildren form (costs_by cmp weight) → CostLaws form (costs_by cmp weight)
  cost-laws rises covers = record {
    lawful = record {
      reflexive = λ x. ap is_le (tied_itself order x);
      transitive = λ x y z p q. at-most (cmp x z) (upto order x y z (not-greater (cmp x y) p) (not-greater (cmp y z) q));
      alike = λ d e xs p q a n. ap (λ s. weight s xs) a;
      rises = λ d xs ys p n h. subst (λ s. AtMost (costs_by cmp weight) (weight s xs) (weight s ys)) (sym p.1) (rises p.0 xs ys (counted d xs p n) h);
      no_less = λ d xs p n x c. subst (λ s. AtMost (costs_by cmp weight) x (weight s xs)) (sym p.1) (covers p.0 xs (counted d xs p n) x c);
    };
    total = λ x y. elim (either (cmp x y)) [
      | inl h ↦ inl h
      | inr h ↦ inr (subst (λ r. IsTrue (is_le r)) (sym (order.antisymm y x)) h)
    ];
    alike = λ d e a p. (p.0, a ∙ p.1);
    filed = λ n. (n, bare-shape (nameless_node (form n)));
  }
