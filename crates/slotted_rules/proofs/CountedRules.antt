-- Rules applied one after another, where each apply says what it did.
use Rattle.std.proofs.Common.{◌≡◌, ◌∙◌, ◌<◌, ◌≤◌, ◌+◌, ℕ, List, [], ◌∷◌, ◌++◌, length, take, drop, suc, false, append_assoc, arith, take_all, sym, ap, subst, refl, map}
use Rattle.std.specs.Prelude.{get_or}
use Rattle.std.proofs.lemmas.List.{append-nil, drop_all, map-append, take_more}
use Rattle.std.proofs.Math.Seq.{drop-cons}
use Rattle.slotted_slots.specs.declared.error.Error.{Error}
use Rattle.slotted_slots.specs.declared.error.Error.TheVariants.{Failed}
use Rattle.slotted_nodes.specs.Form.{Form}
use Rattle.slotted_patterns.specs.View.{tree_of}
use Rattle.slotted_model_rules.specs.Runners.{AppliesAll, none_applied, one_applied}
use Rattle.slotted_operations.specs.Graph.{Graph}
use Rattle.slotted_graph.specs.Extension.{ExtendsTo}
use Rattle.slotted_graph.proofs.Extending.{extends-itself, extends-then}
use Rattle.slotted_model_rules.specs.Conditions.{Values}
use Rattle.slotted_rules.specs.Applying.{AreRefusedBy, CanApplyAll}
use Rattle.slotted_rules.specs.Counting.{RefusesRule, counts_in}
use Rattle.slotted_rules.specs.WrittenLaws.{refused-other}
use Rattle.slotted_rules.specs.declared.rewrite.Rewrite.{Rewrite}
use Rattle.slotted_rules.specs.declared.counting.RuleCounts.{RuleCounts}
use Rattle.slotted_rules.specs.Loops.{HasDone}
use Rattle.slotted_rules.proofs.AppliedRules.{applies-more, can-stays}

module _ {R F K : Type 0} (key : K → F) (applies : R → K → Graph → Graph → Type 0) (can : R → F → Graph → Type 0) (rules : List R) where
  -- before the first rule nothing is done
  pub none-done : (founds : List F) (g : Graph) → g.failed ≡ false → CanApplyAll can rules founds g → HasDone key applies can [] rules founds founds [] g g
  none-done founds g well c = record {
    well = well;
    extends = extends-itself g;
    whole = refl;
    applied = none_applied;
    can_apply = c;
  }

  -- where some rules were applied, the next one can be
  module _ (i : ℕ) (rule : R) (l : i < length rules) (is : rule ≡ get_or rules i rule) (founds left new : List F) (k : K) (first : left ≡ key k ∷ new) (done : List K) (g f : Graph)
      (so_far : HasDone key applies can (take i rules) (drop i rules) founds left done g f) where
    head : drop i rules ≡ rule ∷ drop (i + 1) rules
    head =
        let next : suc i ≡ i + 1 = omega arith in
        drop-cons rules i rule l ∙ (ap (λ r. r ∷ drop (suc i) rules) (sym is) ∙ ap (λ n. rule ∷ drop n rules) next)

    both : CanApplyAll can (rule ∷ drop (i + 1) rules) (key k ∷ new) f
    both = subst (λ rs. CanApplyAll can rs (key k ∷ new) f) head (subst (λ xs. CanApplyAll can (drop i rules) xs f) first so_far.can_apply)

    pub done-can : can rule (key k) f
    done-can = both.0

    pub done-more : ((r : R) (y : F) (a b : Graph) → ExtendsTo a b → can r y a → can r y b) → (h : Graph) → applies rule k f h → ExtendsTo f h → h.failed ≡ false →
        HasDone key applies can (take (i + 1) rules) (drop (i + 1) rules) founds new (done ++ k ∷ []) g h
    done-more stays h applied more well = record {
      well = well;
      extends = extends-then g f h so_far.extends more;
      whole = so_far.whole ∙ (ap (λ xs. map key done ++ xs) first ∙ (sym (append_assoc (map key done) (key k ∷ []) new) ∙ ap (λ xs. xs ++ new) (sym (map-append key done (k ∷ [])))));
      applied = subst (λ rs. AppliesAll applies rs (done ++ k ∷ []) g h) (sym (take_more rules i rule l ∙ ap (λ r. take i rules ++ r ∷ []) (sym is))) (applies-more applies so_far.applied rule k applied);
      can_apply = can-stays can stays (drop (i + 1) rules) new f h more both.1;
    }

  none-left : (h : Graph) (xs : List F) → CanApplyAll can [] xs h → xs ≡ []
  none-left h [] c = refl
  none-left h (x ∷ xs) c = absurd c

  -- and where all were, all that was found was applied
  pub done-whole : (i : ℕ) → length rules ≤ i → (founds left : List F) (done : List K) (g h : Graph) → HasDone key applies can (take i rules) (drop i rules) founds left done g h →
      (map key done ≡ founds) × AppliesAll applies rules done g h
  done-whole i l founds left done g h so_far =
      let none : left ≡ [] = none-left h left (subst (λ rs. CanApplyAll can rs left h) (drop_all i rules l) so_far.can_apply) in
      let whole : founds ≡ map key done = so_far.whole ∙ (ap (λ xs. map key done ++ xs) none ∙ append-nil (map key done)) in
      (sym whole, subst (λ rs. AppliesAll applies rs done g h) (take_all i rules l) so_far.applied)

-- what each apply said of what it did can be left out
pub applied-keys : {R F K : Type 0} (key : K → F) (says : R → K → Graph → Graph → Type 0) (applies : R → F → Graph → Graph → Type 0) → ((r : R) (k : K) (a b : Graph) → says r k a b → applies r (key k) a b) →
    {rules : List R} {done : List K} {g h : Graph} → AppliesAll says rules done g h → AppliesAll applies rules (map key done) g h
applied-keys key says applies less none_applied = none_applied
applied-keys key says applies less (one_applied first more) = one_applied (less _ _ _ _ first) (applied-keys key says applies less more)

-- what is told of one rule more
pub counts-more : (counts new : List RuleCounts) (done : List (List Values × ℕ)) (k : List Values × ℕ) (x : RuleCounts) → counts ≡ counts_in done → x.found ≡ length k.0 → x.united ≡ k.1 → new ≡ counts ++ x ∷ [] →
    new ≡ counts_in (done ++ k ∷ [])
counts-more counts new done k x so_far found united is =
    let one : x ≡ record { found = length k.0; united = k.1 } = λ j. record { found = found j; united = united j } in
    is ∙ ((λ j. so_far j ++ one j ∷ []) ∙ sym (map-append (λ (p : List Values × ℕ). record { found = length p.0; united = p.1 }) done (k ∷ [])))

-- no rule is refused as over a failed graph
pub no-rule_fails : {L C : Type 0} (form : L → Form) (refuses : C → Values → Graph → Error → Type 0) → ((c : C) (s : Values) (g : Graph) → ¬ refuses c s g Failed) → (rules : List (Rewrite L C)) → ¬ AreRefusedBy (RefusesRule form refuses) rules Failed
no-rule_fails form refuses never rules r = refused-other (refuses r.0.condition) (never r.0.condition) (tree_of form r.0.right) r.2
