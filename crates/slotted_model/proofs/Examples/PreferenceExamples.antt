-- Of two rows of one cost the one that comes first is in the table; and costs that are lawful on the operators of a language alone.
use Rattle.std.proofs.Common.{◌≡◌, ℕ, ◌≤◌, List, [], ◌∷◌, cond, refl, ap, sym, ◌∙◌, subst, arith}
use Rattle.std.specs.Prelude.{IsTrue, leb}
use Rattle.std.proofs.lemmas.Bool.{leb-true}
use Rattle.slotted_lists.proofs.Contained.{contains_head, contains_tail, Contains-nil}
use Rattle.slotted_lists.proofs.Options.{Some-same}
use Rattle.slotted_theory.specs.Nameless.{DTerm, stop}
use Rattle.slotted_theory.proofs.Values.{node, child_before}
use Rattle.slotted_model.specs.State.{Row}
use Rattle.slotted_model.specs.Cost.{CostFunction, AtMost, IsLawfulOn, IsLawful, limited_size}
use Rattle.slotted_model.specs.Extraction.{IsLawfulFor, IsCandidate, cost_in, row_class, IsLeast, IsLeastFirst, HasCheaperChildren, BreaksTies, HasTiesBroken}
use Rattle.slotted_model.proofs.Examples.CompletenessExamples.{graph, row_f, row_g, row_lam, one_of, three_of}
use Rattle.slotted_model.proofs.Examples.ExtractedNamesExample.{k, entry_g, entry_lam, table, in_order}
use Rattle.slotted_model.proofs.LeastTerms.KnownCosts.{lawful-for, lawful-everywhere}
use Rattle.slotted_model.proofs.Data.Options.{None-Some}
use Rattle.slotted_model.proofs.LeastTerms.Sizes.{size-lawful}
use Rattle.slotted_model.proofs.LeastTerms.Ties.{first-of_ties}

-- f x y and g x are one class, and cost 1 each: g is least
g_is_least : IsLeast graph k [] 1
g_is_least r x n = three_of (λ q. IsCandidate ℕ graph k [] q x → AtMost k 1 x) row_f row_g row_lam
    (λ m. subst (AtMost k 1) (Some-same 1 x m.cost) refl) (λ m. subst (AtMost k 1) (Some-same 1 x m.cost) refl) (λ m. absurd (None-Some x m.cost)) r n.filed n

lam_is_least : IsLeast graph k (entry_g ∷ []) 2
lam_is_least r x n = three_of (λ q. IsCandidate ℕ graph k (entry_g ∷ []) q x → AtMost k 2 x) row_f row_g row_lam
    (λ m. absurd (None-Some 1 (sym m.new))) (λ m. absurd (None-Some 1 (sym m.new))) (λ m. subst (AtMost k 2) (Some-same 2 x m.cost) refl) r n.filed n

least_first : IsLeastFirst graph k table
least_first = (in_order.0, lam_is_least, (in_order.1.0, g_is_least, tt))

-- the row of the greater operator comes first
abbrev comes_first : Row → Row → Type 0
comes_first r q = IsTrue (leb q.shape.op r.shape.op)

-- g comes before f; the binder is of another class, and need not be asked, though its operator is greater still
g_breaks_ties : BreaksTies graph k comes_first [] entry_g
g_breaks_ties r x n class le over = (
  λ c i. absurd (Contains-nil c i),
  three_of (λ q. row_class graph q ≡ 1 → comes_first row_g q) row_f row_g row_lam (λ e. refl) (λ e. refl) (λ e. let m : ◌≡◌ {A = ℕ} 2 1 = e in absurd (omega arith)) r n.filed class,
)

-- the child of the binder costs less than it
lam_over_cheaper : HasCheaperChildren k (entry_g ∷ []) row_lam 2
lam_over_cheaper c i y p l =
    let cost : 1 ≡ y = Some-same 1 y (sym (ap (cost_in (entry_g ∷ [])) (one_of i)) ∙ p) in
    let le : 2 ≤ y = leb-true 2 y l in
    omega arith

lam_breaks_ties : BreaksTies graph k comes_first (entry_g ∷ []) entry_lam
lam_breaks_ties r x n class le over = (
  lam_over_cheaper,
  three_of (λ q. row_class graph q ≡ 2 → comes_first row_lam q) row_f row_g row_lam (λ e. let m : ◌≡◌ {A = ℕ} 1 2 = e in absurd (omega arith)) (λ e. let m : ◌≡◌ {A = ℕ} 1 2 = e in absurd (omega arith)) (λ e. refl) r n.filed class,
)

ties_broken : HasTiesBroken graph k comes_first table
ties_broken = (lam_breaks_ties, (g_breaks_ties, tt))

-- so in the whole table g comes before f, which is another row
g_first : HasCheaperChildren k table row_g 1 × comes_first row_g row_f
g_first =
    first-of_ties graph k (lawful-everywhere graph k (size-lawful 100)) comes_first table least_first ties_broken entry_g (contains_tail entry_lam (entry_g ∷ []) entry_g (contains_head entry_g []))
    row_f (contains_head row_f (row_g ∷ row_lam ∷ [])) refl 1 refl refl (λ c i. absurd (Contains-nil c i))

f_not_first : ¬ comes_first row_f row_g
f_not_first l = let le : 4 ≤ 3 = leb-true 4 3 l in omega arith

-- the size of trees of operators up to 5; a node of another operator costs nothing
abbrev is_known : DTerm → Type 0
is_known d = IsTrue (leb d.op 5)

abbrev known_size : CostFunction ℕ
known_size = record { is_at_most = leb; node_cost = λ d xs. cond (leb d.op 5) ((limited_size 100).node_cost d xs) 0 }

known-cost : (d : DTerm) (xs : List ℕ) → is_known d → known_size.node_cost d xs ≡ (limited_size 100).node_cost d xs
known-cost d xs p = ap (λ b. cond b ((limited_size 100).node_cost d xs) 0) p

-- this is lawful on those operators
known_lawful : IsLawfulOn is_known ℕ known_size
known_lawful = record {
  reflexive = (size-lawful 100).reflexive;
  transitive = (size-lawful 100).transitive;
  alike = λ d e xs p q a n. known-cost d xs p ∙ sym (known-cost e xs q);
  rises = λ d xs ys p n h.
      subst (λ z. IsTrue (leb z (known_size.node_cost d ys))) (sym (known-cost d xs p))
      (subst (λ z. IsTrue (leb ((limited_size 100).node_cost d xs) z)) (sym (known-cost d ys p)) ((size-lawful 100).rises d xs ys tt n h));
  no_less = λ d xs p n x c. subst (λ z. IsTrue (leb x z)) (sym (known-cost d xs p)) ((size-lawful 100).no_less d xs tt n x c);
}

-- and so it is lawful for the graph
known_is_enough : IsLawfulFor ℕ graph known_size
known_is_enough = lawful-for is_known graph known_size known_lawful
    (λ d e a p. subst (λ o. IsTrue (leb o 5)) (sym (ap (λ (t : DTerm). t.op) a)) p)
    (λ r c. three_of (λ q. is_known q.shape) row_f row_g row_lam refl refl refl r c)

-- but not on all nodes: the node of the operator 6 costs less than its child
not_everywhere : ¬ IsLawful ℕ known_size
not_everywhere law =
    let l : 1 ≤ 0 = leb-true 1 0 (law.no_less (node 6 [] (child_before (node 3 [] stop) stop)) (1 ∷ []) tt refl 1 (contains_head 1 [])) in
    omega arith
