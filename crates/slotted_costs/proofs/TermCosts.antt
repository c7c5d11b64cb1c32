-- The cost of a term is that of its node over the costs of its child terms.
use Rattle.std.proofs.Common.{◌≡◌, ◌<◌, ◌≤◌, ℕ, zero, suc, ◌+◌, List, [], ◌∷◌, ◌++◌, length, map, take, drop, get_or, sym, ◌∙◌, ap, refl, subst, arith}
use denote.Param.Weighed.{most}
use Rattle.std.specs.Prelude.{slice_index, Result, Ok, Err, IfOk}
use Rattle.std.specs.declared.cmp.Ordering.{Ordering}
use Rattle.std.proofs.lemmas.List.{take-append-drop, map-append}
use Rattle.slotted_theory.specs.Term.{Term, term_size}
use Rattle.slotted_theory.specs.Nameless.{DArgs, DTerm, stop, place, sub, scope, extend, lift, moved, moved_args, nameless_args, nameless_by, nameless}
use Rattle.slotted_theory.specs.Renaming.{IsInjective}
use Rattle.slotted_theory.specs.Shape.{shape}
use Rattle.slotted_theory.proofs.Laws.{moved-nameless_args}
use Rattle.slotted_theory.proofs.Names.{extend-injective, lift-injective}
use Rattle.slotted_theory.proofs.Values.{node}
use Rattle.slotted_nodes.specs.Form.{Form, Tree, leaf, own, child, bind, scopes, children}
use Rattle.slotted_languages.specs.Filled.{filled, term_of, children_smaller}
use Rattle.slotted_languages.specs.NodeTerm.{node_args}
use Rattle.slotted_model.specs.Cost.{CostFunction, null_children, child_costs, tree_cost}
use Rattle.slotted_terms.specs.Valid.{IsWhole}
use Rattle.slotted_terms.proofs.TermPatterns.{filled_whole, AreWhole}
use Rattle.slotted_costs.specs.Costs.{bare, bare_node, costs_by, cost_of_term}
use Rattle.slotted_outlines.proofs.BareNodes.{bare-moved}

whole-at : (us : List Term) (i : ℕ) (u : Term) → AreWhole us → i < length us → u ≡ get_or us i u → IsWhole u.args
whole-at [] i u h lt is = absurd (omega arith)
whole-at (v ∷ us) zero u h lt is = subst (λ (t : Term). IsWhole t.args) (sym is) h.0
whole-at (v ∷ us) (suc i) u h lt is = whole-at us i u h.1 (omega arith) is

pub term-count : (f : Form) (us : List Term) → IsWhole (term_of f us).args → length us ≡ length (children f.tree)
term-count f us w = (filled_whole f.tree f.names us w).0

pub child-whole : (f : Form) (us : List Term) → IsWhole (term_of f us).args → (i : ℕ) (u : Term) → i < length us → u ≡ get_or us i u → IsWhole u.args
child-whole f us w i u = whole-at us i u (filled_whole f.tree f.names us w).1

most-at : (us : List Term) (i : ℕ) (u : Term) → i < length us → u ≡ get_or us i u → term_size u + 1 ≤ most (λ t. term_size t + 1) us
most-at [] i u lt is = absurd (omega arith)
most-at (v ∷ us) zero u lt is = let e : term_size u ≡ term_size v = ap term_size is in omega arith
most-at (v ∷ us) (suc i) u lt is = let h : term_size u + 1 ≤ most (λ t. term_size t + 1) us = most-at us i u (omega arith) is in omega arith

pub child-smaller : (f : Form) (us : List Term) (i : ℕ) (u : Term) → i < length us → u ≡ get_or us i u → term_size u < term_size (term_of f us)
child-smaller f us i u lt is = omega (arith, most-at us i u lt is, children_smaller f us)

-- without its children the term is the node
null-filled : (ρ : ℕ → ℕ) (t : Tree) (xs : List ℕ) (us : List Term) → IsWhole (filled t xs us) → null_children (nameless_args ρ (filled t xs us)) ≡ null_children (nameless_args ρ (node_args t xs))
null-filled ρ leaf xs [] w = refl
null-filled ρ leaf xs (u ∷ us) w = absurd (omega (arith, w.0))
null-filled ρ (own r) xs us w = ap (place (ρ (slice_index xs 0))) (null-filled ρ r (drop 1 xs) us w)
null-filled ρ (child i ks r) xs [] w = absurd (omega (arith, w.0))
null-filled ρ (child i ks r) xs (u ∷ us) w = ap (sub 0 [] stop) (null-filled ρ r (drop (length ks) xs) us w.2)
null-filled ρ (bind u r) xs us w =
    λ i. scope (null-filled (extend (slice_index xs 0) ρ) u (take (length (scopes u)) (drop 1 xs)) (take (length (children u)) us) w.0 i)
    (null-filled ρ r (drop (length (scopes u)) (drop 1 xs)) (drop (length (children u)) us) w.1 i)

bare-filled : (f : Form) (us : List Term) → IsWhole (term_of f us).args → bare (nameless (term_of f us)) ≡ bare_node f
bare-filled f us w = ap (λ args. shape (node (suc f.operator) f.payloads args)) (null-filled (λ x. x) f.tree f.names us w)

module _ {C : Type 0} (cmp : C → C → Ordering) (weight : DTerm → List C → C) where
  abbrev k : CostFunction C
  k = costs_by cmp weight

  -- other names cost the same
  costs-moved : (f : ℕ → ℕ) → IsInjective f → (d : DArgs) → child_costs k (moved_args f d) ≡ child_costs k d
  costs-moved f inj stop = refl
  costs-moved f inj (place x rest) = costs-moved f inj rest
  costs-moved f inj (sub op payloads args rest) =
      λ i. weight (bare-moved f inj (node op payloads args) i) (costs-moved f inj args i) ∷ costs-moved f inj rest i
  costs-moved f inj (scope inner rest) = λ i. costs-moved (lift f) (lift-injective f inj) inner i ++ costs-moved f inj rest i

  cost-moved : (f : ℕ → ℕ) → IsInjective f → (d : DTerm) → tree_cost k (moved f d) ≡ tree_cost k d
  cost-moved f inj d = λ i. weight (bare-moved f inj d i) (costs-moved f inj d.args i)

  -- and so do other numbers of names
  cost-under : (ρ : ℕ → ℕ) → IsInjective ρ → (t : Term) → tree_cost k (nameless_by ρ t) ≡ cost_of_term k t
  cost-under ρ inj t = ap (λ args. tree_cost k (node t.op t.payloads args)) (sym (moved-nameless_args ρ (λ x. x) t.args)) ∙ cost-moved ρ inj (nameless t)

  costs-filled : (ρ : ℕ → ℕ) → IsInjective ρ → (t : Tree) (xs : List ℕ) (us : List Term) → IsWhole (filled t xs us) → child_costs k (nameless_args ρ (filled t xs us)) ≡ map (cost_of_term k) us
  costs-filled ρ inj leaf xs [] w = refl
  costs-filled ρ inj leaf xs (u ∷ us) w = absurd (omega (arith, w.0))
  costs-filled ρ inj (own r) xs us w = costs-filled ρ inj r (drop 1 xs) us w
  costs-filled ρ inj (child i ks r) xs [] w = absurd (omega (arith, w.0))
  costs-filled ρ inj (child i ks r) xs (u ∷ us) w = λ j. cost-under ρ inj u j ∷ costs-filled ρ inj r (drop (length ks) xs) us w.2 j
  costs-filled ρ inj (bind u r) xs us w =
      let n = length (children u) in
      let m = length (scopes u) in
      let x = slice_index xs 0 in
      (λ j. costs-filled (extend x ρ) (extend-injective x ρ inj) u (take m (drop 1 xs)) (take n us) w.0 j ++ costs-filled ρ inj r (drop m (drop 1 xs)) (drop n us) w.1 j)
      ∙ (sym (map-append (cost_of_term k) (take n us) (drop n us)) ∙ ap (map (cost_of_term k)) (take-append-drop n us))

  pub cost-node : (f : Form) (us : List Term) → IsWhole (term_of f us).args → weight (bare_node f) (map (cost_of_term k) us) ≡ cost_of_term k (term_of f us)
  cost-node f us w = sym (λ i. weight (bare-filled f us w i) (costs-filled (λ x. x) (λ x y e. e) f.tree f.names us w i))

-- an answer that equals another value
pub IfOk-then : {A E : Type 0} {x y : A} (r : Result A E) → IfOk r (λ a. a ≡ x) → x ≡ y → IfOk r (λ a. a ≡ y)
IfOk-then (Ok a) h e = h ∙ e
IfOk-then (Err e) h p = tt
