-- The cost of a term, from its nodes in one list.
use Rattle.std.proofs.Common.{◌≡◌, ◌∙◌, ℕ, suc, ◌-◌, List, [], ◌∷◌, ◌++◌, length, map, take, drop, refl, sym, ap, arith}
use Rattle.std.proofs.lemmas.List.{map-append, length-map, take-map, drop-map}
use Rattle.std.specs.declared.cmp.Ordering.{Ordering}
use Rattle.slotted_theory.specs.Nameless.{DTerm, nameless}
use Rattle.slotted_nodes.specs.Form.{Form, children}
use Rattle.slotted_patterns.specs.Tree.{PatternTree, enode, pvar, substitution, PatternRow, no_more, one_more, row_of}
use Rattle.slotted_terms.specs.Flat.{row_length, flat, flat_row, closed}
use Rattle.slotted_terms.specs.TermPattern.{no_term, term_in, terms_in, IsGround, AreGround}
use Rattle.slotted_terms.specs.Valid.{IsWhole}
use Rattle.slotted_terms.proofs.TermPatterns.{filled_whole, AreWhole}
use Rattle.slotted_costs.specs.Costs.{bare, bare_node, costs_by, cost_of_term}
use Rattle.slotted_costs.specs.FlatCosts.{closed_costs}
use Rattle.slotted_costs.proofs.TermCosts.{term-count, cost-node}

-- what a tree of nodes costs; what is no node costs what no term does
abbrev mutual
  pub weigh : {C : Type 0} → (DTerm → List C → C) → PatternTree → C
  weigh w (enode f row) = w (bare_node f) (weigh_row w row)
  weigh w (pvar v) = w (bare (nameless no_term)) []
  weigh w (substitution b x t) = w (bare (nameless no_term)) []

  pub weigh_row : {C : Type 0} → (DTerm → List C → C) → PatternRow → List C
  weigh_row w no_more = []
  weigh_row w (one_more p rest) = weigh w p ∷ weigh_row w rest

module _ {C : Type 0} (w : DTerm → List C → C) where
  weighed : (ps : List PatternTree) → weigh_row w (row_of ps) ≡ map (weigh w) ps
  weighed [] = refl
  weighed (p ∷ ps) = ap (λ xs. weigh w p ∷ xs) (weighed ps)

  -- the costs of trees of which the last give way to a node over them
  pub closed-weighed : (f : Form) (n : ℕ) (ps : List PatternTree) → closed_costs w f n (map (weigh w) ps) ≡ map (weigh w) (closed f n ps)
  closed-weighed f n ps =
      let k : length (map (weigh w) ps) - n ≡ length ps - n = omega (arith, length-map ps (weigh w)) in
      let at = length ps - n in
      ap (λ j. take j (map (weigh w) ps) ++ w (bare_node f) (drop j (map (weigh w) ps)) ∷ []) k
      ∙ ((λ i. take-map (weigh w) at ps i ++ w (bare_node f) ((drop-map (weigh w) at ps ∙ sym (weighed (drop at ps))) i) ∷ []) ∙ sym (map-append (weigh w) (take at ps) (enode f (row_of (drop at ps)) ∷ [])))

-- each node stands over as many terms as it has children
abbrev pub AreRight : List (Form × ℕ) → Type 0
AreRight [] = Unit {0}
AreRight ((f, n) ∷ s) = (n ≡ length (children f.tree)) × AreRight s

right-join : (a b : List (Form × ℕ)) → AreRight a → AreRight b → AreRight (a ++ b)
right-join [] b h k = k
right-join ((f, n) ∷ a) b h k = (h.0, right-join a b h.1 k)

pub right-end : (a b : List (Form × ℕ)) → AreRight (a ++ b) → AreRight b
right-end [] b h = h
right-end ((f, n) ∷ a) b h = right-end a b h.1

row-count : (row : PatternRow) → row_length row ≡ length (terms_in row)
row-count no_more = refl
row-count (one_more p rest) = ap suc (row-count rest)

mutual
  pub right-flat : (p : PatternTree) → IsGround p → IsWhole (term_in p).args → AreRight (flat p)
  right-flat (enode f row) g h = (row-count row ∙ term-count f (terms_in row) h, right-row row g (filled_whole f.tree f.names (terms_in row) h).1)
  right-flat (pvar v) g h = absurd g
  right-flat (substitution b x t) g h = absurd g

  right-row : (row : PatternRow) → AreGround row → AreWhole (terms_in row) → AreRight (flat_row row)
  right-row no_more g h = tt
  right-row (one_more p rest) g h = right-join (flat_row rest) (flat p) (right-row rest g.1 h.1) (right-flat p g.0 h.0)

module _ {C : Type 0} (cmp : C → C → Ordering) (w : DTerm → List C → C) where
  mutual
    pub weigh-cost : (p : PatternTree) → IsGround p → IsWhole (term_in p).args → weigh w p ≡ cost_of_term (costs_by cmp w) (term_in p)
    weigh-cost (enode f row) g h = ap (w (bare_node f)) (weigh-costs row g (filled_whole f.tree f.names (terms_in row) h).1) ∙ cost-node cmp w f (terms_in row) h
    weigh-cost (pvar v) g h = absurd g
    weigh-cost (substitution b x t) g h = absurd g

    weigh-costs : (row : PatternRow) → AreGround row → AreWhole (terms_in row) → weigh_row w row ≡ map (cost_of_term (costs_by cmp w)) (terms_in row)
    weigh-costs no_more g h = refl
    weigh-costs (one_more p rest) g h = λ i. weigh-cost p g.0 h.0 i ∷ weigh-costs rest g.1 h.1 i
