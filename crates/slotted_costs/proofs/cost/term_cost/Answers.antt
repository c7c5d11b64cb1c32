-- Each node is weighed over the trees that were built last.
use Rattle.std.proofs.Common.{◌≡◌, ℕ, ◌++◌, ◌∷◌, [], length, map, sym, subst, ap, ◌∙◌, arith, append_assoc, append-nil}
use Rattle.std.proofs.lemmas.List.{length-map}
use Rattle.slotted_lists.proofs.Lists.{length-zero as nothing}
use Rattle.slotted_theory.specs.Term.{Term}
use Rattle.slotted_nodes.specs.Form.{Form}
use Rattle.slotted_terms.specs.Flat.{flat, flat_of}
use Rattle.slotted_terms.specs.TermPattern.{term_in}
use Rattle.slotted_terms.specs.Valid.{IsWhole}
use Rattle.slotted_terms.proofs.FlatTrees.{Fits, build, builds, fits, fits_end, flat_last, only_last}
use Rattle.slotted_costs.specs.Costs.{costs_by, cost_of_term}
use Rattle.slotted_costs.specs.FlatCosts.{closed_costs}
use Rattle.slotted_costs.proofs.FlatCosts.{AreRight, closed-weighed, right-end, right-flat, weigh, weigh-cost}
use Rattle.slotted_costs.proofs.cost.term_cost.Goals as goal

pub loop-node-init : goal.loop-node-init
loop-node-init g c =
    let at = c.in_ok-nodes.ensures.ok in
    (at.0, at.1, [], append-nil (flat_of g.L.LanguageChildren.form c.in_ok-nodes.nodes.items) ∙ at.2, c.new-done.ensures.items)

pub close-requires-clause-enough : goal.close-requires-clause-enough
close-requires-clause-enough g c =
    let form = g.L.LanguageChildren.form in
    let w = weigh (g.F.CostFunction.node_cost c.args.costs.now) in
    let p = c.loop-node.invariant.0 in
    let s = c.loop-node.invariant.2 in
    let rest = flat_of form c.pop.new.self.items in
    let x : Form × ℕ = (form c.in-Some.node.node, c.in-Some.node.count) in
    let whole : rest ++ (x ∷ s) ≡ flat p =
    sym (append_assoc rest (x ∷ []) s) ∙ (ap (λ ns. ns ++ s) (sym (flat_last form c.loop-node.nodes.items c.pop.new.self.items c.pop.result c.in-Some.node c.pop.ensures.items c.in-Some.is)) ∙ c.loop-node.invariant.3) in
    let fitting = fits_end rest (x ∷ s) (subst Fits (sym whole) (fits (flat p) p c.loop-node.invariant.1.ground (λ i. flat p))) in
    omega (arith, fitting.0, ap length c.loop-node.invariant.4, length-map (build s) w)

pub close-requires-clause-right : goal.close-requires-clause-right
close-requires-clause-right g c =
    let form = g.L.LanguageChildren.form in
    let p = c.loop-node.invariant.0 in
    let s = c.loop-node.invariant.2 in
    let rest = flat_of form c.pop.new.self.items in
    let x : Form × ℕ = (form c.in-Some.node.node, c.in-Some.node.count) in
    let whole : rest ++ (x ∷ s) ≡ flat p =
    sym (append_assoc rest (x ∷ []) s) ∙ (ap (λ ns. ns ++ s) (sym (flat_last form c.loop-node.nodes.items c.pop.new.self.items c.pop.result c.in-Some.node c.pop.ensures.items c.in-Some.is)) ∙ c.loop-node.invariant.3) in
    let is_whole : IsWhole (term_in p).args = subst (λ (t : Term). IsWhole t.args) (sym c.loop-node.invariant.1.value) c.requires.whole in
    (right-end rest (x ∷ s) (subst AreRight (sym whole) (right-flat p c.loop-node.invariant.1.ground is_whole))).0

pub loop-node-preserved : goal.loop-node-preserved
loop-node-preserved g c =
    let form = g.L.LanguageChildren.form in
    let w = g.F.CostFunction.node_cost c.args.costs.now in
    let p = c.loop-node.invariant.0 in
    let s = c.loop-node.invariant.2 in
    let rest = flat_of form c.pop.new.self.items in
    let x : Form × ℕ = (form c.in-Some.node.node, c.in-Some.node.count) in
    let whole : rest ++ (x ∷ s) ≡ flat p =
    sym (append_assoc rest (x ∷ []) s) ∙ (ap (λ ns. ns ++ s) (sym (flat_last form c.loop-node.nodes.items c.pop.new.self.items c.pop.result c.in-Some.node c.pop.ensures.items c.in-Some.is)) ∙ c.loop-node.invariant.3) in
    (p, c.loop-node.invariant.1, x ∷ s, whole, c.in_ok-close.ensures.ok ∙ (ap (closed_costs w (form c.in-Some.node.node) c.in-Some.node.count) c.loop-node.invariant.4 ∙ closed-weighed w (form c.in-Some.node.node) c.in-Some.node.count (build s)))

pub unreachable-requires : goal.unreachable-requires
unreachable-requires g c =
    let form = g.L.LanguageChildren.form in
    let w = weigh (g.F.CostFunction.node_cost c.args.costs.now) in
    let p = c.loop-node.invariant.0 in
    let s = c.loop-node.invariant.2 in
    let none = nothing c.loop-node.nodes.items (omega (arith, c.loop-node.nodes.ok.0, c.in_default.ensures.cases.0)) in
    let all : s ≡ flat p = ap (λ ns. flat_of form ns ++ s) (sym none) ∙ c.loop-node.invariant.3 in
    let built = c.loop-node.invariant.4 ∙ ap (map w) (builds s p c.loop-node.invariant.1.ground all) in
    absurd (omega (arith, ap length built, c.loop-node.done.ok.0, c.in-None.ensures.cases.0))

pub returns-clause-ok : goal.returns-clause-ok
returns-clause-ok g c =
    let form = g.L.LanguageChildren.form in
    let w = g.F.CostFunction.node_cost c.args.costs.now in
    let k = costs_by g.F.Cost.Ord.cmp w in
    let p = c.loop-node.invariant.0 in
    let s = c.loop-node.invariant.2 in
    let none = nothing c.loop-node.nodes.items (omega (arith, c.loop-node.nodes.ok.0, c.in_default.ensures.cases.0)) in
    let all : s ≡ flat p = ap (λ ns. flat_of form ns ++ s) (sym none) ∙ c.loop-node.invariant.3 in
    let built = c.loop-node.invariant.4 ∙ ap (map (weigh w)) (builds s p c.loop-node.invariant.1.ground all) in
    let is_whole : IsWhole (term_in p).args = subst (λ (t : Term). IsWhole t.args) (sym c.loop-node.invariant.1.value) c.requires.whole in
    only_last c.loop-node.done.items c.pop-2.new.self.items c.pop-2.result c.in-Some-pop.cost (weigh w p) c.pop-2.ensures.items c.in-Some-pop.is built
    ∙ (weigh-cost g.F.Cost.Ord.cmp w p c.loop-node.invariant.1.ground is_whole ∙ ap (cost_of_term k) c.loop-node.invariant.1.value)
