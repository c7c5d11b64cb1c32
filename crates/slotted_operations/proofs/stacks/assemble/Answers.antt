-- Each node stands over the terms that were built last.
use Rattle.std.proofs.Common.{◌≡◌, ℕ, ◌++◌, ◌∷◌, [], length, sym, subst, ap, ◌∙◌, arith, append_assoc}
use Rattle.slotted_lists.proofs.Lists.{length-zero as nothing}
use Rattle.slotted_nodes.specs.Form.{Form}
use Rattle.slotted_terms.specs.Flat.{flat_of}
use Rattle.slotted_terms.proofs.FlatTrees.{flat_last, only_last}
use Rattle.slotted_operations.specs.Preorder.{HasEnough, built, over_last_of}
use Rattle.slotted_operations.proofs.TermsOverIds.Preorders.{enough-end}
use Rattle.slotted_operations.proofs.stacks.assemble.Goals as goal

pub over_first-requires : goal.over_first-requires
over_first-requires g c =
    let form = g.L.LanguageChildren.form in
    let s = c.loop-node.invariant.0 in
    let rest = flat_of form c.pop.new.self.items in
    let x : Form × ℕ = (form c.in-Some.node.node, c.in-Some.node.count) in
    let whole : rest ++ (x ∷ s) ≡ flat_of form c.args.nodes.items =
    sym (append_assoc rest (x ∷ []) s) ∙ (ap (λ ns. ns ++ s) (sym (flat_last form c.loop-node.nodes.items c.pop.new.self.items c.pop.result c.in-Some.node c.pop.ensures.items c.in-Some.is)) ∙ c.loop-node.invariant.1) in
    let enough = enough-end rest (x ∷ s) [] (subst (λ ns. HasEnough ns []) (sym whole) c.requires.enough) in
    omega (arith, enough.0, ap length c.loop-node.invariant.2)

pub loop-node-preserved : goal.loop-node-preserved
loop-node-preserved g c =
    let form = g.L.LanguageChildren.form in
    let s = c.loop-node.invariant.0 in
    let rest = flat_of form c.pop.new.self.items in
    let f : Form = form c.in-Some.node.node in
    let n = c.in-Some.node.count in
    let x : Form × ℕ = (f, n) in
    let whole : rest ++ (x ∷ s) ≡ flat_of form c.args.nodes.items =
    sym (append_assoc rest (x ∷ []) s) ∙ (ap (λ ns. ns ++ s) (sym (flat_last form c.loop-node.nodes.items c.pop.new.self.items c.pop.result c.in-Some.node c.pop.ensures.items c.in-Some.is)) ∙ c.loop-node.invariant.1) in
    let made : c.push.new.self.items ≡ over_last_of f n c.loop-node.done.items = c.in_ok-push.ensures.items ∙ (λ i. c.in_ok-term.ensures.rest i ++ c.in_ok-term.ensures.ok i ∷ []) in
    (x ∷ s, whole, made ∙ ap (over_last_of f n) c.loop-node.invariant.2)

pub unreachable-requires : goal.unreachable-requires
unreachable-requires g c =
    let form = g.L.LanguageChildren.form in
    let s = c.loop-node.invariant.0 in
    let none = nothing c.loop-node.nodes.items (omega (arith, c.loop-node.nodes.ok.0, c.in_default.ensures.cases.0)) in
    let all : s ≡ flat_of form c.args.nodes.items = ap (λ ns. flat_of form ns ++ s) (sym none) ∙ c.loop-node.invariant.1 in
    let one = c.loop-node.invariant.2 ∙ (ap (λ ns. built ns []) all ∙ c.requires.value) in
    absurd (omega (arith, ap length one, c.loop-node.done.ok.0, c.in-None.ensures.cases.0))

pub returns-clause-ok : goal.returns-clause-ok
returns-clause-ok g c =
    let form = g.L.LanguageChildren.form in
    let s = c.loop-node.invariant.0 in
    let none = nothing c.loop-node.nodes.items (omega (arith, c.loop-node.nodes.ok.0, c.in_default.ensures.cases.0)) in
    let all : s ≡ flat_of form c.args.nodes.items = ap (λ ns. flat_of form ns ++ s) (sym none) ∙ c.loop-node.invariant.1 in
    let one = c.loop-node.invariant.2 ∙ (ap (λ ns. built ns []) all ∙ c.requires.value) in
    let is = only_last c.loop-node.done.items c.pop-2.new.self.items c.pop-2.result c.in-Some-pop.term c.requires.term c.pop-2.ensures.items c.in-Some-pop.is one in
    c.requires.value ∙ ap (λ t. t ∷ []) (sym is)
