-- Each node stands over the trees that were built last.
use Rattle.std.proofs.Common.{◌≡◌, ℕ, ◌++◌, ◌∷◌, [], length, map, sym, subst, ap, ◌∙◌, arith, append_assoc}
use Rattle.std.proofs.lemmas.List.{length-map}
use Rattle.slotted_lists.proofs.Lists.{length-zero as nothing}
use Rattle.slotted_nodes.specs.Form.{Form}
use Rattle.slotted_terms.specs.Flat.{closed_terms, flat_of}
use Rattle.slotted_terms.specs.TermPattern.{term_in}
use Rattle.slotted_terms.proofs.FlatTrees.{Fits, build, builds, fits, fits_end, flat_last, closed_terms_in, only_last}
use Rattle.slotted_terms.proofs.flat.assemble_term.Goals as goal

pub close_term-requires : goal.close_term-requires
close_term-requires g c =
    let form = g.L.LanguageChildren.form in
    let s = c.loop-node.invariant.0 in
    let rest = flat_of form c.pop.new.self.items in
    let x : Form × ℕ = (form c.in-Some.node.node, c.in-Some.node.count) in
    let whole : rest ++ (x ∷ s) ≡ flat_of form c.args.nodes.items =
    sym (append_assoc rest (x ∷ []) s) ∙ (ap (λ ns. ns ++ s) (sym (flat_last form c.loop-node.nodes.items c.pop.new.self.items c.pop.result c.in-Some.node c.pop.ensures.items c.in-Some.is)) ∙ c.loop-node.invariant.1) in
    let fitting = fits_end rest (x ∷ s) (subst Fits (sym whole) (fits (flat_of form c.args.nodes.items) c.requires.0 c.requires.1 c.requires.2)) in
    omega (arith, fitting.0, ap length c.loop-node.invariant.2, length-map (build s) term_in)

pub loop-node-preserved : goal.loop-node-preserved
loop-node-preserved g c =
    let form = g.L.LanguageChildren.form in
    let s = c.loop-node.invariant.0 in
    let rest = flat_of form c.pop.new.self.items in
    let x : Form × ℕ = (form c.in-Some.node.node, c.in-Some.node.count) in
    let whole : rest ++ (x ∷ s) ≡ flat_of form c.args.nodes.items =
    sym (append_assoc rest (x ∷ []) s) ∙ (ap (λ ns. ns ++ s) (sym (flat_last form c.loop-node.nodes.items c.pop.new.self.items c.pop.result c.in-Some.node c.pop.ensures.items c.in-Some.is)) ∙ c.loop-node.invariant.1) in
    (x ∷ s, whole, c.in_ok-close_term.ensures.ok ∙ (ap (closed_terms (form c.in-Some.node.node) c.in-Some.node.count) c.loop-node.invariant.2 ∙ closed_terms_in (form c.in-Some.node.node) c.in-Some.node.count (build s)))

pub unreachable-requires : goal.unreachable-requires
unreachable-requires g c =
    let form = g.L.LanguageChildren.form in
    let s = c.loop-node.invariant.0 in
    let none = nothing c.loop-node.nodes.items (omega (arith, c.loop-node.nodes.ok.0, c.in_default.ensures.cases.0)) in
    let all : s ≡ flat_of form c.args.nodes.items = ap (λ ns. flat_of form ns ++ s) (sym none) ∙ c.loop-node.invariant.1 in
    let built = c.loop-node.invariant.2 ∙ ap (map term_in) (ap build all ∙ builds (flat_of form c.args.nodes.items) c.requires.0 c.requires.1 c.requires.2) in
    absurd (omega (arith, ap length built, length-map (build s) term_in, c.loop-node.done.ok.0, c.in-None.ensures.cases.0))

pub returns-clause-ok : goal.returns-clause-ok
returns-clause-ok g c =
    let form = g.L.LanguageChildren.form in
    let s = c.loop-node.invariant.0 in
    let none = nothing c.loop-node.nodes.items (omega (arith, c.loop-node.nodes.ok.0, c.in_default.ensures.cases.0)) in
    let all : s ≡ flat_of form c.args.nodes.items = ap (λ ns. flat_of form ns ++ s) (sym none) ∙ c.loop-node.invariant.1 in
    λ p ground is.
    only_last c.loop-node.done.items c.pop-2.new.self.items c.pop-2.result c.in-Some-pop.term (term_in p) c.pop-2.ensures.items c.in-Some-pop.is
    (c.loop-node.invariant.2 ∙ ap (map term_in) (ap build all ∙ builds (flat_of form c.args.nodes.items) p ground is))
