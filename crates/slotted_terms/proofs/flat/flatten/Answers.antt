-- A term gives way to its node and the terms under it.
use Rattle.std.proofs.Common.{◌≡◌, ◌++◌, ◌∷◌, [], map, length, option_to_list, refl, true, sym, subst, ap, ◌∙◌, arith, append-nil}
use Rattle.std.specs.Prelude.{Some}
use Rattle.std.proofs.lemmas.List.{map-append}
use Rattle.slotted_lists.proofs.Lists.{length-zero as nothing}
use Rattle.slotted_terms.specs.Flat.{flat_of}
use Rattle.slotted_terms.proofs.SubtermSizes.{opened_smaller}
use Rattle.slotted_terms.proofs.FlatTrees.{Continues, continues_start, continues_step}
use Rattle.slotted_terms.proofs.flat.flatten.Goals as goal

pub loop-next-init : goal.loop-next-init
loop-next-init g c =
    let form = g.L.LanguageChildren.form in
    let root = c.args.term.now in
    let lefts : map (λ t. t.now) c.push.new.self.items ≡ root ∷ [] = ap (map (λ t. t.now)) (c.in_ok-push.ensures.items ∙ ap (λ xs. xs ++ c.args.term ∷ []) c.new-left.ensures.items) in
    subst (λ ts. Continues root (flat_of form c.new-nodes.result.items) ts) (sym lefts) (subst (λ ns. Continues root (flat_of form ns) (root ∷ [])) (sym c.new-nodes.ensures.items) (continues_start root))

pub loop-next-smaller : goal.loop-next-smaller
loop-next-smaller g c =
    let form = g.L.LanguageChildren.form in
    let rest = map (λ t. t.now) c.pop.new.self.items in
    let t = c.in-Some.next.now in
    let last : map (λ t. t.now) c.loop-next.left.items ≡ rest ++ t ∷ [] =
    ap (map (λ t. t.now)) (c.pop.ensures.items ∙ ap (λ o. c.pop.new.self.items ++ option_to_list o) c.in-Some.is) ∙ map-append (λ t. t.now) c.pop.new.self.items (c.in-Some.next ∷ []) in
    let joined = c.in_ok-push_all.ensures.ok ∙ ap (λ us. rest ++ us) c.deref.ensures.value in
    opened_smaller (map (λ t. t.now) c.loop-next.left.items) rest c.next.inside.children.items (map (λ t. t.now) c.push_all.new.left.items) (Some t) t (form c.next.inside.node) true last refl c.next.view_is joined

pub loop-next-preserved : goal.loop-next-preserved
loop-next-preserved g c =
    let form = g.L.LanguageChildren.form in
    let root = c.args.term.now in
    let rest = map (λ t. t.now) c.pop.new.self.items in
    let t = c.in-Some.next.now in
    let cs = c.next.inside.children.items in
    let f = form c.next.inside.node in
    let ns = flat_of form c.loop-next.nodes.items in
    let last : map (λ t. t.now) c.loop-next.left.items ≡ rest ++ t ∷ [] =
    ap (map (λ t. t.now)) (c.pop.ensures.items ∙ ap (λ o. c.pop.new.self.items ++ option_to_list o) c.in-Some.is) ∙ map-append (λ t. t.now) c.pop.new.self.items (c.in-Some.next ∷ []) in
    let joined = c.in_ok-push_all.ensures.ok ∙ ap (λ us. rest ++ us) c.deref.ensures.value in
    let count : c.len-count.result ≡ length cs = omega (arith, c.len-count.ensures, c.next.inside.children.ok.0) in
    let more : flat_of form c.push-in-Some.new.self.items ≡ ns ++ (f, length cs) ∷ [] =
    ap (flat_of form) c.in_ok-push-2.ensures.items ∙ (map-append (λ n. (form n.node, n.count)) c.loop-next.nodes.items _ ∙ (λ i. ns ++ (form (c.in_ok-node.ensures.ok i), count i) ∷ [])) in
    let before = subst (λ ts. Continues root ns ts) last c.loop-next.invariant in
    let after = continues_step root ns rest cs f t before c.next.view_is in
    subst (λ ts. Continues root (flat_of form c.push-in-Some.new.self.items) ts) (sym joined) (subst (λ ms. Continues root ms (rest ++ cs)) (sym more) after)

pub returns-clause-ok : goal.returns-clause-ok
returns-clause-ok g c =
    let form = g.L.LanguageChildren.form in
    let ns = flat_of form c.loop-next.nodes.items in
    let none = nothing c.loop-next.left.items (omega (arith, c.loop-next.left.ok.0, c.in_default.ensures.cases.0)) in
    let all = subst (λ ls. Continues c.args.term.now ns (map (λ t. t.now) ls)) none c.loop-next.invariant in
    let tree = all [] (record { ground = tt; value = refl }) in
    (tree.0, tree.1, sym (append-nil ns) ∙ tree.2)
