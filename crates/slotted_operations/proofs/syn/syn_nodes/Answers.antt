-- An id gives way to its node and its children.
use Rattle.std.proofs.Common.{◌≡◌, ◌++◌, ◌∷◌, [], map, sym, subst, ap, ◌∙◌, arith, rules}
use Rattle.std.proofs.lemmas.List.{map-append}
use Rattle.slotted_lists.proofs.Lists.{length-zero as nothing}
use Rattle.slotted_patterns.proofs.PatternCopies.{mapped_last}
use Rattle.slotted_proofs.specs.Equations.{to_applied}
use Rattle.slotted_classes.specs.Kept.{nodes_of}
use Rattle.slotted_terms.specs.Flat.{flat_of}
use Rattle.slotted_operations.proofs.Ids.TermsOfIds.{IsOpening, next-fewer, next-full, next-lacks, next-makes, next-opening, opening-end, opening-makes, opening-start}
use Rattle.slotted_operations.proofs.Ids.NodeCounts.{ids_nodes}
use Rattle.slotted_operations.proofs.syn.syn_nodes.Goals as goal

pub loop-next-init : goal.loop-next-init
loop-next-init g c =
    let form = g.L.LanguageChildren.form in
    let lefts : map to_applied c.push.new.self.items ≡ to_applied c.args.a.now ∷ [] =
    ap (map to_applied) (c.in_ok-push.ensures.items ∙ ((λ i. c.new-left.ensures.items i ++ c.in_ok-first.first ∷ []) ∙ ap (λ x. x ∷ []) c.in_ok-first.ensures.ok)) in
    let nodes = ap (flat_of form) c.new-nodes.ensures.items in
    record {
      opening = subst (IsOpening c.args.table.now c.args.store.now c.args.a.now c.args.table.now (flat_of form c.new-nodes.result.items)) (sym lefts)
          (subst (λ ns. IsOpening c.args.table.now c.args.store.now c.args.a.now c.args.table.now ns (to_applied c.args.a.now ∷ [])) (sym nodes)
          (opening-start c.args.table.now c.args.store.now c.args.a.now c.requires.full));
    }

pub open_id-requires-clause-full : goal.open_id-requires-clause-full
open_id-requires-clause-full g c =
    let form = g.L.LanguageChildren.form in
    let ns = flat_of form c.loop-next.nodes.items in
    let rest = map to_applied c.pop.new.self.items in
    let b = c.in-Some.next in
    let last = mapped_last to_applied c.loop-next.left.items c.pop.new.self.items c.pop.result b c.pop.ensures.items c.in-Some.is in
    let p = subst (IsOpening c.args.table.now c.args.store.now c.args.a.now c.loop-next.table ns) last c.loop-next.invariant.opening in
    next-full c.args.table.now c.args.store.now c.args.a.now c.requires.good c.loop-next.table ns rest b p

pub returns-in_err-node-clause-takes : goal.returns-in_err-node-clause-takes
returns-in_err-node-clause-takes g c =
    let form = g.L.LanguageChildren.form in
    let ns = flat_of form c.loop-next.nodes.items in
    let rest = map to_applied c.pop.new.self.items in
    let b = c.in-Some.next in
    let last = mapped_last to_applied c.loop-next.left.items c.pop.new.self.items c.pop.result b c.pop.ensures.items c.in-Some.is in
    let p = subst (IsOpening c.args.table.now c.args.store.now c.args.a.now c.loop-next.table ns) last c.loop-next.invariant.opening in
    next-makes c.args.table.now c.args.store.now c.args.a.now c.requires.good c.loop-next.table ns rest b p c.open_id.new.table c.in_err-node.ensures.takes

pub returns-in_err-node-clause-full : goal.returns-in_err-node-clause-full
returns-in_err-node-clause-full g c e =
    let form = g.L.LanguageChildren.form in
    let ns = flat_of form c.loop-next.nodes.items in
    let rest = map to_applied c.pop.new.self.items in
    let b = c.in-Some.next in
    let last = mapped_last to_applied c.loop-next.left.items c.pop.new.self.items c.pop.result b c.pop.ensures.items c.in-Some.is in
    let p = subst (IsOpening c.args.table.now c.args.store.now c.args.a.now c.loop-next.table ns) last c.loop-next.invariant.opening in
    next-lacks c.args.table.now c.args.store.now c.args.a.now c.requires.good c.loop-next.table ns rest b p c.open_id.new.table (c.in_err-node.ensures.full (search rules))

pub returns-in_err-push-2-clause-takes : goal.returns-in_err-push-2-clause-takes
returns-in_err-push-2-clause-takes g c =
    let form = g.L.LanguageChildren.form in
    let ns = flat_of form c.loop-next.nodes.items in
    let rest = map to_applied c.pop.new.self.items in
    let b = c.in-Some.next in
    let last = mapped_last to_applied c.loop-next.left.items c.pop.new.self.items c.pop.result b c.pop.ensures.items c.in-Some.is in
    let p = subst (IsOpening c.args.table.now c.args.store.now c.args.a.now c.loop-next.table ns) last c.loop-next.invariant.opening in
    next-makes c.args.table.now c.args.store.now c.args.a.now c.requires.good c.loop-next.table ns rest b p c.open_id.new.table c.in_ok-node.ensures.takes

pub loop-next-smaller : goal.loop-next-smaller
loop-next-smaller g c =
    let form = g.L.LanguageChildren.form in
    let ns = flat_of form c.loop-next.nodes.items in
    let rest = map to_applied c.pop.new.self.items in
    let b = c.in-Some.next in
    let last = mapped_last to_applied c.loop-next.left.items c.pop.new.self.items c.pop.result b c.pop.ensures.items c.in-Some.is in
    let p = subst (IsOpening c.args.table.now c.args.store.now c.args.a.now c.loop-next.table ns) last c.loop-next.invariant.opening in
    omega (arith, next-fewer c.args.table.now c.args.store.now c.args.a.now c.requires.good c.loop-next.table ns rest b p c.open_id.new.table (form c.in_ok-node.node.node) c.in_ok-node.node.count (map to_applied c.open_id.new.left.items) c.in_ok-node.ensures.node c.in_ok-node.ensures.more c.in_ok-node.ensures.kept c.in_ok-node.ensures.takes, ap (ids_nodes (nodes_of c.args.store.now)) last)

pub loop-next-preserved : goal.loop-next-preserved
loop-next-preserved g c =
    let form = g.L.LanguageChildren.form in
    let ns = flat_of form c.loop-next.nodes.items in
    let rest = map to_applied c.pop.new.self.items in
    let b = c.in-Some.next in
    let last = mapped_last to_applied c.loop-next.left.items c.pop.new.self.items c.pop.result b c.pop.ensures.items c.in-Some.is in
    let p = subst (IsOpening c.args.table.now c.args.store.now c.args.a.now c.loop-next.table ns) last c.loop-next.invariant.opening in
    let more = ap (flat_of form) c.in_ok-push-2.ensures.items ∙ map-append (λ n. (form n.node, n.count)) c.loop-next.nodes.items (c.in_ok-node.node ∷ []) in
    record {
      opening = subst (λ ms. IsOpening c.args.table.now c.args.store.now c.args.a.now c.open_id.new.table ms (map to_applied c.open_id.new.left.items)) (sym more)
          (next-opening c.args.table.now c.args.store.now c.args.a.now c.requires.good c.loop-next.table ns rest b p c.open_id.new.table (form c.in_ok-node.node.node) c.in_ok-node.node.count (map to_applied c.open_id.new.left.items) c.in_ok-node.ensures.node c.in_ok-node.ensures.more c.in_ok-node.ensures.kept c.in_ok-node.ensures.takes);
    }

pub returns-clause-nodes : goal.returns-clause-nodes
returns-clause-nodes g c =
    let ns = flat_of g.L.LanguageChildren.form c.loop-next.nodes.items in
    let none = nothing c.loop-next.left.items (omega (arith, c.loop-next.left.ok.0, c.in_default.ensures.cases.0)) in
    opening-end c.args.table.now c.args.store.now c.args.a.now c.loop-next.table ns (subst (λ left. IsOpening c.args.table.now c.args.store.now c.args.a.now c.loop-next.table ns (map to_applied left)) none c.loop-next.invariant.opening)

pub returns-clause-takes : goal.returns-clause-takes
returns-clause-takes g c =
    opening-makes c.args.table.now c.args.store.now c.args.a.now c.loop-next.table (flat_of g.L.LanguageChildren.form c.loop-next.nodes.items) (map to_applied c.loop-next.left.items) c.loop-next.invariant.opening
