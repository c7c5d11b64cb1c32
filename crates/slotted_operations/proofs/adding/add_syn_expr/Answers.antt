-- Each node is added over the ids of the terms under it.
use Rattle.std.proofs.Common.{◌∷◌, [], map, sym, subst, ap, ◌∙◌, arith, rules}
use Rattle.std.proofs.lemmas.List.{length-map, map-append}
use Rattle.slotted_lists.proofs.Lists.{length-zero as nothing}
use Rattle.slotted_patterns.proofs.PatternCopies.{mapped_last}
use Rattle.slotted_proofs.specs.Equations.{to_applied}
use Rattle.slotted_terms.specs.Flat.{flat_of}
use Rattle.slotted_terms.proofs.FlatTrees.{flat_last}
use Rattle.slotted_terms.proofs.TermFolds.{term_folds-start}
use Rattle.slotted_operations.specs.Places.{term_slots}
use Rattle.slotted_operations.proofs.Additions.IdStacks.{alone}
use Rattle.slotted_operations.proofs.Additions.Tables.{makes-none}
use Rattle.slotted_operations.proofs.Additions.TermAddition.{IsAdded, added-end, added-start, enough, next-added, next-full, next-lacks, next-makes, next-unknown, now-makes, one-id}
use Rattle.slotted_operations.proofs.adding.add_syn_expr.Goals as goal

pub returns-in_err-left-clause-takes : goal.returns-in_err-left-clause-takes
returns-in_err-left-clause-takes g c =
    makes-none (term_slots c.args.term.now) c.args.table.now

pub loop-next-init : goal.loop-next-init
loop-next-init g c =
    let form = g.L.LanguageChildren.form in
    let tree = c.in_ok-left.ensures.ok in
    let folds = term_folds-start c.args.term.now (flat_of form c.in_ok-left.left.items) tree.0 tree.1 tree.2 in
    let none = ap (map to_applied) c.new-answers.ensures.items in
    record {
      added = subst (IsAdded c.args.term.now c.args.table.now c.args.store.now c.args.nodes.now c.args.table.now c.args.store.now c.args.nodes.now (flat_of form c.in_ok-left.left.items)) (sym none)
          (added-start c.args.term.now c.args.table.now c.args.store.now c.args.nodes.now c.requires.good c.requires.rests c.requires.fresh_slots c.requires.whole (flat_of form c.in_ok-left.left.items) folds);
    }

pub over_last-node-requires : goal.over_last-node-requires
over_last-node-requires g c =
    let form = g.L.LanguageChildren.form in
    let x = c.in-Some.next in
    let left = flat_of form c.pop.new.self.items in
    let ids = map to_applied c.loop-next.answers.items in
    let last = flat_last form c.loop-next.left.items c.pop.new.self.items c.pop.result x c.pop.ensures.items c.in-Some.is in
    let p = subst (λ ns. IsAdded c.args.term.now c.args.table.now c.args.store.now c.args.nodes.now c.loop-next.table c.loop-next.store c.loop-next.nodes ns ids) last c.loop-next.invariant.added in
    omega (arith, enough c.args.term.now c.args.table.now c.args.store.now c.args.nodes.now c.requires.good c.requires.rests c.requires.fresh_slots c.requires.whole c.loop-next.table c.loop-next.store c.loop-next.nodes left (form x.node) x.count ids p, length-map c.loop-next.answers.items to_applied)

pub add_syn-requires-clause-good : goal.add_syn-requires-clause-good
add_syn-requires-clause-good g c =
    c.loop-next.invariant.added.good

pub add_syn-requires-clause-rests : goal.add_syn-requires-clause-rests
add_syn-requires-clause-rests g c =
    c.loop-next.invariant.added.rests

pub add_syn-requires-clause-fresh_slots : goal.add_syn-requires-clause-fresh_slots
add_syn-requires-clause-fresh_slots g c =
    c.loop-next.invariant.added.fresh_slots

pub add_syn-requires-clause-children : goal.add_syn-requires-clause-children
add_syn-requires-clause-children g c =
    let form = g.L.LanguageChildren.form in
    let x = c.in-Some.next in
    let left = flat_of form c.pop.new.self.items in
    let ids = map to_applied c.loop-next.answers.items in
    let last = flat_last form c.loop-next.left.items c.pop.new.self.items c.pop.result x c.pop.ensures.items c.in-Some.is in
    let p = subst (λ ns. IsAdded c.args.term.now c.args.table.now c.args.store.now c.args.nodes.now c.loop-next.table c.loop-next.store c.loop-next.nodes ns ids) last c.loop-next.invariant.added in
    next-full c.args.term.now c.args.table.now c.args.store.now c.args.nodes.now c.requires.good c.requires.rests c.requires.fresh_slots c.requires.whole c.loop-next.table c.loop-next.store c.loop-next.nodes left (form x.node) x.count ids p (form c.over_last-node.result) (map to_applied c.over_last-node.new.ids.items) c.over_last-node.ensures.ids c.over_last-node.ensures.beside (g.met.L.LanguageChildren.fits c.over_last-node.result)

pub returns-in_err-answer-clause-more : goal.returns-in_err-answer-clause-more
returns-in_err-answer-clause-more g c s h =
    c.in_err-answer.ensures.more s (c.loop-next.invariant.added.more s h)

pub returns-in_err-answer-clause-takes : goal.returns-in_err-answer-clause-takes
returns-in_err-answer-clause-takes g c =
    let form = g.L.LanguageChildren.form in
    let x = c.in-Some.next in
    let left = flat_of form c.pop.new.self.items in
    let ids = map to_applied c.loop-next.answers.items in
    let last = flat_last form c.loop-next.left.items c.pop.new.self.items c.pop.result x c.pop.ensures.items c.in-Some.is in
    let p = subst (λ ns. IsAdded c.args.term.now c.args.table.now c.args.store.now c.args.nodes.now c.loop-next.table c.loop-next.store c.loop-next.nodes ns ids) last c.loop-next.invariant.added in
    next-makes c.args.term.now c.args.table.now c.args.store.now c.args.nodes.now c.requires.good c.requires.rests c.requires.fresh_slots c.requires.whole c.loop-next.table c.loop-next.store c.loop-next.nodes left (form x.node) x.count ids p (form c.over_last-node.result) (map to_applied c.over_last-node.new.ids.items) c.over_last-node.ensures.ids c.over_last-node.ensures.beside (g.met.L.LanguageChildren.fits c.over_last-node.result) c.add_syn.new.table c.in_err-answer.ensures.takes

pub returns-in_err-answer-clause-full : goal.returns-in_err-answer-clause-full
returns-in_err-answer-clause-full g c e =
    let form = g.L.LanguageChildren.form in
    let x = c.in-Some.next in
    let left = flat_of form c.pop.new.self.items in
    let ids = map to_applied c.loop-next.answers.items in
    let last = flat_last form c.loop-next.left.items c.pop.new.self.items c.pop.result x c.pop.ensures.items c.in-Some.is in
    let p = subst (λ ns. IsAdded c.args.term.now c.args.table.now c.args.store.now c.args.nodes.now c.loop-next.table c.loop-next.store c.loop-next.nodes ns ids) last c.loop-next.invariant.added in
    next-lacks c.args.term.now c.args.table.now c.args.store.now c.args.nodes.now c.requires.good c.requires.rests c.requires.fresh_slots c.requires.whole c.loop-next.table c.loop-next.store c.loop-next.nodes left (form x.node) x.count ids p (form c.over_last-node.result) (map to_applied c.over_last-node.new.ids.items) c.over_last-node.ensures.ids c.over_last-node.ensures.beside (g.met.L.LanguageChildren.fits c.over_last-node.result) c.add_syn.new.table (c.in_err-answer.ensures.full (search rules))

pub returns-in_err-answer-clause-unknown : goal.returns-in_err-answer-clause-unknown
returns-in_err-answer-clause-unknown g c e =
    let form = g.L.LanguageChildren.form in
    let x = c.in-Some.next in
    let left = flat_of form c.pop.new.self.items in
    let ids = map to_applied c.loop-next.answers.items in
    let last = flat_last form c.loop-next.left.items c.pop.new.self.items c.pop.result x c.pop.ensures.items c.in-Some.is in
    let p = subst (λ ns. IsAdded c.args.term.now c.args.table.now c.args.store.now c.args.nodes.now c.loop-next.table c.loop-next.store c.loop-next.nodes ns ids) last c.loop-next.invariant.added in
    next-unknown c.args.term.now c.args.table.now c.args.store.now c.args.nodes.now c.requires.good c.requires.rests c.requires.fresh_slots c.requires.whole c.loop-next.table c.loop-next.store c.loop-next.nodes left (form x.node) x.count ids p (form c.over_last-node.result) (map to_applied c.over_last-node.new.ids.items) c.over_last-node.ensures.ids c.over_last-node.ensures.beside (g.met.L.LanguageChildren.fits c.over_last-node.result) (c.in_err-answer.ensures.unknown (search rules))

pub returns-in_err-push-clause-more : goal.returns-in_err-push-clause-more
returns-in_err-push-clause-more g c s h =
    c.in_ok-answer.ensures.more s (c.loop-next.invariant.added.more s h)

pub returns-in_err-push-clause-takes : goal.returns-in_err-push-clause-takes
returns-in_err-push-clause-takes g c =
    let form = g.L.LanguageChildren.form in
    let x = c.in-Some.next in
    let left = flat_of form c.pop.new.self.items in
    let ids = map to_applied c.loop-next.answers.items in
    let last = flat_last form c.loop-next.left.items c.pop.new.self.items c.pop.result x c.pop.ensures.items c.in-Some.is in
    let p = subst (λ ns. IsAdded c.args.term.now c.args.table.now c.args.store.now c.args.nodes.now c.loop-next.table c.loop-next.store c.loop-next.nodes ns ids) last c.loop-next.invariant.added in
    next-makes c.args.term.now c.args.table.now c.args.store.now c.args.nodes.now c.requires.good c.requires.rests c.requires.fresh_slots c.requires.whole c.loop-next.table c.loop-next.store c.loop-next.nodes left (form x.node) x.count ids p (form c.over_last-node.result) (map to_applied c.over_last-node.new.ids.items) c.over_last-node.ensures.ids c.over_last-node.ensures.beside (g.met.L.LanguageChildren.fits c.over_last-node.result) c.add_syn.new.table c.in_ok-answer.ensures.takes

pub loop-next-preserved : goal.loop-next-preserved
loop-next-preserved g c =
    let form = g.L.LanguageChildren.form in
    let x = c.in-Some.next in
    let left = flat_of form c.pop.new.self.items in
    let ids = map to_applied c.loop-next.answers.items in
    let last = flat_last form c.loop-next.left.items c.pop.new.self.items c.pop.result x c.pop.ensures.items c.in-Some.is in
    let p = subst (λ ns. IsAdded c.args.term.now c.args.table.now c.args.store.now c.args.nodes.now c.loop-next.table c.loop-next.store c.loop-next.nodes ns ids) last c.loop-next.invariant.added in
    let more = ap (map to_applied) c.in_ok-push.ensures.items ∙ map-append to_applied c.over_last-node.new.ids.items (c.in_ok-answer.answer ∷ []) in
    record {
      added = subst (IsAdded c.args.term.now c.args.table.now c.args.store.now c.args.nodes.now c.add_syn.new.table c.add_syn.new.store c.add_syn.new.nodes left) (sym more)
          (next-added c.args.term.now c.args.table.now c.args.store.now c.args.nodes.now c.requires.good c.requires.rests c.requires.fresh_slots c.requires.whole c.loop-next.table c.loop-next.store c.loop-next.nodes left (form x.node) x.count ids p (form c.over_last-node.result) (map to_applied c.over_last-node.new.ids.items) c.over_last-node.ensures.ids c.over_last-node.ensures.beside (g.met.L.LanguageChildren.fits c.over_last-node.result) c.add_syn.new.table c.add_syn.new.store c.add_syn.new.nodes (to_applied c.in_ok-answer.answer) c.in_ok-answer.ensures.ok c.in_ok-answer.ensures.more c.in_ok-answer.ensures.takes);
    }

pub unreachable-requires : goal.unreachable-requires
unreachable-requires g c =
    let form = g.L.LanguageChildren.form in
    let ids = map to_applied c.loop-next.answers.items in
    let none = nothing c.loop-next.left.items (omega (arith, c.loop-next.left.ok.0, c.in_default.ensures.cases.0)) in
    let p = subst (λ ns. IsAdded c.args.term.now c.args.table.now c.args.store.now c.args.nodes.now c.loop-next.table c.loop-next.store c.loop-next.nodes (flat_of form ns) ids) none c.loop-next.invariant.added in
    absurd (omega (arith, one-id c.args.term.now c.args.table.now c.args.store.now c.args.nodes.now c.requires.good c.requires.rests c.requires.fresh_slots c.requires.whole c.loop-next.table c.loop-next.store c.loop-next.nodes ids p, length-map c.loop-next.answers.items to_applied, c.loop-next.answers.ok.0, c.in-None.ensures.cases.0))

pub returns-clause-ok : goal.returns-clause-ok
returns-clause-ok g c =
    let form = g.L.LanguageChildren.form in
    let ids = map to_applied c.loop-next.answers.items in
    let none = nothing c.loop-next.left.items (omega (arith, c.loop-next.left.ok.0, c.in_default.ensures.cases.0)) in
    let p = subst (λ ns. IsAdded c.args.term.now c.args.table.now c.args.store.now c.args.nodes.now c.loop-next.table c.loop-next.store c.loop-next.nodes (flat_of form ns) ids) none c.loop-next.invariant.added in
    let a = c.in-Some-pop.answer in
    let last = mapped_last to_applied c.loop-next.answers.items c.pop-2.new.self.items c.pop-2.result a c.pop-2.ensures.items c.in-Some-pop.is in
    added-end c.args.term.now c.args.table.now c.args.store.now c.args.nodes.now c.requires.good c.requires.rests c.requires.fresh_slots c.requires.whole c.loop-next.table c.loop-next.store c.loop-next.nodes ids p (to_applied a) (alone ids (map to_applied c.pop-2.new.self.items) (to_applied a) last (one-id c.args.term.now c.args.table.now c.args.store.now c.args.nodes.now c.requires.good c.requires.rests c.requires.fresh_slots c.requires.whole c.loop-next.table c.loop-next.store c.loop-next.nodes ids p))

pub returns-clause-more : goal.returns-clause-more
returns-clause-more g c =
    c.loop-next.invariant.added.more

pub returns-clause-takes : goal.returns-clause-takes
returns-clause-takes g c =
    now-makes c.args.term.now c.args.table.now c.args.store.now c.args.nodes.now c.requires.good c.requires.rests c.requires.fresh_slots c.requires.whole c.loop-next.table c.loop-next.store c.loop-next.nodes (flat_of g.L.LanguageChildren.form c.loop-next.left.items) (map to_applied c.loop-next.answers.items) c.loop-next.invariant.added
