-- One source after another.
use Rattle.std.proofs.Common.{rules, ◌<◌, ◌∙◌, List, ℕ, ap, get_or, length, subst, arith}
use Rattle.std.specs.Prelude.{Contains, not}
use Rattle.std.specs.HashSet.{PutsKey}
use Rattle.std.proofs.lemmas.List.Elements.{Contains-get_or}
use Rattle.slotted_lists.proofs.Contained.{Contains-nil}
use Rattle.slotted_proofs.specs.Equations.{to_applied}
use Rattle.slotted_reports.specs.Nodes.{IsClassNode}
use Rattle.slotted_reports.proofs.ClassNodes.{node-absent, node-put}
use Rattle.slotted_reports.proofs.FiledNodes.{filed-children}
use Rattle.slotted_reports.proofs.nodes.node_set.Goals as goal

pub loop-i-preserved : goal.loop-i-preserved
loop-i-preserved g c =
    let form = g.L.LanguageChildren.form in
    let eq = g.L.PartialEq.eq in
    let same = g.met.L.LanguageChildren.same in
    let k = c.args.store.now in
    let r = c.args.nodes.now in
    let well = c.requires.good in
    let a = to_applied c.args.a.now in
    let xs = c.args.sources.now in
    let i = c.loop-i.i in
    let before = c.loop-i.set.keys in
    let n = c.in_ok-node.node in
    let lt : i < length xs = omega (arith, c.loop-i-test.true, c.loop-i.auto.i-end) in
    let o = get_or xs i 0 in
    let source = c.requires.sources i 0 lt in
    let quiet : ¬ Contains r.waiting o = λ h. Contains-nil o (subst (λ (w : List ℕ). Contains w o) c.requires.quiet h) in
    let is : IsClassNode k r a (form n) = record {
      found = c.in_ok-node.ensures.found;
      small = c.in_ok-node.ensures.few;
      names = c.in_ok-node.ensures.names;
      children = filed-children k r well o source.0.0.0 source.0.0.1 source.0.1 quiet (form n) (g.met.L.LanguageChildren.fits n) c.in_ok-node.ensures.key;
    } in
    let absent = node-absent k r well form eq same a xs i before n lt c.requires.different (λ j d h. (c.requires.sources j d h).0) c.in_ok-node.ensures.key c.loop-i.invariant in
    let puts = subst (PutsKey c.loop-i.set c.insert.new.self n) (c.in_ok-insert.ensures.added ∙ ap not absent) c.in_ok-insert.ensures.keys in
    node-put k r well form eq same a xs i before c.insert.new.self.keys n lt c.in_ok-node.ensures.key is c.loop-i.invariant puts

pub returns-in_err-node-clause-full : goal.returns-in_err-node-clause-full
returns-in_err-node-clause-full g c e =
    let xs = c.args.sources.now in
    let i = c.loop-i.i in
    let lt : i < length xs = omega (arith, c.loop-i-test.true, c.loop-i.auto.i-end) in
    (get_or xs i 0, Contains-get_or xs i 0 lt, c.in_err-node.ensures.full (search rules))
