use Rattle.std.proofs.Common.{map, arith}
use Rattle.std.proofs.lemmas.List.{length-map}
use Rattle.slotted_nodes.specs.Form.{Form}
use Rattle.slotted_patterns.proofs.PatternCopies.{mapped_last}
use Rattle.slotted_proofs.specs.Equations.{to_applied}
use Rattle.slotted_rules.proofs.LastIds.{sets-end, sets-some, sets-start, sets-step, sets-within}
use Rattle.slotted_rules.proofs.over.over_last.Goals as goal

pub loop-k-init : goal.loop-k-init
loop-k-init g c =
    let f : Form = g.L.LanguageChildren.form c.args.node in
    let old = c.args.ids.now.items in
    sets-start f (map to_applied old) c.applied_id_count-k.result (g.met.L.LanguageChildren.fits c.args.node) (omega (arith, c.requires, length-map old to_applied)) c.applied_id_count-k.ensures

pub unreachable-requires : goal.unreachable-requires
unreachable-requires g c =
    let form = g.L.LanguageChildren.form in
    let old = c.args.ids.now.items in
    let left = c.loop-k.ids.items in
    let some = sets-some (form c.args.node) (form c.loop-k.over) (map to_applied left) (map to_applied old) c.loop-k.k c.loop-k.invariant (omega (arith, c.requires, length-map old to_applied)) in
    absurd (omega (arith, some, length-map left to_applied, c.loop-k-test.true, c.loop-k.ids.ok.0, c.in-None.ensures.cases.0))

pub set_applied_id-requires : goal.set_applied_id-requires
set_applied_id-requires g c =
    let form = g.L.LanguageChildren.form in
    omega (arith, c.loop-k-test.true, c.loop-k.invariant.within, sets-within (form c.args.node) (form c.loop-k.over) _ _ c.loop-k.k c.loop-k.invariant c.loop-k-test.true)

pub loop-k-preserved : goal.loop-k-preserved
loop-k-preserved g c =
    let form = g.L.LanguageChildren.form in
    let f : Form = form c.args.node in
    let old = c.args.ids.now.items in
    let last = mapped_last to_applied c.loop-k.ids.items c.pop.new.self.items c.pop.result c.in-Some.id c.pop.ensures.items c.in-Some.is in
    sets-step f (form c.loop-k.over) (form c.set_applied_id.new.self) _ (map to_applied c.pop.new.self.items) (map to_applied old) c.loop-k.k (to_applied c.in-Some.id) (g.met.L.LanguageChildren.fits c.args.node)
    (omega (arith, c.requires, length-map old to_applied)) c.loop-k.invariant c.loop-k-test.true last c.set_applied_id.ensures

pub returns-clause-over : goal.returns-clause-over
returns-clause-over g c =
    let form = g.L.LanguageChildren.form in
    (sets-end (form c.args.node) (form c.loop-k.over) _ (map to_applied c.args.ids.now.items) c.loop-k.k c.loop-k.invariant (omega (arith, c.loop-k-test.false))).0

pub returns-clause-rest : goal.returns-clause-rest
returns-clause-rest g c =
    let form = g.L.LanguageChildren.form in
    (sets-end (form c.args.node) (form c.loop-k.over) _ (map to_applied c.args.ids.now.items) c.loop-k.k c.loop-k.invariant (omega (arith, c.loop-k-test.false))).1
