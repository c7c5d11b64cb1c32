use Rattle.std.proofs.Common.{◌≡◌, ◌-◌, None, arith, rules, subst, sym}
use Rattle.std.specs.Prelude.{IfNone, IfSome}
use Rattle.slotted_model_analyses.specs.Analysis.{IsMerge}
use Rattle.slotted_hashcons.specs.Filed.{filed_of}
use Rattle.slotted_data.specs.Meaning.{by_bare_nodes}
use Rattle.slotted_data.proofs.Merging.{merge-decided}
use Rattle.slotted_data.specs.Lowering.{FallsBy, MakesValue}
use Rattle.slotted_data.proofs.TakenData.{falls-lowered, takes-low, takes-none, takes-lowered}
use Rattle.slotted_data.proofs.lowering.take_data.Goals as goal

pub returns-then-before-eq0-clause-ok : goal.returns-then-before-eq0-clause-ok
returns-then-before-eq0-clause-ok g c =
    let meaning = g.N.Analysis.meaning c.args.analysis.now in
    let law : IsMerge g.row.N-Data.Denot (by_bare_nodes meaning) = merge-decided meaning g.N.Data.PartialEq.eq g.met.N.Data.Eq.laws g.met.N.Analysis.equal_is_same (g.met.N.Analysis.is_merge c.args.analysis.now) in
    let low : meaning.height c.value.result.now ≡ 0 = search rules in
    takes-low c.args.store.now c.args.nodes.now c.requires.ready.rest meaning c.args.data.now law c.args.source c.find_class-class.result c.value.result.now
    c.find_class-class.ensures.class c.value.ensures low

pub returns-in_default-clause-ok : goal.returns-in_default-clause-ok
returns-in_default-clause-ok g c =
    let meaning = g.N.Analysis.meaning c.args.analysis.now in
    let none : filed_of c.args.nodes.now.filed c.args.source ≡ None = subst (λ o. IfNone o (filed_of c.args.nodes.now.filed c.args.source ≡ None)) c.in_default.is c.in_ok-value.ensures.none in
    takes-none c.args.store.now c.args.nodes.now c.requires.ready.rest meaning c.args.data.now c.args.source none

pub returns-clause-ok : goal.returns-clause-ok
returns-clause-ok g c =
    let meaning = g.N.Analysis.meaning c.args.analysis.now in
    let k = c.args.store.now in
    let made : MakesValue meaning k c.args.data.now.values (filed_of c.args.nodes.now.filed c.args.source) c.in-Some.value =
    subst (λ o. IfSome o (MakesValue meaning k c.args.data.now.values (filed_of c.args.nodes.now.filed c.args.source))) c.in-Some.is c.in_ok-value.ensures.some in
    takes-lowered k c.args.nodes.now c.requires.ready.rest meaning c.args.data.now c.requires.ready.users c.requires.ready.count c.requires.once c.requires.changed
    c.args.source c.find_class-class.result c.in-Some.value c.requires.within c.find_class-class.ensures.class made c.lower.new.nodes c.lower.new.data c.in_ok-lower.ensures.ok

pub overflow_sub-result : goal.overflow_sub-result
overflow_sub-result g c =
    let meaning = g.N.Analysis.meaning c.args.analysis.now in
    let law : IsMerge g.row.N-Data.Denot (by_bare_nodes meaning) = merge-decided meaning g.N.Data.PartialEq.eq g.met.N.Data.Eq.laws g.met.N.Analysis.equal_is_same (g.met.N.Analysis.is_merge c.args.analysis.now) in
    let lower = falls-lowered c.args.store.now c.args.nodes.now c.requires.ready.rest meaning c.args.data.now law c.args.source c.find_class-class.result c.requires.within c.find_class-class.ensures.class
    c.in-Some.value c.lower.new.nodes c.lower.new.data c.in_ok-lower.ensures.ok c.value.result.now c.value-2.result.now c.value.ensures c.value-2.ensures in
    let small = lower.0 in
    omega (arith, small, c.height-before.ensures, c.height-after.ensures)

pub returns-clause-falls : goal.returns-clause-falls
returns-clause-falls g c =
    let meaning = g.N.Analysis.meaning c.args.analysis.now in
    let law : IsMerge g.row.N-Data.Denot (by_bare_nodes meaning) = merge-decided meaning g.N.Data.PartialEq.eq g.met.N.Data.Eq.laws g.met.N.Analysis.equal_is_same (g.met.N.Analysis.is_merge c.args.analysis.now) in
    let lower = falls-lowered c.args.store.now c.args.nodes.now c.requires.ready.rest meaning c.args.data.now law c.args.source c.find_class-class.result c.requires.within c.find_class-class.ensures.class
    c.in-Some.value c.lower.new.nodes c.lower.new.data c.in_ok-lower.ensures.ok c.value.result.now c.value-2.result.now c.value.ensures c.value-2.ensures in
    subst (FallsBy (by_bare_nodes meaning) c.args.store.now c.args.data.now c.lower.new.data) (λ i. sym c.height-before.ensures i - sym c.height-after.ensures i) lower.1
