use Rattle.std.proofs.Common.{◌∙◌, subst, arith}
use Rattle.std.specs.Prelude.{Contains}
use Rattle.slotted_model_analyses.specs.Analysis.{IsMerge}
use Rattle.slotted_classes.proofs.KeptLists.{length-entries_of}
use Rattle.slotted_data.specs.Meaning.{by_bare_nodes}
use Rattle.slotted_data.proofs.Merging.{merge-decided}
use Rattle.slotted_data.specs.Burying.{Buries}
use Rattle.slotted_data.proofs.GoingAlong.{from-drop, slice-drop, slice-is, since-within, since-ready, since-has}
use Rattle.slotted_data.proofs.carrying.carry_up.Goals as goal

pub bury-requires-clause-within : goal.bury-requires-clause-within
bury-requires-clause-within g c i there =
    let k = c.args.store.now in
    let all : Contains k.deaths i = subst (λ xs. Contains xs i) c.deaths.ensures.list
    (from-drop c.carried.result c.deaths.result.now i (subst (λ xs. Contains xs i) (slice-drop c.carried.result c.deaths.result.now) there)) in
    let e = length-entries_of k in
    let is = ((c.deaths.ensures.just i).0 all).0 in
    omega (arith, is, e)

pub bury-requires-clause-dead : goal.bury-requires-clause-dead
bury-requires-clause-dead g c i there =
    let k = c.args.store.now in
    let all : Contains k.deaths i = subst (λ xs. Contains xs i) c.deaths.ensures.list
    (from-drop c.carried.result c.deaths.result.now i (subst (λ xs. Contains xs i) (slice-drop c.carried.result c.deaths.result.now) there)) in
    ((c.deaths.ensures.just i).0 all).1

pub bury-requires-clause-users : goal.bury-requires-clause-users
bury-requires-clause-users g c =
    let n = c.requires.new in
    let meaning = g.N.Analysis.meaning c.args.analysis.now in
    let law : IsMerge g.row.N-Data.Denot (by_bare_nodes meaning) = merge-decided meaning g.N.Data.PartialEq.eq g.met.N.Data.Eq.laws g.met.N.Analysis.equal_is_same (g.met.N.Analysis.is_merge c.args.analysis.now) in
    since-within meaning law c.args.store.now c.deaths.ensures.just c.args.nodes.now c.requires.rests.nothing_waits c.requires.rests n.kept n.rows n.held n.before c.args.data.now n.new n.count
    c.enter_users.new.nodes c.enter_users.new.data c.in_ok-enter_users.ensures.ok

pub rise-requires-clause-ready : goal.rise-requires-clause-ready
rise-requires-clause-ready g c =
    let n = c.requires.new in
    let meaning = g.N.Analysis.meaning c.args.analysis.now in
    let law : IsMerge g.row.N-Data.Denot (by_bare_nodes meaning) = merge-decided meaning g.N.Data.PartialEq.eq g.met.N.Data.Eq.laws g.met.N.Analysis.equal_is_same (g.met.N.Analysis.is_merge c.args.analysis.now) in
    since-ready meaning law c.args.store.now c.deaths.ensures.just c.args.nodes.now c.requires.rests.nothing_waits c.requires.rests n.kept n.rows n.held n.before c.args.data.now n.new n.count
    c.enter_users.new.nodes c.enter_users.new.data c.in_ok-enter_users.ensures.ok c.bury.new.nodes c.bury.new.data
    (subst (λ cs. Buries (by_bare_nodes meaning) c.args.store.now cs c.enter_users.new.nodes c.bury.new.nodes c.enter_users.new.data c.bury.new.data) (slice-is c.deaths.result.now c.args.store.now.deaths c.carried.result c.args.data.now.carried c.deaths.ensures.list (c.carried.ensures ∙ c.in_ok-enter_users.ensures.ok.same.carried)) c.in_ok-bury.ensures.ok)

pub rise-requires-clause-has : goal.rise-requires-clause-has
rise-requires-clause-has g c =
    let n = c.requires.new in
    let meaning = g.N.Analysis.meaning c.args.analysis.now in
    let law : IsMerge g.row.N-Data.Denot (by_bare_nodes meaning) = merge-decided meaning g.N.Data.PartialEq.eq g.met.N.Data.Eq.laws g.met.N.Analysis.equal_is_same (g.met.N.Analysis.is_merge c.args.analysis.now) in
    since-has meaning law c.args.store.now c.deaths.ensures.just c.args.nodes.now c.requires.rests.nothing_waits c.requires.rests n.kept n.rows n.held n.before c.args.data.now n.new n.count
    c.enter_users.new.nodes c.enter_users.new.data c.in_ok-enter_users.ensures.ok c.bury.new.nodes c.bury.new.data
    (subst (λ cs. Buries (by_bare_nodes meaning) c.args.store.now cs c.enter_users.new.nodes c.bury.new.nodes c.enter_users.new.data c.bury.new.data) (slice-is c.deaths.result.now c.args.store.now.deaths c.carried.result c.args.data.now.carried c.deaths.ensures.list (c.carried.ensures ∙ c.in_ok-enter_users.ensures.ok.same.carried)) c.in_ok-bury.ensures.ok)
