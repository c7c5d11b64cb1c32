use Rattle.slotted_graph.proofs.Extending.{extends-takes}
use Rattle.std.proofs.Common.{inr}
use Rattle.slotted_proofs.specs.Equations.{to_applied}
use Rattle.slotted_rules.proofs.Carrying.{carries-takes, carries-then, filled-carries, later-carries}
use Rattle.slotted_rules.proofs.Answering.{err-then}
use Rattle.slotted_rules.proofs.Growing.{extended-grows, filled-grows, grows-takes, grows-then, later-grows}
use Rattle.slotted_rules.proofs.Putting.{ok-put}
use Rattle.slotted_rules.proofs.AskedMethods.{asks-filled, asks-once}
use Rattle.slotted_rules.proofs.building.put_in.Goals as goal

pub returns-in_err-b-clause-err : goal.returns-in_err-b-clause-err
returns-in_err-b-clause-err g c =
    err-then c.from_residual.result (inr (grows-takes c.args.graph.now c.full_id.new.self c.requires.graph c.full_id.ensures.takes))

pub full_id-requires-2 : goal.full_id-requires-2
full_id-requires-2 g c =
    inr ((grows-takes c.args.graph.now c.full_id.new.self c.requires.graph c.full_id.ensures.takes).extends.valid (to_applied c.args.x.now) c.requires.part)

pub returns-in_err-x-clause-err : goal.returns-in_err-x-clause-err
returns-in_err-x-clause-err g c =
    let one = grows-takes c.args.graph.now c.full_id.new.self c.requires.graph c.full_id.ensures.takes in
    err-then c.from_residual-in_err-x.result (inr (grows-then c.args.graph.now c.full_id.new.self c.full_id-2.new.self one (grows-takes c.full_id.new.self c.full_id-2.new.self one.graph c.full_id-2.ensures.takes)))

pub full_id-requires-3 : goal.full_id-requires-3
full_id-requires-3 g c =
    let one = grows-takes c.args.graph.now c.full_id.new.self c.requires.graph c.full_id.ensures.takes in
    let two = grows-then c.args.graph.now c.full_id.new.self c.full_id-2.new.self one (grows-takes c.full_id.new.self c.full_id-2.new.self one.graph c.full_id-2.ensures.takes) in
    inr (two.extends.valid (to_applied c.args.t.now) c.requires.value)

pub returns-in_err-t-clause-err : goal.returns-in_err-t-clause-err
returns-in_err-t-clause-err g c =
    err-then c.from_residual-in_err-t.result (inr (filled-grows c.args.graph.now c.full_id.new.self c.full_id-2.new.self c.full_id-3.new.self c.requires.graph c.full_id.ensures.takes c.full_id-2.ensures.takes c.full_id-3.ensures.takes))

pub subst-requires-clause-graph : goal.subst-requires-clause-graph
subst-requires-clause-graph g c =
    (filled-grows c.args.graph.now c.full_id.new.self c.full_id-2.new.self c.full_id-3.new.self c.requires.graph c.full_id.ensures.takes c.full_id-2.ensures.takes c.full_id-3.ensures.takes).graph

pub returns-clause-ok : goal.returns-clause-ok
returns-clause-ok g c =
    ok-put g.M.OwnSubst.method c.args.graph.now c.full_id.new.self c.full_id-2.new.self c.full_id-3.new.self c.subst.new.graph
    (to_applied c.args.b.now) (to_applied c.args.x.now) (to_applied c.args.t.now) (to_applied c.in_ok-b.b) (to_applied c.in_ok-x.x) (to_applied c.in_ok-t.t)
    c.requires.graph c.full_id.ensures.takes c.full_id-2.ensures.takes c.full_id-3.ensures.takes c.in_ok-b.ensures.fills c.in_ok-x.ensures.fills c.in_ok-t.ensures.fills
    c.subst.result c.subst.ensures.rests c.subst.ensures.extends c.subst.ensures.fails c.subst.ensures.valid c.subst.ensures.stands

pub returns-clause-err : goal.returns-clause-err
returns-clause-err g c =
    let i = c.full_id-3.new.self in
    let h = c.subst.new.graph in
    let all = filled-grows c.args.graph.now c.full_id.new.self c.full_id-2.new.self i c.requires.graph c.full_id.ensures.takes c.full_id-2.ensures.takes c.full_id-3.ensures.takes in
    err-then c.subst.result (later-grows c.args.graph.now i h all (extended-grows i h c.subst.ensures.rests c.subst.ensures.extends))

pub returns-in_err-b-clause-carries : goal.returns-in_err-b-clause-carries
returns-in_err-b-clause-carries g c = inr (carries-takes g.N.Analysis.codes g.N.Analysis.meaning g.met.N.Analysis.is_merge c.args.graph.now c.full_id.new.self c.full_id.ensures.takes)

pub returns-in_err-x-clause-carries : goal.returns-in_err-x-clause-carries
returns-in_err-x-clause-carries g c =
    let g0 = c.args.graph.now in
    let e = c.full_id.new.self in
    let f = c.full_id-2.new.self in
    inr (carries-then g.N.Analysis.codes g.N.Analysis.meaning g.met.N.Analysis.is_merge g0 e f (extends-takes g0 e c.full_id.ensures.takes) (carries-takes g.N.Analysis.codes g.N.Analysis.meaning g.met.N.Analysis.is_merge g0 e c.full_id.ensures.takes) (carries-takes g.N.Analysis.codes g.N.Analysis.meaning g.met.N.Analysis.is_merge e f c.full_id-2.ensures.takes))

pub returns-in_err-t-clause-carries : goal.returns-in_err-t-clause-carries
returns-in_err-t-clause-carries g c = inr (filled-carries g.N.Analysis.codes g.N.Analysis.meaning g.met.N.Analysis.is_merge c.args.graph.now c.full_id.new.self c.full_id-2.new.self c.full_id-3.new.self c.full_id.ensures.takes c.full_id-2.ensures.takes c.full_id-3.ensures.takes).1

pub returns-clause-carries : goal.returns-clause-carries
returns-clause-carries g c =
    let i = c.full_id-3.new.self in
    let filled = filled-carries g.N.Analysis.codes g.N.Analysis.meaning g.met.N.Analysis.is_merge c.args.graph.now c.full_id.new.self c.full_id-2.new.self i c.full_id.ensures.takes c.full_id-2.ensures.takes c.full_id-3.ensures.takes in
    later-carries g.N.Analysis.codes g.N.Analysis.meaning g.met.N.Analysis.is_merge c.args.graph.now i c.subst.new.graph filled.0 filled.1 c.subst.ensures.carries

pub returns-clause-asks : goal.returns-clause-asks
returns-clause-asks g c =
    let before = asks-filled g.M.OwnSubst.substitutes c.args.method.now c.args.graph.now c.full_id.new.self c.full_id-2.new.self c.full_id-3.new.self c.full_id.ensures.takes c.full_id-2.ensures.takes c.full_id-3.ensures.takes in
    asks-once g.M.OwnSubst.substitutes c.args.method.now c.args.graph.now c.subst.new.self c.subst.new.graph (to_applied c.in_ok-b.b) (to_applied c.in_ok-x.x) (to_applied c.in_ok-t.t) to_applied c.subst.result before c.subst.ensures.asked c.subst.ensures.fails c.subst.ensures.extends
