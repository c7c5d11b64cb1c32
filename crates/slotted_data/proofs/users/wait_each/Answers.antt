use Rattle.std.proofs.Common.{◌<◌, length, sym, subst, take, arith}
use Rattle.std.proofs.lemmas.List.{take_more}
use Rattle.slotted_data.specs.Users.{WaitEach}
use Rattle.slotted_data.proofs.Entering.{each-then}
use Rattle.slotted_data.proofs.users.wait_each.Goals as goal

pub loop-source-preserved : goal.loop-source-preserved
loop-source-preserved g c =
    let i = c.loop-source.source-index in
    let within : i < length c.args.sources.now = omega (arith, c.loop-source-test.true) in
    subst (WaitEach c.args.nodes.now c.wait_if_filed.new.nodes) (sym (take_more c.args.sources.now i 0 within))
    (each-then c.args.nodes.now c.loop-source.nodes c.wait_if_filed.new.nodes (take i c.args.sources.now) _ c.loop-source.invariant c.in_ok-wait_if_filed.ensures.ok)
