use Rattle.std.proofs.Common.{◌≡◌, None, rules}
use Rattle.slotted_hashcons.specs.Filed.{filed_of}
use Rattle.slotted_hashcons.specs.FiledRows.{IsFiled}
use Rattle.slotted_data.proofs.Entering.{each-unfiled, each-queued}
use Rattle.slotted_data.proofs.users.wait_if_filed.Goals as goal

pub returns-then-is_none-clause-ok : goal.returns-then-is_none-clause-ok
returns-then-is_none-clause-ok g c =
    let none : filed_of c.args.nodes.now.filed c.args.source ≡ None = search rules in
    each-unfiled c.args.nodes.now c.args.source none

pub returns-clause-ok : goal.returns-clause-ok
returns-clause-ok g c =
    let filed : IsFiled c.args.nodes.now.filed c.args.source = search rules in
    each-queued c.args.nodes.now c.wait.new.self c.args.source filed c.in_ok-wait.ensures.ok
