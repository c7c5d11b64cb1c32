-- The first term is that of the left side.
use Rattle.std.proofs.Common.{◌≡◌, ◌∙◌, List, ap}
use Rattle.slotted_slots.specs.declared.types.AppliedId.{AppliedId}
use Rattle.slotted_model.specs.Applied.{Applied}
use Rattle.slotted_proofs.specs.Entries.{Proven, statement_at}
use Rattle.slotted_explain.proofs.SlotsOfSteps.{chain_lacks}
use Rattle.slotted_explain.proofs.flat.chain_text.Goals as goal

pub returns-in-Some-clause-full : goal.returns-in-Some-clause-full
returns-in-Some-clause-full g c e =
    let graph = c.args.graph.now in
    let left = c.in_ok-left.left in
    let side : c.equ.result.now.l.id.0 ≡ (statement_at c.proofs.result.now c.args.p).equation.left = ap (λ (x : Applied). x.0) c.equ.ensures.left in
    let class : left.id.0 ≡ (statement_at graph.image.stored c.args.p).equation.left =
    ap (λ (x : AppliedId). x.id.0) c.in_ok-left.ensures.ok ∙ (side ∙ ap (λ (ps : List Proven). (statement_at ps c.args.p).equation.left) c.proofs.ensures.list) in
    chain_lacks graph c.canonical_term.new.graph c.steps_text.new.graph c.args.p left.id.0 c.args.steps.now class c.in_ok-head.ensures.takes.reads.image c.canonical_term.ensures.count (c.steps_text.ensures.full e)
