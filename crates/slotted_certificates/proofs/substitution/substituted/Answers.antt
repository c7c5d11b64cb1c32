use Rattle.slotted_certificates.proofs.Turnings.{inside-put, whole-put}
use Rattle.slotted_certificates.proofs.substitution.substituted.Goals as goal

pub returns-then-are_one : goal.returns-then-are_one
returns-then-are_one c =
    whole-put c.args.body.now c.args.part.now c.args.value.now c.new-made.result.items c.extend_from_slice.new.self.items (c.are_one.ensures.yes c.if-are_one.true) c.new-made.ensures.items
    c.in_ok-extend_from_slice.ensures.items

pub returns-else-not-branch : goal.returns-else-not-branch
returns-else-not-branch c =
    inside-put c.args.body.now c.args.part.now c.args.value.now c.in-Some.behind.now c.new-made.result.items c.push.new.self.items c.turn_all.new.out.items c.in-Some.head
    (c.are_one.ensures.no c.if-are_one.false) c.in-Some.ensures.some c.new-made.ensures.items c.in_ok-push-in-Some.ensures.items (c.in_ok-turn_all-in-Some.ensures c.if-not-branch.false)
