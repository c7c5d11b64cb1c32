use Rattle.slotted_certificates.proofs.substitution.front_of.Goals as goal

pub returns-in-Differs : goal.returns-in-Differs
returns-in-Differs c later h =
    c.in-Differs.ensures c.loop-piece.rest.now c.in-Some.behind.now c.in-Some.ensures.some later (c.loop-piece.invariant.back later h)
