use Rattle.std.proofs.Common.{◌+◌}
use Rattle.slotted_certificates.proofs.Matches.{comes-down}
use Rattle.slotted_certificates.proofs.substitution.compare.Goals as goal

pub returns-then-is_same : goal.returns-then-is_same
returns-then-is_same c r later right =
    comes-down (λ n. n + c.args.by) c.args.depth c.in-Some.next c.args.row.now c.in-Some-first_piece.behind.now r later c.args.piece c.in-Some.seen c.in-Some-first_piece.first
    c.in-Some.ensures right c.in-Some-first_piece.ensures.some (c.is_same.ensures.yes c.if-is_same.true)
