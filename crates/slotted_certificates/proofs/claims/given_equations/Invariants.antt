use Rattle.std.specs.Prelude.{All, map, string_bytes}
use Rattle.slotted_certificates.specs.Following.{GivenRows}
use Rattle.slotted_certificates.proofs.claims.given_equations.Given as goal

abbrev pub invariant-loop-place : goal.invariant-loop-place
invariant-loop-place l = All (GivenRows (map string_bytes l.fn.operators) l.fn.binders (map (λ l. string_bytes l.text) l.fn.lines)) l.equations.items
