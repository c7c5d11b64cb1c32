-- What a table makes in several steps, and when slots run out at one of them.
use Rattle.std.proofs.Common.{◌≤◌, ◌+◌, ℕ, ◌∙◌, refl, arith}
use Rattle.slotted_slots.specs.Table.{Table}
use Rattle.slotted_operations.specs.Graph.{MakesAtMost, RunsOut}

pub makes-none : (n : ℕ) (t : Table) → MakesAtMost n t t
makes-none n t = record { names = refl; taken = omega arith }

pub makes-more : (n m : ℕ) (t u : Table) → MakesAtMost n t u → n ≤ m → MakesAtMost m t u
makes-more n m t u p l = record { names = p.names; taken = omega (arith, p.taken, l) }

pub makes-then : (n m k : ℕ) (t u v : Table) → MakesAtMost n t u → MakesAtMost m u v → n + m ≤ k → MakesAtMost k t v
makes-then n m k t u v p q l = record { names = q.names ∙ p.names; taken = omega (arith, p.taken, q.taken, l) }

pub runs_out-more : (n m : ℕ) (t u : Table) → RunsOut n t u → n ≤ m → RunsOut m t u
runs_out-more n m t u r l = record { lacks = omega (arith, r.lacks, l); used = r.used }

pub runs_out-then : (n m k : ℕ) (t u v : Table) → MakesAtMost n t u → RunsOut m u v → n + m ≤ k → RunsOut k t v
runs_out-then n m k t u v p r l = record { lacks = omega (arith, p.taken, r.lacks, l); used = r.used }
