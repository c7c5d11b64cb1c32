use Rattle.std.proofs.Common.{◌∙◌, ◌+◌, ℕ, List, ap, length, subst, arith}
use Rattle.slotted_lists.proofs.Maps.{length-keys}
use Rattle.slotted_slots.specs.Maps.{keys}
use Rattle.slotted_slots.specs.Table.{Table}
use Rattle.slotted_classes.specs.Names.{fresh_slots}
use Rattle.slotted_operations.specs.Graph.{MakesAtMost, RunsOut}
use Rattle.slotted_operations.proofs.Additions.Tables.{makes-none}
use Rattle.slotted_operations.proofs.adding.fresh_names.Goals as goal

pub map_between-requires : goal.map_between-requires
map_between-requires c =
    omega (arith, ap length c.in_ok-renew_values.ensures.keys, length-keys c.renew_values.new.map, length-keys c.in_ok-slots.slots, ap length c.in_ok-slots.ensures.ok)

pub returns-clause-keys : goal.returns-clause-keys
returns-clause-keys c = c.in_ok-renew_values.ensures.keys ∙ ap keys c.in_ok-slots.ensures.ok

pub returns-clause-values : goal.returns-clause-values
returns-clause-values c =
    c.in_ok-renew_values.ensures.values ∙ ap (λ (m : List (ℕ × ℕ)). fresh_slots c.args.table.now.fresh (length m)) c.in_ok-slots.ensures.ok

pub returns-clause-table : goal.returns-clause-table
returns-clause-table c =
    ap (λ (t : Table). t.fresh) c.in_ok-renew_values.ensures.table ∙ ap (λ (m : List (ℕ × ℕ)). c.args.table.now.fresh + length m) c.in_ok-slots.ensures.ok

-- at most one slot for each name

pub returns-in_err-slots-clause-takes : goal.returns-in_err-slots-clause-takes
returns-in_err-slots-clause-takes c = makes-none (length c.args.names.now) c.args.table.now

pub returns-in_err-renew_values-clause-takes : goal.returns-in_err-renew_values-clause-takes
returns-in_err-renew_values-clause-takes c =
    subst (λ (m : List (ℕ × ℕ)). MakesAtMost (length m) c.args.table.now c.renew_values.new.table) c.in_ok-slots.ensures.ok c.renew_values.ensures.takes

pub returns-in_err-m-clause-takes : goal.returns-in_err-m-clause-takes
returns-in_err-m-clause-takes c =
    subst (λ (m : List (ℕ × ℕ)). MakesAtMost (length m) c.args.table.now c.renew_values.new.table) c.in_ok-slots.ensures.ok c.renew_values.ensures.takes

pub returns-clause-takes : goal.returns-clause-takes
returns-clause-takes c =
    subst (λ (m : List (ℕ × ℕ)). MakesAtMost (length m) c.args.table.now c.renew_values.new.table) c.in_ok-slots.ensures.ok c.renew_values.ensures.takes

pub returns-in_err-renew_values-clause-full : goal.returns-in_err-renew_values-clause-full
returns-in_err-renew_values-clause-full c e =
    subst (λ (m : List (ℕ × ℕ)). RunsOut (length m) c.args.table.now c.renew_values.new.table) c.in_ok-slots.ensures.ok c.in_err-renew_values.ensures.full.1
