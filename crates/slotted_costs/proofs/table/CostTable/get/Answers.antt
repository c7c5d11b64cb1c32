use Rattle.std.proofs.Common.{arith}
use Rattle.slotted_costs.specs.Entries.{table_of}
use Rattle.slotted_costs.proofs.Tables.{entry-no_place, entry-past, entry-other, entry-here, cost-of}
use Rattle.slotted_costs.proofs.table.CostTable.get.Goals as goal

pub returns-then-class-len-clause-entry : goal.returns-then-class-len-clause-entry
returns-then-class-len-clause-entry g c =
    let t = c.args.self.now in
    entry-no_place g.L.LanguageChildren.form t.entries.items t.places.items t.placed c.args.class (omega (arith, c.if-class-len.true, c.len.ensures))

pub returns-then-place-len-clause-entry : goal.returns-then-place-len-clause-entry
returns-then-place-len-clause-entry g c =
    let t = c.args.self.now in
    entry-past g.L.LanguageChildren.form t.entries.items t.places.items t.placed c.args.class c.index-place.result.now (omega (arith, c.if-class-len.false, c.len.ensures)) c.index-place.ensures (omega (arith, c.if-place-len.true, c.len-2.ensures))

pub returns-then-entry-class-clause-entry : goal.returns-then-entry-class-clause-entry
returns-then-entry-class-clause-entry g c =
    let t = c.args.self.now in
    entry-here g.L.LanguageChildren.form t.entries.items t.places.items t.placed c.args.class c.index-place.result.now c.index-entry.result.now (omega (arith, c.if-class-len.false, c.len.ensures)) c.index-place.ensures (omega (arith, c.if-place-len.false, c.len-2.ensures)) c.index-entry.ensures c.if-entry-class.true

pub returns-else-entry-class-clause-entry : goal.returns-else-entry-class-clause-entry
returns-else-entry-class-clause-entry g c =
    let t = c.args.self.now in
    entry-other g.L.LanguageChildren.form t.entries.items t.places.items t.placed c.args.class c.index-place.result.now c.index-entry.result.now (omega (arith, c.if-class-len.false, c.len.ensures)) c.index-place.ensures (omega (arith, c.if-place-len.false, c.len-2.ensures)) c.index-entry.ensures c.if-entry-class.false

pub returns-then-class-len-clause-cost : goal.returns-then-class-len-clause-cost
returns-then-class-len-clause-cost g c = cost-of (table_of g.L.LanguageChildren.form c.args.self.now.entries.items) c.args.class _ (returns-then-class-len-clause-entry g c)

pub returns-then-place-len-clause-cost : goal.returns-then-place-len-clause-cost
returns-then-place-len-clause-cost g c = cost-of (table_of g.L.LanguageChildren.form c.args.self.now.entries.items) c.args.class _ (returns-then-place-len-clause-entry g c)

pub returns-then-entry-class-clause-cost : goal.returns-then-entry-class-clause-cost
returns-then-entry-class-clause-cost g c = cost-of (table_of g.L.LanguageChildren.form c.args.self.now.entries.items) c.args.class _ (returns-then-entry-class-clause-entry g c)

pub returns-else-entry-class-clause-cost : goal.returns-else-entry-class-clause-cost
returns-else-entry-class-clause-cost g c = cost-of (table_of g.L.LanguageChildren.form c.args.self.now.entries.items) c.args.class _ (returns-else-entry-class-clause-entry g c)
