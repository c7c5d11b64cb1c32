use Rattle.std.proofs.Common.{◌≡◌, length, set, subst, arith}
use Rattle.std.specs.Prelude.{is_ok}
use Rattle.slotted_costs.specs.Entries.{ArePlaced, classes_in}
use Rattle.slotted_costs.proofs.Tables.{placed-either}
use Rattle.slotted_costs.proofs.table.CostTable.enter.Goals as goal

pub invariant_of-self : goal.invariant_of-self
invariant_of-self g c =
    let t = c.args.self.now in
    let count : length t.entries.items ≡ c.len.result = omega (arith, t.entries.ok, c.len.ensures) in
    record {
      placed =
          subst (λ n. ArePlaced (classes_in c.push.new.self.items) (set t.places.items c.args.entry.class n)) count
          (placed-either g.L.LanguageChildren.form t.entries.items t.places.items t.placed c.args.entry c.requires.within c.requires.new_class (is_ok c.push.result) c.push.new.self.items c.push.ensures.items);
    }
