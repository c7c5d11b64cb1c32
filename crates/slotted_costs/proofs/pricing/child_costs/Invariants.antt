-- The costs so far.
use Rattle.std.proofs.Common.{◌≡◌, ℕ, List, map, take, Some}
use Rattle.slotted_nodes.specs.Form.{children}
use Rattle.slotted_model.specs.Extraction.{costs_in}
use Rattle.slotted_costs.specs.Entries.{table_of}
use Rattle.slotted_costs.proofs.pricing.child_costs.Given as goal

abbrev pub invariant-loop-k : goal.invariant-loop-k
invariant-loop-k g l =
    let form = g.L.LanguageChildren.form in
    costs_in (table_of form l.table.entries.items) (map (λ (c : ℕ × List ℕ). c.0) (take l.k (children (form l.node).tree))) ≡ Some l.each.items
