use Rattle.std.proofs.Common.{◌≡◌, ◌-◌, length, take, drop}
use Rattle.slotted_nodes.specs.Form.{scopes}
use Rattle.slotted_outlines.specs.Seen.{opened, lefts, rights}
use Rattle.slotted_outlines.proofs.outlines.Outlines.push_open.Given as goal

abbrev pub invariant-loop-i : goal.invariant-loop-i
invariant-loop-i g l =
    let f = g.L.LanguageChildren.form l.self.one in
    let n = g.L.LanguageChildren.form l.self.two in
    record {
      left : opened (l.at - l.i) (drop l.i (scopes f.tree)) (drop l.i f.names) (lefts l.binders.items) ≡ opened l.at (scopes f.tree) f.names (lefts l.initial.binders.items);
      right : opened (l.at - l.i) (drop l.i (scopes f.tree)) (drop l.i n.names) (rights l.binders.items) ≡ opened l.at (scopes f.tree) n.names (rights l.initial.binders.items);
      kept : take (length l.initial.binders.items) l.binders.items ≡ l.initial.binders.items;
    }
