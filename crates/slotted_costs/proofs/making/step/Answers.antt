use Rattle.std.proofs.Common.{sym, subst, refl, arith}
use Rattle.slotted_costs.specs.declared.making.Making.{Making}
use Rattle.slotted_costs.specs.Entries.{entry_of}
use Rattle.slotted_costs.specs.Making.{IsMadeSoFar}
use Rattle.slotted_costs.proofs.Turns.{turn-popped, turn-within, turn-passed, turn-none, some-there}
use Rattle.slotted_costs.proofs.making.step.Goals as goal
use Rattle.slotted_costs.proofs.making.step.Goals.{then-is_none+in_ok-take_turn, else-is_none}

pub returns-in_default-clause-end : goal.returns-in_default-clause-end
returns-in_default-clause-end g c e =
    let m = c.args.making.now in
    turn-none g.L.LanguageChildren.form g.L.Ord.cmp g.F.Cost.Ord.cmp (g.F.CostFunction.node_cost c.args.costs.now) c.args.store.now c.args.nodes.now m c.requires.made (omega (arith, c.in_default.ensures.none, m.queue.data.ok))

pub find_class-class-requires-clause-within : goal.find_class-class-requires-clause-within
find_class-class-requires-clause-within g c =
    let form = g.L.LanguageChildren.form in
    let cmp = g.F.Cost.Ord.cmp in
    let weight = g.F.CostFunction.node_cost c.args.costs.now in
    let m = c.args.making.now in
    let n : Making g.row.L.Denot g.row.F-Cost.Denot = record { table = m.table; queue = c.pop.new.self; lacking = m.lacking } in
    let turn = turn-popped form g.L.Ord.cmp cmp weight c.args.store.now c.args.nodes.now m n c.in-Some.next c.requires.made refl refl c.in-Some.ensures.permutation c.in-Some.ensures.heap_order in
    omega (arith, turn-within form g.L.Ord.cmp cmp weight c.args.store.now c.args.nodes.now n c.in-Some.next turn, c.requires.count)

pub take_turn-requires-clause-turn : goal.take_turn-requires-clause-turn
take_turn-requires-clause-turn g c =
    let m = c.args.making.now in
    turn-popped g.L.LanguageChildren.form g.L.Ord.cmp g.F.Cost.Ord.cmp (g.F.CostFunction.node_cost c.args.costs.now) c.args.store.now c.args.nodes.now m
    (record { table = m.table; queue = c.pop.new.self; lacking = m.lacking }) c.in-Some.next c.requires.made refl refl c.in-Some.ensures.permutation c.in-Some.ensures.heap_order

pub returns-clause-ok : goal.returns-clause-ok
returns-clause-ok g c =
    let form = g.L.LanguageChildren.form in
    let cmp = g.F.Cost.Ord.cmp in
    let weight = g.F.CostFunction.node_cost c.args.costs.now in
    let m = c.args.making.now in
    let n : Making g.row.L.Denot g.row.F-Cost.Denot = record { table = m.table; queue = c.pop.new.self; lacking = m.lacking } in
    elim c.if-is_none.branch [
      | then-is_none+in_ok-take_turn w ↦ subst (λ t. IsMadeSoFar form g.L.Ord.cmp cmp weight c.args.store.now c.args.nodes.now t) (sym w.making-is) w.in_ok-take_turn.ensures.ok
      | else-is_none w ↦
          let turn = turn-popped form g.L.Ord.cmp cmp weight c.args.store.now c.args.nodes.now m n c.in-Some.next c.requires.made refl refl c.in-Some.ensures.permutation c.in-Some.ensures.heap_order in
          subst (λ t. IsMadeSoFar form g.L.Ord.cmp cmp weight c.args.store.now c.args.nodes.now t) (sym w.making-is)
          (turn-passed form g.L.Ord.cmp cmp weight c.args.store.now c.args.nodes.now n c.in-Some.next turn c.find_class-class.result c.find_class-class.ensures.class
          (some-there (λ e. entry_of form e.now) c.get.result c.is_none.result _ c.is_none.ensures w.if-is_none.false c.get.ensures.entry))
    ]
