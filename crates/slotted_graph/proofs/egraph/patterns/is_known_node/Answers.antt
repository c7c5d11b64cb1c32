use Rattle.std.proofs.Common.{arith}
use Rattle.slotted_nodes.specs.Form.{Form, IsSmall}
use Rattle.slotted_graph.proofs.KnownPatterns.{node-known}
use Rattle.slotted_graph.proofs.egraph.patterns.is_known_node.Goals as goal

pub returns-then-slot_count-lt-PLACES : goal.returns-then-slot_count-lt-PLACES
returns-then-slot_count-lt-PLACES g c =
    let f : Form = g.L.LanguageChildren.form c.args.node.now in
    let small : IsSmall f = omega (arith, c.if-slot_count-lt-PLACES.true, c.slot_count.ensures) in
    node-known c.args.table.now f c.places_are_known.result small c.places_are_known.ensures
