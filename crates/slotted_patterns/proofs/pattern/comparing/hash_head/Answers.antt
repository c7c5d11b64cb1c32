use Rattle.std.proofs.Common.{arith}
use Rattle.slotted_patterns.proofs.Shapes.{fed_node}
use Rattle.slotted_patterns.proofs.pattern.comparing.hash_head.Goals as goal

pub returns-in-ENode : goal.returns-in-ENode
returns-in-ENode g c =
    fed_node g.L.Hash.hash_input g.H.Hasher.write c.args.pattern.now c.in-ENode.node c.in-ENode.children c.in-ENode.is c.len.result (omega (arith, c.len.ensures, c.in-ENode.children.ok.0)) c.args.state.now c.write_u8.new.self c.hash.new.state c.write_usize.new.self c.write_u8.ensures c.hash.ensures c.write_usize.ensures
