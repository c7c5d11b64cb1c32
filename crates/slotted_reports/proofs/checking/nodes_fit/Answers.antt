use Rattle.slotted_reports.proofs.checking.nodes_fit.Goals as goal

pub node_fits-requires : goal.node_fits-requires
node_fits-requires g c = c.requires c.loop-source.source
