-- A frame that is done has the answer for its id: this id if no child has changed, or else that of its node.
use Rattle.std.proofs.Common.{subst, sym, inr}
use Rattle.slotted_proofs.specs.Equations.{to_applied}
use Rattle.slotted_graph.specs.Adding.{AddsSyn}
use Rattle.slotted_graph.specs.Graph.{IsFullId}
use Rattle.slotted_rules.proofs.Carrying.{carries-itself}
use Rattle.slotted_rules.specs.Building.{Builds}
use Rattle.slotted_rules.specs.Frames.{Closes}
use Rattle.slotted_rules.specs.Substituting.{Replaces}
use Rattle.slotted_rules.proofs.Answering.{ok-added}
use Rattle.slotted_rules.proofs.Frames.{frame-children, frame-end, frame-known, frame-same}
use Rattle.slotted_rules.proofs.substitution.close.Goals as goal

pub add_node-requires-clause-known : goal.add_node-requires-clause-known
add_node-requires-clause-known g c =
    let d = c.requires in
    frame-known g.L.LanguageChildren.form d.part d.value d.start c.args.graph.now d.body c.args.frame d.frame d.whole

pub add_node-requires-clause-children : goal.add_node-requires-clause-children
add_node-requires-clause-children g c =
    let d = c.requires in
    frame-children g.L.LanguageChildren.form d.part d.value d.start c.args.graph.now d.body c.args.frame d.frame d.whole

pub returns-then-changed-clause-ok : goal.returns-then-changed-clause-ok
returns-then-changed-clause-ok g c =
    let form = g.L.LanguageChildren.form in
    let i = c.args.graph.now in
    let j = c.add_node.new.graph in
    let e = c.add_node.ensures in
    ok-added c.add_node.result (λ a. Closes form i j c.args.frame (to_applied a)) (λ a. IsFullId j (to_applied a)) (λ a. AddsSyn i j (form c.args.frame.node) (to_applied a)) (Builds i j) e.full e.syn e.builds
    (λ a full syn builds start x t b is. frame-end form x t start i b c.args.frame is c.requires.whole j (to_applied a) syn builds full)

pub returns-clause-ok : goal.returns-clause-ok
returns-clause-ok g c start x t b is =
    let i = c.args.graph.now in
    subst (Replaces start i x t b) (sym is.id) (frame-same g.L.LanguageChildren.form x t start i b c.args.frame is c.requires.whole c.if-changed.false)

pub returns-clause-carries : goal.returns-clause-carries
returns-clause-carries g c = inr (carries-itself g.N.Analysis.codes g.N.Analysis.meaning g.met.N.Analysis.is_merge c.args.graph.now)
