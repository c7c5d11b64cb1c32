use Rattle.std.proofs.Common.{◌∙◌, sym, inl, inr}
use Rattle.std.proofs.lemmas.Bool.{false≢true}
use Rattle.slotted_graph.proofs.Enodes.{large-row}
use Rattle.slotted_graph.proofs.Insides.{inside-of}
use Rattle.slotted_graph.proofs.egraph.EGraph.check.Goals as goal

pub check-requires : goal.check-requires
check-requires l c = elim c.self.invariant [ inl h ↦ absurd (false≢true (sym c.if-self.false ∙ h)) | inr h ↦ h.2.filed ]

pub returns-clause-full : goal.returns-clause-full
returns-clause-full l c out =
    let k = c.self.inside.store in
    let r = c.self.inside.nodes in
    let inside = inside-of c.self.inside.table k r c.self.view_is c.if-self.false c.self.invariant in
    large-row k r inside.good inside.rests c.args.self.now inside.filed (c.check.ensures.full out)
