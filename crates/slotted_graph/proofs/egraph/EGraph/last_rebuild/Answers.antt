use Rattle.std.proofs.Common.{◌∙◌, ap, sym, inl, inr}
use Rattle.slotted_classes.specs.Counts.{last_count}
use Rattle.slotted_operations.specs.Graph.{Graph}
use Rattle.slotted_graph.proofs.CountedGraphs.{is-within, low-data, tells-rebuild}
use Rattle.slotted_graph.proofs.Insides.{data-inside, inside-of}
use Rattle.slotted_graph.proofs.egraph.EGraph.last_rebuild.Goals as goal

pub returns-clause-bound : goal.returns-clause-bound
returns-clause-bound g c = elim c.self.invariant [
  | inl failed ↦ inl (ap (λ (x : Graph). x.failed) (sym c.self.view_is) ∙ failed)
  | inr well ↦ inr (is-within c.self.inside.store c.self.inside.nodes well.0 well.2 c.args.self.now (ap (λ (x : Graph). x.image) c.self.view_is))
]

pub returns-clause-told : goal.returns-clause-told
returns-clause-told g c =
    let k = c.self.inside.store in
    let inside = inside-of c.self.inside.table k c.self.inside.nodes c.self.view_is c.if-self.false c.self.invariant in
    inr (tells-rebuild g.N.Analysis.codes g.N.Analysis.meaning c.self.inside.analysis c.self.inside.rounds k c.self.inside.nodes c.self.inside.data c.args.self.now inside.good inside.image
    (sym (ap (λ (x : Graph). x.part) c.self.view_is)) c.last_rebuild-2.result c.last_rebuild-2.ensures.told c.last_rebuild-2.ensures.within)

pub returns-clause-still : goal.returns-clause-still
returns-clause-still g c none =
    let held = data-inside g.N.Analysis.meaning c.self.inside.analysis c.if-self.false c.self.invariant in
    c.last_rebuild-2.ensures.low (low-data g.N.Analysis.meaning c.self.inside.analysis c.self.inside.store c.self.inside.nodes c.self.inside.data none held)
    ∙ ap (λ (x : Graph). last_count x.image.counts) c.self.view_is
