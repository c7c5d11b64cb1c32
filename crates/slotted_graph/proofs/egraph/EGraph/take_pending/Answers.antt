use Rattle.std.proofs.Common.{◌∙◌, ap, inr, refl, subst, sym}
use Rattle.slotted_data.specs.Meaning.{by_bare_nodes}
use Rattle.slotted_data.specs.Carrying.{DataRests}
use Rattle.slotted_data.specs.Held.{Held}
use Rattle.slotted_data.proofs.Resting.{rests-taken}
use Rattle.slotted_operations.specs.Graph.{Graph}
use Rattle.slotted_graph.proofs.Analysed.{takes-pending}
use Rattle.slotted_graph.proofs.Insides.{data-inside, given, inside-of, rebuilt-by}
use Rattle.slotted_graph.proofs.egraph.EGraph.take_pending.Goals as goal

pub invariant_of-self-2 : goal.invariant_of-self-2
invariant_of-self-2 g c =
    let k = c.self.inside.store in
    let r = c.self.inside.nodes in
    let a = by_bare_nodes (g.N.Analysis.meaning c.self.inside.analysis) in
    let well = given c.if-self.false c.self.invariant in
    let taken = rests-taken a k r c.self.inside.data (data-inside g.N.Analysis.meaning c.self.inside.analysis c.if-self.false c.self.invariant) in
    inr (well.0, well.1, well.2, well.3, subst (λ (d : Held _). DataRests a k r d) (sym c.in_ok-taken.ensures.left) taken)

pub returns-clause-taken : goal.returns-clause-taken
returns-clause-taken g c =
    let k = c.self.inside.store in
    let r = c.self.inside.nodes in
    let n = c.self.inside.analysis in
    let inside = inside-of c.self.inside.table k r c.self.view_is c.if-self.false c.self.invariant in
    takes-pending g.N.Analysis.codes g.N.Analysis.meaning n c.self.inside.rounds k r inside.good c.self.inside.data c.take_pending.new.data c.args.self.now _ inside.image (sym (ap (λ (x : Graph). x.part) c.self.view_is)) refl
    (data-inside g.N.Analysis.meaning n c.if-self.false c.self.invariant) c.in_ok-taken.ensures.left _ _ c.in_ok-taken.ensures.taken (c.in_ok-ids.ensures.ok ∙ c.deref.ensures.value)

pub returns-clause-rests : goal.returns-clause-rests
returns-clause-rests g c =
    let inside = inside-of c.self.inside.table c.self.inside.store c.self.inside.nodes c.self.view_is c.if-self.false c.self.invariant in
    inr (rebuilt-by c.self.inside.table c.self.inside.store c.self.inside.nodes _ inside.good inside.fresh inside.rests)
