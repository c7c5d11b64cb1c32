use Rattle.std.proofs.Common.{◌∙◌, rules, false, ap, refl, sym, subst, inl, inr}
use Rattle.std.proofs.lemmas.Bool.{false≢true}
use Rattle.slotted_slots.specs.Table.{Table, AllKnown}
use Rattle.slotted_proofs.specs.Equations.{to_applied}
use Rattle.slotted_hashcons.specs.FiledRows.{rows_in}
use Rattle.slotted_operations.specs.ValidIds.{IsValidNode}
use Rattle.slotted_data.specs.Part.{part_by}
use Rattle.slotted_operations.specs.Adding.{RunsOutForFilled}
use Rattle.slotted_operations.specs.Good.{graph_of}
use Rattle.slotted_operations.specs.Graph.{Graph}
use Rattle.slotted_operations.proofs.Ids.ValidIds.{findable-children}
use Rattle.slotted_operations.proofs.Additions.GraphsWithNodes.{syn-adds, syn-valid}
use Rattle.slotted_graph.proofs.Analysed.{carries-data, kept-part}
use Rattle.slotted_graph.proofs.Insides.{data-inside, given, inside-of, rebuilt-by}
use Rattle.slotted_graph.proofs.egraph.EGraph.add_syn_quietly.Goals as goal

pub add_filled-requires-clause-fresh_slots : goal.add_filled-requires-clause-fresh_slots
add_filled-requires-clause-fresh_slots g c = elim c.self.invariant [ inl e ↦ absurd (false≢true (sym c.if-self.false ∙ e)) | inr v ↦ v.1 ]

pub add_filled-requires-clause-children : goal.add_filled-requires-clause-children
add_filled-requires-clause-children g c =
    let h = c.args.self.now in
    let f = g.L.LanguageChildren.form c.args.node.now in
    let k = c.self.inside.store in
    let r = c.self.inside.nodes in
    let t = c.self.inside.table in
    let inside = inside-of t k r c.self.view_is c.if-self.false c.self.invariant in
    let valid : IsValidNode h f = given inside.failed c.requires in
    findable-children k inside.good h inside.image f (g.met.L.LanguageChildren.fits c.args.node.now) valid.children

pub add_filled-requires-clause-known : goal.add_filled-requires-clause-known
add_filled-requires-clause-known g c =
    let h = c.args.self.now in
    let f = g.L.LanguageChildren.form c.args.node.now in
    let k = c.self.inside.store in
    let r = c.self.inside.nodes in
    let t = c.self.inside.table in
    let inside = inside-of t k r c.self.view_is c.if-self.false c.self.invariant in
    let valid : IsValidNode h f = given inside.failed c.requires in
    subst (λ (x : Table). AllKnown x f.names) (sym inside.table) valid.known

pub returns-clause-valid : goal.returns-clause-valid
returns-clause-valid g c =
    let rested = data-inside g.N.Analysis.meaning c.self.inside.analysis c.if-self.false c.self.invariant in
    let h = c.args.self.now in
    let f = g.L.LanguageChildren.form c.args.node.now in
    let k = c.self.inside.store in
    let r = c.self.inside.nodes in
    let t = c.self.inside.table in
    let inside = inside-of t k r c.self.view_is c.if-self.false c.self.invariant in
    let valid : IsValidNode h f = given inside.failed c.requires in
    syn-valid k r h inside.image inside.filed t inside.table f c.add_filled.new.store c.add_filled.new.nodes (to_applied c.in_ok-made.made)
    (graph_of false c.add_filled.new.table c.add_filled.new.store (rows_in c.add_filled.new.nodes.filed) (part_by g.N.Analysis.codes c.self.inside.analysis c.self.inside.rounds c.add_filled.new.data)) refl refl c.in_ok-made.ensures.ok (λ same. kept-part g.N.Analysis.codes g.N.Analysis.meaning c.self.inside.analysis c.self.inside.rounds k r c.self.inside.data rested c.add_filled.new.store same c.add_filled.new.data c.in_ok-made.ensures.still ∙ ap (λ (x : Graph). x.part) c.self.view_is)

pub returns-clause-syn : goal.returns-clause-syn
returns-clause-syn g c =
    let rested = data-inside g.N.Analysis.meaning c.self.inside.analysis c.if-self.false c.self.invariant in
    let h = c.args.self.now in
    let f = g.L.LanguageChildren.form c.args.node.now in
    let k = c.self.inside.store in
    let r = c.self.inside.nodes in
    let t = c.self.inside.table in
    let inside = inside-of t k r c.self.view_is c.if-self.false c.self.invariant in
    let valid : IsValidNode h f = given inside.failed c.requires in
    syn-adds k r h inside.image inside.filed t inside.table f c.add_filled.new.store c.add_filled.new.nodes (to_applied c.in_ok-made.made)
    (graph_of false c.add_filled.new.table c.add_filled.new.store (rows_in c.add_filled.new.nodes.filed) (part_by g.N.Analysis.codes c.self.inside.analysis c.self.inside.rounds c.add_filled.new.data)) refl refl c.in_ok-made.ensures.ok (λ same. kept-part g.N.Analysis.codes g.N.Analysis.meaning c.self.inside.analysis c.self.inside.rounds k r c.self.inside.data rested c.add_filled.new.store same c.add_filled.new.data c.in_ok-made.ensures.still ∙ ap (λ (x : Graph). x.part) c.self.view_is)

pub add_filled-requires-clause-since : goal.add_filled-requires-clause-since
add_filled-requires-clause-since g c = data-inside g.N.Analysis.meaning c.self.inside.analysis c.if-self.false c.self.invariant

pub returns-clause-carries : goal.returns-clause-carries
returns-clause-carries g c =
    let k = c.self.inside.store in
    let r = c.self.inside.nodes in
    let t = c.self.inside.table in
    let inside = inside-of t k r c.self.view_is c.if-self.false c.self.invariant in
    let rested = data-inside g.N.Analysis.meaning c.self.inside.analysis c.if-self.false c.self.invariant in
    carries-data g.N.Analysis.codes g.N.Analysis.meaning c.self.inside.analysis c.self.inside.rounds k r c.self.inside.data c.args.self.now inside.image (sym (ap (λ (x : Graph). x.part) c.self.view_is)) rested inside.filed c.add_filled.new.store c.add_filled.new.nodes c.add_filled.new.data _ refl refl c.in_ok-made.ensures.ok.adds.goes_on c.in_ok-made.ensures.carried

pub returns-in_err-made-clause-full : goal.returns-in_err-made-clause-full
returns-in_err-made-clause-full g c e =
    subst (λ (x : Graph). RunsOutForFilled x.image (g.L.LanguageChildren.form c.args.node.now) x.table c.add_filled.new.table) c.self.view_is (c.in_err-made.ensures.full (search rules))

pub returns-clause-rests : goal.returns-clause-rests
returns-clause-rests g c =
    let ok = c.in_ok-made.ensures.ok.adds in
    inr (rebuilt-by c.add_filled.new.table c.add_filled.new.store c.add_filled.new.nodes _ ok.good ok.fresh_slots ok.rests)
