use Rattle.std.proofs.Common.{◌∙◌, false, ap, arith, refl, rules, sym, subst, inl, inr}
use Rattle.std.proofs.lemmas.Bool.{false≢true}
use Rattle.slotted_slots.specs.Table.{Table, AllKnown}
use Rattle.slotted_proofs.specs.Equations.{to_applied}
use Rattle.slotted_hashcons.specs.FiledRows.{rows_in}
use Rattle.slotted_operations.specs.ValidIds.{IsValidNode}
use Rattle.slotted_data.specs.Part.{part_by}
use Rattle.slotted_operations.specs.Good.{graph_of}
use Rattle.slotted_operations.specs.Graph.{Graph}
use Rattle.slotted_languages.specs.NodeTerm.{nameless_node}
use Rattle.slotted_operations.specs.Adding.{RunsOutForFilled}
use Rattle.slotted_operations.proofs.LookUps.States.{looked_up-is}
use Rattle.slotted_operations.proofs.Ids.ValidIds.{findable-children}
use Rattle.slotted_operations.proofs.Additions.GraphsWithNodes.{added-answers, added-equal, added-found, added-id, added-kept, added-made}
use Rattle.slotted_graph.proofs.Analysed.{carries-data, kept-part}
use Rattle.slotted_graph.proofs.Insides.{data-inside, given, inside-of, rebuilt-by}
use Rattle.slotted_graph.proofs.egraph.EGraph.add_quietly.Goals as goal

pub add-requires-clause-fresh_slots : goal.add-requires-clause-fresh_slots
add-requires-clause-fresh_slots g c = elim c.self.invariant [ inl e ↦ absurd (false≢true (sym c.if-self.false ∙ e)) | inr v ↦ v.1 ]

pub add-requires-clause-children : goal.add-requires-clause-children
add-requires-clause-children g c =
    let h = c.args.self.now in
    let f = g.L.LanguageChildren.form c.args.node.now in
    let k = c.self.inside.store in
    let r = c.self.inside.nodes in
    let t = c.self.inside.table in
    let inside = inside-of t k r c.self.view_is c.if-self.false c.self.invariant in
    let valid : IsValidNode h f = given inside.failed c.requires in
    findable-children k inside.good h inside.image f (g.met.L.LanguageChildren.fits c.args.node.now) valid.children

pub add-requires-clause-known : goal.add-requires-clause-known
add-requires-clause-known g c =
    let h = c.args.self.now in
    let f = g.L.LanguageChildren.form c.args.node.now in
    let k = c.self.inside.store in
    let r = c.self.inside.nodes in
    let t = c.self.inside.table in
    let inside = inside-of t k r c.self.view_is c.if-self.false c.self.invariant in
    let valid : IsValidNode h f = given inside.failed c.requires in
    subst (λ (x : Table). AllKnown x f.names) (sym inside.table) valid.known

pub returns-clause-id : goal.returns-clause-id
returns-clause-id g c =
    let h = c.args.self.now in
    let f = g.L.LanguageChildren.form c.args.node.now in
    let k = c.self.inside.store in
    let r = c.self.inside.nodes in
    let t = c.self.inside.table in
    let inside = inside-of t k r c.self.view_is c.if-self.false c.self.invariant in
    let valid : IsValidNode h f = given inside.failed c.requires in
    added-id k r inside.good inside.rests h inside.image inside.filed t inside.table f (g.met.L.LanguageChildren.fits c.args.node.now)
    (findable-children k inside.good h inside.image f (g.met.L.LanguageChildren.fits c.args.node.now) valid.children) valid.known c.add.new.store c.add.new.nodes (to_applied c.in_ok-id.id)
    (graph_of false c.add.new.table c.add.new.store (rows_in c.add.new.nodes.filed) (part_by g.N.Analysis.codes c.self.inside.analysis c.self.inside.rounds c.add.new.data)) refl refl c.add.ensures.more c.in_ok-id.ensures.ok

pub returns-clause-found : goal.returns-clause-found
returns-clause-found g c =
    let h = c.args.self.now in
    let f = g.L.LanguageChildren.form c.args.node.now in
    let k = c.self.inside.store in
    let r = c.self.inside.nodes in
    let t = c.self.inside.table in
    let inside = inside-of t k r c.self.view_is c.if-self.false c.self.invariant in
    let valid : IsValidNode h f = given inside.failed c.requires in
    added-found k r inside.good inside.rests h inside.image inside.filed t inside.table f (g.met.L.LanguageChildren.fits c.args.node.now)
    (findable-children k inside.good h inside.image f (g.met.L.LanguageChildren.fits c.args.node.now) valid.children) valid.known c.add.new.store c.add.new.nodes (to_applied c.in_ok-id.id)
    (graph_of false c.add.new.table c.add.new.store (rows_in c.add.new.nodes.filed) (part_by g.N.Analysis.codes c.self.inside.analysis c.self.inside.rounds c.add.new.data)) refl refl c.add.ensures.more c.in_ok-id.ensures.ok

pub returns-clause-equal : goal.returns-clause-equal
returns-clause-equal g c =
    let h = c.args.self.now in
    let f = g.L.LanguageChildren.form c.args.node.now in
    let k = c.self.inside.store in
    let r = c.self.inside.nodes in
    let t = c.self.inside.table in
    let inside = inside-of t k r c.self.view_is c.if-self.false c.self.invariant in
    let valid : IsValidNode h f = given inside.failed c.requires in
    added-equal k r inside.good inside.rests h inside.image inside.filed t inside.table f (g.met.L.LanguageChildren.fits c.args.node.now)
    (findable-children k inside.good h inside.image f (g.met.L.LanguageChildren.fits c.args.node.now) valid.children) valid.known c.add.new.store c.add.new.nodes (to_applied c.in_ok-id.id)
    (graph_of false c.add.new.table c.add.new.store (rows_in c.add.new.nodes.filed) (part_by g.N.Analysis.codes c.self.inside.analysis c.self.inside.rounds c.add.new.data)) refl refl c.add.ensures.more c.in_ok-id.ensures.ok

pub returns-clause-kept : goal.returns-clause-kept
returns-clause-kept g c =
    let rested = data-inside g.N.Analysis.meaning c.self.inside.analysis c.if-self.false c.self.invariant in
    let h = c.args.self.now in
    let f = g.L.LanguageChildren.form c.args.node.now in
    let k = c.self.inside.store in
    let r = c.self.inside.nodes in
    let t = c.self.inside.table in
    let inside = inside-of t k r c.self.view_is c.if-self.false c.self.invariant in
    let valid : IsValidNode h f = given inside.failed c.requires in
    added-kept k r inside.good inside.rests h inside.image inside.filed t inside.table f (g.met.L.LanguageChildren.fits c.args.node.now)
    (findable-children k inside.good h inside.image f (g.met.L.LanguageChildren.fits c.args.node.now) valid.children) valid.known c.add.new.store c.add.new.nodes (to_applied c.in_ok-id.id)
    (graph_of false c.add.new.table c.add.new.store (rows_in c.add.new.nodes.filed) (part_by g.N.Analysis.codes c.self.inside.analysis c.self.inside.rounds c.add.new.data)) refl refl c.add.ensures.more c.in_ok-id.ensures.ok (λ same. kept-part g.N.Analysis.codes g.N.Analysis.meaning c.self.inside.analysis c.self.inside.rounds k r c.self.inside.data rested c.add.new.store same c.add.new.data c.in_ok-id.ensures.still ∙ ap (λ (x : Graph). x.part) c.self.view_is)

pub returns-clause-made : goal.returns-clause-made
returns-clause-made g c =
    let h = c.args.self.now in
    let f = g.L.LanguageChildren.form c.args.node.now in
    let k = c.self.inside.store in
    let r = c.self.inside.nodes in
    let t = c.self.inside.table in
    let inside = inside-of t k r c.self.view_is c.if-self.false c.self.invariant in
    let valid : IsValidNode h f = given inside.failed c.requires in
    added-made k r inside.good inside.rests h inside.image inside.filed t inside.table f (g.met.L.LanguageChildren.fits c.args.node.now)
    (findable-children k inside.good h inside.image f (g.met.L.LanguageChildren.fits c.args.node.now) valid.children) valid.known c.add.new.store c.add.new.nodes (to_applied c.in_ok-id.id)
    (graph_of false c.add.new.table c.add.new.store (rows_in c.add.new.nodes.filed) (part_by g.N.Analysis.codes c.self.inside.analysis c.self.inside.rounds c.add.new.data)) refl refl c.add.ensures.more c.in_ok-id.ensures.ok

pub returns-clause-answers : goal.returns-clause-answers
returns-clause-answers g c =
    let h = c.args.self.now in
    let f = g.L.LanguageChildren.form c.args.node.now in
    let k = c.self.inside.store in
    let r = c.self.inside.nodes in
    let t = c.self.inside.table in
    let inside = inside-of t k r c.self.view_is c.if-self.false c.self.invariant in
    let valid : IsValidNode h f = given inside.failed c.requires in
    added-answers k r inside.good inside.rests h inside.image inside.filed t inside.table f (g.met.L.LanguageChildren.fits c.args.node.now)
    (findable-children k inside.good h inside.image f (g.met.L.LanguageChildren.fits c.args.node.now) valid.children) valid.known c.add.new.store c.add.new.nodes (to_applied c.in_ok-id.id)
    (graph_of false c.add.new.table c.add.new.store (rows_in c.add.new.nodes.filed) (part_by g.N.Analysis.codes c.self.inside.analysis c.self.inside.rounds c.add.new.data)) refl refl c.add.ensures.more c.in_ok-id.ensures.ok

pub returns-in_err-id-clause-full : goal.returns-in_err-id-clause-full
returns-in_err-id-clause-full g c e =
    let h = c.args.self.now in
    let f = g.L.LanguageChildren.form c.args.node.now in
    let k = c.self.inside.store in
    let r = c.self.inside.nodes in
    let t = c.self.inside.table in
    let inside = inside-of t k r c.self.view_is c.if-self.false c.self.invariant in
    let valid : IsValidNode h f = given inside.failed c.requires in
    let children = findable-children k inside.good h inside.image f (g.met.L.LanguageChildren.fits c.args.node.now) valid.children in
    let lacks = c.in_err-id.ensures.full (search rules) in (
      elim lacks.1 [
        | inl none ↦ looked_up-is k r inside.good inside.rests h inside.image inside.filed (nameless_node f) children ∙ none
        | inr large ↦ absurd (omega (arith, valid.few, large))
      ],
      subst (λ (x : Graph). RunsOutForFilled x.image f x.table c.add.new.table) c.self.view_is lacks.0,
    )

pub add-requires-clause-since : goal.add-requires-clause-since
add-requires-clause-since g c = data-inside g.N.Analysis.meaning c.self.inside.analysis c.if-self.false c.self.invariant

pub returns-clause-carries : goal.returns-clause-carries
returns-clause-carries g c =
    let k = c.self.inside.store in
    let r = c.self.inside.nodes in
    let t = c.self.inside.table in
    let inside = inside-of t k r c.self.view_is c.if-self.false c.self.invariant in
    let rested = data-inside g.N.Analysis.meaning c.self.inside.analysis c.if-self.false c.self.invariant in
    carries-data g.N.Analysis.codes g.N.Analysis.meaning c.self.inside.analysis c.self.inside.rounds k r c.self.inside.data c.args.self.now inside.image (sym (ap (λ (x : Graph). x.part) c.self.view_is)) rested inside.filed c.add.new.store c.add.new.nodes c.add.new.data _ refl refl c.in_ok-id.ensures.ok.goes_on c.in_ok-id.ensures.carried

pub returns-clause-rests : goal.returns-clause-rests
returns-clause-rests g c =
    let ok = c.in_ok-id.ensures.ok in
    inr (rebuilt-by c.add.new.table c.add.new.store c.add.new.nodes _ ok.good ok.fresh_slots ok.rests)
