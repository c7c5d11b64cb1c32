-- A search over what is kept and filed has what the graph is asked for.
use Rattle.std.proofs.Common.{◌∙◌, ap, subst, sym, refl, inl, inr}
use Rattle.std.proofs.lemmas.Bool.{false≢true}
use Rattle.slotted_hashcons.specs.FiledRows.{rows_in}
use Rattle.slotted_data.specs.Part.{part_by}
use Rattle.slotted_operations.specs.Good.{graph_of}
use Rattle.slotted_operations.specs.Graph.{Graph}
use Rattle.slotted_operations.proofs.Graphs.FreshSlots.{fresh_slots-more}
use Rattle.slotted_operations.proofs.Graphs.Finds.{good-finds}
use Rattle.slotted_operations.proofs.Graphs.AtRest.{at-rest}
use Rattle.slotted_patterns.specs.View.{tree_of}
use Rattle.slotted_patterns.specs.Known.{HasKnownNames}
use Rattle.slotted_matching.specs.Found.{IsFound, RunsOutFor, TakesFor}
use Rattle.slotted_matching.proofs.Finding.{ok-mapped}
use Rattle.slotted_graph.specs.Matching.{FindsAll}
use Rattle.slotted_graph.proofs.Matching.{found-each, found-looked_up}
use Rattle.slotted_graph.proofs.Finds.{found-of, valid-of, each-valid, each-within, wide-row, takes-in, runs_out-in, ok-three_of}
use Rattle.slotted_graph.proofs.Insides.{given, inside-of}
use Rattle.slotted_graph.proofs.egraph.EGraph.find_matches.Goals as goal

pub find_matches-requires-clause-good : goal.find_matches-requires-clause-good
find_matches-requires-clause-good g c =
    let inside = inside-of c.self.inside.table c.self.inside.store c.self.inside.nodes c.self.view_is c.if-self.false c.self.invariant in
    inside.rests.filed

pub find_matches-requires-clause-links : goal.find_matches-requires-clause-links
find_matches-requires-clause-links g c =
    let inside = inside-of c.self.inside.table c.self.inside.store c.self.inside.nodes c.self.view_is c.if-self.false c.self.invariant in
    good-finds c.self.inside.store inside.good

pub find_matches-requires-clause-rests : goal.find_matches-requires-clause-rests
find_matches-requires-clause-rests g c =
    let inside = inside-of c.self.inside.table c.self.inside.store c.self.inside.nodes c.self.view_is c.if-self.false c.self.invariant in
    at-rest c.self.inside.store c.self.inside.nodes inside.good inside.rests

pub find_matches-requires-clause-index : goal.find_matches-requires-clause-index
find_matches-requires-clause-index g c =
    (given c.if-self.false c.self.invariant).3

pub find_matches-requires-clause-known : goal.find_matches-requires-clause-known
find_matches-requires-clause-known g c =
    elim c.requires [
      | inl e ↦ absurd (false≢true (sym c.if-self.false ∙ (ap (λ (x : Graph). x.failed) c.self.view_is ∙ e)))
      | inr v ↦ subst (λ (x : Graph). HasKnownNames x.table (tree_of g.L.LanguageChildren.form c.args.pattern.now)) (sym c.self.view_is) v
    ]

pub invariant_of-self : goal.invariant_of-self
invariant_of-self g c =
    elim c.self.invariant [
      | inl h ↦ inl h
      | inr h ↦ inr (h.0, fresh_slots-more c.self.inside.table c.find_matches.new.table c.self.inside.store c.find_matches.ensures.more h.1, h.2, c.find_matches.ensures.index, h.4)
    ]

pub returns-clause-finds : goal.returns-clause-finds
returns-clause-finds g c =
    let inside = inside-of c.self.inside.table c.self.inside.store c.self.inside.nodes c.self.view_is c.if-self.false c.self.invariant in
    let more = fresh_slots-more c.self.inside.table c.find_matches.new.table c.self.inside.store c.find_matches.ensures.more inside.fresh in
    let tree = tree_of g.L.LanguageChildren.form c.args.pattern.now in
    let k = c.self.inside.store in
    let r = c.self.inside.nodes in
    let h : Graph = graph_of c.self.inside.failed c.find_matches.new.table k (rows_in r.filed) (part_by g.N.Analysis.codes c.self.inside.analysis c.self.inside.rounds c.self.inside.data) in
    let e = c.find_matches.ensures in
    ok-mapped c.find_matches.result e.finds (λ found finds p at. found-of h k r inside.good inside.rests more refl refl p found (finds p at))

pub returns-clause-valid : goal.returns-clause-valid
returns-clause-valid g c =
    let inside = inside-of c.self.inside.table c.self.inside.store c.self.inside.nodes c.self.view_is c.if-self.false c.self.invariant in
    let more = fresh_slots-more c.self.inside.table c.find_matches.new.table c.self.inside.store c.find_matches.ensures.more inside.fresh in
    let tree = tree_of g.L.LanguageChildren.form c.args.pattern.now in
    let k = c.self.inside.store in
    let r = c.self.inside.nodes in
    let h : Graph = graph_of c.self.inside.failed c.find_matches.new.table k (rows_in r.filed) (part_by g.N.Analysis.codes c.self.inside.analysis c.self.inside.rounds c.self.inside.data) in
    let e = c.find_matches.ensures in
    ok-mapped c.find_matches.result e.valid (λ found valid. valid-of h k r inside.good inside.rests more refl refl tree found valid)

pub returns-clause-looked_up : goal.returns-clause-looked_up
returns-clause-looked_up g c =
    let inside = inside-of c.self.inside.table c.self.inside.store c.self.inside.nodes c.self.view_is c.if-self.false c.self.invariant in
    let more = fresh_slots-more c.self.inside.table c.find_matches.new.table c.self.inside.store c.find_matches.ensures.more inside.fresh in
    let tree = tree_of g.L.LanguageChildren.form c.args.pattern.now in
    let k = c.self.inside.store in
    let r = c.self.inside.nodes in
    let h : Graph = graph_of c.self.inside.failed c.find_matches.new.table k (rows_in r.filed) (part_by g.N.Analysis.codes c.self.inside.analysis c.self.inside.rounds c.self.inside.data) in
    let e = c.find_matches.ensures in
    ok-three_of c.find_matches.result e.finds e.valid e.variables
    (λ found finds valid variables p at s i. found-looked_up h p found (found-of h k r inside.good inside.rests more refl refl p found (finds p at)) s i (each-valid h k r inside.good inside.rests more refl refl tree found valid variables p at s i))

pub returns-clause-each : goal.returns-clause-each
returns-clause-each g c =
    let inside = inside-of c.self.inside.table c.self.inside.store c.self.inside.nodes c.self.view_is c.if-self.false c.self.invariant in
    let more = fresh_slots-more c.self.inside.table c.find_matches.new.table c.self.inside.store c.find_matches.ensures.more inside.fresh in
    let tree = tree_of g.L.LanguageChildren.form c.args.pattern.now in
    let k = c.self.inside.store in
    let r = c.self.inside.nodes in
    let h : Graph = graph_of c.self.inside.failed c.find_matches.new.table k (rows_in r.filed) (part_by g.N.Analysis.codes c.self.inside.analysis c.self.inside.rounds c.self.inside.data) in
    let e = c.find_matches.ensures in
    ok-three_of c.find_matches.result e.finds e.valid e.variables
    (λ found finds valid variables p at. found-each h p found (found-of h k r inside.good inside.rests more refl refl p found (finds p at)) (each-within h k r inside.good inside.rests more refl refl tree found valid variables p at))

pub returns-clause-needs : goal.returns-clause-needs
returns-clause-needs g c =
    let inside = inside-of c.self.inside.table c.self.inside.store c.self.inside.nodes c.self.view_is c.if-self.false c.self.invariant in
    let more = fresh_slots-more c.self.inside.table c.find_matches.new.table c.self.inside.store c.find_matches.ensures.more inside.fresh in
    let tree = tree_of g.L.LanguageChildren.form c.args.pattern.now in
    let k = c.self.inside.store in
    let r = c.self.inside.nodes in
    let h : Graph = graph_of c.self.inside.failed c.find_matches.new.table k (rows_in r.filed) (part_by g.N.Analysis.codes c.self.inside.analysis c.self.inside.rounds c.self.inside.data) in
    let e = c.find_matches.ensures in
    elim e.takes [
      | inl s ↦ inl (s ∙ inside.table)
      | inr t ↦ inr (subst (λ u. TakesFor tree (FindsAll h) u c.find_matches.new.table) inside.table (takes-in tree (IsFound k r) (FindsAll h) (found-of h k r inside.good inside.rests more refl refl) c.self.inside.table c.find_matches.new.table t))
    ]

pub returns-clause-full : goal.returns-clause-full
returns-clause-full g c out =
    let inside = inside-of c.self.inside.table c.self.inside.store c.self.inside.nodes c.self.view_is c.if-self.false c.self.invariant in
    let more = fresh_slots-more c.self.inside.table c.find_matches.new.table c.self.inside.store c.find_matches.ensures.more inside.fresh in
    let tree = tree_of g.L.LanguageChildren.form c.args.pattern.now in
    let k = c.self.inside.store in
    let r = c.self.inside.nodes in
    let h : Graph = graph_of c.self.inside.failed c.find_matches.new.table k (rows_in r.filed) (part_by g.N.Analysis.codes c.self.inside.analysis c.self.inside.rounds c.self.inside.data) in
    let e = c.find_matches.ensures in
    elim (e.full out) [
      | inl w ↦ inl (wide-row h k r inside.good inside.rests more refl refl w)
      | inr w ↦ elim w [
        | inl n ↦ inr (inl n)
        | inr t ↦ inr (inr (subst (λ u. RunsOutFor tree (FindsAll h) u c.find_matches.new.table) inside.table (runs_out-in tree (IsFound k r) (FindsAll h) (found-of h k r inside.good inside.rests more refl refl) c.self.inside.table c.find_matches.new.table t)))
      ]
    ]
