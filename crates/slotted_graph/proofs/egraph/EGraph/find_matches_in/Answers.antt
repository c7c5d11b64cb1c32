-- A search over what is kept and filed has what the graph is asked for.
use Rattle.std.proofs.Common.{◌≡◌, ◌∙◌, ◌<◌, length, arith, ap, subst, sym, refl, inl, inr}
use Rattle.std.proofs.lemmas.Bool.{false≢true}
use Rattle.slotted_hashcons.specs.FiledRows.{rows_in}
use Rattle.slotted_data.specs.Part.{part_by}
use Rattle.slotted_operations.specs.Good.{graph_of, image_of}
use Rattle.slotted_operations.specs.Graph.{Graph}
use Rattle.slotted_operations.proofs.Graphs.FreshSlots.{fresh_slots-more}
use Rattle.slotted_operations.proofs.Graphs.Finds.{good-finds}
use Rattle.slotted_operations.proofs.Graphs.AtRest.{at-rest}
use Rattle.slotted_patterns.specs.View.{tree_of}
use Rattle.slotted_patterns.specs.Known.{HasKnownNames}
use Rattle.slotted_proofs.specs.Equations.{to_applied}
use Rattle.slotted_classes.proofs.KeptLists.{length-nodes_of}
use Rattle.slotted_operations.specs.Causes.{class_found}
use Rattle.slotted_operations.specs.ValidIds.{IsValidId}
use Rattle.slotted_operations.proofs.Graphs.Images.{class_found-is}
use Rattle.slotted_operations.proofs.Ids.ValidIds.{findable-within, of-valid}
use Rattle.slotted_matching.specs.Found.{IsFoundAt, RunsOutFor, TakesFor}
use Rattle.slotted_matching.proofs.Finding.{ok-mapped}
use Rattle.slotted_graph.specs.Matching.{FindsAllAt}
use Rattle.slotted_graph.proofs.Matching.{live-class, readings-each, readings-looked_up}
use Rattle.slotted_graph.proofs.Finds.{found-at_of, valid-of, each-valid, each-within, wide-row, takes-in, runs_out-in, ok-three_of}
use Rattle.slotted_graph.proofs.Insides.{inside-of, given}
use Rattle.slotted_graph.proofs.egraph.EGraph.find_matches_in.Goals as goal

pub find_matches_at-requires-clause-good : goal.find_matches_at-requires-clause-good
find_matches_at-requires-clause-good g c =
    let inside = inside-of c.self.inside.table c.self.inside.store c.self.inside.nodes c.self.view_is c.if-self.false c.self.invariant in
    inside.rests.filed

pub find_matches_at-requires-clause-links : goal.find_matches_at-requires-clause-links
find_matches_at-requires-clause-links g c =
    let inside = inside-of c.self.inside.table c.self.inside.store c.self.inside.nodes c.self.view_is c.if-self.false c.self.invariant in
    good-finds c.self.inside.store inside.good

pub find_matches_at-requires-clause-rests : goal.find_matches_at-requires-clause-rests
find_matches_at-requires-clause-rests g c =
    let inside = inside-of c.self.inside.table c.self.inside.store c.self.inside.nodes c.self.view_is c.if-self.false c.self.invariant in
    at-rest c.self.inside.store c.self.inside.nodes inside.good inside.rests

pub find_matches_at-requires-clause-index : goal.find_matches_at-requires-clause-index
find_matches_at-requires-clause-index g c =
    (given c.if-self.false c.self.invariant).3

pub find_matches_at-requires-clause-known : goal.find_matches_at-requires-clause-known
find_matches_at-requires-clause-known g c =
    elim c.requires.known [
      | inl e ↦ absurd (false≢true (sym c.if-self.false ∙ (ap (λ (x : Graph). x.failed) c.self.view_is ∙ e)))
      | inr v ↦ subst (λ (x : Graph). HasKnownNames x.table (tree_of g.L.LanguageChildren.form c.args.pattern.now)) (sym c.self.view_is) v
    ]

pub invariant_of-self : goal.invariant_of-self
invariant_of-self g c =
    elim c.self.invariant [
      | inl h ↦ inl h
      | inr h ↦ inr (h.0, fresh_slots-more c.self.inside.table c.find_matches_at.new.table c.self.inside.store c.find_matches_at.ensures.more h.1, h.2, c.find_matches_at.ensures.index, h.4)
    ]

pub find_class-requires-clause-good : goal.find_class-requires-clause-good
find_class-requires-clause-good g c =
    let inside = inside-of c.self.inside.table c.self.inside.store c.self.inside.nodes c.self.view_is c.if-self.false c.self.invariant in
    good-finds c.self.inside.store inside.good

pub find_class-requires-clause-within : goal.find_class-requires-clause-within
find_class-requires-clause-within g c =
    let inside = inside-of c.self.inside.table c.self.inside.store c.self.inside.nodes c.self.view_is c.if-self.false c.self.invariant in
    let graph = c.args.self.now in
    let a = to_applied c.args.id.now in
    let valid : IsValidId graph a = given inside.failed c.requires.valid in
    let within = findable-within c.self.inside.store a (of-valid c.self.inside.store inside.good graph inside.image a valid) in
    within

pub returns-clause-finds : goal.returns-clause-finds
returns-clause-finds g c =
    let inside = inside-of c.self.inside.table c.self.inside.store c.self.inside.nodes c.self.view_is c.if-self.false c.self.invariant in
    let more = fresh_slots-more c.self.inside.table c.find_matches_at.new.table c.self.inside.store c.find_matches_at.ensures.more inside.fresh in
    let tree = tree_of g.L.LanguageChildren.form c.args.pattern.now in
    let k = c.self.inside.store in
    let r = c.self.inside.nodes in
    let h : Graph = graph_of c.self.inside.failed c.find_matches_at.new.table k (rows_in r.filed) (part_by g.N.Analysis.codes c.self.inside.analysis c.self.inside.rounds c.self.inside.data) in
    let e = c.find_matches_at.ensures in
    let graph = c.args.self.now in
    let a = to_applied c.args.id.now in
    let valid : IsValidId graph a = given inside.failed c.requires.valid in
    let within = findable-within c.self.inside.store a (of-valid c.self.inside.store inside.good graph inside.image a valid) in
    let d = class_found (image_of k) c.args.id.now.id.0 in
    let same : c.find_class.result ≡ d = c.find_class.ensures.class ∙ sym (class_found-is k c.args.id.now.id.0 within) in
    ok-mapped c.find_matches_at.result e.finds (λ found finds p at. found-at_of h k r inside.good inside.rests more refl refl c.find_class.result d same p found (finds p at))

pub returns-clause-valid : goal.returns-clause-valid
returns-clause-valid g c =
    let inside = inside-of c.self.inside.table c.self.inside.store c.self.inside.nodes c.self.view_is c.if-self.false c.self.invariant in
    let more = fresh_slots-more c.self.inside.table c.find_matches_at.new.table c.self.inside.store c.find_matches_at.ensures.more inside.fresh in
    let tree = tree_of g.L.LanguageChildren.form c.args.pattern.now in
    let k = c.self.inside.store in
    let r = c.self.inside.nodes in
    let h : Graph = graph_of c.self.inside.failed c.find_matches_at.new.table k (rows_in r.filed) (part_by g.N.Analysis.codes c.self.inside.analysis c.self.inside.rounds c.self.inside.data) in
    let e = c.find_matches_at.ensures in
    ok-mapped c.find_matches_at.result e.valid (λ found valid. valid-of h k r inside.good inside.rests more refl refl tree found valid)

pub returns-clause-looked_up : goal.returns-clause-looked_up
returns-clause-looked_up g c =
    let inside = inside-of c.self.inside.table c.self.inside.store c.self.inside.nodes c.self.view_is c.if-self.false c.self.invariant in
    let more = fresh_slots-more c.self.inside.table c.find_matches_at.new.table c.self.inside.store c.find_matches_at.ensures.more inside.fresh in
    let tree = tree_of g.L.LanguageChildren.form c.args.pattern.now in
    let k = c.self.inside.store in
    let r = c.self.inside.nodes in
    let h : Graph = graph_of c.self.inside.failed c.find_matches_at.new.table k (rows_in r.filed) (part_by g.N.Analysis.codes c.self.inside.analysis c.self.inside.rounds c.self.inside.data) in
    let e = c.find_matches_at.ensures in
    let graph = c.args.self.now in
    let a = to_applied c.args.id.now in
    let valid : IsValidId graph a = given inside.failed c.requires.valid in
    let within = findable-within c.self.inside.store a (of-valid c.self.inside.store inside.good graph inside.image a valid) in
    let d = class_found (image_of k) c.args.id.now.id.0 in
    let same : c.find_class.result ≡ d = c.find_class.ensures.class ∙ sym (class_found-is k c.args.id.now.id.0 within) in
    let in_range = subst (λ n. n < length (image_of k).canonical) same (omega (arith, c.find_class.ensures.within, length-nodes_of k)) in
    let lives : class_found (image_of k) d ≡ d = subst (λ n. class_found (image_of k) n ≡ n) same (class_found-is k c.find_class.result c.find_class.ensures.within ∙ live-class k inside.good c.find_class.result c.find_class.ensures.within c.find_class.ensures.live) in
    ok-three_of c.find_matches_at.result e.finds e.valid e.variables
    (λ found finds valid variables p at s i. readings-looked_up h p d found (found-at_of h k r inside.good inside.rests more refl refl c.find_class.result d same p found (finds p at)) in_range lives s i (each-valid h k r inside.good inside.rests more refl refl tree found valid variables p at s i))

pub returns-clause-each : goal.returns-clause-each
returns-clause-each g c =
    let inside = inside-of c.self.inside.table c.self.inside.store c.self.inside.nodes c.self.view_is c.if-self.false c.self.invariant in
    let more = fresh_slots-more c.self.inside.table c.find_matches_at.new.table c.self.inside.store c.find_matches_at.ensures.more inside.fresh in
    let tree = tree_of g.L.LanguageChildren.form c.args.pattern.now in
    let k = c.self.inside.store in
    let r = c.self.inside.nodes in
    let h : Graph = graph_of c.self.inside.failed c.find_matches_at.new.table k (rows_in r.filed) (part_by g.N.Analysis.codes c.self.inside.analysis c.self.inside.rounds c.self.inside.data) in
    let e = c.find_matches_at.ensures in
    let graph = c.args.self.now in
    let a = to_applied c.args.id.now in
    let valid : IsValidId graph a = given inside.failed c.requires.valid in
    let within = findable-within c.self.inside.store a (of-valid c.self.inside.store inside.good graph inside.image a valid) in
    let d = class_found (image_of k) c.args.id.now.id.0 in
    let same : c.find_class.result ≡ d = c.find_class.ensures.class ∙ sym (class_found-is k c.args.id.now.id.0 within) in
    ok-three_of c.find_matches_at.result e.finds e.valid e.variables
    (λ found finds valid variables p at. readings-each h p d found (found-at_of h k r inside.good inside.rests more refl refl c.find_class.result d same p found (finds p at)) (each-within h k r inside.good inside.rests more refl refl tree found valid variables p at))

pub returns-clause-needs : goal.returns-clause-needs
returns-clause-needs g c =
    let inside = inside-of c.self.inside.table c.self.inside.store c.self.inside.nodes c.self.view_is c.if-self.false c.self.invariant in
    let more = fresh_slots-more c.self.inside.table c.find_matches_at.new.table c.self.inside.store c.find_matches_at.ensures.more inside.fresh in
    let tree = tree_of g.L.LanguageChildren.form c.args.pattern.now in
    let k = c.self.inside.store in
    let r = c.self.inside.nodes in
    let h : Graph = graph_of c.self.inside.failed c.find_matches_at.new.table k (rows_in r.filed) (part_by g.N.Analysis.codes c.self.inside.analysis c.self.inside.rounds c.self.inside.data) in
    let e = c.find_matches_at.ensures in
    let graph = c.args.self.now in
    let a = to_applied c.args.id.now in
    let valid : IsValidId graph a = given inside.failed c.requires.valid in
    let within = findable-within c.self.inside.store a (of-valid c.self.inside.store inside.good graph inside.image a valid) in
    let d = class_found (image_of k) c.args.id.now.id.0 in
    let same : c.find_class.result ≡ d = c.find_class.ensures.class ∙ sym (class_found-is k c.args.id.now.id.0 within) in
    elim e.takes [
      | inl s ↦ inl (s ∙ inside.table)
      | inr t ↦ inr (subst (λ u. TakesFor tree (FindsAllAt h d) u c.find_matches_at.new.table) inside.table (takes-in tree (IsFoundAt k r c.find_class.result) (FindsAllAt h d) (found-at_of h k r inside.good inside.rests more refl refl c.find_class.result d same) c.self.inside.table c.find_matches_at.new.table t))
    ]

pub returns-clause-full : goal.returns-clause-full
returns-clause-full g c out =
    let inside = inside-of c.self.inside.table c.self.inside.store c.self.inside.nodes c.self.view_is c.if-self.false c.self.invariant in
    let more = fresh_slots-more c.self.inside.table c.find_matches_at.new.table c.self.inside.store c.find_matches_at.ensures.more inside.fresh in
    let tree = tree_of g.L.LanguageChildren.form c.args.pattern.now in
    let k = c.self.inside.store in
    let r = c.self.inside.nodes in
    let h : Graph = graph_of c.self.inside.failed c.find_matches_at.new.table k (rows_in r.filed) (part_by g.N.Analysis.codes c.self.inside.analysis c.self.inside.rounds c.self.inside.data) in
    let e = c.find_matches_at.ensures in
    let graph = c.args.self.now in
    let a = to_applied c.args.id.now in
    let valid : IsValidId graph a = given inside.failed c.requires.valid in
    let within = findable-within c.self.inside.store a (of-valid c.self.inside.store inside.good graph inside.image a valid) in
    let d = class_found (image_of k) c.args.id.now.id.0 in
    let same : c.find_class.result ≡ d = c.find_class.ensures.class ∙ sym (class_found-is k c.args.id.now.id.0 within) in
    elim (e.full out) [
      | inl w ↦ inl (wide-row h k r inside.good inside.rests more refl refl w)
      | inr w ↦ elim w [
        | inl n ↦ inr (inl n)
        | inr t ↦ inr (inr (subst (λ u. RunsOutFor tree (FindsAllAt h d) u c.find_matches_at.new.table) inside.table (runs_out-in tree (IsFoundAt k r c.find_class.result) (FindsAllAt h d) (found-at_of h k r inside.good inside.rests more refl refl c.find_class.result d same) c.self.inside.table c.find_matches_at.new.table t)))
      ]
    ]
