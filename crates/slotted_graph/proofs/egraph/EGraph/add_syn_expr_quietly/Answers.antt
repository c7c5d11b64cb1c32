use Rattle.std.proofs.Common.{rules, ◌≡◌, ◌∙◌, ap, sym, subst, inl, inr, refl}
use Rattle.std.proofs.lemmas.Bool.{false≢true}
use Rattle.slotted_slots.specs.Table.{Table}
use Rattle.slotted_model.proofs.Represented.Ids.{id_of-iff}
use Rattle.slotted_terms.specs.Valid.{IsValidTerm}
use Rattle.slotted_operations.specs.Causes.{CanRunOutForTerm, IsUnknownTerm}
use Rattle.slotted_operations.specs.Good.{image_of}
use Rattle.slotted_operations.specs.Graph.{Graph}
use Rattle.slotted_operations.specs.Image.{Image}
use Rattle.slotted_hashcons.specs.FiledRows.{Rows, rows_in}
use Rattle.slotted_model.specs.Ids.{id_of}
use Rattle.std.specs.Prelude.{IsSome}
use Rattle.slotted_classes.specs.Kept.{nodes_of}
use Rattle.slotted_proofs.specs.Equations.{to_applied}
use Rattle.slotted_theory.specs.Nameless.{nameless}
use Rattle.slotted_operations.proofs.LookUps.FoundNames.{term_known}
use Rattle.slotted_graph.proofs.Insides.{data-inside, inside-of, rebuilt-by}
use Rattle.slotted_graph.proofs.Analysed.{carries-data, kept-part}
use Rattle.slotted_graph.proofs.egraph.EGraph.add_syn_expr_quietly.Goals as goal

pub returns-clause-valid : goal.returns-clause-valid
returns-clause-valid g c =
    let inside = inside-of c.self.inside.table c.self.inside.store c.self.inside.nodes c.self.view_is c.if-self.false c.self.invariant in
    let adds = c.in_ok-answer.ensures.ok in
    let valid : IsValidTerm c.self.inside.table c.args.term.now = elim c.requires [
      | inl h ↦ absurd (false≢true (sym c.if-self.false ∙ (ap (λ (x : Graph). x.failed) c.self.view_is ∙ h)))
      | inr v ↦ subst (λ (t : Table). IsValidTerm t c.args.term.now) (sym inside.table) v
    ] in
    record {
      full = adds.full;
      known = λ k d l. c.add_syn_expr.ensures.more _ (term_known (nodes_of c.add_syn_expr.new.store) adds.good.stored.sane.sound.canonical (to_applied c.in_ok-answer.answer) adds.full c.args.term.now adds.term c.self.inside.table valid.known k d l);
    }

pub returns-clause-found : goal.returns-clause-found
returns-clause-found g c =
    let adds = c.in_ok-answer.ensures.ok in
    (id_of-iff (nodes_of c.add_syn_expr.new.store) adds.good.stored.sane.sound.canonical (nameless c.args.term.now) (to_applied c.in_ok-answer.answer)).1 (adds.full, adds.term)

pub add_syn_expr-requires-clause-fresh_slots : goal.add_syn_expr-requires-clause-fresh_slots
add_syn_expr-requires-clause-fresh_slots g c = elim c.self.invariant [
  | inl h ↦ absurd (false≢true (sym c.if-self.false ∙ h))
  | inr h ↦ h.1
]

pub add_syn_expr-requires-clause-whole : goal.add_syn_expr-requires-clause-whole
add_syn_expr-requires-clause-whole g c = elim c.requires [
  | inl h ↦ absurd (false≢true (sym c.if-self.false ∙ (ap (λ (x : Graph). x.failed) c.self.view_is ∙ h)))
  | inr v ↦ v.whole
]

pub returns-clause-kept : goal.returns-clause-kept
returns-clause-kept g c some =
    let rested = data-inside g.N.Analysis.meaning c.self.inside.analysis c.if-self.false c.self.invariant in
    let k = c.self.inside.store in
    let r = c.self.inside.nodes in
    let h = c.args.self.now in
    let w = c.args.term.now in
    let image : image_of k ≡ h.image = ap (λ (x : Graph). x.image) c.self.view_is in
    let filed : rows_in r.filed ≡ h.filed = ap (λ (x : Graph). x.filed) c.self.view_is in
    let table : c.self.inside.table ≡ h.table = ap (λ (x : Graph). x.table) c.self.view_is in
    let same = c.in_ok-answer.ensures.ok.kept (subst (λ (x : Image). IsSome (id_of x.canonical (nameless w))) (sym image) some) in
    record {
      table = same.2 ∙ table;
      image = ap image_of same.0 ∙ image;
      filed = ap (λ (x : Rows). rows_in x.filed) same.1 ∙ filed;
      part = kept-part g.N.Analysis.codes g.N.Analysis.meaning c.self.inside.analysis c.self.inside.rounds k r c.self.inside.data rested c.add_syn_expr.new.store same.0 c.add_syn_expr.new.data c.in_ok-answer.ensures.still
          ∙ ap (λ (x : Graph). x.part) c.self.view_is;
    }

pub returns-in_err-answer-clause-unknown : goal.returns-in_err-answer-clause-unknown
returns-in_err-answer-clause-unknown g c e = subst (λ (x : Graph). IsUnknownTerm x.image c.args.term.now) c.self.view_is (c.in_err-answer.ensures.unknown (search rules))

pub add_syn_expr-requires-clause-since : goal.add_syn_expr-requires-clause-since
add_syn_expr-requires-clause-since g c = data-inside g.N.Analysis.meaning c.self.inside.analysis c.if-self.false c.self.invariant

pub returns-clause-carries : goal.returns-clause-carries
returns-clause-carries g c =
    let k = c.self.inside.store in
    let r = c.self.inside.nodes in
    let t = c.self.inside.table in
    let inside = inside-of t k r c.self.view_is c.if-self.false c.self.invariant in
    let rested = data-inside g.N.Analysis.meaning c.self.inside.analysis c.if-self.false c.self.invariant in
    carries-data g.N.Analysis.codes g.N.Analysis.meaning c.self.inside.analysis c.self.inside.rounds k r c.self.inside.data c.args.self.now inside.image (sym (ap (λ (x : Graph). x.part) c.self.view_is)) rested inside.filed c.add_syn_expr.new.store c.add_syn_expr.new.nodes c.add_syn_expr.new.data _ refl refl c.in_ok-answer.ensures.ok.goes_on c.in_ok-answer.ensures.carried

pub returns-in_err-answer-clause-full : goal.returns-in_err-answer-clause-full
returns-in_err-answer-clause-full g c e =
    subst (λ (x : Graph). CanRunOutForTerm x.image c.args.term.now x.table c.add_syn_expr.new.table) c.self.view_is (c.in_err-answer.ensures.full (search rules))

pub returns-clause-rests : goal.returns-clause-rests
returns-clause-rests g c =
    let ok = c.in_ok-answer.ensures.ok in
    inr (rebuilt-by c.add_syn_expr.new.table c.add_syn_expr.new.store c.add_syn_expr.new.nodes _ ok.good ok.fresh_slots ok.rests)
