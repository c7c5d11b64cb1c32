use Rattle.std.proofs.Common.{◌∙◌, sym, subst, rules, inr}
use Rattle.std.specs.Prelude.{IfOk}
use Rattle.slotted_model.specs.Classes.{IsFull}
use Rattle.slotted_proofs.specs.Equations.{to_applied}
use Rattle.slotted_operations.specs.Causes.{HasLargeClassOf}
use Rattle.slotted_operations.specs.Explaining.{AddsTerms, AnswersIds}
use Rattle.slotted_operations.specs.Good.{image_of}
use Rattle.slotted_operations.specs.Image.{FoundAlike, Image}
use Rattle.slotted_operations.proofs.Unions.Explanations.{explains-ids}
use Rattle.slotted_operations.proofs.Unions.WholeUnions.{large-class_of}
use Rattle.slotted_graph.proofs.Analysed.{data-proved}
use Rattle.slotted_graph.proofs.Indexes.{no-index}
use Rattle.slotted_graph.proofs.Insides.{data-inside, given, inside-of, rebuilt-by}
use Rattle.slotted_graph.proofs.egraph.EGraph.explain_ids.Goals as goal
use Rattle.slotted_graph.proofs.egraph.EGraph.explain_ids.Goals.{in-Some, in-None}

pub returns-in_err-answer-clause-full : goal.returns-in_err-answer-clause-full
returns-in_err-answer-clause-full g c e =
    let k = c.self.inside.store in
    let inside = inside-of c.self.inside.table k c.self.inside.nodes c.self.view_is c.if-self.false c.self.invariant in
    let a = to_applied c.args.a.now in
    let b = to_applied c.args.b.now in
    let left = subst (λ (x : Image). IsFull x.canonical a) (sym inside.image) (given inside.failed c.requires.left).full in
    let right = subst (λ (x : Image). IsFull x.canonical b) (sym inside.image) (given inside.failed c.requires.right).full in
    subst (λ (x : Image). HasLargeClassOf x a b) inside.image (large-class_of k a b left right (c.in_err-answer.ensures.full (search rules)))

pub invariant_of-self-2 : goal.invariant_of-self-2
invariant_of-self-2 g c =
    let k = c.self.inside.store in
    let t = c.self.inside.table in
    let r = c.self.inside.nodes in
    let l = c.explain_ids.new.store in
    let inside = inside-of t k r c.self.view_is c.if-self.false c.self.invariant in
    let a = to_applied c.args.a.now in
    let b = to_applied c.args.b.now in
    let left = subst (λ (x : Image). IsFull x.canonical a) (sym inside.image) (given inside.failed c.requires.left).full in
    let right = subst (λ (x : Image). IsFull x.canonical b) (sym inside.image) (given inside.failed c.requires.right).full in
    let ids = explains-ids k r inside.good inside.rests t inside.fresh a b left right l c.in_ok-answer.answer c.in_ok-answer.ensures.ok in
    inr (
      ids.good,
      ids.fresh_slots,
      ids.rests,
      no-index _ c.clear.new.self.indexed c.clear.ensures,
      data-proved (g.N.Analysis.meaning c.self.inside.analysis) k l r c.self.inside.data a b c.in_ok-answer.answer c.in_ok-answer.ensures.ok ids.good ids.rests
          (data-inside g.N.Analysis.meaning c.self.inside.analysis c.if-self.false c.self.invariant),
    )

pub returns-clause-alike : goal.returns-clause-alike
returns-clause-alike g c =
    let k = c.self.inside.store in
    let inside = inside-of c.self.inside.table k c.self.inside.nodes c.self.view_is c.if-self.false c.self.invariant in
    let a = to_applied c.args.a.now in
    let b = to_applied c.args.b.now in
    let left = subst (λ (x : Image). IsFull x.canonical a) (sym inside.image) (given inside.failed c.requires.left).full in
    let right = subst (λ (x : Image). IsFull x.canonical b) (sym inside.image) (given inside.failed c.requires.right).full in
    let ids = explains-ids k c.self.inside.nodes inside.good inside.rests c.self.inside.table inside.fresh a b left right c.explain_ids.new.store c.in_ok-answer.answer c.in_ok-answer.ensures.ok in
    elim c.match-answer.branch [
      | in-Some w ↦
          let alike = subst (AnswersIds (image_of k) (image_of c.explain_ids.new.store) a b) w.in-Some.is ids.answers in
          subst (λ z. IfOk z (λ _. FoundAlike c.args.self.now.image a b)) (sym w.result-is) (subst (λ (x : Image). FoundAlike x a b) inside.image alike.0)
      | in-None w ↦ subst (λ z. IfOk z (λ _. FoundAlike c.args.self.now.image a b)) (sym w.result-is) tt
    ]

pub returns-clause-not_equal : goal.returns-clause-not_equal
returns-clause-not_equal g c e =
    let k = c.self.inside.store in
    let inside = inside-of c.self.inside.table k c.self.inside.nodes c.self.view_is c.if-self.false c.self.invariant in
    let a = to_applied c.args.a.now in
    let b = to_applied c.args.b.now in
    let left = subst (λ (x : Image). IsFull x.canonical a) (sym inside.image) (given inside.failed c.requires.left).full in
    let right = subst (λ (x : Image). IsFull x.canonical b) (sym inside.image) (given inside.failed c.requires.right).full in
    let ids = explains-ids k c.self.inside.nodes inside.good inside.rests c.self.inside.table inside.fresh a b left right c.explain_ids.new.store c.in_ok-answer.answer c.in_ok-answer.ensures.ok in
    elim c.match-answer.branch [
      | in-Some w ↦ absurd (search (rules, sym w.result-is ∙ e))
      | in-None w ↦ λ alike. subst (AnswersIds (image_of k) (image_of c.explain_ids.new.store) a b) w.in-None.is ids.answers (subst (λ (x : Image). FoundAlike x a b) (sym inside.image) alike)
    ]

pub returns-clause-adds : goal.returns-clause-adds
returns-clause-adds g c =
    let k = c.self.inside.store in
    let inside = inside-of c.self.inside.table k c.self.inside.nodes c.self.view_is c.if-self.false c.self.invariant in
    let a = to_applied c.args.a.now in
    let b = to_applied c.args.b.now in
    let left = subst (λ (x : Image). IsFull x.canonical a) (sym inside.image) (given inside.failed c.requires.left).full in
    let right = subst (λ (x : Image). IsFull x.canonical b) (sym inside.image) (given inside.failed c.requires.right).full in
    let ids = explains-ids k c.self.inside.nodes inside.good inside.rests c.self.inside.table inside.fresh a b left right c.explain_ids.new.store c.in_ok-answer.answer c.in_ok-answer.ensures.ok in
    inr (subst (λ (x : Image). AddsTerms x (image_of c.explain_ids.new.store)) inside.image ids.adds)

pub returns-clause-rests : goal.returns-clause-rests
returns-clause-rests g c =
    let k = c.self.inside.store in
    let t = c.self.inside.table in
    let r = c.self.inside.nodes in
    let inside = inside-of t k r c.self.view_is c.if-self.false c.self.invariant in
    let a = to_applied c.args.a.now in
    let b = to_applied c.args.b.now in
    let left = subst (λ (x : Image). IsFull x.canonical a) (sym inside.image) (given inside.failed c.requires.left).full in
    let right = subst (λ (x : Image). IsFull x.canonical b) (sym inside.image) (given inside.failed c.requires.right).full in
    let ids = explains-ids k r inside.good inside.rests t inside.fresh a b left right c.explain_ids.new.store c.in_ok-answer.answer c.in_ok-answer.ensures.ok in
    inr (rebuilt-by t c.explain_ids.new.store r _ ids.good ids.fresh_slots ids.rests)
