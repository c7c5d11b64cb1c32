use Rattle.std.proofs.Common.{◌≡◌, ◌∙◌, ap, subst, sym, inl, inr}
use Rattle.std.specs.Prelude.{IfOk}
use Rattle.std.proofs.lemmas.Result.{IfOk-weaker}
use Rattle.slotted_slots.specs.Maps.{values}
use Rattle.slotted_model.specs.Find.{find, find_class}
use Rattle.slotted_proofs.specs.Equations.{to_applied}
use Rattle.slotted_classes.specs.Finding.{IsFindable}
use Rattle.slotted_classes.specs.Kept.{entries_of}
use Rattle.slotted_operations.specs.Causes.{class_found}
use Rattle.slotted_operations.specs.Graph.{Graph, MakesAtMost}
use Rattle.slotted_operations.specs.Image.{Image, found_id}
use Rattle.slotted_operations.specs.ValidIds.{IsValidId}
use Rattle.slotted_operations.proofs.Graphs.FreshSlots.{fresh_slots-more}
use Rattle.slotted_operations.proofs.Graphs.Images.{class_found-is, found_id-is}
use Rattle.slotted_operations.proofs.Ids.ValidIds.{findable-within, of-valid}
use Rattle.slotted_graph.specs.Terms.{IsFreshTerm, IsMade, RunsOutWith, entry_at, slots_for}
use Rattle.slotted_graph.specs.LeastTerms.{IsExtracted}
use Rattle.slotted_graph.proofs.MadeOfEntries.{made-extracted}
use Rattle.slotted_graph.proofs.Insides.{inside-of, given}
use Rattle.slotted_graph.proofs.egraph.EGraph.least_term.Goals as goal

pub extract-requires-clause-findable : goal.extract-requires-clause-findable
extract-requires-clause-findable l c =
    let g = c.args.self.now in
    let k = c.self.inside.store in
    let inside = inside-of c.self.inside.table k c.self.inside.nodes c.self.view_is c.if-self.false c.self.invariant in
    let valid : IsValidId g (to_applied c.args.a.now) = given inside.failed c.requires in
    of-valid k inside.good g inside.image (to_applied c.args.a.now) valid

pub invariant_of-self : goal.invariant_of-self
invariant_of-self g c = elim c.self.invariant [
  | inl h ↦ inl h
  | inr h ↦ inr (h.0, fresh_slots-more c.self.inside.table c.extract.new.table c.self.inside.store c.extract.ensures.more h.1, h.2, h.3, h.4)
]

pub returns-clause-least : goal.returns-clause-least
returns-clause-least l c =
    let form = l.L.LanguageChildren.form in
    let g = c.args.self.now in
    let k = c.self.inside.store in
    let inside = inside-of c.self.inside.table k c.self.inside.nodes c.self.view_is c.if-self.false c.self.invariant in
    let a = to_applied c.args.a.now in
    let es = c.args.terms.now.entries.items in
    let valid : IsValidId g a = given inside.failed c.requires in
    let findable : IsFindable k a = of-valid k inside.good g inside.image a valid in
    IfOk-weaker c.extract.result (IsMade form es (find (entries_of k) a)) (IsExtracted form g es a) (λ t made. made-extracted form k g inside.image es a findable valid t made) c.extract.ensures.made

pub returns-clause-made : goal.returns-clause-made
returns-clause-made l c =
    let form = l.L.LanguageChildren.form in
    let g = c.args.self.now in
    let k = c.self.inside.store in
    let inside = inside-of c.self.inside.table k c.self.inside.nodes c.self.view_is c.if-self.false c.self.invariant in
    let a = to_applied c.args.a.now in
    let es = c.args.terms.now.entries.items in
    let valid : IsValidId g a = given inside.failed c.requires in
    let findable : IsFindable k a = of-valid k inside.good g inside.image a valid in
    let found : find (entries_of k) a ≡ found_id g.image a = sym (found_id-is k a (findable-within k a findable)) ∙ ap (λ (i : Image). found_id i a) inside.image in
    subst (λ b. IfOk c.extract.result (IsMade form es b)) found c.extract.ensures.made

pub returns-clause-unknown : goal.returns-clause-unknown
returns-clause-unknown l c =
    let g = c.args.self.now in
    let k = c.self.inside.store in
    let inside = inside-of c.self.inside.table k c.self.inside.nodes c.self.view_is c.if-self.false c.self.invariant in
    let a = to_applied c.args.a.now in
    let es = c.args.terms.now.entries.items in
    let valid : IsValidId g a = given inside.failed c.requires in
    let findable : IsFindable k a = of-valid k inside.good g inside.image a valid in
    let class : class_found g.image a.0 ≡ find_class (entries_of k) a.0 = ap (λ (i : Image). class_found i a.0) (sym inside.image) ∙ class_found-is k a.0 (findable-within k a findable) in
    let sound = sym (ap (λ (x : Graph). x.failed) c.self.view_is) ∙ c.if-self.false in
    (λ e. (sound, ap (entry_at es) class ∙ c.extract.ensures.unknown.0 e), λ h. c.extract.ensures.unknown.1 (ap (entry_at es) (sym class) ∙ h.1))

pub returns-clause-fresh : goal.returns-clause-fresh
returns-clause-fresh l c =
    let vs = values c.args.a.now.m in
    subst (λ (x : Graph). IfOk c.extract.result (IsFreshTerm x.table vs)) c.self.view_is c.extract.ensures.fresh

pub returns-clause-count : goal.returns-clause-count
returns-clause-count l c =
    let form = l.L.LanguageChildren.form in
    let g = c.args.self.now in
    let k = c.self.inside.store in
    let inside = inside-of c.self.inside.table k c.self.inside.nodes c.self.view_is c.if-self.false c.self.invariant in
    let a = to_applied c.args.a.now in
    let es = c.args.terms.now.entries.items in
    let valid : IsValidId g a = given inside.failed c.requires in
    let findable : IsFindable k a = of-valid k inside.good g inside.image a valid in
    let class : class_found g.image a.0 ≡ find_class (entries_of k) a.0 = ap (λ (i : Image). class_found i a.0) (sym inside.image) ∙ class_found-is k a.0 (findable-within k a findable) in
    let u = c.extract.new.table in
    subst (λ i. MakesAtMost (slots_for form es i) g.table u) (sym class)
    (subst (λ (x : Graph). MakesAtMost (slots_for form es (find_class (entries_of k) a.0)) x.table u) c.self.view_is c.extract.ensures.count)

pub returns-clause-full : goal.returns-clause-full
returns-clause-full l c e =
    let form = l.L.LanguageChildren.form in
    let g = c.args.self.now in
    let k = c.self.inside.store in
    let inside = inside-of c.self.inside.table k c.self.inside.nodes c.self.view_is c.if-self.false c.self.invariant in
    let a = to_applied c.args.a.now in
    let es = c.args.terms.now.entries.items in
    let valid : IsValidId g a = given inside.failed c.requires in
    let findable : IsFindable k a = of-valid k inside.good g inside.image a valid in
    let class : class_found g.image a.0 ≡ find_class (entries_of k) a.0 = ap (λ (i : Image). class_found i a.0) (sym inside.image) ∙ class_found-is k a.0 (findable-within k a findable) in
    let u = c.extract.new.table in
    subst (λ i. RunsOutWith form es (slots_for form es i) g.table u) (sym class)
    (subst (λ (x : Graph). RunsOutWith form es (slots_for form es (find_class (entries_of k) a.0)) x.table u) c.self.view_is (c.extract.ensures.full e))
