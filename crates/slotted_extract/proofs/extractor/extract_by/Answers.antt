-- Each class that is found has an entry.
use Rattle.std.proofs.Common.{◌≡◌, ◌∙◌, Ok, Err, ap, sym, subst, false, inl, inr}
use Rattle.std.specs.Prelude.{◌⊎◌, IfErr, IsErrOf, IsTrue, Result}
use Rattle.slotted_slots.specs.Error.{IsShortage}
use Rattle.slotted_slots.specs.declared.error.Error.{Error}
use Rattle.slotted_slots.specs.declared.error.Error.TheVariants.{Failed}
use Rattle.slotted_languages.proofs.HandedOn.{error_or, handed_err, handed_on, not_refused, slots_handed}
use Rattle.slotted_costs.specs.Costs.{costs_by, MayRefuse}
use Rattle.slotted_proofs.specs.Equations.{to_applied}
use Rattle.slotted_graph.specs.Graph.{Graph}
use Rattle.slotted_graph.specs.LeastTerms.{IsExtracted, LacksEntry, MakesForExtracted, RunsOutForExtracted}
use Rattle.slotted_extract.proofs.FoundEntries.{lacks-none, valid-unless, without-unknown}
use Rattle.slotted_extract.proofs.extractor.extract_by.Goals as goal

never-failed : (refuses : Error → Type 0) → ¬ refuses Failed → (e : Error) → MayRefuse refuses e → ¬ (e ≡ Failed)
never-failed refuses never e (inl memory) is = cc
never-failed refuses never e (inr refused) is = never (subst refuses is refused)

pub returns-in_err-term-clause-full : goal.returns-in_err-term-clause-full
returns-in_err-term-clause-full g c is =
    let form = g.L.LanguageChildren.form in
    let a = to_applied c.args.i.now in
    let es = c.in_ok-extractor.extractor.terms.entries.items in
    let r = c.from_residual-in_err-term in
    inr (record {
      entries = es;
      least = c.in_ok-extractor.ensures.least;
      runs_out = subst (λ (x : Graph). RunsOutForExtracted form es a x c.extract.new.eg) c.in_ok-extractor.ensures.same (c.in_err-term.ensures.full (slots_handed r.result c.in_err-term.field-0.0 r.ensures.1 is));
    })

pub returns-in_err-term-clause-only : goal.returns-in_err-term-clause-only
returns-in_err-term-clause-only g c =
    let form = g.L.LanguageChildren.form in
    let eg = c.args.eg.now in
    let a = to_applied c.args.i.now in
    let costs = costs_by g.CF.Cost.Ord.cmp (g.CF.CostFunction.node_cost c.args.costs) in
    let es = c.in_ok-extractor.extractor.terms.entries.items in
    let same = c.in_ok-extractor.ensures.same in
    let r = c.from_residual-in_err-term in
    let e = c.in_err-term.field-0.0 in
    let Q : Error → Type 0 = λ x. IsShortage x ⊎ MayRefuse g.CF.CostFunction.refuses x in
    handed_err r.result e r.ensures.1 (λ x. (x ≡ Failed) ⊎ Q x) (without-unknown Q (Err e) (λ x s. inl s) c.in_err-term.ensures.only (λ u.
    let h = c.in_err-term.ensures.unknown.0 u in
    let sound : eg.failed ≡ false = sym (ap (λ (x : Graph). x.failed) same) ∙ h.0 in
    lacks-none form eg costs es c.in_ok-extractor.ensures.least a (valid-unless eg a c.requires sound) (subst (λ (x : Graph). LacksEntry x es a) same h.1)))

pub returns-in_err-cost-clause-count : goal.returns-in_err-cost-clause-count
returns-in_err-cost-clause-count g c =
    let a = to_applied c.args.i.now in
    let es = c.in_ok-extractor.extractor.terms.entries.items in
    inr (record {
      entries = es;
      least = c.in_ok-extractor.ensures.least;
      makes = subst (λ (x : Graph). MakesForExtracted g.L.LanguageChildren.form es a x c.extract.new.eg) c.in_ok-extractor.ensures.same c.in_ok-term.ensures.count;
    })

pub returns-in_err-cost-clause-failed : goal.returns-in_err-cost-clause-failed
returns-in_err-cost-clause-failed g c =
    let r = c.from_residual-in_err-cost in
    let e = c.in_err-cost.field-0.0 in (
      λ is. absurd (never-failed g.CF.CostFunction.refuses g.met.CF.CostFunction.never_failed e c.in_err-cost.ensures.err (ap (error_or e) (sym (handed_on r.result e r.ensures.1) ∙ is))),
      λ f. not_refused c.in_ok-extractor.extractor (c.in_ok-extractor.ensures.failed.1 f),
    )

pub returns-clause-least : goal.returns-clause-least
returns-clause-least g c =
    let form = g.L.LanguageChildren.form in
    let a = to_applied c.args.i.now in
    let costs = costs_by g.CF.Cost.Ord.cmp (g.CF.CostFunction.node_cost c.args.costs) in
    let es = c.in_ok-extractor.extractor.terms.entries.items in
    let extracted : IsExtracted form c.args.eg.now es a c.in_ok-term.term = subst (λ (x : Graph). IsExtracted form x es a c.in_ok-term.term) c.in_ok-extractor.ensures.same c.in_ok-term.ensures.least in
    (extracted costs c.in_ok-extractor.ensures.least).0

pub returns-clause-count : goal.returns-clause-count
returns-clause-count g c =
    let a = to_applied c.args.i.now in
    let es = c.in_ok-extractor.extractor.terms.entries.items in
    inr (record {
      entries = es;
      least = c.in_ok-extractor.ensures.least;
      makes = subst (λ (x : Graph). MakesForExtracted g.L.LanguageChildren.form es a x c.extract.new.eg) c.in_ok-extractor.ensures.same c.in_ok-term.ensures.count;
    })
