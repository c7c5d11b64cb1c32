-- Each class that is found has an entry.
use Rattle.std.proofs.Common.{◌≡◌, ◌∙◌, ap, sym, subst, false, inl, inr}
use Rattle.std.specs.Prelude.{◌⊎◌, IfOk}
use Rattle.std.proofs.lemmas.Result.{IfOk-weaker}
use Rattle.slotted_slots.specs.Error.{IsShortage}
use Rattle.slotted_costs.specs.Costs.{costs_by, MayRefuse}
use Rattle.slotted_proofs.specs.Equations.{to_applied}
use Rattle.slotted_graph.specs.Graph.{Graph}
use Rattle.slotted_graph.specs.LeastTerms.{IsExtracted, IsLeastTerm, IsMadeOf, IsOfChosen, LacksEntry, MakesForExtracted, RunsOutForExtracted}
use Rattle.slotted_extract.proofs.FoundEntries.{lacks-none, least-chosen, valid-unless, without-unknown}
use Rattle.slotted_extract.proofs.extractor.extract.Goals as goal

pub returns-clause-only : goal.returns-clause-only
returns-clause-only g c =
    let form = g.L.LanguageChildren.form in
    let eg = c.args.eg.now in
    let a = to_applied c.args.i.now in
    let es = c.in_ok-extractor.extractor.terms.entries.items in
    let same = c.in_ok-extractor.ensures.same in
    without-unknown (λ e. IsShortage e ⊎ MayRefuse g.CF.CostFunction.refuses e) c.extract.result (λ e s. inl s) c.extract.ensures.only (λ e.
    let h = c.extract.ensures.unknown.0 e in
    let sound : eg.failed ≡ false = sym (ap (λ (x : Graph). x.failed) same) ∙ h.0 in
    lacks-none form eg (costs_by g.CF.Cost.Ord.cmp (g.CF.CostFunction.node_cost c.default.result)) es c.in_ok-extractor.ensures.least a (valid-unless eg a c.requires sound) (subst (λ (x : Graph). LacksEntry x es a) same h.1))

pub returns-clause-count : goal.returns-clause-count
returns-clause-count g c =
    let form = g.L.LanguageChildren.form in
    let a = to_applied c.args.i.now in
    let es = c.in_ok-extractor.extractor.terms.entries.items in
    inr (
      c.default.result,
      c.default.ensures,
      record {
        entries = es;
        least = c.in_ok-extractor.ensures.least;
        makes = subst (λ (x : Graph). MakesForExtracted form es a x c.extract.new.eg) c.in_ok-extractor.ensures.same c.extract.ensures.count;
      },
    )

pub returns-clause-full : goal.returns-clause-full
returns-clause-full g c e =
    let form = g.L.LanguageChildren.form in
    let a = to_applied c.args.i.now in
    let es = c.in_ok-extractor.extractor.terms.entries.items in
    inr (
      c.default.result,
      c.default.ensures,
      record {
        entries = es;
        least = c.in_ok-extractor.ensures.least;
        runs_out = subst (λ (x : Graph). RunsOutForExtracted form es a x c.extract.new.eg) c.in_ok-extractor.ensures.same (c.extract.ensures.full e);
      },
    )

pub returns-clause-least : goal.returns-clause-least
returns-clause-least g c =
    let form = g.L.LanguageChildren.form in
    let eg = c.args.eg.now in
    let a = to_applied c.args.i.now in
    let costs = costs_by g.CF.Cost.Ord.cmp (g.CF.CostFunction.node_cost c.default.result) in
    let es = c.in_ok-extractor.extractor.terms.entries.items in
    let same = c.in_ok-extractor.ensures.same in
    IfOk-weaker c.extract.result (λ t. IsLeastTerm eg costs a t × IsOfChosen form g.L.Ord.cmp eg costs a t) _ (λ t h. (c.default.result, c.default.ensures, h.0, h.1))
    (least-chosen form g.L.Ord.cmp eg costs es c.in_ok-extractor.ensures.least c.in_ok-extractor.ensures.chosen a c.extract.result
    (subst (λ (x : Graph). IfOk c.extract.result (IsExtracted form x es a)) same c.extract.ensures.least) (subst (λ (x : Graph). IfOk c.extract.result (IsMadeOf form x es a)) same c.extract.ensures.made))
