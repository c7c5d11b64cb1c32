-- Each class that is found has an entry.
use Rattle.std.proofs.Common.{◌≡◌, ◌∙◌, ap, sym, subst, false}
use Rattle.std.specs.Ordering.{nat_cmp}
use Rattle.std.specs.Prelude.{IfOk}
use Rattle.std.proofs.lemmas.Result.{IfOk-weaker}
use Rattle.slotted_slots.specs.Error.{IsShortage}
use Rattle.slotted_costs.specs.Costs.{costs_by}
use Rattle.slotted_costs.specs.Size.{size_cost}
use Rattle.slotted_proofs.specs.Equations.{to_applied}
use Rattle.slotted_graph.specs.Graph.{Graph}
use Rattle.slotted_graph.specs.LeastTerms.{IsExtracted, IsLeastTerm, IsMadeOf, IsOfChosen, LacksEntry}
use Rattle.slotted_extract.proofs.FoundEntries.{lacks-none, least-chosen, valid-unless, without-unknown}
use Rattle.slotted_extract.proofs.extractor.ast_size_extract.Goals as goal

pub returns-clause-only : goal.returns-clause-only
returns-clause-only g c =
    let form = g.L.LanguageChildren.form in
    let eg = c.args.eg.now in
    let a = to_applied c.args.i.now in
    let es = c.in_ok-extractor.extractor.terms.entries.items in
    let same = c.in_ok-extractor.ensures.same in
    without-unknown IsShortage c.extract.result (λ e s. s) c.extract.ensures.only (λ e.
    let h = c.extract.ensures.unknown.0 e in
    let sound : eg.failed ≡ false = sym (ap (λ (x : Graph). x.failed) same) ∙ h.0 in
    lacks-none form eg (costs_by nat_cmp size_cost) es c.in_ok-extractor.ensures.least a (valid-unless eg a c.requires sound) (subst (λ (x : Graph). LacksEntry x es a) same h.1))

pub returns-clause-chosen : goal.returns-clause-chosen
returns-clause-chosen g c =
    let form = g.L.LanguageChildren.form in
    let eg = c.args.eg.now in
    let a = to_applied c.args.i.now in
    let costs = costs_by nat_cmp size_cost in
    let es = c.in_ok-extractor.extractor.terms.entries.items in
    let same = c.in_ok-extractor.ensures.same in
    IfOk-weaker c.extract.result (λ t. IsLeastTerm eg costs a t × IsOfChosen form g.L.Ord.cmp eg costs a t) (IsOfChosen form g.L.Ord.cmp eg costs a) (λ t h. h.1)
    (least-chosen form g.L.Ord.cmp eg costs es c.in_ok-extractor.ensures.least c.in_ok-extractor.ensures.chosen a c.extract.result
    (subst (λ (x : Graph). IfOk c.extract.result (IsExtracted form x es a)) same c.extract.ensures.least) (subst (λ (x : Graph). IfOk c.extract.result (IsMadeOf form x es a)) same c.extract.ensures.made))
