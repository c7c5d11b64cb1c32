-- Of an id that is what it finds itself, so that its class has an entry.
use Rattle.std.proofs.Common.{rules, ◌≡◌, subst}
use Rattle.slotted_explain.specs.Graph.{Graph}
use Rattle.slotted_explain.specs.Nodes.{to_applied}
use Rattle.slotted_explain.specs.LeastTerms.{IsExtracted, MakesForExtracted, RunsOutForExtracted}
use Rattle.slotted_commands.proofs.Extracting.{lacks_for_smallest, smallest, takes_for_smallest}
use Rattle.slotted_commands.proofs.extraction.smallest_term.Goals as goal

pub returns-clause-ok : goal.returns-clause-ok
returns-clause-ok g c =
    let form = g.L.LanguageChildren.form in
    let graph = c.args.graph.now in
    let a = to_applied c.args.id.now in
    let es = c.in_ok-extractor.extractor.terms.entries.items in
    smallest form graph es a c.requires.found c.in_ok-extractor.ensures.each c.extract.new.eg c.in_ok-cost.cost c.in_ok-term.term c.in_ok-extractor.ensures.least c.in_ok-cost.ensures.cost
    (subst (λ (h : Graph). IsExtracted form h es a c.in_ok-term.term) c.in_ok-extractor.ensures.same c.in_ok-term.ensures.least) c.in_ok-term.ensures.valid

pub returns-clause-count : goal.returns-clause-count
returns-clause-count g c =
    let form = g.L.LanguageChildren.form in
    let graph = c.args.graph.now in
    let a = to_applied c.args.id.now in
    let es = c.in_ok-extractor.extractor.terms.entries.items in
    takes_for_smallest form graph c.extract.new.eg a es c.in_ok-extractor.ensures.least (subst (λ (h : Graph). MakesForExtracted form es a h c.extract.new.eg) c.in_ok-extractor.ensures.same c.extract.ensures.count)

pub returns-in_err-term-clause-count : goal.returns-in_err-term-clause-count
returns-in_err-term-clause-count g c =
    let form = g.L.LanguageChildren.form in
    let graph = c.args.graph.now in
    let a = to_applied c.args.id.now in
    let es = c.in_ok-extractor.extractor.terms.entries.items in
    takes_for_smallest form graph c.extract.new.eg a es c.in_ok-extractor.ensures.least (subst (λ (h : Graph). MakesForExtracted form es a h c.extract.new.eg) c.in_ok-extractor.ensures.same c.extract.ensures.count)

pub returns-in_err-term-clause-full : goal.returns-in_err-term-clause-full
returns-in_err-term-clause-full g c e =
    let form = g.L.LanguageChildren.form in
    let graph = c.args.graph.now in
    let a = to_applied c.args.id.now in
    let es = c.in_ok-extractor.extractor.terms.entries.items in
    lacks_for_smallest form graph c.extract.new.eg a es c.in_ok-extractor.ensures.least
    (subst (λ (h : Graph). RunsOutForExtracted form es a h c.extract.new.eg) c.in_ok-extractor.ensures.same (c.in_err-term.ensures.full (search rules)))
