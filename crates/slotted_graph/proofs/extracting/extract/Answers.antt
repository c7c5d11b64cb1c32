-- What is found has names of the id.
use Rattle.std.proofs.Common.{sym, subst}
use Rattle.std.proofs.lemmas.Result.{IfOk-weaker}
use Rattle.slotted_slots.specs.Maps.{values}
use Rattle.slotted_model.specs.Applied.{Applied}
use Rattle.slotted_model.specs.Find.{find_map}
use Rattle.slotted_classes.specs.Kept.{entries_of}
use Rattle.slotted_lookup.specs.Enodes.{AllKnownTo}
use Rattle.slotted_lookup.specs.Filling.{MakesAtMost}
use Rattle.slotted_graph.specs.Terms.{IsFreshTerm, RunsOutWith, slots_for}
use Rattle.slotted_graph.proofs.FreshTerms.{fresh-handed_on}
use Rattle.slotted_graph.proofs.Names.{composite-known}
use Rattle.slotted_graph.proofs.extracting.extract.Goals as goal

pub term_for-requires-clause-known : goal.term_for-requires-clause-known
term_for-requires-clause-known g c =
    let t = c.args.table.now in
    subst (λ (a : Applied). AllKnownTo t (values a.1)) (sym c.in_ok-found.ensures.ok)
    (composite-known t (find_map (entries_of c.args.store.now) c.args.a.now.id.0) c.args.a.now.m c.requires.known)

pub returns-clause-fresh : goal.returns-clause-fresh
returns-clause-fresh g c =
    let t = c.args.table.now in
    let es = entries_of c.args.store.now in
    let m = c.args.a.now.m in
    IfOk-weaker c.term_for.result (IsFreshTerm t (values c.in_ok-found.found.m)) (IsFreshTerm t (values m))
    (λ u h. fresh-handed_on t (find_map es c.args.a.now.id.0) m u (subst (λ (b : Applied). IsFreshTerm t (values b.1) u) c.in_ok-found.ensures.ok h)) c.term_for.ensures.fresh

pub returns-clause-count : goal.returns-clause-count
returns-clause-count g c =
    let form = g.L.LanguageChildren.form in
    subst (λ (b : Applied). MakesAtMost (slots_for form c.args.terms.now.entries.items b.0) c.args.table.now c.term_for.new.table) c.in_ok-found.ensures.ok c.term_for.ensures.count

pub returns-clause-full : goal.returns-clause-full
returns-clause-full g c e =
    let form = g.L.LanguageChildren.form in
    let es = c.args.terms.now.entries.items in
    subst (λ (b : Applied). RunsOutWith form es (slots_for form es b.0) c.args.table.now c.term_for.new.table) c.in_ok-found.ensures.ok (c.term_for.ensures.full e)
