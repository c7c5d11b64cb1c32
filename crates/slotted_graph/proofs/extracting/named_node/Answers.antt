-- The names are those of the id, or fresh.
use Rattle.std.proofs.Common.{rules, refl, arith, ◌∙◌, ℕ, List, [], sym, subst}
use Rattle.std.proofs.lemmas.List.Elements.{All-nil}
use Rattle.std.specs.Prelude.{IsTrue}
use Rattle.slotted_slots.specs.Maps.{values}
use Rattle.slotted_slots.specs.Table.{is_known}
use Rattle.slotted_languages.specs.Fresh.{IsRenamedFresh}
use Rattle.slotted_languages.proofs.PutIn.{answer_is_known}
use Rattle.slotted_model.specs.Correspondence.{composite}
use Rattle.slotted_proofs.proofs.Bridges.{composed-model}
use Rattle.slotted_lookup.specs.Enodes.{AllKnownTo}
use Rattle.slotted_graph.proofs.FreshTerms.{fresh-named}
use Rattle.slotted_graph.proofs.Names.{composite-known, refreshed-lacks, refreshed-takes, renamed-lacks, renamed-places, renamed-refreshed, renamed-takes}
use Rattle.slotted_graph.proofs.extracting.named_node.Goals as goal

pub returns-clause-named : goal.returns-clause-named
returns-clause-named g c =
    let form = g.L.LanguageChildren.form in
    let t = c.args.table.now in
    let key = form c.args.entry.now.node in
    let n = c.in_ok-answer.answer in
    let names = c.in_ok-names.ensures.ok ∙ composed-model c.args.entry.now.names c.args.a.now.m in
    record {
      table = t;
      known = c.requires.known;
      fits = g.met.L.LanguageChildren.fits n;
      renamed = renamed-refreshed t (composite c.args.entry.now.names c.args.a.now.m) key (form c.in_ok-node.node) (form n)
          (subst (λ m. IsRenamedFresh t m key (form c.in_ok-node.node)) names c.in_ok-node.ensures.renamed) c.in_ok-answer.ensures.same;
    }

pub returns-clause-known : goal.returns-clause-known
returns-clause-known g c =
    let form = g.L.LanguageChildren.form in
    let t = c.args.table.now in
    let u = c.apply_slotmap_fresh.new.table in
    let key = form c.args.entry.now.node in
    let b = form c.in_ok-node.node in
    let names = c.in_ok-names.ensures.ok ∙ composed-model c.args.entry.now.names c.args.a.now.m in
    let handed : AllKnownTo t (values c.in_ok-names.names) =
    subst (λ (m : List (ℕ × ℕ)). AllKnownTo t (values m)) (sym names) (composite-known t c.args.entry.now.names c.args.a.now.m c.requires.known) in
    let known : AllKnownTo u b.names = answer_is_known t u (values c.in_ok-names.names) key b c.in_ok-node.ensures.more (c.requires.names t) handed c.in_ok-node.ensures.known in
    answer_is_known u c.refresh_private.new.table [] b (form c.in_ok-answer.answer) c.in_ok-answer.ensures.more known (All-nil (λ s. IsTrue (is_known u s))) c.in_ok-answer.ensures.known

pub returns-clause-fresh : goal.returns-clause-fresh
returns-clause-fresh g c =
    let form = g.L.LanguageChildren.form in
    let fits = g.met.L.LanguageChildren.fits in
    let n = c.in_ok-answer.answer in
    let names = c.in_ok-names.ensures.ok ∙ composed-model c.args.entry.now.names c.args.a.now.m in
    fresh-named c.args.table.now c.apply_slotmap_fresh.new.table c.in_ok-node.ensures.more c.in_ok-names.names c.args.entry.now.names c.args.a.now.m names
    (form c.args.entry.now.node) (form c.in_ok-node.node) (form n) c.in_ok-node.ensures.renamed (fits c.in_ok-node.node) (fits n) c.in_ok-answer.ensures.same c.in_ok-answer.ensures.unused

pub returns-clause-count : goal.returns-clause-count
returns-clause-count g c =
    let form = g.L.LanguageChildren.form in
    let fits = g.met.L.LanguageChildren.fits in
    let t = c.args.table.now in
    let u = c.apply_slotmap_fresh.new.table in
    let key = form c.args.entry.now.node in
    let b = form c.in_ok-node.node in
    let names = c.in_ok-names.ensures.ok ∙ composed-model c.args.entry.now.names c.args.a.now.m in
    let handed : AllKnownTo t (values c.in_ok-names.names) =
    subst (λ (m : List (ℕ × ℕ)). AllKnownTo t (values m)) (sym names) (composite-known t c.args.entry.now.names c.args.a.now.m c.requires.known) in
    let known : AllKnownTo u b.names = answer_is_known t u (values c.in_ok-names.names) key b c.in_ok-node.ensures.more (c.requires.names t) handed c.in_ok-node.ensures.known in
    let places = renamed-places t c.in_ok-names.names key b (fits c.args.entry.now.node) (fits c.in_ok-node.node) c.in_ok-node.ensures.renamed in
    record {
      names = c.in_ok-answer.ensures.kept ∙ c.in_ok-node.ensures.kept;
      taken = refreshed-takes t u c.in_ok-names.names key b (c.requires.names t) handed c.in_ok-node.ensures.more c.refresh_private.new.table places c.in_ok-node.ensures.count known
          c.in_ok-answer.ensures.count;
    }

pub returns-in_err-names-clause-count : goal.returns-in_err-names-clause-count
returns-in_err-names-clause-count g c = record { names = refl; taken = omega arith }

pub returns-in_err-node-clause-count : goal.returns-in_err-node-clause-count
returns-in_err-node-clause-count g c =
    let form = g.L.LanguageChildren.form in
    let t = c.args.table.now in
    let names = c.in_ok-names.ensures.ok ∙ composed-model c.args.entry.now.names c.args.a.now.m in
    let handed : AllKnownTo t (values c.in_ok-names.names) =
    subst (λ (m : List (ℕ × ℕ)). AllKnownTo t (values m)) (sym names) (composite-known t c.args.entry.now.names c.args.a.now.m c.requires.known) in
    let key = form c.args.entry.now.node in
    record {
      names = c.in_err-node.ensures.kept;
      taken = renamed-takes t c.apply_slotmap_fresh.new.table c.in_ok-names.names key key (c.requires.names t) handed c.in_err-node.ensures.more c.in_err-node.ensures.count;
    }

pub returns-in_err-answer-clause-count : goal.returns-in_err-answer-clause-count
returns-in_err-answer-clause-count g c =
    let form = g.L.LanguageChildren.form in
    let fits = g.met.L.LanguageChildren.fits in
    let t = c.args.table.now in
    let u = c.apply_slotmap_fresh.new.table in
    let key = form c.args.entry.now.node in
    let b = form c.in_ok-node.node in
    let names = c.in_ok-names.ensures.ok ∙ composed-model c.args.entry.now.names c.args.a.now.m in
    let handed : AllKnownTo t (values c.in_ok-names.names) =
    subst (λ (m : List (ℕ × ℕ)). AllKnownTo t (values m)) (sym names) (composite-known t c.args.entry.now.names c.args.a.now.m c.requires.known) in
    let known : AllKnownTo u b.names = answer_is_known t u (values c.in_ok-names.names) key b c.in_ok-node.ensures.more (c.requires.names t) handed c.in_ok-node.ensures.known in
    let places = renamed-places t c.in_ok-names.names key b (fits c.args.entry.now.node) (fits c.in_ok-node.node) c.in_ok-node.ensures.renamed in
    record {
      names = c.in_err-answer.ensures.kept ∙ c.in_ok-node.ensures.kept;
      taken = refreshed-takes t u c.in_ok-names.names key b (c.requires.names t) handed c.in_ok-node.ensures.more c.refresh_private.new.table places c.in_ok-node.ensures.count known
          c.in_err-answer.ensures.count;
    }

pub returns-in_err-node-clause-full : goal.returns-in_err-node-clause-full
returns-in_err-node-clause-full g c e =
    let form = g.L.LanguageChildren.form in
    let t = c.args.table.now in
    let names = c.in_ok-names.ensures.ok ∙ composed-model c.args.entry.now.names c.args.a.now.m in
    let handed : AllKnownTo t (values c.in_ok-names.names) =
    subst (λ (m : List (ℕ × ℕ)). AllKnownTo t (values m)) (sym names) (composite-known t c.args.entry.now.names c.args.a.now.m c.requires.known) in
    let key = form c.args.entry.now.node in
    renamed-lacks t c.apply_slotmap_fresh.new.table c.in_ok-names.names key key (c.requires.names t) handed c.in_err-node.ensures.more (c.in_err-node.ensures.full (search rules))

pub returns-in_err-answer-clause-full : goal.returns-in_err-answer-clause-full
returns-in_err-answer-clause-full g c e =
    let form = g.L.LanguageChildren.form in
    let fits = g.met.L.LanguageChildren.fits in
    let t = c.args.table.now in
    let u = c.apply_slotmap_fresh.new.table in
    let key = form c.args.entry.now.node in
    let b = form c.in_ok-node.node in
    let names = c.in_ok-names.ensures.ok ∙ composed-model c.args.entry.now.names c.args.a.now.m in
    let handed : AllKnownTo t (values c.in_ok-names.names) =
    subst (λ (m : List (ℕ × ℕ)). AllKnownTo t (values m)) (sym names) (composite-known t c.args.entry.now.names c.args.a.now.m c.requires.known) in
    let known : AllKnownTo u b.names = answer_is_known t u (values c.in_ok-names.names) key b c.in_ok-node.ensures.more (c.requires.names t) handed c.in_ok-node.ensures.known in
    let places = renamed-places t c.in_ok-names.names key b (fits c.args.entry.now.node) (fits c.in_ok-node.node) c.in_ok-node.ensures.renamed in
    refreshed-lacks t u c.in_ok-names.names key b (c.requires.names t) handed c.in_ok-node.ensures.more c.refresh_private.new.table places c.in_ok-node.ensures.count known
    c.in_err-answer.ensures.more (c.in_err-answer.ensures.full (search rules))
