use Rattle.std.proofs.Common.{◌⊎◌, All, IsTrue, sym, subst}
use Rattle.slotted_rules.specs.Written.{CanBeSearched, PassesTests}
use Rattle.slotted_lines.proofs.session.Session.is_searchable.Goals as goal

pub returns-else-is_failed-clause-exact : goal.returns-else-is_failed-clause-exact
returns-else-is_failed-clause-exact g c all = c.are_valid.ensures.exact (subst (λ rules. All (PassesTests g.L.LanguageChildren.form c.args.self.now.graph) rules) (sym c.deref.ensures.value) all)

pub returns-else-is_failed-clause-searchable : goal.returns-else-is_failed-clause-searchable
returns-else-is_failed-clause-searchable g c passed =
    let graph = c.args.self.now.graph in
    subst (λ rules. IsTrue graph.failed ⊎ All (CanBeSearched g.L.LanguageChildren.form graph.table) rules) c.deref.ensures.value (c.are_valid.ensures.valid passed)
