use Rattle.std.proofs.Common.{◌≡◌, ◌∙◌, ap, sym}
use Rattle.slotted_slots.specs.Table.{Table}
use Rattle.slotted_patterns.specs.Tree.{PatternTree}
use Rattle.slotted_patterns.specs.View.{tree_of}
use Rattle.slotted_operations.specs.Graph.{Graph}
use Rattle.slotted_graph.specs.KnownPatterns.{knows_pattern}
use Rattle.slotted_graph.proofs.KnownPatterns.{known-knows, knows-known}
use Rattle.slotted_graph.proofs.egraph.EGraph.is_valid_pattern.Goals as goal

pub returns-then-not-self-clause-known : goal.returns-then-not-self-clause-known
returns-then-not-self-clause-known g c = λ y.
    let p : PatternTree = tree_of g.L.LanguageChildren.form c.args.pattern.now in
    let same : c.self.inside.table ≡ c.args.self.now.table = ap (λ (x : Graph). x.table) c.self.view_is in
    knows-known c.args.self.now.table p (ap (λ (t : Table). knows_pattern t p) (sym same) ∙ (sym c.has_known_names.ensures ∙ y))

pub returns-then-not-self-clause-exact : goal.returns-then-not-self-clause-exact
returns-then-not-self-clause-exact g c = λ well known small.
    let p : PatternTree = tree_of g.L.LanguageChildren.form c.args.pattern.now in
    let same : c.self.inside.table ≡ c.args.self.now.table = ap (λ (x : Graph). x.table) c.self.view_is in
    c.has_known_names.ensures ∙ (ap (λ (t : Table). knows_pattern t p) same ∙ known-knows c.args.self.now.table p known small)
