-- Each call is handed what the calls before it answered, in a graph that extends the ones before it.
use Rattle.std.proofs.Common.{◌≡◌, false, inr}
use Rattle.slotted_lists.proofs.Booleans.{unless-true}
use Rattle.slotted_rules.proofs.AppliedRules.{ok-well}
use Rattle.slotted_rules.specs.WrittenLaws.{valid-later}
use Rattle.slotted_egraphs.specs.Extension.{ExtendsTo}
use Rattle.slotted_egraphs.specs.Nodes.{to_applied}
use Rattle.slotted_egraphs.proofs.CallerLemmas.{can_add}
use Rattle.slotted_egraphs.proofs.Extending.{extends-added, extends-takes, extends-then}
use Rattle.slotted_egraphs.proofs.example.simplify.Goals as goal

pub run_counted-requires : goal.run_counted-requires
run_counted-requires g c =
    let added : ExtendsTo c.args.graph.now c.add_expr.new.self = extends-added c.args.graph.now c.add_expr.new.self c.in_ok-id.ensures.extends c.in_ok-id.ensures.adds c.add_expr.ensures.more in
    inr (λ k d l. valid-later g.L.LanguageChildren.form c.args.graph.now c.add_expr.new.self _ added (c.requires.rules k d l))

pub ast_size_extract-requires : goal.ast_size_extract-requires
ast_size_extract-requires g c =
    let m = c.run_counted.new.graph in
    let well : m.failed ≡ false = ok-well _ m.failed c.run_counted.result c.in_ok-run_counted.field-0 c.in_ok-run_counted.was c.run_counted.ensures.fails.0 in
    let grows : ExtendsTo c.add_expr.new.self m = unless-true m.failed well c.run_counted.ensures.extends in
    inr (grows.valid (to_applied c.in_ok-id.id) c.in_ok-id.ensures.found.valid)

pub explain_equivalence-requires-clause-left : goal.explain_equivalence-requires-clause-left
explain_equivalence-requires-clause-left g c =
    let m = c.run_counted.new.graph in
    let well : m.failed ≡ false = ok-well _ m.failed c.run_counted.result c.in_ok-run_counted.field-0 c.in_ok-run_counted.was c.run_counted.ensures.fails.0 in
    let grows : ExtendsTo c.add_expr.new.self m = unless-true m.failed well c.run_counted.ensures.extends in
    let added : ExtendsTo c.args.graph.now c.add_expr.new.self = extends-added c.args.graph.now c.add_expr.new.self c.in_ok-id.ensures.extends c.in_ok-id.ensures.adds c.add_expr.ensures.more in
    let read : ExtendsTo m c.ast_size_extract.new.eg = extends-takes m c.ast_size_extract.new.eg c.ast_size_extract.ensures.takes in
    let all : ExtendsTo c.args.graph.now c.ast_size_extract.new.eg = extends-then c.args.graph.now m c.ast_size_extract.new.eg (extends-then c.args.graph.now c.add_expr.new.self m added grows) read in
    can_add c.args.graph.now c.ast_size_extract.new.eg c.args.term.now all.more c.requires.term

pub returns : goal.returns
returns g c =
    let m = c.run_counted.new.graph in
    let well : m.failed ≡ false = ok-well _ m.failed c.run_counted.result c.in_ok-run_counted.field-0 c.in_ok-run_counted.was c.run_counted.ensures.fails.0 in
    record {
      explains = c.in_ok-proof.ensures.explains;
      added = c.add_expr.new.self;
      id = to_applied c.in_ok-id.id;
      looked_up = c.in_ok-id.ensures.id;
      run = m;
      grows = unless-true m.failed well c.run_counted.ensures.extends;
      least = c.in_ok-best.ensures.least;
    }
